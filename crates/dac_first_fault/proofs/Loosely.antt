-- A loose file is a file, if the four faults of loose parts are kept.
use Rattle.std.proofs.Common.{ℕ, List, inl, inr}
use Rattle.dac_shapes.specs.laws.Common.{FaultKind, Unsupported, EmptyList, EmptyTuple, NumberTooLarge, Word, Section, IsItem, IsNodeList, IsMs, IsOtherSection, strict, IsFile, IsLooseItem, IsLooseNodeList, IsLooseMs, IsLooseOther, loose, IsLooseFile}
use Rattle.dac_shapes.specs.laws.Loosely.{parted_to, sections_to}
use Rattle.dac_first_fault.proofs.Spared.{Strict}

module _ (Kept : FaultKind → Type 0) (kept : (kind : FaultKind) → Strict kind → Kept kind) where
  item_strict : (ws : List Word) (group : List (List ℕ)) → IsLooseItem Kept ws group → IsItem ws group
  item_strict ws group (inl p) = p
  item_strict ws group (inr p) = absurd (p.0 (kept EmptyTuple tt))

  nodes_strict : (ws : List Word) (groups : List (List (List ℕ))) → IsLooseNodeList Kept ws groups → IsNodeList ws groups
  nodes_strict ws groups (inl p) = (p.0, p.1, parted_to (IsLooseItem Kept) IsItem item_strict p.0 groups p.2)
  nodes_strict ws groups (inr p) = absurd (p.0 (kept EmptyList tt))

  number_strict : (w : Word) (n : ℕ) → IsLooseMs Kept w n → IsMs w n
  number_strict w n (inl p) = p
  number_strict w n (inr p) = absurd (p.0 (kept NumberTooLarge tt))

  other_strict : (ws : List Word) → IsLooseOther Kept ws → IsOtherSection ws
  other_strict ws (inl p) = p
  other_strict ws (inr p) = absurd (p.0 (kept Unsupported tt))

  pub file_strict : (ws : List Word) (sections : List Section) → IsLooseFile Kept ws sections → IsFile ws sections
  file_strict ws sections p = (p.0, p.1, sections_to (loose Kept) strict nodes_strict number_strict other_strict p.0 sections p.2)
