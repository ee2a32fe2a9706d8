-- The spelling of a map to `Max` values, entry by entry, is the spelling of the map.
use Rattle.std.proofs.Common.{◌≡◌, ℕ, ◌≤◌, List, ◌++◌, length, take, sym, ap, ◌∙◌, append_assoc}
use Rattle.dac_part_bytes.proofs.Common.{flat_map}
use Rattle.std.proofs.lemmas.List.{take_all, length-map}
use Rattle.std.proofs.lemmas.List.Folds.{flat_map-map}
use Rattle.dac_lattice.specs.declared.chain.Max.{Max}
use Rattle.dac_chains.specs.Kept.{unwrapped}

module _ {K T : Type 0} (count : ℕ → List ℕ) (text : K × T → List ℕ) where
  -- the spelling of a stored entry
  abbrev pub text_kept : K × Max T → List ℕ
  text_kept e = text (e.0, e.1.value)

  pub written_in_order : (es : List (K × Max T)) (xs : List (K × T)) (i : ℕ) (before counted after : List ℕ) → unwrapped es ≡ xs → counted ≡ before ++ count (length es) → length es ≤ i
      → after ≡ counted ++ flat_map text_kept (take i es) → after ≡ before ++ (count (length xs) ++ flat_map text xs)
  written_in_order es xs i before counted after is is_counted all is_after =
      let view : K × Max T → K × T = λ e. (e.0, e.1.value) in
      is_after
      ∙ (λ j. is_counted j ++ flat_map text_kept (take_all i es all j))
      ∙ append_assoc before (count (length es)) (flat_map text_kept es)
      ∙ ap (λ t. before ++ t)
      ((λ j. count (sym (length-map es view) j) ++ sym (flat_map-map text view es) j)
      ∙ ap (λ (ys : List (K × T)). count (length ys) ++ flat_map text ys) is)
