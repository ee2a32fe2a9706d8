-- The laws of the fields of a life.
use Rattle.std.specs.Prelude.{◌≡◌, ℕ, ◌^◌, ◌<◌, ◌≤◌, true, List, ◌++◌, Option, refl}
use Rattle.std.proofs.Common.{sym, ap, subst, arith, append_assoc}
use Rattle.dac_part_bytes.proofs.Common.{zero, suc, w8, NodeId, node_cmp, Flag, Up, Down, Life, BadOrder, u8_in_takes, u8_in_again, u8_bytes, range_at, is_above, TakesAs, Again, TakesAs-both, TakesAs-wanted, Again-both, Again-wanted, IsNext, life_at, life_bytes, Version}
use Rattle.dac_bytes.specs.laws.Fields.{incarnation_takes, incarnation_again, node_takes, node_again}
use Rattle.dac_bytes.specs.Ranges.{IsIncarnation}
use Rattle.dac_bytes.specs.Spelling.{incarnation_bytes}
use Rattle.dac_bytes.specs.Reading.{node_at, incarnation_at}
use Rattle.dac_part_bytes.specs.ChainForm.{IsLifeInForm}
use Rattle.dac_part_bytes.specs.Reading.{node_above_at, flag_of, inc_and_flag_at}
use Rattle.dac_part_bytes.specs.Spelling.{down_code}

-- ---- up and down

flag_code : (n : ℕ) → n ≤ 1 → n ≡ down_code (flag_of n)
flag_code zero le = refl
flag_code (suc zero) le = refl
flag_code (suc (suc n)) le = absurd (omega arith)

code_flag : (flag : Flag) → flag_of (down_code flag) ≡ flag
code_flag Up = refl
code_flag Down = refl

code_fits : (flag : Flag) → down_code flag ≤ 1
code_fits Up = omega arith
code_fits Down = omega arith

-- ---- lives

-- an incarnation, and whether it is up
abbrev inc_and_flag_bytes : Version → Life → List ℕ
inc_and_flag_bytes version life = incarnation_bytes version life.inc ++ u8_bytes (down_code life.flag)

abbrev IsInc : Version → Life → Type 0
IsInc version life = IsIncarnation version life.inc

inc_and_flag_takes : (version : Version) → TakesAs (inc_and_flag_at version) (inc_and_flag_bytes version) (IsInc version)
unfolding inc_and_flag_at
inc_and_flag_takes version =
    TakesAs-both (incarnation_at version) (incarnation_bytes version) (IsIncarnation version) (λ _ r. range_at w8 0 1 r) (λ _. u8_bytes) (λ _ n. (0 ≤ n) × (n ≤ 1))
    (λ inc n. record { inc = inc; flag = flag_of n }) (inc_and_flag_bytes version) (IsInc version)
    (incarnation_takes version) (λ _ _. u8_in_takes 0 1) (λ inc n p q. (ap (λ m. incarnation_bytes version inc ++ u8_bytes m) (flag_code n q.1), p))

inc_and_flag_again : (version : Version) (life : Life) → IsInc version life → Again (inc_and_flag_at version) (inc_and_flag_bytes version life) life
unfolding inc_and_flag_at
inc_and_flag_again version life is =
    let code = down_code life.flag in
    subst (λ (flag : Flag). Again (inc_and_flag_at version) (inc_and_flag_bytes version life) (record { inc = life.inc; flag = flag })) (code_flag life.flag)
    (Again-both (incarnation_at version) (λ _ r. range_at w8 0 1 r) (λ inc n. record { inc = inc; flag = flag_of n }) (incarnation_bytes version life.inc) (u8_bytes code) life.inc code
    (incarnation_again version life.inc is) (u8_in_again 0 1 (omega arith) code (omega arith) (code_fits life.flag)))

abbrev node_bytes : NodeId → List ℕ
node_bytes node = u8_bytes node.0

module _ (version : Version) (nodes : ℕ) (before : Option NodeId) where
  abbrev IsNodeAbove : NodeId → Type 0
  IsNodeAbove node = (node.0 < nodes) × (is_above node_cmp before node ≡ true)

  node_above_takes : TakesAs (node_above_at nodes before) node_bytes IsNodeAbove
  unfolding node_above_at
  node_above_takes = TakesAs-wanted (node_at nodes) node_bytes (λ node. node.0 < nodes) (is_above node_cmp before) BadOrder (node_takes version nodes)

  node_above_again : nodes ≤ 2 ^ 8 → (node : NodeId) → IsNodeAbove node → Again (node_above_at nodes before) (node_bytes node) node
  unfolding node_above_at
  node_above_again fit node is = Again-wanted (node_at nodes) (is_above node_cmp before) BadOrder (node_bytes node) node (node_again version nodes fit node is.0) is.1

  -- A life that is read is well-formed, with these bytes as its spelling, and its node is greater than the previous
  -- one.
  pub life_takes : TakesAs (life_at version nodes before) (life_bytes version) (IsNext node_cmp (λ (e : NodeId × Life). e.0) (IsLifeInForm version nodes) before)
  unfolding life_at life_bytes
  life_takes =
      TakesAs-both (node_above_at nodes before) node_bytes IsNodeAbove (λ _ r. inc_and_flag_at version r) (λ _. inc_and_flag_bytes version) (λ _. IsInc version)
      (λ node life. (node, life)) (life_bytes version) (IsNext node_cmp (λ (e : NodeId × Life). e.0) (IsLifeInForm version nodes) before)
      node_above_takes (λ _ _. inc_and_flag_takes version)
      (λ node life p q. (sym (append_assoc (u8_bytes node.0) (incarnation_bytes version life.inc) (u8_bytes (down_code life.flag))), (record { node = p.0; inc = q }, p.1)))

  -- A well-formed life is read from its spelling.
  pub life_again : nodes ≤ 2 ^ 8 → (e : NodeId × Life) → IsNext node_cmp (λ (e : NodeId × Life). e.0) (IsLifeInForm version nodes) before e → Again (life_at version nodes before) (life_bytes version e) e
  unfolding life_at life_bytes
  life_again fit e is =
      subst (λ (t : List ℕ). Again (life_at version nodes before) t e) (sym (append_assoc (u8_bytes e.0.0) (incarnation_bytes version e.1.inc) (u8_bytes (down_code e.1.flag))))
      (Again-both (node_above_at nodes before) (λ _ r. inc_and_flag_at version r) (λ node life. (node, life)) (node_bytes e.0) (inc_and_flag_bytes version e.1) e.0 e.1
      (node_above_again fit e.0 (is.0.node, is.1)) (inc_and_flag_again version e.1 is.0.inc))
