-- Unmarked pairs and nodes aren't touched.
use Rattle.std.proofs.Common.{◌≡◌, ◌<◌, ◌≤◌, ◌-◌, ◌*◌, ◌%◌, ◌^◌, ℕ, Bool, true, false, List, length, get_or, set, nat_eq, bit_or, inl, inr, refl, sym, ap, subst, ◌∙◌, arith, get_or-set_same, get_or-set_other}
use Rattle.std.proofs.lemmas.Bool.{cases_eq, false_from_ne_true, false≢true, eqb-true, eq-eqb}
use Rattle.std.specs.Int.{bit_at}
use Rattle.std.proofs.lemmas.Nat.Bits.{bit_at-zero, bit_at_ones, bit_at_set_same, bit_at_set_other}
use mir.Syntax.{w64}
use Rattle.dac_board.specs.Marks.{is_marked, is_moved}
use Rattle.dac_board.proofs.Filling.{get_any}
use Rattle.std.proofs.lemmas.List.{get_or_past}
use Rattle.dac_base.specs.declared.NodeId.{NodeId}
use Rattle.dac_base.specs.declared.AppId.{AppId}
use Rattle.dac_config.specs.Table.{Table}
use Rattle.dac_meaning.specs.StateValue.{StateValue}
use Rattle.dac_wishes.specs.DrainsValue.{drains_at}
use Rattle.dac_placement.specs.Placement.{key_at}
use Rattle.dac_board.specs.Touched.{origin_of, is_touched}
use Rattle.dac_board.specs.Grown.{KeepsPair, KeepsApp, NodeStays}
use Rattle.dac_board.proofs.Untouched.{touched_words}

-- a node that stays isn't touched for an application whose permits and starts are unchanged
pub untouched_by : (table : Table) (old new : StateValue) (app : AppId) (node : NodeId) → KeepsPair old new app node → NodeStays old new node → is_touched table old new app node ≡ false
untouched_by table old new app node keeps stays = false_from_ne_true (is_touched table old new app node) (λ e.
    elim ((touched_words table old new app node).0 e).differs [
      | inl apart ↦ apart stays.life
      | inr h ↦ h.2 (record { permits = keeps.permits (key_at app node h.0) refl refl; starts = keeps.starts (key_at app node h.0) refl refl; drains = stays.drains h.0 h.1 })
    ])

-- if lives and drains are unchanged too, the states stand alike for the application
pub keeps_app : (old new : StateValue) (app : AppId) → ((node : NodeId) → KeepsPair old new app node) → old.lives ≡ new.lives → old.drains ≡ new.drains → KeepsApp old new app
keeps_app old new app keeps lives drains = record {
  lives = lives;
  alike = λ key at. record { permits = (keeps key.node).permits key at refl; starts = (keeps key.node).starts key at refl; drains = ap (drains_at (origin_of key)) drains };
}

-- a property of all unmarked nodes still holds after one more place is marked or left
pub stays_once : (P : NodeId → Type 0) (moved : List Bool) (place : ℕ) (b : Bool) → ((node : NodeId) → node.0 < 64 → get_or moved node.0 false ≡ false → P node) → length moved ≡ 64 → place < 64
    → (b ≡ false → P (record { 0 = place })) → (node : NodeId) → node.0 < 64 → get_or (set moved place b) node.0 false ≡ false → P node
stays_once P moved place b before long inside here node lt unmarked = elim (cases_eq node.0 place) [
  | inl at ↦ subst P (λ i. record { 0 = sym at i }) (here (sym (get_or-set_same moved place b false (omega (arith, long, inside))) ∙ (ap (λ n. get_or (set moved place b) n false) (sym at) ∙ unmarked)))
  | inr other ↦ before node lt (sym (get_or-set_other moved place node.0 b false other) ∙ unmarked)
]

-- ---- bits

-- a zero word marks no node
pub none_marked : (word node : ℕ) → word ≡ 0 → is_marked word node ≡ false
none_marked word node none = ap (λ n. nat_eq (bit_at n (node % 64)) 1) none ∙ ap (λ b. nat_eq b 1) (bit_at-zero (node % 64))

-- a word with one bit more
abbrev with_bit : ℕ → ℕ → ℕ
with_bit n k = bit_or n (1 * 2 ^ k % 2 ^ 64)

with_more : (n k i : ℕ) → k < 64 → bit_at n i ≡ 1 → bit_at (with_bit n k) i ≡ 1
with_more n k i p e = elim (nat_eq i k) as (λ t. nat_eq i k ≡ t → bit_at (with_bit n k) i ≡ 1) [
  | true ↦ λ t. ap (bit_at (with_bit n k)) (eqb-true i k t) ∙ bit_at_set_same w64 n k p
  | false ↦ λ t. bit_at_set_other w64 n k p i (λ same. false≢true (sym t ∙ eq-eqb i k same)) ∙ e
] refl

-- after a bit is set, an unmarked pair was unmarked before, and is another pair
pub marked_more : (words : List ℕ) (app node n : ℕ) (k : ℕ × ℕ) → app < length words → n ≡ get_or words app 0 → is_moved (set words app (with_bit n (node % 64))) k ≡ false
    → (is_moved words k ≡ false) × ((app, node) ≡ k → ⊥)
marked_more words app node n k inside is unmarked = elim (cases_eq k.0 app) [
  | inl at ↦
      let made = with_bit n (node % 64) in
      let word : get_or (set words app made) k.0 (2 ^ 64 - 1) ≡ made = ap (λ j. get_or (set words app made) j (2 ^ 64 - 1)) at ∙ get_or-set_same words app made (2 ^ 64 - 1) inside in
      let now : is_marked made k.1 ≡ false = sym (ap (λ w. is_marked w k.1) word) ∙ unmarked in
      let was : get_or words k.0 (2 ^ 64 - 1) ≡ n = ap (λ j. get_or words j (2 ^ 64 - 1)) at ∙ (get_any words app (2 ^ 64 - 1) 0 inside ∙ sym is) in (
        ap (λ w. is_marked w k.1) was ∙ false_from_ne_true (is_marked n k.1) (λ t. false≢true (sym now ∙ ap (λ b. nat_eq b 1) (with_more n (node % 64) (k.1 % 64) (omega arith) (eqb-true _ _ t)))),
        λ same. false≢true (sym now ∙ (ap (λ (p : ℕ × ℕ). is_marked made p.1) (sym same) ∙ ap (λ b. nat_eq b 1) (bit_at_set_same w64 n (node % 64) (omega arith)))),
      )
  | inr other ↦ (
    ap (λ w. is_marked w k.1) (sym (get_or-set_other words app k.0 (with_bit n (node % 64)) (2 ^ 64 - 1) other)) ∙ unmarked,
    λ same. other (ap (λ (p : ℕ × ℕ). p.0) (sym same)),
  )
]

-- an application without a word is marked at each node
pub beyond_marked : (words : List ℕ) (k : ℕ × ℕ) → length words ≤ k.0 → is_moved words k ≡ true
beyond_marked words k past = ap (λ w. is_marked w k.1) (get_or_past words k.0 (2 ^ 64 - 1) past) ∙ ap (λ b. nat_eq b 1) (bit_at_ones 64 (k.1 % 64) (omega arith))
