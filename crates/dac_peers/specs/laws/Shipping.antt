-- Where an interval for a node begins, the acknowledgement for it, and when nothing needs to be shipped to it.
use Rattle.std.specs.Prelude.{◌≡◌, ◌≤◌, ◌&&◌, not, ℕ, Bool, true, false, cond, nat_le, Option, None, Some, refl}
use Rattle.std.specs.Option.{option_map, option_and_then}
use Rattle.std.proofs.Common.{ap, sym, subst, ◌∙◌}
use Rattle.dac_peers.specs.laws.Common.{leb-true, true≢false, none-some, same_Some, NodeId, node_cmp, Origin, origin_cmp, Position, PeersValue}
use Rattle.std.proofs.lemmas.Bool.{le-leb}
use Rattle.std.proofs.lemmas.Option.{cond_some, option_and_then_some}
use Rattle.std.specs.FinSet as set
use Rattle.std.specs.FinMap as map
use Rattle.dac_chains.specs.declared.lives.Life.{Life}
use Rattle.dac_messages.specs.StateValue.{StateValue}
use Rattle.dac_peers.specs.Peers.{acked_by, acked_at, kept_from, begins, has_all}
use Rattle.dac_peers.specs.InWords.{HasAcked, IsBegin, NothingIsKept, BeginsWhereAcked, AcksAreGot, UpToDateHaveAll}
use Rattle.dac_peers.specs.laws.Acked.{and_parts}

pub nothing_is_kept : NothingIsKept
nothing_is_kept = record {
  acked = λ origin. map.get-empty origin_cmp origin;
  got = λ node. map.get-empty node_cmp node;
  owed = λ node is. true≢false (sym is ∙ set.contains-empty node_cmp node);
}

-- ---- where an interval begins
module _ (p : PeersValue) (s : StateValue) (to : NodeId) (position : Position) where
  abbrev IsAcked : Type 0
  IsAcked = (h : HasAcked p s to position.number) × (position.inc ≡ h.life.inc)

  abbrev placed : Life → Option ℕ → Option Position
  placed life acked = option_map (λ (n : ℕ). record { inc = life.inc; number = n }) acked

  by_acked : (life : Life) → map.get s.lives to ≡ Some life → (acked : Option ℕ) → map.get p.acked (record { node = to; inc = life.inc }) ≡ acked → placed life acked ≡ Some position → IsAcked
  by_acked life present None e is = absurd (none-some position is)
  by_acked life present (Some n) e is =
      let same = same_Some (record { inc = life.inc; number = n }) position is in
      (record { life = life; present = present; acked = e ∙ ap (λ (q : Position). Some q.number) same }, ap (λ (q : Position). q.inc) (sym same))

  pub acked_at_is : acked_at p s to ≡ Some position → IsAcked
  acked_at_is is = option_and_then_some (acked_by p to) (map.get s.lives to) position is (λ life present e. by_acked life present (map.get p.acked (record { node = to; inc = life.inc })) refl e)

  pub acked_at_has : IsAcked → acked_at p s to ≡ Some position
  acked_at_has h =
      let inc = sym h.1 in
      ap (option_and_then (acked_by p to)) h.0.present ∙ (ap (placed h.0.life) h.0.acked ∙ (λ i. Some (record { inc = inc i; number = position.number })))

  kept_is : (base : ℕ) (o : Option Position) → kept_from base o ≡ Some position → (o ≡ Some position) × (base ≤ position.number)
  kept_is base None is = absurd (none-some position is)
  kept_is base (Some q) is =
      let parts = cond_some (nat_le base q.number) q position is in
      (ap Some parts.1, subst (λ (r : Position). base ≤ r.number) parts.1 (leb-true base q.number parts.0))

  pub begins_is : (base : ℕ) → begins p s base to ≡ Some position → IsBegin p s base to position
  begins_is base is =
      let kept = kept_is base (acked_at p s to) is in
      let acked = acked_at_is kept.0 in
      record { acked = acked.0; present = acked.1; kept = kept.1 }

  pub begins_has : (base : ℕ) → IsBegin p s base to position → begins p s base to ≡ Some position
  begins_has base h = ap (kept_from base) (acked_at_has (h.acked, h.present)) ∙ ap (λ b. cond b (Some position) None) (le-leb base position.number h.kept)

pub begins_where_acked : BeginsWhereAcked
begins_where_acked p s base to position = (begins_is p s to position base, begins_has p s to position base)

-- ---- positions got
module _ (node : NodeId) (origin : Origin) (n : ℕ) where
  abbrev read : Option Position → Option (Origin × ℕ)
  read got = option_map (λ (g : Position). (record { node = node; inc = g.inc }, g.number)) got

  abbrev position : Position
  position = record { inc = origin.inc; number = n }

  read_is : (got : Option Position) → read got ≡ Some (origin, n) → (origin.node ≡ node) × (got ≡ Some position)
  read_is None e = absurd (none-some (origin, n) e)
  read_is (Some g) e =
      let same = same_Some (record { node = node; inc = g.inc }, g.number) (origin, n) e in
      (ap (λ (r : Origin × ℕ). r.0.node) (sym same), ap (λ (r : Origin × ℕ). Some (record { inc = r.0.inc; number = r.1 })) same)

  read_has : (got : Option Position) → (origin.node ≡ node) × (got ≡ Some position) → read got ≡ Some (origin, n)
  read_has got h = let same = sym h.0 in ap read h.1 ∙ (λ i. Some (record { node = same i; inc = origin.inc }, n))

pub acks_are_got : AcksAreGot
acks_are_got p node origin n = (read_is node origin n (map.get p.got node), read_has node origin n (map.get p.got node))

-- ---- when nothing needs to be shipped
not_is : (b : Bool) → not b ≡ true → ¬ (b ≡ true)
not_is true e = λ _. true≢false (sym e)
not_is false e = λ is. true≢false (sym is)

is_not : (b : Bool) → ¬ (b ≡ true) → not b ≡ true
is_not true none = absurd (none refl)
is_not false none = refl

has_all_is : (count : ℕ) (o : Option Position) → has_all count o ≡ true → (position : Position) × (o ≡ Some position) × (count ≤ position.number)
has_all_is count None e = absurd (true≢false (sym e))
has_all_is count (Some q) e = (q, refl, leb-true count q.number e)

pub up_to_date_have_all : UpToDateHaveAll
up_to_date_have_all p s base count to = (
  λ e.
      let parts = and_parts (has_all count (begins p s base to)) (not (set.contains p.owed to)) e in
      let all = has_all_is count (begins p s base to) parts.0 in
      let is = begins_is p s to all.0 base all.1 in
      (all.0.number, (is.acked, all.2, is.kept, not_is (set.contains p.owed to) parts.1)),
  λ up.
      let n = up.0 in
      let h = up.1 in
      let begins_there = begins_has p s to (record { inc = h.0.life.inc; number = n }) base (record { acked = h.0; present = refl; kept = h.2 }) in
      ap (λ o. has_all count o && not (set.contains p.owed to)) begins_there ∙ (ap (λ b. b && not (set.contains p.owed to)) (le-leb count n h.1) ∙ is_not (set.contains p.owed to) h.3),
)
