-- Positions got never go back.
use Rattle.std.specs.Prelude.{◌≡◌, ◌≢◌, ℕ, true, false, cond, nat_eq, nat_lt, max, Option, None, Some, refl, ◌⊎◌}
use Rattle.std.proofs.Common.{inl, inr, arith, leb, ap, sym, subst, ◌∙◌}
use Rattle.dac_peers.specs.laws.Common.{eqb-true, leb-true, leb-false, true≢false, none-some, same_Some, eq_by_cmp, NodeId, node_cmp, nodes_total, exact_nodes, Origin, Body, Message, Position, PeersValue, got_after, heard_from}
use Rattle.std.proofs.lemmas.Bool.{eqb-false, ltb-true, ltb-false}
use Rattle.std.specs.Ordering.{is_eq}
use Rattle.std.specs.Cmp.{Equal-is}
use Rattle.std.proofs.lemmas.Cmp.{tied_itself}
use Rattle.std.specs.FinMap as map
use Rattle.dac_messages.specs.declared.message.Body.TheVariants.{Whole, Interval, Nothing}
use Rattle.dac_peers.specs.Peers.{later}
use Rattle.dac_peers.specs.InWords.{IsUpTo, position_of, IsOnward, GotGoesOnward}

-- nodes are equal or not, as the test says
pub same_or_not : (a b : NodeId) → ((a ≡ b) × (eq_by_cmp node_cmp a b ≡ true)) ⊎ ((a ≢ b) × (eq_by_cmp node_cmp a b ≡ false))
same_or_not a b = elim (eq_by_cmp node_cmp a b) as (λ t. eq_by_cmp node_cmp a b ≡ t → ((a ≡ b) × (eq_by_cmp node_cmp a b ≡ true)) ⊎ ((a ≢ b) × (eq_by_cmp node_cmp a b ≡ false))) [
  | true ↦ λ e. inl (exact_nodes a b ((Equal-is (node_cmp a b)).0 e), e)
  | false ↦ λ e. inr ((λ is. true≢false (sym (ap is_eq (tied_itself nodes_total b)) ∙ (ap (λ o. eq_by_cmp node_cmp o b) (sym is) ∙ e))), e)
] refl

-- ---- the later of two positions
abbrev IsLater : Position → Position → Position → Type 0
IsLater old new l = ((l ≡ old) × IsUpTo new old) ⊎ ((l ≡ new) × IsUpTo old new)

later_is : (old new : Position) → IsLater old new (later old new)
later_is old new = elim (nat_lt old.inc new.inc) as (λ b. nat_lt old.inc new.inc ≡ b → IsLater old new (cond b new (cond (nat_eq old.inc new.inc) (record { inc = old.inc; number = max old.number new.number }) old))) [
  | true ↦ λ e. inr (refl, inl (ltb-true old.inc new.inc e))
  | false ↦ λ e. let not_less = ltb-false old.inc new.inc e in
      elim (nat_eq old.inc new.inc) as (λ b. nat_eq old.inc new.inc ≡ b → IsLater old new (cond b (record { inc = old.inc; number = max old.number new.number }) old)) [
        | true ↦ λ e. let same = eqb-true old.inc new.inc e in
            elim (leb old.number new.number) as (λ b. leb old.number new.number ≡ b → IsLater old new (record { inc = old.inc; number = max old.number new.number })) [
              | true ↦ λ e. let few = leb-true old.number new.number e in let is : max old.number new.number ≡ new.number = omega arith in inr ((λ i. record { inc = same i; number = is i }), inr (same, few))
              | false ↦ λ e. let more = leb-false old.number new.number e in let is : max old.number new.number ≡ old.number = omega arith in inl ((λ i. record { inc = old.inc; number = is i }), inr (sym same, omega arith))
            ] refl
        | false ↦ λ e. let apart = eqb-false old.inc new.inc e in inl (refl, inl (omega arith))
      ] refl
] refl

-- the position after an update is one of the old and the new one, and no earlier than either
record IsAfter (before : Option Position) (new position : Position) : Type 0 where
  from_old : (b : Position) → before ≡ Some b → IsUpTo b position
  from_new : IsUpTo new position
  one : (before ≡ Some position) ⊎ (position ≡ new)

up_to_itself : (a : Position) → IsUpTo a a
up_to_itself a = inr (refl, omega arith)

after_is : (before : Option Position) (new : Position) → IsAfter before new (got_after before new)
after_is None new = record { from_old = λ b e. absurd (none-some b e); from_new = up_to_itself new; one = inr refl }
after_is (Some b) new = elim (later_is b new) [
  | inl is ↦ record {
    from_old = λ a e. subst (IsUpTo a) (sym (same_Some b a e) ∙ sym is.0) (up_to_itself a);
    from_new = subst (IsUpTo new) (sym is.0) is.1;
    one = inl (ap Some (sym is.0));
  }
  | inr is ↦ record {
    from_old = λ a e. subst (IsUpTo a) (sym is.0) (subst (λ x. IsUpTo x new) (same_Some b a e) is.1);
    from_new = subst (IsUpTo new) (sym is.0) (up_to_itself new);
    one = inr is.0;
  }
]

-- ---- after a message
module _ (p : PeersValue) (m : Message) (after : PeersValue) where
  -- a message without a state
  of_nothing : m.body ≡ Nothing → after.got ≡ p.got → IsOnward p m after
  of_nothing none same = record {
    onward = λ node old e. (old, ap (λ g. map.get g node) same ∙ e, up_to_itself old);
    reached = λ some. absurd (some none);
    only = λ node position e. inl (sym (ap (λ g. map.get g node) same) ∙ e);
    others = λ node apart. ap (λ g. map.get g node) same;
  }

  abbrev from : NodeId
  from = m.from.node

  abbrev latest : Position
  latest = got_after (map.get p.got from) (position_of m)

  -- a message with a state
  of_more : m.body ≢ Nothing → after.got ≡ map.insert p.got from latest → IsOnward p m after
  of_more some is = record {
    onward = λ node old e. elim (same_or_not node from) [
      | inl same ↦ (latest, at_sender node same.1, is_after.from_old old (ap (map.get p.got) (sym same.0) ∙ e))
      | inr apart ↦ (old, elsewhere node apart.1 ∙ e, up_to_itself old)
    ];
    reached = λ _. (latest, here, is_after.from_new);
    only = λ node position e. elim (same_or_not node from) [
      | inl same ↦ let l = same_Some latest position (sym (at_sender node same.1) ∙ e) in elim is_after.one [
        | inl old ↦ inl (ap (map.get p.got) same.0 ∙ (old ∙ ap Some l))
        | inr new ↦ inr (same.0, some, sym l ∙ new)
      ]
      | inr apart ↦ inl (sym (elsewhere node apart.1) ∙ e)
    ];
    others = λ node apart. elim (same_or_not node from) [ inl same ↦ absurd (apart same.0) | inr other ↦ elsewhere node other.1 ];
  }
    where
      is_after : IsAfter (map.get p.got from) (position_of m) latest
      is_after = after_is (map.get p.got from) (position_of m)

      gets : (node : NodeId) → map.get after.got node ≡ cond (eq_by_cmp node_cmp node from) (Some latest) (map.get p.got node)
      gets node = ap (λ g. map.get g node) is ∙ map.get-insert nodes_total p.got from latest node

      at_sender : (node : NodeId) → eq_by_cmp node_cmp node from ≡ true → map.get after.got node ≡ Some latest
      at_sender node e = gets node ∙ ap (λ b. cond b (Some latest) (map.get p.got node)) e

      here : map.get after.got from ≡ Some latest
      here = at_sender from (ap is_eq (tied_itself nodes_total from))

      elsewhere : (node : NodeId) → eq_by_cmp node_cmp node from ≡ false → map.get after.got node ≡ map.get p.got node
      elsewhere node e = gets node ∙ ap (λ b. cond b (Some latest) (map.get p.got node)) e

module _ (own : Origin) (count : ℕ) (p : PeersValue) (m : Message) where
  abbrev with_body : Body → Message
  with_body body = record { from = m.from; to = m.to; only = m.only; up_to = m.up_to; body = body; ack = m.ack }

  by_body : (body : Body) → IsOnward p (with_body body) (heard_from own count p (with_body body))
  by_body (Whole s) = of_more p (with_body (Whole s)) _ (λ e. cc) refl
  by_body (Interval s) = of_more p (with_body (Interval s)) _ (λ e. cc) refl
  by_body Nothing = of_nothing p (with_body Nothing) _ refl refl

pub got_goes_onward : GotGoesOnward
got_goes_onward own count p m = by_body own count p m m.body
