-- The positions from which an interval can begin, in words.
use Rattle.std.specs.Prelude.{◌≡◌, ◌↔◌, ◌≤◌, ℕ, Bool, true, false, not, ◌&&◌, cond, Option, Some, None, refl}
use Rattle.std.specs.Option.{option_map, option_and_then}
use Rattle.std.specs.FinSet as set
use Rattle.std.specs.FinMap as map
use Rattle.std.proofs.Common.{ap, subst, ◌∙◌}
use Rattle.dac_model_node.specs.laws.Common.{nat_le, false≢true, and_parts, leb-true, le-leb, NodeId, Position, begins, is_up_to_date, RunningValue, IsPosition}
use Rattle.std.proofs.lemmas.Bool.{true≢false}
use Rattle.dac_chains.specs.declared.lives.Life.{Life}
use Rattle.dac_peers.specs.Peers.{acked_by, kept_from, has_all}
use Rattle.dac_model_node.specs.Refused.{IsUpToDate}
use Rattle.dac_model_node.specs.laws.Options.{some_same}

module _ (r : RunningValue) (to : NodeId) where
  -- how many deltas an incarnation acknowledged
  abbrev acked : ℕ → Option ℕ
  acked inc = map.get r.peers.acked (record { node = to; inc = inc })

  -- the position of an incarnation that acknowledged this number
  abbrev placed : ℕ → Option ℕ → Option Position
  placed inc number = kept_from r.kept.base (option_map (λ (n : ℕ). record { inc = inc; number = n }) number)

  abbrev IsPlacedAt : ℕ → Option ℕ → Position → Type 0
  IsPlacedAt inc number p = (inc ≡ p.inc) × ((number ≡ Some p.number) × (r.kept.base ≤ p.number))

  by_base : (inc n : ℕ) (b : Bool) (p : Position) → nat_le r.kept.base n ≡ b → cond b (Some (record { inc = inc; number = n })) None ≡ Some p → IsPlacedAt inc (Some n) p
  by_base inc n true p le e =
      let same = some_same (record { inc = inc; number = n }) p e in
      let number : n ≡ p.number = ap (λ (q : Position). q.number) same in
      (ap (λ (q : Position). q.inc) same, (ap (λ k. Some k) number, subst (λ k. r.kept.base ≤ k) number (leb-true r.kept.base n le)))
  by_base inc n false p le e = cc

  by_number : (inc : ℕ) (number : Option ℕ) (p : Position) → placed inc number ≡ Some p → IsPlacedAt inc number p
  by_number inc None p e = cc
  by_number inc (Some n) p e = by_base inc n (nat_le r.kept.base n) p refl e

  by_life : (life : Option Life) (p : Position) → map.get r.state.lives to ≡ life → kept_from r.kept.base (option_and_then (acked_by r.peers to) life) ≡ Some p → IsPosition r to p
  by_life None p is e = cc
  by_life (Some life) p is e =
      let at = by_number life.inc (acked life.inc) p e in
      record { life = life; lives = is; present = at.0; acked = subst (λ inc. acked inc ≡ Some p.number) at.0 at.1.0; kept = at.1.1 }

  begins_at : (p : Position) → IsPosition r to p → begins r.peers r.state r.kept.base to ≡ Some p
  begins_at p is =
      ap (λ life. kept_from r.kept.base (option_and_then (acked_by r.peers to) life)) is.lives
      ∙ (ap (λ inc. placed inc (acked inc)) is.present
      ∙ (ap (placed p.inc) is.acked
      ∙ ap (λ b. cond b (Some p) None) (le-leb r.kept.base p.number is.kept)))

  -- an interval begins exactly at such a position
  pub begins_is : (p : Position) → (begins r.peers r.state r.kept.base to ≡ Some p) ↔ IsPosition r to p
  begins_is p = (by_life (map.get r.state.lives to) p refl, begins_at p)

  -- no reply is due
  nothing_owed : (b : Bool) → (not b ≡ true) ↔ (b ≡ false)
  nothing_owed true = (λ e. absurd (false≢true e), λ e. absurd (true≢false e))
  nothing_owed false = (λ _. refl, λ _. refl)

  abbrev owed : Bool
  owed = set.contains r.peers.owed to

  by_position : (from : Option Position) → begins r.peers r.state r.kept.base to ≡ from → (has_all r.kept.count from && not owed) ≡ true → IsUpToDate r to
  by_position None is e = absurd (false≢true e)
  by_position (Some p) is e =
      let parts = and_parts (nat_le r.kept.count p.number) (not owed) e in
      (p, ((begins_is p).0 is, (leb-true r.kept.count p.number parts.0, (nothing_owed owed).0 parts.1)))

  and_both : {a b : Bool} → a ≡ true → b ≡ true → (a && b) ≡ true
  and_both {a} {b} p q = λ i. p i && q i

  pub up_to_date_is : (is_up_to_date r.peers r.state r.kept.base r.kept.count to ≡ true) ↔ IsUpToDate r to
  up_to_date_is = (
    by_position (begins r.peers r.state r.kept.base to) refl,
    λ up. ap (λ from. has_all r.kept.count from && not owed) (begins_at up.0 up.1.0) ∙ and_both (le-leb r.kept.count up.0.number up.1.1.0) ((nothing_owed owed).1 up.1.1.1),
  )
