-- Parts that correspond to those of a state are its parts.
use Rattle.std.specs.Prelude.{◌≡◌}
use Rattle.std.proofs.Common.{sym, ap, subst, ◌∙◌}
use Rattle.std.specs.FinSet as set
use Rattle.dac_origins.specs.Dots.{Dots, IsSubset}
use Rattle.dac_chains.specs.Greatest.{greater}
use Rattle.dac_chains.specs.Lives.{Lives, life_cmp}
use Rattle.dac_chains.specs.Claims.{Claims, claim_cmp}
use Rattle.dac_wishes.specs.WishesValue.{WishesValue, AreWishes}
use Rattle.dac_wishes.specs.PermissionsValue.{PermissionsValue, ArePermissions}
use Rattle.dac_wishes.specs.DrainsValue.{DrainsValue, AreDrains}
use Rattle.dac_wishes.specs.StandingValue.{StandingValue, join_standing, permissions_in, wishes_in, drains_in, standing_of}
use Rattle.dac_meaning.specs.StateValue.{StateValue, IsState, permissions_of, wishes_of, drains_of, join}
use Rattle.dac_meaning.specs.laws.StateLaws.{state_laws}
use Rattle.dac_state.specs.Heard.{heard_given}
use Rattle.dac_state.specs.declared.heard.Heard.{Heard}
use Rattle.dac_state.specs.Parts.{state_of_parts, standing_in}

-- the parts correspond to those of the state
pub record Show (h : Dots) (s : StandingValue) (l : Lives) (c : Claims) (v : StateValue) : Type 0 where
  pub heard : h ≡ v.heard
  pub standing : s ≡ standing_in v
  pub lives : l ≡ v.lives
  pub claims : c ≡ v.claims

module _ {h : Dots} {s : StandingValue} {l : Lives} {c : Claims} where
  pub state_is : {v : StateValue} → Show h s l c v → state_of_parts h s l c ≡ v
  state_is e = λ i. state_of_parts (e.heard i) (e.standing i) (e.lives i) (e.claims i)

  pub is_state : {v : StateValue} → Show h s l c v → IsState v → IsState (state_of_parts h s l c)
  is_state e is = subst IsState (sym (state_is e)) is

-- what stands is that of a state, if its pieces are
pub standing_is : {s : StandingValue} (v : StateValue) → permissions_in s ≡ permissions_of v → wishes_in s ≡ wishes_of v → drains_in s ≡ drains_of v → s ≡ standing_in v
standing_is v permits starts drains = λ i. record { known = (starts i).known; permits = (permits i).standing; starts = (starts i).standing; drains = (drains i).standing }

module _ (h g : Dots) (s t : StandingValue) (l m : Lives) (c d : Claims) where
  -- joined parts are those of the join
  pub joined_is : {a : Dots} {x : StandingValue} {z : Lives} {b : Claims}
      → a ≡ set.union h g → x ≡ join_standing s t → z ≡ greater life_cmp l m → b ≡ greater claim_cmp c d
      → state_of_parts a x z b ≡ join (state_of_parts h s l c) (state_of_parts g t m d)
  unfolding join
  joined_is heard standing lives claims = λ i. state_of_parts (heard i) (standing i) (lives i) (claims i)

  pub joined_state : {a : Dots} {x : StandingValue} {z : Lives} {b : Claims}
      → IsState (state_of_parts h s l c) → IsState (state_of_parts g t m d)
      → a ≡ set.union h g → x ≡ join_standing s t → z ≡ greater life_cmp l m → b ≡ greater claim_cmp c d
      → IsState (state_of_parts a x z b)
  joined_state one other heard standing lives claims = subst IsState (sym (joined_is heard standing lives claims)) (state_laws.closed _ _ one other)

-- the dots heard, given what stands after a join, are those heard on either side
pub heard_joined : (h g : Dots) (s t : StandingValue) {k : Dots} {x : StandingValue} (n : Heard) → k ≡ set.union s.known t.known → heard_given n k ≡ set.union h g → x ≡ join_standing s t → heard_given n x.known ≡ set.union h g
heard_joined h g s t n known heard standing = ap (λ (z : StandingValue). heard_given n z.known) standing ∙ ap (heard_given n) (sym known) ∙ heard

-- values that were read are the parts of a state, if permissions, wishes and drains know the dots known
pub read_is_state : {h k : Dots} {p : PermissionsValue} {w : WishesValue} {l : Lives} {c : Claims} {r : DrainsValue} → IsSubset h k → p.known ≡ k → w.known ≡ k → r.known ≡ k
    → ArePermissions p → AreWishes w → AreDrains r → IsState (state_of_parts h (standing_of p w r) l c)
read_is_state {h = h} {p = p} {r = r} within permitted wished drained are_permissions are_wishes are_drains = record {
  heard = subst (IsSubset h) (sym wished) within;
  permits = subst (λ k. ArePermissions (record { known = k; standing = p.standing })) (permitted ∙ sym wished) are_permissions;
  starts = are_wishes;
  drains = subst (λ k. AreDrains (record { known = k; standing = r.standing })) (drained ∙ sym wished) are_drains;
}
