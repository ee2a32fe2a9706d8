-- The laws of states, from those of their parts: the order is a partial order, and the join the least upper bound.
use Rattle.std.specs.Prelude.{◌≡◌, refl}
use Rattle.std.proofs.Common.{sym, subst}
use Rattle.std.specs.FinSet as set
use Rattle.dac_base.specs.laws.Ids.{nodes_total, exact_nodes, apps_total, exact_apps}
use Rattle.dac_origins.specs.Dots.{IsSubset}
use Rattle.dac_lattice.specs.Lattices.{IsLattice}
use Rattle.dac_lattice.specs.Chains.{IsAny}
use Rattle.dac_lattice.specs.Flags.{flag_cmp}
use Rattle.dac_lattice.specs.laws.Flags.{flags_exact}
use Rattle.dac_wishes.specs.laws.Stores.{subset_left, subset_right, subset_union, subset_empty, same_context}
use Rattle.dac_chains.specs.Greatest.{AreNotAbove, greater}
use Rattle.dac_chains.specs.laws.Greatest.{greatest_laws, empty_is_least}
use Rattle.dac_chains.specs.Lives.{Lives, life_cmp}
use Rattle.dac_chains.specs.laws.Lives.{lives_total, exact_lives}
use Rattle.dac_chains.specs.Claims.{Claims, claim_cmp, how_cmp}
use Rattle.dac_chains.specs.laws.Claims.{claims_total, exact_hows, exact_claims}
use Rattle.dac_wishes.specs.WishesValue.{AreWishes, AreWishesBelow, join_wishes}
use Rattle.dac_wishes.specs.laws.WishesValue.{known-join as known-wishes, wishes_laws, no_wishes_value, no_wishes_least}
use Rattle.dac_wishes.specs.PermissionsValue.{ArePermissions, IsPermissionsBelow, join_permissions}
use Rattle.dac_wishes.specs.laws.PermissionsValue.{known-join as known-permissions, permissions_laws, no_permissions_value, no_permissions_least}
use Rattle.dac_wishes.specs.DrainsValue.{AreDrains, AreDrainsBelow, join_drains}
use Rattle.dac_wishes.specs.laws.DrainsValue.{known-join as known-drains, drains_laws, no_drains_value, no_drains_least}
use Rattle.dac_meaning.specs.StateValue.{StateValue, IsState, IsBelow, permissions_of, wishes_of, drains_of, bottom, join}

pub life_laws : IsLattice {T = Lives} IsAny (AreNotAbove life_cmp) (greater life_cmp)
life_laws = greatest_laws nodes_total exact_nodes lives_total (exact_lives flag_cmp flags_exact)

pub claim_laws : IsLattice {T = Claims} IsAny (AreNotAbove claim_cmp) (greater claim_cmp)
claim_laws = greatest_laws apps_total exact_apps claims_total (exact_claims how_cmp exact_hows)

-- ---- the parts of a join

pub heard-join : (x y : StateValue) → (join x y).heard ≡ set.union x.heard y.heard
unfolding join
heard-join x y = refl

pub known-join : (x y : StateValue) → (join x y).known ≡ set.union x.known y.known
unfolding join
known-join x y = refl

pub lives-join : (x y : StateValue) → (join x y).lives ≡ greater life_cmp x.lives y.lives
unfolding join
lives-join x y = refl

pub claims-join : (x y : StateValue) → (join x y).claims ≡ greater claim_cmp x.claims y.claims
unfolding join
claims-join x y = refl

pub permissions-join : (x y : StateValue) → permissions_of (join x y) ≡ join_permissions (permissions_of x) (permissions_of y)
unfolding join
permissions-join x y = λ i. record { known = sym (known-permissions (permissions_of x) (permissions_of y)) i; standing = (join_permissions (permissions_of x) (permissions_of y)).standing }

pub wishes-join : (x y : StateValue) → wishes_of (join x y) ≡ join_wishes (wishes_of x) (wishes_of y)
unfolding join
wishes-join x y = λ i. record { known = sym (known-wishes (wishes_of x) (wishes_of y)) i; standing = (join_wishes (wishes_of x) (wishes_of y)).standing }

pub drains-join : (x y : StateValue) → drains_of (join x y) ≡ join_drains (drains_of x) (drains_of y)
unfolding join
drains-join x y = λ i. record { known = sym (known-drains (drains_of x) (drains_of y)) i; standing = (join_drains (drains_of x) (drains_of y)).standing }

-- two states with equal parts are equal
pub same_state : (x y : StateValue) → x.heard ≡ y.heard → permissions_of x ≡ permissions_of y → wishes_of x ≡ wishes_of y → x.lives ≡ y.lives → x.claims ≡ y.claims → drains_of x ≡ drains_of y → x ≡ y
same_state x y heard permits starts lives claims drains = λ i. record { heard = heard i; known = (starts i).known; permits = (permits i).standing; starts = (starts i).standing; lives = lives i; claims = claims i; drains = (drains i).standing }

-- ---- the laws

itself : (x : StateValue) → IsState x → IsBelow x x
itself x u = record {
  heard = λ d h. h;
  permits = permissions_laws.refl (permissions_of x) u.permits;
  starts = wishes_laws.refl (wishes_of x) u.starts;
  lives = life_laws.refl x.lives tt;
  claims = claim_laws.refl x.claims tt;
  drains = drains_laws.refl (drains_of x) u.drains;
}

through : (x y z : StateValue) → IsState x → IsState y → IsState z → IsBelow x y → IsBelow y z → IsBelow x z
through x y z u v w p q = record {
  heard = λ d h. q.heard d (p.heard d h);
  permits = permissions_laws.trans _ _ _ u.permits v.permits w.permits p.permits q.permits;
  starts = wishes_laws.trans _ _ _ u.starts v.starts w.starts p.starts q.starts;
  lives = life_laws.trans x.lives y.lives z.lives tt tt tt p.lives q.lives;
  claims = claim_laws.trans x.claims y.claims z.claims tt tt tt p.claims q.claims;
  drains = drains_laws.trans _ _ _ u.drains v.drains w.drains p.drains q.drains;
}

one_state : (x y : StateValue) → IsState x → IsState y → IsBelow x y → IsBelow y x → x ≡ y
one_state x y u v p q = same_state x y (same_context x.heard y.heard p.heard q.heard)
    (permissions_laws.antisymm _ _ u.permits v.permits p.permits q.permits)
    (wishes_laws.antisymm _ _ u.starts v.starts p.starts q.starts)
    (life_laws.antisymm x.lives y.lives tt tt p.lives q.lives)
    (claim_laws.antisymm x.claims y.claims tt tt p.claims q.claims)
    (drains_laws.antisymm _ _ u.drains v.drains p.drains q.drains)

-- a join of two states is a state
joined_state : (x y : StateValue) → IsState x → IsState y → IsState (join x y)
joined_state x y u v = record {
  heard = subst (λ h. IsSubset h (join x y).known) (sym (heard-join x y)) (subst (IsSubset (set.union x.heard y.heard)) (sym (known-join x y))
      (subset_union x.heard y.heard (set.union x.known y.known)
      (λ d h. subset_left x.known y.known d (u.heard d h))
      (λ d h. subset_right x.known y.known d (v.heard d h))));
  permits = subst ArePermissions (sym (permissions-join x y)) (permissions_laws.closed _ _ u.permits v.permits);
  starts = subst AreWishes (sym (wishes-join x y)) (wishes_laws.closed _ _ u.starts v.starts);
  drains = subst AreDrains (sym (drains-join x y)) (drains_laws.closed _ _ u.drains v.drains);
}

above_left : (x y : StateValue) → IsState x → IsState y → IsBelow x (join x y)
above_left x y u v = record {
  heard = subst (IsSubset x.heard) (sym (heard-join x y)) (subset_left x.heard y.heard);
  permits = subst (IsPermissionsBelow (permissions_of x)) (sym (permissions-join x y)) (permissions_laws.left _ _ u.permits v.permits);
  starts = subst (AreWishesBelow (wishes_of x)) (sym (wishes-join x y)) (wishes_laws.left _ _ u.starts v.starts);
  lives = subst (AreNotAbove life_cmp x.lives) (sym (lives-join x y)) (life_laws.left x.lives y.lives tt tt);
  claims = subst (AreNotAbove claim_cmp x.claims) (sym (claims-join x y)) (claim_laws.left x.claims y.claims tt tt);
  drains = subst (AreDrainsBelow (drains_of x)) (sym (drains-join x y)) (drains_laws.left _ _ u.drains v.drains);
}

above_right : (x y : StateValue) → IsState x → IsState y → IsBelow y (join x y)
above_right x y u v = record {
  heard = subst (IsSubset y.heard) (sym (heard-join x y)) (subset_right x.heard y.heard);
  permits = subst (IsPermissionsBelow (permissions_of y)) (sym (permissions-join x y)) (permissions_laws.right _ _ u.permits v.permits);
  starts = subst (AreWishesBelow (wishes_of y)) (sym (wishes-join x y)) (wishes_laws.right _ _ u.starts v.starts);
  lives = subst (AreNotAbove life_cmp y.lives) (sym (lives-join x y)) (life_laws.right x.lives y.lives tt tt);
  claims = subst (AreNotAbove claim_cmp y.claims) (sym (claims-join x y)) (claim_laws.right x.claims y.claims tt tt);
  drains = subst (AreDrainsBelow (drains_of y)) (sym (drains-join x y)) (drains_laws.right _ _ u.drains v.drains);
}

below_both : (x y z : StateValue) → IsState x → IsState y → IsState z → IsBelow x z → IsBelow y z → IsBelow (join x y) z
below_both x y z u v w p q = record {
  heard = subst (λ h. IsSubset h z.heard) (sym (heard-join x y)) (subset_union x.heard y.heard z.heard p.heard q.heard);
  permits = subst (λ j. IsPermissionsBelow j (permissions_of z)) (sym (permissions-join x y)) (permissions_laws.least _ _ _ u.permits v.permits w.permits p.permits q.permits);
  starts = subst (λ j. AreWishesBelow j (wishes_of z)) (sym (wishes-join x y)) (wishes_laws.least _ _ _ u.starts v.starts w.starts p.starts q.starts);
  lives = subst (λ j. AreNotAbove life_cmp j z.lives) (sym (lives-join x y)) (life_laws.least x.lives y.lives z.lives tt tt tt p.lives q.lives);
  claims = subst (λ j. AreNotAbove claim_cmp j z.claims) (sym (claims-join x y)) (claim_laws.least x.claims y.claims z.claims tt tt tt p.claims q.claims);
  drains = subst (λ j. AreDrainsBelow j (drains_of z)) (sym (drains-join x y)) (drains_laws.least _ _ _ u.drains v.drains w.drains p.drains q.drains);
}

pub state_laws : IsLattice IsState IsBelow join
state_laws = record {
  refl = itself;
  trans = through;
  antisymm = one_state;
  closed = joined_state;
  left = above_left;
  right = above_right;
  least = below_both;
}

-- ---- the least state

pub bottom_value : IsState bottom
bottom_value = record { heard = λ d h. h; permits = no_permissions_value; starts = no_wishes_value; drains = no_drains_value }

pub bottom_least : (x : StateValue) → IsState x → IsBelow bottom x
bottom_least x u = record {
  heard = subset_empty x.heard;
  permits = no_permissions_least (permissions_of x);
  starts = no_wishes_least (wishes_of x);
  lives = empty_is_least nodes_total exact_nodes lives_total (exact_lives flag_cmp flags_exact) x.lives;
  claims = empty_is_least apps_total exact_apps claims_total (exact_claims how_cmp exact_hows) x.claims;
  drains = no_drains_least (drains_of x);
}

-- the least state joined to a state is that state
pub bottom-join : (s : StateValue) → IsState s → join bottom s ≡ s
bottom-join s is =
    state_laws.antisymm (join bottom s) s (state_laws.closed bottom s bottom_value is) is
    (state_laws.least bottom s s bottom_value is is (bottom_least s is) (state_laws.refl s is))
    (state_laws.right bottom s bottom_value is)
