-- The order of states as a test.
use Rattle.std.specs.Prelude.{Bool, true, false, not, ◌&&◌, ◌||◌, Option, Some, None}
use Rattle.std.specs.declared.cmp.Ordering.{Ordering}
use Rattle.std.specs.List.{list_all}
use Rattle.std.specs.Ordering.{is_le}
use Rattle.std.specs.FinSet as set
use Rattle.std.specs.FinMap as map
use Rattle.dac_origins.specs.Dots.{Dots, origin_cmp}
use Rattle.dac_lattice.specs.declared.flags.Flag.{Flag}
use Rattle.dac_lattice.specs.declared.flags.Flag.TheVariants.{Up, Down}
use Rattle.dac_chains.specs.Lives.{life_cmp}
use Rattle.dac_chains.specs.Claims.{claim_cmp}
use Rattle.dac_wishes.specs.Keys.{key_cmp}
use Rattle.dac_wishes.specs.KeyedWrites.{KeyedWrite}
use Rattle.dac_wishes.specs.Votes.{Votes}
use Rattle.dac_wishes.specs.Writes.{Write}
use Rattle.dac_meaning.specs.StateValue.{StateValue}

-- the first value isn't greater than the second; an absent one is least
abbrev pub is_within : {T : Type 0} → (T → T → Ordering) → Option T → Option T → Bool
is_within cmp None y = true
is_within cmp (Some v) None = false
is_within cmp (Some v) (Some w) = is_le (cmp v w)

-- at no key is the first map's value greater than the second's
abbrev pub are_not_above : {K T : Type 0} {R : K → K → Ordering} → (T → T → Ordering) → map.FinMap R T → map.FinMap R T
    → Bool
are_not_above {K = K} cmp x y = list_all (λ (k : K). is_within cmp (map.get x k) (map.get y k)) (map.keys x)

-- Up is below both, and Down only below itself
abbrev pub is_flag_below : Flag → Flag → Bool
is_flag_below Up y = true
is_flag_below Down Up = false
is_flag_below Down Down = true

-- a flag on the second side requires one on the first that isn't greater
abbrev pub stands_below : Option Flag → Option Flag → Bool
stands_below x None = true
stands_below None (Some y) = false
stands_below (Some x) (Some y) = is_flag_below x y

-- each vote that stands in y and is known stands in x, with a value that isn't greater
abbrev pub votes_below : {K : Type 0} (R : K → K → Ordering) → Dots → Votes R → Votes R → Bool
votes_below {K = K} R known x y = list_all (λ (w : KeyedWrite K). not (set.contains known w.dot)
    || stands_below (map.get x w) (map.get y w)) (map.keys y)

-- each permit that stands in y and is known to x stands in x, with a value that isn't greater
abbrev pub permits_below : StateValue → StateValue → Bool
permits_below x y = votes_below key_cmp x.known x.permits y.permits

-- each drain that stands in y and is known to x stands in x, with a value that isn't greater
abbrev pub drains_below : StateValue → StateValue → Bool
drains_below x y = votes_below origin_cmp x.known x.drains y.drains

-- each start wish that stands in y and is known to x stands in x
abbrev pub starts_below : StateValue → StateValue → Bool
starts_below x y = set.is_subset (set.retain y.starts (λ (w : Write). set.contains x.known w.dot)) x.starts

-- the state x is below y: by its law `is_below-is` this test is the order of states
unfoldable pub is_below : StateValue → StateValue → Bool
is_below x y =
    set.is_subset x.heard y.heard
    && (set.is_subset x.known y.known
    && (permits_below x y
    && (starts_below x y
    && (are_not_above life_cmp x.lives y.lives
    && (are_not_above claim_cmp x.claims y.claims && drains_below x y)))))
