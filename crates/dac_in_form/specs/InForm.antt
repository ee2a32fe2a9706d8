-- Values of runs in form. The meaning of operations in form is in form, if its counts fit their fields.
use Rattle.std.specs.Prelude.{◌<◌, ◌≤◌, ◌^◌, List, length}
use Rattle.std.specs.declared.cmp.Ordering.{Ordering}
use Rattle.std.specs.List.{AllByRecursion}
use Rattle.dac_origins.specs.Dots.{Dots, origin_cmp}
use Rattle.dac_origins.specs.InOrder.{in_order}
use Rattle.dac_wishes.specs.declared.key.Key.{Key}
use Rattle.dac_wishes.specs.Keys.{key_cmp}
use Rattle.dac_wishes.specs.Writes.{Writes, dots_at}
use Rattle.dac_wishes.specs.StartsByKey.{starts_by_key}
use Rattle.dac_wishes.specs.Votes.{Votes, votes_at}
use Rattle.dac_wishes.specs.VotesByKey.{votes_by_key}
use Rattle.dac_operations.specs.Operations.{Operation}
use Rattle.dac_meaning.specs.StateValue.{StateValue}
use Rattle.dac_meaning.specs.Meaning.{IsOperationOf, DotsDetermine, meaning_of}
use Rattle.dac_base.specs.declared.limits.TheConstants.{MAX_NODES, MAX_APPS}
use Rattle.dac_config.specs.Table.{Table, node_count, app_count}
use Rattle.dac_dots.specs.Rows.{Row, rows_of}
use Rattle.dac_bytes.specs.declared.version.Version.TheVariants.{Two}
use Rattle.dac_state.specs.StateForm.{IsInForm}
use Rattle.dac_wire.specs.Form.{IsOperation}

-- the number of origins that have dots fits a field of two bytes, and each one's number of further counters one of four
pub record ContextFits (dots : Dots) : Type 0 where
  pub origins : length (rows_of dots) < 2 ^ 16
  pub further : AllByRecursion (λ (row : Row). length row.further < 2 ^ 32) (rows_of dots)

-- the number of keys that have votes, and of each key's votes, fits its field
pub record VotesFit {K : Type 0} (R : K → K → Ordering) (votes : Votes R) : Type 0 where
  pub keys : length (votes_by_key R votes) < 2 ^ 32
  pub dots : (key : K) → length (votes_at R key votes) < 2 ^ 32

-- the number of keys that have start wishes, and of each key's wishes, fits its field
pub record StartsFit (starts : Writes) : Type 0 where
  pub keys : length (starts_by_key starts) < 2 ^ 32
  pub dots : (key : Key) → length (in_order (dots_at key starts)) < 2 ^ 32

-- The counts of a state fit their fields, of two bytes or four. Names and numbers don't matter here, and neither do
-- lives and claims, because there are at most as many of them as nodes and applications.
pub record StateFits (s : StateValue) : Type 0 where
  pub heard : ContextFits s.heard
  pub known : ContextFits s.known
  pub permits : VotesFit key_cmp s.permits
  pub starts : StartsFit s.starts
  pub drains : VotesFit origin_cmp s.drains

-- the configuration keeps its limits for nodes and applications
pub record IsSmall (t : Table) : Type 0 where
  pub nodes : node_count t ≤ MAX_NODES
  pub apps : app_count t ≤ MAX_APPS

-- each of the operations has bytes that are read again
abbrev pub AreInForm : Table → List Operation → Type 0
AreInForm t os = (o : Operation) → IsOperationOf o os → IsOperation Two t o

-- The meaning of operations in form is in form, if its counts fit their fields. This requires that no two different
-- operations have one dot.
abbrev pub MeaningsAreInForm : Type 0
MeaningsAreInForm = (t : Table) (os : List Operation) → IsSmall t → DotsDetermine os → AreInForm t os
    → StateFits (meaning_of os) → IsInForm Two t (meaning_of os)
