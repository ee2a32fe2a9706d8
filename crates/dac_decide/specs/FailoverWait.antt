-- Failover timers. After OTP's kernel manual, parameter `distributed`: when a node goes down, its applications are
-- restarted elsewhere after their timeout. (That each controller measures it at its own ticks is this project's own
-- rule.)
use Rattle.std.specs.Prelude.{◌≡◌, ◌⊎◌, ℕ, ◌+◌, ◌≤◌, Bool, true, false, ◌&&◌, ◌||◌, ◌==◌, nat_le, List, [], ◌∷◌, ◌++◌, map as list_map, get_or, Option, None, Some, if◌then◌else◌, ⊤, refl}
use Rattle.std.specs.List.{All}
use Rattle.std.specs.Option.{option_map, option_map_or, option_and_then}
use Rattle.std.specs.Ordering.{is_eq}
use Rattle.std.specs.Coded.{Coded, code_by, coded×, coded_ℕ}
use Rattle.std.specs.FinMap as map
use Rattle.dac_base.specs.declared.NodeId.{NodeId}
use Rattle.dac_base.specs.declared.AppId.{AppId}
use Rattle.dac_config.specs.Table.{Table, timeout_of}
use Rattle.dac_chains.specs.declared.claims.Claim.{Claim}
use Rattle.dac_chains.specs.Claims.{claim_cmp, coded_claim}
use Rattle.dac_placement.specs.StateValue.{StateValue}
use Rattle.dac_placement.specs.declared.verdicts.Verdict.{Verdict}
use Rattle.dac_placement.specs.declared.verdicts.Verdict.TheVariants.{Start, Failover, Halted, Move, Takeover, Kept, Nobody}
use Rattle.dac_placement.specs.Placement.{IsUp, is_up, apps_of, verdict_of}
use Rattle.dac_decide.specs.declared.waits.Noted.{Noted}

-- ---- in words

-- the state of a controller at a tick, and the moment of the tick in milliseconds
pub record Note : Type 0 where
  pub state : StateValue
  pub moment : ℕ

-- the claim is the application's greatest, and the incarnation that made it isn't live
pub record IsLost (s : StateValue) (app : AppId) (claim : Claim) : Type 0 where
  pub greatest : map.get s.claims app ≡ Some claim
  pub down : ¬ IsUp s claim.origin

-- the newest note, which is first in the list, found the claim lost
abbrev pub IsLostByNewest : List Note → AppId → Claim → Type 0
IsLostByNewest [] app claim = ⊥
IsLostByNewest (note ∷ older) app claim = IsLost note.state app claim

-- The newest notes all found the claim lost, without a gap, and `since` is the moment of the oldest of them. The note
-- before that one, if any, didn't find it lost.
pub record IsNotedSince (notes : List Note) (app : AppId) (claim : Claim) (since : ℕ) : Type 0 where
  pub row : List Note
  pub begin : Note
  pub before : List Note
  pub parts : notes ≡ row ++ begin ∷ before
  pub lost : All (λ note. IsLost note.state app claim) (row ++ begin ∷ [])
  pub begins : ¬ IsLostByNewest before app claim
  pub moment : begin.moment ≡ since

-- the application's lost claim is noted, and its timeout has passed since the first of those notes
pub record IsWaitOver (table : Table) (notes : List Note) (s : StateValue) (app : AppId) (now : ℕ) : Type 0 where
  pub claim : Claim
  pub since : ℕ
  pub lost : IsLost s app claim
  pub noted : IsNotedSince notes app claim since
  pub over : since + timeout_of table app ≤ now

-- the application's greatest claim was made by this node
abbrev pub IsHeldAt : StateValue → AppId → NodeId → Type 0
IsHeldAt s app node = (claim : Claim) × (map.get s.claims app ≡ Some claim) × (claim.origin.node ≡ node)

-- this verdict must be carried out now
abbrev pub IsDueBy : Table → List Note → StateValue → AppId → ℕ → Verdict → Type 0
IsDueBy table notes s app now (Start n) = ⊤
IsDueBy table notes s app now (Failover n) = IsHeldAt s app n ⊎ IsWaitOver table notes s app now
IsDueBy table notes s app now (Halted n) = ⊥
IsDueBy table notes s app now (Move n) = ⊤
IsDueBy table notes s app now (Takeover n) = ⊤
IsDueBy table notes s app now (Kept n) = ⊥
IsDueBy table notes s app now Nobody = ⊥

-- The application's verdict must be carried out now. Starts, moves and takeovers are due at once. A failover is due at
-- once if it returns the application to its lost holder's node, and otherwise when its wait is over.
abbrev pub IsDue : Table → List Note → StateValue → AppId → ℕ → Type 0
IsDue table notes s app now = IsDueBy table notes s app now (verdict_of table s app)

-- ---- as functions

-- the claim, if the incarnation that made it isn't live
abbrev pub lost_if : StateValue → Claim → Option Claim
lost_if s claim = if is_up s claim.origin then None else Some claim

-- the lost claim of the application, if any
abbrev pub lost_in : StateValue → AppId → Option Claim
lost_in s app = option_and_then (lost_if s) (map.get s.claims app)

-- the two claims are equal in their order
abbrev pub is_same : Claim → Claim → Bool
is_same a b = is_eq (claim_cmp a b)

-- the timer of a lost claim: unchanged if it is for the same claim, and otherwise started now
abbrev pub since_of : Option Noted → ℕ → Claim → Noted
since_of None now claim = record { claim = claim; since = now }
since_of (Some before) now claim = if is_same before.claim claim then before else record { claim = claim; since = now }

-- the timer of an application after one more tick, given the one before and the lost claim, if any
abbrev pub noted_next : Option Noted → Option Claim → ℕ → Option Noted
noted_next before lost now = option_map (since_of before now) lost

-- the timer of an application after these notes: its lost claim, and since when
abbrev pub noted_of : AppId → List Note → Option Noted
noted_of app [] = None
noted_of app (note ∷ older) = noted_next (noted_of app older) (lost_in note.state app) note.moment

-- the timer of each application after these notes
abbrev pub waits_of : Table → List Note → List (Option Noted)
waits_of table notes = list_map (λ app. noted_of app notes) (apps_of table)

-- the timer of an application in these waits
abbrev pub noted_at : List (Option Noted) → AppId → Option Noted
noted_at waits app = get_or waits app.0 None

-- `IsHeldAt` as a test
abbrev pub is_held_at : StateValue → AppId → NodeId → Bool
is_held_at s app node = option_map_or (λ (claim : Claim). claim.origin.node.0 == node.0) (map.get s.claims app) false

-- the timer is for this lost claim, and `wait` milliseconds have passed since it started
abbrev pub is_over_at : ℕ → ℕ → Option Claim → Option Noted → Bool
is_over_at wait now None noted = false
is_over_at wait now (Some claim) None = false
is_over_at wait now (Some claim) (Some noted) = is_same noted.claim claim && nat_le (noted.since + wait) now

-- the timer is for the application's lost claim, and the timeout has passed since it started
abbrev pub is_wait_over : Table → StateValue → AppId → Option Noted → ℕ → Bool
is_wait_over table s app noted now = is_over_at (timeout_of table app) now (lost_in s app) noted

-- `IsDueBy` as a test, given the application's timer
abbrev pub is_due_by : Table → Option Noted → StateValue → AppId → ℕ → Verdict → Bool
is_due_by table noted s app now (Start n) = true
is_due_by table noted s app now (Failover n) = is_held_at s app n || is_wait_over table s app noted now
is_due_by table noted s app now (Halted n) = false
is_due_by table noted s app now (Move n) = true
is_due_by table noted s app now (Takeover n) = true
is_due_by table noted s app now (Kept n) = false
is_due_by table noted s app now Nobody = false

-- `IsDue` as a test, given the application's timer
abbrev pub is_due_with : Table → Option Noted → StateValue → AppId → ℕ → Bool
is_due_with table noted s app now = is_due_by table noted s app now (verdict_of table s app)

-- `IsDue` as a test
abbrev pub is_due : Table → List Note → StateValue → AppId → ℕ → Bool
is_due table notes s app now = is_due_with table (noted_of app notes) s app now

-- ---- timers are data
abbrev pub coded_noted : Coded Noted
coded_noted = code_by (Claim × ℕ) (coded× coded_claim coded_ℕ) (λ n. (n.claim, n.since))
    (λ p. record { claim = p.0; since = p.1 }) (λ _. refl)
