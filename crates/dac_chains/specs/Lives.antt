-- The life of each node: the greatest reported, ordered by incarnation, with Up below Down at one incarnation.
-- Therefore a node that went down stays down until it comes up as a later incarnation. (The order is this project's
-- own.)
use Rattle.std.specs.Prelude.{◌≡◌, ℕ, List, Option, None, Some, option_and_then, refl}
use Rattle.std.specs.declared.cmp.Ordering.{Ordering}
use Rattle.std.specs.Ordering.{nat_cmp, ordering_then}
use Rattle.std.specs.FinMap as map
use Rattle.std.specs.Coded.{Coded, code_by, coded×, coded_ℕ}
use Rattle.dac_base.specs.declared.NodeId.{NodeId}
use Rattle.dac_base.specs.Ids.{node_cmp}
use Rattle.dac_lattice.specs.Dot.{Dot}
use Rattle.dac_lattice.specs.declared.flags.Flag.{Flag}
use Rattle.dac_lattice.specs.declared.flags.Flag.TheVariants.{Up, Down}
use Rattle.dac_lattice.specs.Flags.{flag_cmp, coded_flag}
use Rattle.dac_chains.specs.Greatest.{IsGreatest, IsSaid}
use Rattle.dac_chains.specs.declared.lives.Life.{Life}
use Rattle.dac_chains.specs.declared.lives.LifeAct.{LifeAct}
use Rattle.dac_chains.specs.declared.lives.LifeAct.TheVariants.{Up as CameUp, Down as WentDown, Other}

-- lives ordered by incarnation, then Up below Down
abbrev pub life_cmp : Life → Life → Ordering
life_cmp a b = ordering_then (nat_cmp a.inc b.inc) (flag_cmp a.flag b.flag)

-- a life as a pair: the incarnation, and whether it is up
abbrev pub inc_and_flag : Life → ℕ × Flag
inc_and_flag l = (l.inc, l.flag)

-- a life for each node with a report
abbrev pub Lives : Type 0
Lives = map.FinMap node_cmp Life

-- the node and life that an operation reports, if any: CameUp, that its issuer is up; WentDown, that the named
-- incarnation is down
abbrev pub life_report : Dot → LifeAct → Option (NodeId × Life)
life_report d CameUp = Some (d.origin.node, record { inc = d.origin.inc; flag = Up })
life_report d (WentDown n i) = Some (n, record { inc = i; flag = Down })
life_report d Other = None

-- the life of node n: the greatest that the operations report, or None if they report none
abbrev pub IsLifeOf : NodeId → List (Dot × LifeAct) → Option Life → Type 0
IsLifeOf n os life = IsGreatest life_cmp (IsSaid life_report os n) life

-- each node has its life according to the operations
abbrev pub AreLives : List (Dot × LifeAct) → Lives → Type 0
AreLives os lives = (n : NodeId) → IsLifeOf n os (map.get lives n)

-- incarnation i of node n is live: the life of the node is that it is up
abbrev pub IsLive : Lives → NodeId → ℕ → Type 0
IsLive lives n i = map.get lives n ≡ Some (record { inc = i; flag = Up })

-- the incarnation, if the flag is Up
abbrev pub if_up : ℕ → Flag → Option ℕ
if_up i Up = Some i
if_up i Down = None

-- the live incarnation of the node, if any
abbrev pub live_at : Lives → NodeId → Option ℕ
live_at lives n = option_and_then (λ (l : Life). if_up l.inc l.flag) (map.get lives n)

-- a life encoded as a number and a flag
abbrev pub coded_life : Coded Life
coded_life = code_by (ℕ × Flag) (coded× coded_ℕ coded_flag) (λ l. (l.inc, l.flag))
    (λ p. record { inc = p.0; flag = p.1 }) (λ _. refl)
