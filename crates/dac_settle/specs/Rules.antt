-- The rule of verdicts for which settling is proved, and one for which it fails: one that also takes over an application
-- inside a tuple, if another node of its holder's group runs fewer.
use Rattle.std.specs.Prelude.{ℕ, Bool, false, ◌&&◌, ◌==◌, nat_lt, Option, Some, if◌then◌else◌}
use Rattle.std.specs.Option.{option_map_or}
use Rattle.dac_base.specs.declared.NodeId.{NodeId}
use Rattle.dac_base.specs.declared.AppId.{AppId}
use Rattle.dac_meaning.specs.StateValue.{StateValue}
use Rattle.dac_config.specs.Table.{Table, group_of}
use Rattle.dac_placement.specs.declared.verdicts.Verdict.{Verdict}
use Rattle.dac_placement.specs.declared.verdicts.Verdict.TheVariants.{Takeover, Kept}
use Rattle.dac_placement.specs.Placement.{load_of, first_choice, verdict_of}

-- ---- the refused rule

-- both groups exist and are equal
abbrev pub is_one_group : Option ℕ → Option ℕ → Bool
is_one_group a b = option_map_or (λ g. option_map_or (λ h. g == h) b false) a false

-- node n runs fewer than m, and both are of one group
abbrev pub is_lighter : Table → StateValue → AppId → NodeId → NodeId → Bool
is_lighter t s app n m =
    nat_lt (load_of t s app n) (load_of t s app m) && is_one_group (group_of t app n) (group_of t app m)

-- the rule, for this verdict and first choice
abbrev pub restless_by : Table → StateValue → AppId → Verdict → Option NodeId → Verdict
restless_by t s app (Kept holder) (Some n) = if is_lighter t s app n holder then Takeover n else Kept holder
restless_by t s app verdict first = verdict

-- the verdict, except that the first choice takes over a kept application if it is of the holder's group and runs fewer
abbrev pub restless_of : Table → StateValue → AppId → Verdict
restless_of t s app = restless_by t s app (verdict_of t s app) (first_choice t s app)

-- ---- the rule of settling

-- The verdict, under a name of its own, so that the rule of settling can be replaced without the rule by which ticks
-- claim, `verdict_of`.
abbrev pub judged : Table → StateValue → AppId → Verdict
judged t s app = verdict_of t s app
