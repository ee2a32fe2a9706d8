-- The world of a script is that of a run.
use Rattle.std.proofs.Common.{◌≡◌, Bool, true, false, List, [], ◌∷◌, ◌++◌, take, refl, ap, subst, ◌∙◌}
use Rattle.dac_play.proofs.Common.{fold, is_ok, NodeId, Table, WorldEvent, WorldValue, Shows, set_run, no_sets, ScriptLine, shipping, delivered, after_telling, after_line, deliveries, telling}
use Rattle.std.specs.Prelude.{is_some}
use Rattle.dac_core.specs.ModelWorld.{ModelWorld, WorldStepped, Run, RanAs, start, happens}
use Rattle.dac_core.specs.EveryList.{run_from}
use Rattle.dac_core.specs.laws.Headline.{converged}
use Rattle.dac_core.specs.laws.EveryList.{own_run, is_enough}
use Rattle.dac_script.specs.declared.line.ScriptLine.TheVariants as says
use Rattle.dac_play.specs.Sharing.{state_in}
use Rattle.dac_play.specs.Runs.{pairs_in, line_events, events_from, world_from, events_in, answers_in, IsRunOf, ShareUnites, PlaysRuns}
use Rattle.dac_play.proofs.EachOther.{tell_each_other}
use Rattle.dac_play.proofs.Telling.{telling_unites}

run_from-append : (t : Table) (w : ModelWorld) (es fs : List WorldEvent) → run_from t w (es ++ fs) ≡ run_from t (run_from t w es) fs
run_from-append t w [] fs = refl
run_from-append t w (e ∷ es) fs = run_from-append t (happens t w e).world es fs

-- ---- a share
delivers : (t : Table) (to : NodeId) (shipped : WorldStepped) (b : Bool) → is_ok shipped.answer ≡ b → run_from t shipped.world (deliveries to shipped) ≡ delivered t to shipped
delivers t to shipped true e = rw e refl
delivers t to shipped false e = rw e refl

tells : (t : Table) (w : ModelWorld) (all : List (NodeId × NodeId)) → run_from t w (telling t w all) ≡ fold (after_telling t) w all
tells t w [] = refl
tells t w (pair ∷ all) =
    let shipped = happens t w (shipping pair) in
    run_from-append t shipped.world (deliveries pair.1 shipped) (telling t (after_telling t w pair) all)
    ∙ ap (λ v. run_from t v (telling t (after_telling t w pair) all)) (delivers t pair.1 shipped (is_ok shipped.answer) refl)
    ∙ tells t (after_telling t w pair) all

-- ---- lines
line_leads : (t : Table) (w : ModelWorld) (line : ScriptLine) → run_from t w (line_events t w line) ≡ after_line t w line
line_leads t w (says.Event event) = refl
line_leads t w says.Share = tells t w (pairs_in w)
line_leads t w (says.Page node) = refl
line_leads t w _ = refl

lines_lead : (t : Table) (w : ModelWorld) (lines : List ScriptLine) → run_from t w (events_from t w lines) ≡ world_from t w lines
lines_lead t w [] = refl
lines_lead t w (line ∷ lines) =
    run_from-append t w (line_events t w line) (events_from t (after_line t w line) lines)
    ∙ ap (λ v. run_from t v (events_from t (after_line t w line) lines)) (line_leads t w line)
    ∙ lines_lead t (after_line t w line) lines

script_ran : (t : Table) (lines : List ScriptLine) (v : WorldValue) → Shows t (world_from t (start t) lines) v → RanAs t (events_in t lines) (answers_in t lines) v
script_ran t lines v shows = record {
  final = world_from t (start t) lines;
  run = subst (Run t (start t) (events_in t lines) (answers_in t lines)) (lines_lead t (start t) lines) (own_run t (start t) (events_in t lines));
  shows = shows;
}

is_run : (t : Table) (lines : List ScriptLine) (v : WorldValue) → Shows t (world_from t (start t) lines) v → IsRunOf t lines v
is_run t lines v shows =
    let ran = script_ran t lines v shows in
    record { ran = ran; converges = converged t (events_in t lines) (answers_in t lines) v ran; enough = is_enough t (start t) (events_in t lines) }

-- a share after these lines leaves the union
share_unites : (t : Table) (lines : List ScriptLine) → ShareUnites t (world_from t (start t) lines) (set_run no_sets (events_in t lines) (answers_in t lines))
share_unites t lines =
    subst (λ (w : ModelWorld). ShareUnites t w (set_run no_sets (events_in t lines) (answers_in t lines))) (lines_lead t (start t) lines)
    (λ know numbers.
    let w = run_from t (start t) (events_in t lines) in
    telling_unites t (events_in t lines) (pairs_in w) (tell_each_other (λ node. is_some (state_in w node)) w.count) numbers know)

pub plays_runs : (t : Table) (script : List ScriptLine) → PlaysRuns t script
plays_runs t script = record {
  runs = λ n. is_run t (take n script);
  shares = λ n. let w = world_from t (start t) (take n script) in tell_each_other (λ node. is_some (state_in w node)) w.count;
  unites = λ n. share_unites t (take n script);
}
