use Rattle.std.proofs.Common.{◌≡◌, ℕ, ◌+◌, ◌-◌, List, get_or, set, suc, ap, ◌∙◌, arith}
use Rattle.dac_status.proofs.Common.{Table, app_count, StateValue, AppSummary, app_begun, no_app, app_summary}
use Rattle.dac_placement.specs.declared.verdicts.Verdict.{Verdict}
use Rattle.dac_placement.specs.Placement.{verdict_of}
use Rattle.dac_status.proofs.Places.{app_numbered, staged, staged_none, staged_all, staged_at, staged_more}
use Rattle.dac_status.proofs.summary.apps_of.Goals as goal

module _ (table : Table) (s : StateValue) (n k : ℕ) (apps : List AppSummary) where
  abbrev to_judge : ℕ → List AppSummary
  to_judge left = staged 64 no_app app_numbered (app_summary table s) (app_begun table s) n left

  -- the next application gets its verdict
  judged : (d : AppSummary) (verdict : Verdict) → apps ≡ to_judge (suc k) → verdict ≡ verdict_of table s (app_numbered n)
      → set apps n (record { claim = (get_or apps n d).claim; verdict = verdict; marks = (get_or apps n d).marks }) ≡ staged 64 no_app app_numbered (app_summary table s) (app_begun table s) (n + 1) k
  judged d verdict is verdict_is =
      let at : get_or apps n d ≡ app_begun table s (app_numbered n) =
      ap (λ all. get_or all n d) is ∙ staged_at 64 no_app app_numbered (app_summary table s) (app_begun table s) n k d in
      ap (λ (a : AppSummary). set apps n a) (λ i. record { claim = (at i).claim; verdict = verdict_is i; marks = (at i).marks })
      ∙ staged_more 64 no_app app_numbered (app_summary table s) (app_begun table s) n k apps is

pub loop-number-init : goal.loop-number-init
loop-number-init c =
    let table = c.args.config.now in
    let s = c.args.state.now in
    let whole : app_count table ≡ app_count table - 0 = omega arith in
    c.apps_begun-apps.ensures ∙ staged_none 64 no_app app_numbered (app_summary table s) (app_begun table s) (app_count table)
    ∙ ap (λ k. staged 64 no_app app_numbered (app_summary table s) (app_begun table s) 0 k) whole

pub verdict_seen-verdict-requires-clause-claim : goal.verdict_seen-verdict-requires-clause-claim
verdict_seen-verdict-requires-clause-claim c =
    let table = c.args.config.now in
    let s = c.args.state.now in
    let n = c.loop-number.number in
    let k = app_count table - (n + 1) in
    let left : app_count table - n ≡ suc k = omega arith in
    ap (λ (apps : List AppSummary). (get_or apps n _).claim) (c.loop-number.invariant ∙ ap (λ j. staged 64 no_app app_numbered (app_summary table s) (app_begun table s) n j) left)
    ∙ ap (λ (a : AppSummary). a.claim) (staged_at 64 no_app app_numbered (app_summary table s) (app_begun table s) n k _)

pub verdict_seen-verdict-requires-clause-marks : goal.verdict_seen-verdict-requires-clause-marks
verdict_seen-verdict-requires-clause-marks c =
    let table = c.args.config.now in
    let s = c.args.state.now in
    let n = c.loop-number.number in
    let k = app_count table - (n + 1) in
    let left : app_count table - n ≡ suc k = omega arith in
    ap (λ (apps : List AppSummary). (get_or apps n _).marks) (c.loop-number.invariant ∙ ap (λ j. staged 64 no_app app_numbered (app_summary table s) (app_begun table s) n j) left)
    ∙ ap (λ (a : AppSummary). a.marks) (staged_at 64 no_app app_numbered (app_summary table s) (app_begun table s) n k _)

pub loop-number-preserved : goal.loop-number-preserved
loop-number-preserved c =
    let table = c.args.config.now in
    let s = c.args.state.now in
    let n = c.loop-number.number in
    let k = app_count table - (n + 1) in
    let left : app_count table - n ≡ suc k = omega arith in
    judged table s n k c.loop-number.apps _ _ (c.loop-number.invariant ∙ ap (to_judge table s n k c.loop-number.apps) left) c.verdict_seen-verdict.ensures

pub returns : goal.returns
returns c =
    let table = c.args.config.now in
    let s = c.args.state.now in
    let n = c.loop-number.number in
    let up_to = c.loop-number.auto.number-end in
    let not_below = c.loop-number-test.false in
    let count = c.apps-number-end.ensures.count in
    let all : n ≡ app_count table = omega (arith, up_to, not_below, count) in
    let none : app_count table - n ≡ 0 = omega (arith, all) in
    c.loop-number.invariant ∙ (λ i. staged 64 no_app app_numbered (app_summary table s) (app_begun table s) (all i) (none i))
    ∙ staged_all 64 no_app app_numbered (app_summary table s) (app_begun table s) (app_count table)
