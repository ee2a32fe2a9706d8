use Rattle.std.proofs.Common.{◌∷◌, [], Ok, Err, map, sym, ap, ◌∙◌}
use Rattle.dac_script.specs.laws.Common.{same_text, other_text, BadWord, Feed, Phase, caller_of, with_caller, plain_roles}
use Rattle.dac_script.specs.declared.verb.Role.TheVariants.{Hex}
use Rattle.dac_script.proofs.LiveLines.{live_read, plain_fails, other_fails, no_plain, no_caller_word, caller_judged}
use Rattle.dac_script.proofs.live_line.live_line_of.Goals.{in-Ok, in-Err}
use Rattle.dac_script.proofs.live_line.live_line_of.Goals as goal

pub returns-then-eq-clause-read : goal.returns-then-eq-clause-read
returns-then-eq-clause-read c =
    let first = c.in-Some.first.now.now in
    let rest = map (λ word. word.now) c.in-Some.rest.now in
    let text = same_text first c.as_slice.result.now c.if-eq.ensures ∙ c.as_slice.ensures in
    elim c.match-branch-2.branch [
      | in-Ok w ↦ rw (w.result-is, c.in-Some.ensures.cases.0) (live_read c.args.config.now (first ∷ rest) (Ok Phase) (tt, (text, rw w.in-Ok.is at c.in_ok-kind.ensures)))
      | in-Err w ↦ rw (w.result-is, c.in-Some.ensures.cases.0) (live_read c.args.config.now (first ∷ rest) (Err w.in-Err.kind) (plain_fails c.args.config.now first rest [] w.in-Err.kind (ap plain_roles text) (rw w.in-Err.is at c.in_ok-kind.ensures)))
    ]

pub returns-in-Ok-2-clause-read : goal.returns-in-Ok-2-clause-read
returns-in-Ok-2-clause-read c =
    let first = c.in-Some.first.now.now in
    let rest = map (λ word. word.now) c.in-Some.rest.now in
    let text = same_text first c.as_slice-2.result.now c.if-eq-2.ensures ∙ c.as_slice-2.ensures in
    rw c.in-Some.ensures.cases.0
    (live_read c.args.config.now (first ∷ rest) (Ok (Feed c.in-Ok-2.field-0.bytes)) (tt, (text, rw c.in-Ok-2.is at c.in_ok-bytes.ensures)))

pub returns-in-Err-2-clause-read : goal.returns-in-Err-2-clause-read
returns-in-Err-2-clause-read c =
    let first = c.in-Some.first.now.now in
    let rest = map (λ word. word.now) c.in-Some.rest.now in
    let text = same_text first c.as_slice-2.result.now c.if-eq-2.ensures ∙ c.as_slice-2.ensures in
    rw c.in-Some.ensures.cases.0
    (live_read c.args.config.now (first ∷ rest) (Err c.in-Err-2.kind)
    (plain_fails c.args.config.now first rest (Hex ∷ []) c.in-Err-2.kind (ap plain_roles text) (rw c.in-Err-2.is at c.in_ok-bytes.ensures)))

pub returns-then-not-all_digits-clause-read : goal.returns-then-not-all_digits-clause-read
returns-then-not-all_digits-clause-read c =
    let first = c.in-Some.first.now.now in
    let rest = map (λ word. word.now) c.in-Some.rest.now in
    let plain = no_plain first c.as_slice.result.now c.as_slice-2.result.now c.as_slice.ensures c.as_slice-2.ensures (other_text first c.as_slice.result.now c.if-eq.ensures) (other_text first c.as_slice-2.result.now c.if-eq-2.ensures) in
    rw c.in-Some.ensures.cases.0
    (live_read c.args.config.now (first ∷ rest) (Err BadWord) (other_fails c.args.config.now first rest BadWord plain (no_caller_word c.args.config.now first rest (sym c.if-not-all_digits.ensures))))

pub returns-clause-read : goal.returns-clause-read
returns-clause-read c =
    let first = c.in-Some.first.now.now in
    let rest = map (λ word. word.now) c.in-Some.rest.now in
    let plain = no_plain first c.as_slice.result.now c.as_slice-2.result.now c.as_slice.ensures c.as_slice-2.ensures (other_text first c.as_slice.result.now c.if-eq.ensures) (other_text first c.as_slice-2.result.now c.if-eq-2.ensures) in
    rw (c.with_caller.ensures, c.caller_of.ensures, c.in-Some.ensures.cases.0)
    (live_read c.args.config.now (first ∷ rest) (with_caller (caller_of first) c.in_ok-said.said)
    (caller_judged c.args.config.now first rest c.in_ok-said.said plain (sym c.if-not-all_digits.ensures) c.in_ok-said.ensures))
