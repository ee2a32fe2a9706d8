use Rattle.std.proofs.Common.{◌≤◌, length, arith, rules}
use Rattle.std.proofs.lemmas.Result.{IfOk-at_ok, err_from_is_err_and}
use Rattle.dac_tokens.proofs.Texts.{next_taken}
use Rattle.dac_tokens.proofs.Word.{word_no_more}
use Rattle.dac_tokens.proofs.tokens.Tokens.next.Goals as goal

pub returns-in_err-token : goal.returns-in_err-token
returns-in_err-token c =
    let p = err_from_is_err_and c.from_residual.result c.from_residual.ensures.1 in
    let t = next_taken c.self.inside.end c.self.inside.depth c.self.inside.rest.now c.after_gap-bytes.result.now c.args.self.now _ c.self.invariant.0 c.self.invariant.1 c.self.view_is c.after_gap-bytes.ensures.rest c.after_gap-bytes.ensures.within c.in_err-token.ensures in
    record { taken = rw (p.1, p.2) t.0; fault = rw (p.1, p.2) t.1; left = search rules; fewer = rw p.1 tt; err = search rules }

pub returns-in_err-self-inside : goal.returns-in_err-self-inside
returns-in_err-self-inside c =
    let p = err_from_is_err_and c.from_residual-in_err-self-inside.result c.from_residual-in_err-self-inside.ensures.1 in
    let t = rw c.in_err-self-inside.ensures.after at (next_taken c.self.inside.end c.self.inside.depth c.self.inside.rest.now c.after_gap-bytes.result.now c.args.self.now _ c.self.invariant.0 c.self.invariant.1 c.self.view_is c.after_gap-bytes.ensures.rest c.after_gap-bytes.ensures.within c.in_ok-token.ensures) in
    record { taken = rw (p.1, p.2) t.0; fault = rw (p.1, p.2) t.1; left = search rules; fewer = rw p.1 tt; err = search rules }

-- the rest is no longer than the bytes after the gap
pub invariant_of-self : goal.invariant_of-self
invariant_of-self c =
    let h = IfOk-at_ok (λ x. length x.1 ≤ length c.after_gap-bytes.result.now) c.in_ok-token.ensures (word_no_more _ _) in
    (omega (arith, h, c.after_gap-bytes.ensures.within, c.self.invariant.0), c.in_ok-self-inside.ensures.within)

pub returns : goal.returns
returns c =
    let t = rw c.in_ok-self-inside.ensures.after at (next_taken c.self.inside.end c.self.inside.depth c.self.inside.rest.now c.after_gap-bytes.result.now c.args.self.now _ c.self.invariant.0 c.self.invariant.1 c.self.view_is c.after_gap-bytes.ensures.rest c.after_gap-bytes.ensures.within c.in_ok-token.ensures) in
    record { taken = t.0; fault = tt; left = t.1; fewer = t.2; err = tt }
