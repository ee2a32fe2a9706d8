use Rattle.std.proofs.Common.{◌%◌, ◌/◌, ◌+◌, ◌∷◌, [], ◌∙◌, append_assoc, decimal, arith}
use Rattle.std.proofs.lemmas.Fmt.{decimal_step_wide}
use Rattle.dac_play.proofs.texts.+put_large_number.Goals as goal

pub returns : goal.returns
returns t c =
    let pushed = rw c.in_ok-put_large_number.ensures at c.in_ok-push.ensures.items in
    rw (decimal_step_wide c.args.number (omega arith) (omega arith)) (pushed ∙ append_assoc c.args.text.now.items (decimal (c.args.number / 10)) ((48 + c.args.number % 10) ∷ []))
