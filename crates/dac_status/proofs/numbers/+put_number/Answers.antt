use Rattle.std.proofs.Common.{◌≡◌, ◌%◌, ◌/◌, ◌+◌, ◌∷◌, [], ◌∙◌, append_assoc, decimal, arith}
use Rattle.std.proofs.lemmas.Fmt.{decimal_step, decimal_digit}
use Rattle.dac_status.proofs.numbers.+put_number.Goals.{then-number-ge10+in_ok-put_number, else-number-ge10}
use Rattle.dac_status.proofs.numbers.+put_number.Goals as goal

pub returns : goal.returns
returns t c = elim c.if-number-ge10.branch [
  | then-number-ge10+in_ok-put_number w ↦
      let pushed = rw (w.text-is, w.in_ok-put_number.ensures) at c.in_ok-push.ensures.items in
      rw (decimal_step c.args.number (omega (arith, w.if-number-ge10)) (omega arith)) (pushed ∙ append_assoc c.args.text.now.items (decimal (c.args.number / 10)) ((48 + c.args.number % 10) ∷ []))
  | else-number-ge10 w ↦
      let small : c.args.number % 10 ≡ c.args.number = omega (arith, w.if-number-ge10) in
      rw (decimal_digit c.args.number (omega (arith, w.if-number-ge10))) (rw (w.text-is, small) at c.in_ok-push.ensures.items)
]
