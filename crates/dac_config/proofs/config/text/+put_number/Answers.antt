use Rattle.std.proofs.Common.{◌≡◌, ◌%◌, arith}
use Rattle.std.proofs.lemmas.Fmt.{decimal_step, decimal_digit}
use Rattle.dac_config.proofs.Gaining.{then}
use Rattle.dac_config.proofs.config.text.+put_number.Goals.{then-number-ge10, else-number-ge10}
use Rattle.dac_config.proofs.config.text.+put_number.Goals as goal

pub returns : goal.returns
returns g t c = elim c.if-number-ge10.branch [
  | then-number-ge10 w ↦
      rw (decimal_step c.args.number (omega (arith, w.if-number-ge10)) (omega arith)) (then w.put_number.ensures (rw w.sink-is at c.put.ensures))
  | else-number-ge10 w ↦
      let small : c.args.number % 10 ≡ c.args.number = omega (arith, w.if-number-ge10) in
      rw (decimal_digit c.args.number (omega (arith, w.if-number-ge10))) (rw (w.sink-is, small) at c.put.ensures)
]
