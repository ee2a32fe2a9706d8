use Rattle.std.proofs.Common.{map, sym, ap, ◌∙◌, arith}
use Rattle.dac_config.proofs.Common.{cond-true, cond-false, at_drop_all, is_among, names_of, numbers_from, node_row}
use Rattle.dac_config.proofs.Tables.{all_pushed}
use Rattle.dac_config.proofs.Numbers.{numbers_more}
use Rattle.dac_config.proofs.config.number.numbers_of.Goals.{then-is_among+in_ok-push, else-is_among}
use Rattle.dac_config.proofs.config.number.numbers_of.Goals as goal

pub loop-number-preserved : goal.loop-number-preserved
loop-number-preserved c =
    numbers_more c.loop-number.numbers.items c.if-is_among.numbers.items c.loop-number.number c.args.nodes.now c.index-nodes-number.result (names_of c.args.group.now) _ c.is_among.result c.index-nodes-number.is c.loop-number-test.true
    (c.is_among.ensures ∙ ap (λ name. is_among name (names_of c.args.group.now)) c.deref.ensures.value)
    (elim c.if-is_among.branch [
      | then-is_among+in_ok-push w ↦ ap (λ numbers. numbers.items) w.numbers-is ∙ w.in_ok-push.ensures.items ∙ sym (cond-true _ _ _ w.if-is_among.true)
      | else-is_among w ↦ ap (λ numbers. numbers.items) w.numbers-is ∙ sym (cond-false _ _ _ w.if-is_among.false)
    ])
    c.loop-number.invariant

pub overflow_cast-number : goal.overflow_cast-number
overflow_cast-number c = omega (arith, c.requires, c.loop-number-test.true)

pub returns : goal.returns
returns c = all_pushed _ _ _ (at_drop_all (λ nodes. numbers_from c.loop-number.number (map node_row nodes) (names_of c.args.group.now)) c.args.nodes.now c.loop-number.number c.loop-number-test.false) c.loop-number.invariant
