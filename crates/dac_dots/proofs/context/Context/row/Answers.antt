use Rattle.std.proofs.Common.{◌∙◌, Some, ap, sym, arith}
use Rattle.dac_dots.specs.Rows.{further_of, reach_of}
use Rattle.dac_dots.specs.laws.RowLaws.{rows_tell}
use Rattle.dac_dots.specs.laws.EntryRows.{rows_length, row_at, no_row, some_at}
use Rattle.dac_dots.proofs.context.Context.row.Goals as goal

pub returns-then-i-len : goal.returns-then-i-len
returns-then-i-len c =
    let all = rows_length c.self.inside.rows c.args.self.now c.self.view_is c.self.invariant in
    let len = c.len.ensures in
    let past = c.if-i-len.true in
    record { value = omega (arith, all, len.value, past); few = omega (arith, all, len.value, len.few); rows = rows_tell c.args.self.now }

pub returns-in_err-origin : goal.returns-in_err-origin
returns-in_err-origin c =
    let all = rows_length c.self.inside.rows c.args.self.now c.self.view_is c.self.invariant in
    let len = c.len.ensures in
    record {
      value = rw c.from_residual.ensures (no_row c.self.inside.rows c.args.self.now c.self.view_is c.self.invariant c.args.i c.in_err-origin.ensures);
      few = omega (arith, all, len.value, len.few);
      rows = rows_tell c.args.self.now;
    }

pub invariant_of-result : goal.invariant_of-result
invariant_of-result c = (some_at c.self.inside.rows c.args.self.now c.self.view_is c.self.invariant c.args.i c.in_ok-origin.field-0.now (sym c.in_ok-origin.ensures)).0

pub returns : goal.returns
returns c =
    let e = c.in_ok-origin.field-0.now in
    let all = rows_length c.self.inside.rows c.args.self.now c.self.view_is c.self.invariant in
    let len = c.len.ensures in
    record {
      value = row_at c.self.inside.rows c.args.self.now c.self.view_is c.self.invariant c.args.i e (sym c.in_ok-origin.ensures) ∙ ap (λ upto. Some (record { origin = e.0; upto = upto; further = further_of (reach_of e.1) e.1 })) (sym c.upto.ensures);
      few = omega (arith, all, len.value, len.few);
      rows = rows_tell c.args.self.now;
    }
