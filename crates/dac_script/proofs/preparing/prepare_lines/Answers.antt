use Rattle.dac_script.specs.laws.Common.{err_from_is_err_and, IsInputFailure}
use Rattle.dac_script.specs.Inputs.{SaysAll}
use Rattle.dac_script.specs.laws.WholeInput.{of_bytes, read_fails, parts_fail, left_by_parts}
use Rattle.dac_script.proofs.preparing.prepare_lines.Goals as goal

pub returns-in_err-text-clause-fails : goal.returns-in_err-text-clause-fails
returns-in_err-text-clause-fails g c =
    let p = err_from_is_err_and c.from_residual.result c.from_residual.ensures.1 in
    rw (p.1, p.2) (read_fails g.L.ReadsLine.spells g.L.ReadsLine.has_fault _ _ c.in_err-text.ensures.failed)

pub returns-in_err-both-clause-fails : goal.returns-in_err-both-clause-fails
returns-in_err-both-clause-fails g c =
    let p = err_from_is_err_and c.from_residual-in_err-both.result c.from_residual-in_err-both.ensures.1 in
    let fails = parts_fail g.L.ReadsLine.spells g.L.ReadsLine.has_fault c.in_ok-text.text.items _ c.in_ok-text.ensures.short (rw c.deref.ensures.value at c.in_err-both.ensures.fails) in
    rw (p.1, p.2) (of_bytes _ c.in_ok-text.text.items (λ bytes. IsInputFailure g.L.ReadsLine.spells g.L.ReadsLine.has_fault bytes c.in_err-both.field-0.0) c.in_ok-text.ensures.whole fails)

pub returns-in_err-both-clause-reads : goal.returns-in_err-both-clause-reads
returns-in_err-both-clause-reads g c =
    let p = err_from_is_err_and c.from_residual-in_err-both.result c.from_residual-in_err-both.ensures.1 in
    rw (p.1, p.2) (left_by_parts g.L.ReadsLine.spells g.L.ReadsLine.has_fault c.in_ok-text.text.items _ _ c.in_ok-text.ensures.reads (rw c.deref.ensures.value at c.in_err-both.ensures.fails))

pub returns-clause-says : goal.returns-clause-says
returns-clause-says g c =
    let says : SaysAll g.L.ReadsLine.spells g.L.ReadsLine.has_fault c.in_ok-text.text.items c.in_ok-both.both.0 c.in_ok-both.both.1.items = record { taken = c.in_ok-text.ensures.short; parts = rw c.deref.ensures.value at c.in_ok-both.ensures.says } in
    of_bytes _ c.in_ok-text.text.items (λ bytes. SaysAll g.L.ReadsLine.spells g.L.ReadsLine.has_fault bytes c.in_ok-both.both.0 c.in_ok-both.both.1.items) c.in_ok-text.ensures.whole says
