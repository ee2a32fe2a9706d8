use Rattle.std.proofs.Common.{◌≡◌, sym, ap, ◌∙◌}
use Rattle.dac_journal.specs.Journals.{JournalValue}
use Rattle.dac_sites.proofs.site.Site.close.Goals as goal

pub returns-clause-others : goal.returns-clause-others
returns-clause-others g c =
    let all : c.close.result.records ≡ c.records-2.result.now = ap (λ (j : JournalValue). j.records) c.close.ensures ∙ sym c.records-2.ensures.value in
    rw (all, sym c.as_slice-2.ensures.value) c.in_default-unseated_record.ensures
