use Rattle.std.proofs.Common.{arith, ap, length, length-append, [], ◌∷◌}
use Rattle.dac_journal.specs.Journals.{JournalValue}
use Rattle.dac_pages.specs.Published.{PagesValue}
use Rattle.dac_sites.specs.laws.Common.{Page}
use Rattle.dac_sites.proofs.laws.record_call.Goals as goal

pub publish-requires : goal.publish-requires
publish-requires g c =
    let ready = ap (λ (v : PagesValue). v.ready) c.in_ok-prepare_page.ensures in
    let shown = ap (λ (v : PagesValue). v.shown.place) c.in_ok-prepare_page.ensures in
    let before = ap (λ (p : Page). p.place) c.paged.invariant in
    let kept = ap (λ (j : JournalValue). length j.records) c.prepare.ensures.unchanged in
    let longer = length-append c.prepare.new.self.records (c.in_ok-next.next.entry ∷ []) in
    (_, ready, omega (arith, shown, before, kept, longer))
