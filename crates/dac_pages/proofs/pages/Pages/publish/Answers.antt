use Rattle.std.proofs.Common.{◌≡◌, None, Some, drop, sym, ap, ◌∙◌, arith}
use Rattle.dac_pages.specs.declared.page.Page.{Page}
use Rattle.dac_pages.specs.Published.{PagesValue, published_by, ready_by}
use Rattle.dac_pages.proofs.Ready.{taken_in, ready-none, if_ok}
use Rattle.dac_pages.proofs.Places.{rises}
use Rattle.dac_pages.proofs.pages.Pages.publish.Goals as goal

pub publish_as-writer-requires : goal.publish_as-writer-requires
publish_as-writer-requires g c next is =
    let w = c.unwrap-writer.result in
    let was = w.desk.shown.value in
    let same : c.self.inside.writer ≡ Some w = sym c.take.ensures.value ∙ c.unwrap-writer.ensures in
    let value : published_by (Some w) ≡ c.args.self.now = sym (ap published_by same) ∙ c.self.view_is in
    let page = c.requires.0 in
    let ready : ready_by was (drop w.behind w.log.items) ≡ Some page = ap (λ (v : PagesValue). v.ready) value ∙ c.requires.1 in
    let is_page : next ≡ page = is ∙ taken_in (drop w.behind w.log.items) was page ready in
    let before : was.place ≡ c.args.self.now.shown.place = ap (λ (v : PagesValue). v.shown.place) value in
    let now : next.place ≡ page.place = ap (λ (p : Page). p.place) is_page in
    rises _ _ w.desk.shown.value next (omega (arith, before, now, c.requires.2))

pub returns : goal.returns
returns g c =
    let w = c.unwrap-writer.result in
    let was = w.desk.shown.value in
    let after = c.publish_as-writer.result.0 in
    let same : c.self.inside.writer ≡ Some w = sym c.take.ensures.value ∙ c.unwrap-writer.ensures in
    let value : published_by (Some w) ≡ c.args.self.now = sym (ap published_by same) ∙ c.self.view_is in
    let page = c.requires.0 in
    let ready : ready_by was (drop w.behind w.log.items) ≡ Some page = ap (λ (v : PagesValue). v.ready) value ∙ c.requires.1 in
    let done = if_ok _ c.publish_as-writer.result.1 (c.publish_as-writer.ensures.succeeds tt) c.publish_as-writer.ensures.values in
    let shown : after.desk.shown.value ≡ page = done.0 ∙ taken_in (drop w.behind w.log.items) was page ready in
    let none : ready_by after.desk.shown.value (drop after.behind after.log.items) ≡ None = ready-none after.desk.shown.value (drop after.behind after.log.items) done.1 in
    rw c.put_back.ensures (ap Some shown ∙ sym c.requires.1, none)
