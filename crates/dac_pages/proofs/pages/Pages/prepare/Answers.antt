use Rattle.std.proofs.Common.{◌≡◌, Some, drop, unwrap_or, sym, ap, ◌∙◌}
use Rattle.dac_pages.specs.Published.{PagesValue, published_by, ready_by, updated, latest}
use Rattle.dac_pages.proofs.Ready.{ready-push}
use Rattle.dac_pages.proofs.pages.Pages.prepare.Goals as goal
use Rattle.dac_pages.proofs.pages.Pages.prepare.Goals.{in-Ok, in-Err}

pub returns : goal.returns
returns c =
    let w = c.append.new.self in
    let before = c.in-Some.writer in
    let page = before.desk.shown.value in
    let us = drop before.behind before.log.items in
    let was : published_by (Some before) ≡ c.args.self.now = sym (ap published_by c.in-Some.is) ∙ c.self.view_is in
    let same : w.desk.shown.value ≡ page = ap (λ d. d.shown.value) c.append.ensures.desk in
    let shown : w.desk.shown.value ≡ c.args.self.now.shown = same ∙ ap (λ (v : PagesValue). v.shown) was in
    elim c.match-append.branch [
      | in-Ok r ↦
          let more : ready_by w.desk.shown.value (drop w.behind w.log.items) ≡ Some (updated (unwrap_or (ready_by page us) page) c.args.update) = (λ i. ready_by (same i) (r.in-Ok.ensures.pending i)) ∙ ready-push page us c.args.update in
          let ready : ready_by w.desk.shown.value (drop w.behind w.log.items) ≡ Some (updated (latest c.args.self.now) c.args.update) = more ∙ ap (λ (v : PagesValue). Some (updated (latest v) c.args.update)) was in
          rw r.result-is (λ i. record { shown = shown i; ready = ready i })
      | in-Err r ↦
          let ready : ready_by w.desk.shown.value (drop w.behind w.log.items) ≡ c.args.self.now.ready = (λ i. ready_by (same i) (r.in-Err.ensures.pending.1 i)) ∙ ap (λ (v : PagesValue). v.ready) was in
          rw r.result-is (λ i. record { shown = shown i; ready = ready i })
    ]
