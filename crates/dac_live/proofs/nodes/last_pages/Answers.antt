use Rattle.std.proofs.Common.{◌≡◌, ℕ, [], All, subst, arith}
use Rattle.dac_live.proofs.Common.{beginning_of, IsTrueOf, journal_at, records_at, IsPageOf, pages_read}
use Rattle.std.proofs.lemmas.Grind.{common_steps}
use Rattle.std.proofs.lemmas.List.{get_or_read}
use borrow.Author.Count.{below_more}
use Rattle.dac_crews.specs.Journals.{JournalValue, nowhere}
use Rattle.dac_live.proofs.nodes.last_pages.Goals as goal

pub loop-i-preserved : goal.loop-i-preserved
loop-i-preserved c =
    let t = c.args.config.now in
    let js = c.args.closed.now in
    let ps = c.args.phases.now in
    let rs = c.args.reads.now in
    let there : c.index-closed-i.result ≡ journal_at js c.loop-i.i = get_or_read js _ _ c.loop-i-test.true c.index-closed-i.is (record { beginning = nowhere; records = [] }) in
    let here = λ (k : ℕ) (j : JournalValue). All (IsPageOf (beginning_of t (record { 0 = k }) 0) j.records) (pages_read k ps rs) in
    record {
      pages = grind (arith, common_steps);
      read = grind (arith, common_steps);
      reads = below_more (λ (k : ℕ). All (IsPageOf (beginning_of t (record { 0 = k }) 0) (records_at js k)) (pages_read k ps rs)) c.loop-i.i c.loop-i.invariant.reads
          (subst (here c.loop-i.i) there c.in_ok-page.ensures.reads);
      histories = below_more (λ (k : ℕ). IsTrueOf t (journal_at js k)) c.loop-i.i c.loop-i.invariant.histories (subst (IsTrueOf t) there c.in_ok-page.ensures.history);
      nodes = grind (arith, common_steps);
    }
