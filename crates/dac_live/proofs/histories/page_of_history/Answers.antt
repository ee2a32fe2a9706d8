use Rattle.std.proofs.Common.{◌≡◌, List, length, take, ◌∙◌, subst, take_all, arith}
use Rattle.dac_live.proofs.Common.{Record, beginning_of, IsPageOf, page_there}
use Rattle.std.proofs.lemmas.List.Elements.{AllWithin-none}
use Rattle.dac_crews.specs.Journals.{EndsAt}
use Rattle.dac_journal.specs.laws.Going.{is_history}
use Rattle.dac_live.proofs.Repeated.{ends_on, ends_off}
use Rattle.dac_live.proofs.Passed.{pass_on, pass_all}
use Rattle.dac_live.proofs.histories.page_of_history.Goals as goal

pub loop-i-init : goal.loop-i-init
loop-i-init c =
    let o = beginning_of c.args.config.now c.args.me 0 in
    record {
      ends = ends_off o c.off-node.result c.off-node.ensures.value;
      within = omega arith;
      read = AllWithin-none (λ p. IsPageOf o c.args.records.now p.now) c.args.reads.now 0;
    }

pub loop-i-preserved : goal.loop-i-preserved
loop-i-preserved c =
    let o = beginning_of c.args.config.now c.args.me 0 in
    let rs = c.args.records.now in
    let i = c.loop-i.i in
    let before = c.loop-i.invariant in
    let step = c.in_ok-same.ensures c.if-not-same.false in
    record {
      ends = ends_on o rs i c.index-records-i.result c.loop-i.node c.repeats.new.node c.loop-i-test.true c.index-records-i.is before.ends step;
      within = c.in-Some.ensures.0;
      read = pass_on o rs c.args.reads.now i c.loop-i.node c.loop-i.next c.in-Some.to (omega arith) before.ends before.read c.in-Some.ensures.1;
    }

pub returns-in-Some-passed-clause-page : goal.returns-in-Some-passed-clause-page
returns-in-Some-passed-clause-page c =
    let o = beginning_of c.args.config.now c.args.me 0 in
    let rs = c.args.records.now in
    let ends : EndsAt o rs c.loop-i.node = subst (λ (xs : List Record). EndsAt o xs c.loop-i.node) (take_all c.loop-i.i rs c.loop-i-test.false) c.loop-i.invariant.ends in
    c.page_of.ensures ∙ page_there o rs c.loop-i.node ends

pub returns-in-Some-passed-clause-history : goal.returns-in-Some-passed-clause-history
returns-in-Some-passed-clause-history c =
    let o = beginning_of c.args.config.now c.args.me 0 in
    let rs = c.args.records.now in
    is_history o rs c.loop-i.node (subst (λ (xs : List Record). EndsAt o xs c.loop-i.node) (take_all c.loop-i.i rs c.loop-i-test.false) c.loop-i.invariant.ends)

pub returns-in-Some-passed-clause-reads : goal.returns-in-Some-passed-clause-reads
returns-in-Some-passed-clause-reads c =
    let o = beginning_of c.args.config.now c.args.me 0 in
    let rs = c.args.records.now in
    let read = c.args.reads.now in
    let at : c.loop-i.i ≡ length rs = omega arith in
    let ends : EndsAt o (take (length rs) rs) c.loop-i.node = subst (λ k. EndsAt o (take k rs) c.loop-i.node) at c.loop-i.invariant.ends in
    pass_all o rs read c.in-Some-passed.to c.if-to-reads.true
    (pass_on o rs read (length rs) c.loop-i.node c.loop-i.next c.in-Some-passed.to (omega arith) ends c.loop-i.invariant.read c.in-Some-passed.ensures.1)
