use Rattle.std.proofs.Common.{◌≡◌, ◌<◌, ◌+◌, ℕ, List, Option, length, take, zip, flat_map, sym, ap, ◌∙◌, subst, arith}
use Rattle.dac_live.proofs.Common.{AllZip-long, Page, Line, Phase, LineAnswer, calls_of, Answers, LinesAnswered, own_in, own_of, spans_from, Follows, flat_more, zip_within, zip_at, zip_all, all_zip_at}
use Rattle.dac_live.proofs.Followed.{follows_append, follows_receipts}
use Rattle.dac_live.proofs.receipts.caller_follows.Goals as goal

-- the results fit the lines of a phase
abbrev fits : Phase → List LineAnswer → Type 0
fits p all = LinesAnswered p.lines.items all

-- the reads fit the lines of a phase
abbrev notes : Phase → List (Option Page) → Type 0
notes p noted = length noted ≡ length p.lines.items

pub bounds-answers-i : goal.bounds-answers-i
bounds-answers-i c = omega (arith, AllZip-long fits c.args.phases.now c.args.answers.now c.requires.answered)

pub bounds-reads-i : goal.bounds-reads-i
bounds-reads-i c = omega (arith, AllZip-long notes c.args.phases.now c.args.reads.now c.requires.noted)

pub follow_phase-requires-clause-answers : goal.follow_phase-requires-clause-answers
follow_phase-requires-clause-answers c =
    let here = all_zip_at fits c.args.phases.now c.args.answers.now c.loop-i.i c.index-phases-i.result c.index-answers-i.result c.requires.answered c.loop-i-test.true c.index-phases-i.is c.index-answers-i.is in
    ap length c.as_slice-in-loop-i-2.ensures
    ∙ AllZip-long (λ (line : Line) (answer : LineAnswer). Answers line.what answer) c.index-phases-i.result.lines.items c.index-answers-i.result here
    ∙ sym (ap length c.as_slice-in-loop-i.ensures.value)

pub follow_phase-requires-clause-reads : goal.follow_phase-requires-clause-reads
follow_phase-requires-clause-reads c =
    ap length c.as_slice-in-loop-i-3.ensures
    ∙ all_zip_at notes c.args.phases.now c.args.reads.now c.loop-i.i c.index-phases-i.result c.index-reads-i.result c.requires.noted c.loop-i-test.true c.index-phases-i.is c.index-reads-i.is
    ∙ sym (ap length c.as_slice-in-loop-i.ensures.value)

pub loop-i-preserved : goal.loop-i-preserved
loop-i-preserved c =
    let ps = c.args.phases.now in
    let gs = c.args.answers.now in
    let rs = c.args.reads.now in
    let i = c.loop-i.i in
    let p = c.index-phases-i.result in
    let given = c.index-answers-i.result in
    let noted = c.index-reads-i.result in
    let spans = c.in_ok-spans.spans.items in
    let own = own_in c.args.node.0 c.args.caller in
    let g = λ (q : Phase × (List LineAnswer × List (Option Page))). own q.0.lines.items q.1.0 q.1.1 in
    let long = AllZip-long fits ps gs c.requires.answered in
    let noted_long = AllZip-long notes ps rs c.requires.noted in
    let in_answers : i < length gs = omega arith in
    let in_reads : i < length rs = omega arith in
    let two = zip_within gs rs i in_answers in_reads in
    let both = zip_at gs rs i given noted in_answers in_reads c.index-answers-i.is c.index-reads-i.is in
    let within = zip_within ps (zip gs rs) i c.loop-i-test.true two in
    let at = zip_at ps (zip gs rs) i p (given, noted) c.loop-i-test.true two c.index-phases-i.is both in
    let zs = zip ps (zip gs rs) in
    let here : Follows spans c.loop-i.asked c.in-Some.more (own p.lines.items given noted) =
    subst (λ (x : List (ℕ × ℕ) × (List Line × (List LineAnswer × List (Option Page)))). Follows x.0 c.loop-i.asked c.in-Some.more (own x.1.0 x.1.1.0 x.1.1.1))
    (λ j. (c.as_slice.ensures.value j, (c.as_slice-in-loop-i.ensures.value j, (c.as_slice-in-loop-i-2.ensures j, c.as_slice-in-loop-i-3.ensures j)))) c.in-Some.ensures in
    let P : List (LineAnswer × Option Page) → Type 0 = λ xs. Follows spans 0 c.in-Some.more xs in
    subst P (sym (flat_more g zs i (p, (given, noted)) within at)) (follows_append spans 0 c.loop-i.asked c.in-Some.more (flat_map g (take i zs)) (own p.lines.items given noted) c.loop-i.invariant here)

pub returns : goal.returns
returns c =
    let ps = c.args.phases.now in
    let zs = zip c.args.answers.now c.args.reads.now in
    let g = λ (q : Phase × (List LineAnswer × List (Option Page))). own_in c.args.node.0 c.args.caller q.0.lines.items q.1.0 q.1.1 in
    let P : List (LineAnswer × Option Page) → Type 0 = λ xs. Follows c.in_ok-spans.spans.items 0 c.loop-i.asked xs in
    λ yes. follows_receipts (calls_of c.args.caller c.args.records.now) (length c.args.records.now + 1) c.in_ok-spans.spans.items c.loop-i.asked (own_of c.args.node.0 c.args.caller ps c.args.answers.now c.args.reads.now)
    (c.in_ok-spans.ensures ∙ ap (λ s. spans_from 0 (length c.args.records.now + 1) (calls_of s c.args.records.now)) c.from.ensures) (subst P (ap (flat_map g) (zip_all ps zs c.loop-i.i (omega arith))) c.loop-i.invariant)
