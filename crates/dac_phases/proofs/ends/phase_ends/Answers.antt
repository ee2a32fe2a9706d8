use Rattle.std.proofs.Common.{ℕ, List, Bor, length, map, sym, ap, subst, ◌∙◌, arith}
use Rattle.dac_phases.specs.laws.Common.{map_push, Record, JournalValue, AreParted}
use Rattle.std.specs.Global.{Vec}
use Rattle.dac_phases.specs.Ends.{no_ends, lengths_of, ends_before, rows_of, HasCallers, HaveLengths}
use Rattle.dac_phases.proofs.Ended.{walked_first, walked_on, walked_last, lent_long}
use Rattle.dac_phases.proofs.ends.phase_ends.Goals as goal

pub parted-requires : goal.parted-requires
parted-requires c = omega (arith, ap length c.as_slice.ensures.value, lent_long c.args.closed.now c.loop-i.journals.items c.loop-i.invariant.long, c.requires.few)

pub ends_before-requires : goal.ends_before-requires
ends_before-requires c =
    omega (arith, ap length c.as_slice-in-loop-i.ensures.value, c.in_ok-_parts.ensures.rests, ap length c.as_slice.ensures.value, lent_long c.args.closed.now c.loop-i.journals.items c.loop-i.invariant.long)

pub loop-i-init : goal.loop-i-init
loop-i-init c = walked_first c.args.phases.now c.args.closed.now _ _ c.requires.seats c.requires.falls c.in_ok-journals.ensures (ap rows_of c.new-ends.ensures.items)

pub loop-i-preserved : goal.loop-i-preserved
loop-i-preserved c =
    let own = λ (j : JournalValue). j.records in
    let now = λ (r : Bor (List Record)). r.now in
    let js = map own c.args.closed.now in
    let phase = c.index-phases-i.result in
    let parts = map now c.in_ok-_parts._parts.items in
    let rests = map now c.in_ok-_parts.rests.items in
    walked_on c.args.phases.now js (no_ends c.args.closed.now) (lengths_of c.args.closed.now) c.loop-i.i (map now c.loop-i.journals.items) (rows_of c.loop-i.ends.items) c.loop-i.invariant phase c.loop-i-test.true c.index-phases-i.is
    (subst HasCallers (sym c.index-phases-i.is) (c.requires.callers c.loop-i.i phase c.loop-i-test.true))
    parts rests
    (subst (λ (l : List (Bor (List Record))). AreParted (map now l) parts rests) c.as_slice.ensures.value c.in_ok-_parts.ensures.parted)
    (subst (λ (l : List (Bor (List Record))). HaveLengths phase (map now l) parts) c.as_slice.ensures.value c.in_ok-_parts.ensures.lengths)
    c.in_ok-row.row.items (c.in_ok-row.ensures ∙ ap (λ (l : List (Bor (List Record))). ends_before js (map now l)) c.as_slice-in-loop-i.ensures.value)
    (rows_of c.push.new.self.items) (ap rows_of c.in_ok-push.ensures.items ∙ map_push (λ (row : Vec ℕ). row.items) c.loop-i.ends.items c.in_ok-row.row)

pub returns : goal.returns
returns c = walked_last c.args.phases.now c.args.closed.now c.loop-i.i _ _ c.loop-i.invariant c.loop-i-test.false
