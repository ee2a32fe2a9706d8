use Rattle.std.proofs.Common.{◌∙◌, ap, arith, refl, subst, sym}
use Rattle.std.proofs.lemmas.Bool.{false≢true}
use Rattle.dac_dots.specs.Entries.{AreRows, counted, dots_of}
use Rattle.dac_dots.proofs.SetLemmas.{counted_append, counted_is, counted_some}
use Rattle.dac_dots.proofs.context.Context.has_at_most.Goals as goal

pub returns-then-len-most : goal.returns-then-len-most
returns-then-len-most c =
    let some = counted_some c.self.inside.rows c.self.invariant in
    let all = counted_is c.self.inside.rows c.args.self.now c.self.view_is c.self.invariant in
    let long = c.len.ensures.value in
    let more = c.if-len-most.true in
    (λ e. absurd (false≢true e), λ few. absurd (omega (arith, some, all, long, more, few)))

pub loop-chunk-preserved : goal.loop-chunk-preserved
loop-chunk-preserved c =
    let parted = ap counted c.in-Some.ensures.parted ∙ counted_append c.in-Some.chunk.entries.now c.next.new.self in
    let left = c.in-Some-room_after.ensures in
    let so_far = c.loop-chunk.invariant in
    omega (arith, parted, left, so_far)

pub returns-in-None : goal.returns-in-None
returns-in-None c =
    let parted = ap counted c.in-Some.ensures.parted ∙ counted_append c.in-Some.chunk.entries.now c.next.new.self in
    let over = c.in-None.ensures in
    let so_far = c.loop-chunk.invariant in
    let all = counted_is c.chunks-chunks.result c.args.self.now (ap dots_of c.chunks-chunks.ensures ∙ c.self.view_is) (subst AreRows (sym c.chunks-chunks.ensures) c.self.invariant) in
    (λ e. absurd (false≢true e), λ few. absurd (omega (arith, parted, over, so_far, all, few)))

pub returns : goal.returns
returns c =
    let none = ap counted c.in_default.ensures.0 in
    let so_far = c.loop-chunk.invariant in
    let all = counted_is c.chunks-chunks.result c.args.self.now (ap dots_of c.chunks-chunks.ensures ∙ c.self.view_is) (subst AreRows (sym c.chunks-chunks.ensures) c.self.invariant) in
    (λ _. omega (arith, none, so_far, all), λ _. refl)
