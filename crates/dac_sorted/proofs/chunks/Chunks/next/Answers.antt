use Rattle.std.proofs.Common.{◌<◌, ◌++◌, ◌∙◌, ap, length, subst, sym}
use Rattle.std.specs.Arc.{arc_value}
use Rattle.std.specs.List.{flat_map}
use Rattle.dac_sorted.specs.Digests.{SaysAll}
use Rattle.dac_sorted.proofs.ChunkLemmas.{filled_rest, filled_first, first_parted}
use Rattle.dac_sorted.proofs.chunks.Chunks.next.Goals as goal

pub invariant_of-self : goal.invariant_of-self
invariant_of-self g c = filled_rest arc_value c.self.inside.blocks.now c.in-Some.rest.now c.in-Some.block.now c.in-Some.ensures.cases.0 c.self.invariant

pub returns-in-Some : goal.returns-in-Some
returns-in-Some g c =
    let inside = c.self.inside in
    let is = c.in-Some.ensures.cases.0 in
    let here = c.entries.ensures ∙ c.deref-in-Some.ensures in
    record {
      parted =
          first_parted arc_value inside.blocks.now c.in-Some.rest.now c.in-Some.block.now inside.last.now c.args.self.now is c.self.view_is
          ∙ ap (λ l. l ++ (flat_map arc_value c.in-Some.rest.now ++ inside.last.now)) (sym here);
      some = subst (λ l. 0 < length l) (sym here) (filled_first arc_value inside.blocks.now c.in-Some.rest.now c.in-Some.block.now is c.self.invariant);
      said = subst (SaysAll (g.D.Digest.says c.digest.result.now)) (c.deref.ensures ∙ sym here) c.digest.ensures;
    }
