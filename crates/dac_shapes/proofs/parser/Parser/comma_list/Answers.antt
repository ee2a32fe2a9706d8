use Rattle.std.proofs.Common.{◌≡◌, ◌++◌, ◌∷◌, [], map, arith}
use Rattle.std.proofs.lemmas.List.{map_push}
use Rattle.dac_shapes.proofs.Loops.{failed, fails_reading, fails_after, ends, fails_at_token, goes_on}
use Rattle.dac_shapes.proofs.parser.Parser.comma_list.Goals as goal

pub returns-in_err-element-clause-read : goal.returns-in_err-element-clause-read
returns-in_err-element-clause-read g c =
    rw (failed _ _ c.from_residual.ensures.1) (fails_reading g.E.Elements.read_at c.args.close c.loop-all.invariant.goes _ (rw c.deref.ensures.value at c.in_err-element.ensures.read))

pub returns-in_err-more-clause-read : goal.returns-in_err-more-clause-read
returns-in_err-more-clause-read g c =
    rw (failed _ _ c.from_residual-in_err-more.ensures.1) (fails_after g.E.Elements.read_at c.args.close c.loop-all.invariant.goes (rw c.deref.ensures.value at c.in_ok-element.ensures.read) _ c.in_err-more.ensures.read)

pub returns-then-not-branch-clause-read : goal.returns-then-not-branch-clause-read
returns-then-not-branch-clause-read g c =
    let said = g.E.Elements.said in
    let pushed : map said c.push.new.self.items ≡ map said c.loop-all.all.items ++ said c.in_ok-element.element ∷ [] = rw c.in_ok-push.ensures.items (map_push said c.loop-all.all.items c.in_ok-element.element) in
    rw pushed (ends g.E.Elements.read_at c.args.close c.loop-all.invariant.goes (rw c.deref.ensures.value at c.in_ok-element.ensures.read) (rw c.if-not-branch.true at c.in_ok-more.ensures.read))

pub returns-in_err-advance-clause-read : goal.returns-in_err-advance-clause-read
returns-in_err-advance-clause-read g c =
    rw (failed _ _ c.from_residual-in_err-advance.ensures.1) (fails_at_token g.E.Elements.read_at c.args.close c.loop-all.invariant.goes (rw c.deref.ensures.value at c.in_ok-element.ensures.read) _ (rw c.if-not-branch.false at c.in_ok-more.ensures.read) c.in_err-advance.ensures.read)

pub loop-all-preserved : goal.loop-all-preserved
loop-all-preserved g c =
    let said = g.E.Elements.said in
    let pushed : map said c.push.new.self.items ≡ map said c.loop-all.all.items ++ said c.in_ok-element.element ∷ [] = rw c.in_ok-push.ensures.items (map_push said c.loop-all.all.items c.in_ok-element.element) in
    let fewer = c.in_ok-more.ensures.fewer c.if-not-branch.false in
    record {
      goes = rw pushed (goes_on g.E.Elements.read_at c.args.close c.loop-all.invariant.goes (rw c.deref.ensures.value at c.in_ok-element.ensures.read) (rw c.if-not-branch.false at c.in_ok-more.ensures.read) c.in_ok-advance.ensures.read
          (omega (arith, fewer, c.in_ok-advance.ensures.left, c.in_ok-element.ensures.left)));
      left = omega (arith, fewer, c.in_ok-advance.ensures.left, c.in_ok-element.ensures.left);
    }
