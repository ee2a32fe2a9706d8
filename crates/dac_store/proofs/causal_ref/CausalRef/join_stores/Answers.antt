use Rattle.std.proofs.Common.{rules, ◌≡◌, ◌∙◌, IfOk, sym, ap, subst}
use Rattle.dac_lattice.specs.laws.Joins.{join_comm}
use Rattle.dac_store.specs.laws.Stores.{causal_laws}
use Rattle.dac_store.proofs.causal_ref.CausalRef.join_stores.Goals as goal

pub returns-then-leaves : goal.returns-then-leaves
returns-then-leaves g c =
    let join = g.S.DotStore.join in
    let mine = c.args.self.now in
    let theirs = c.args.other.now in
    let stays : join mine.store mine.context theirs.store theirs.context ≡ mine.store =
    ap (λ t. join mine.store mine.context t theirs.context) (c.leaves.ensures.nothing c.if-leaves.true)
    ∙ g.met.S.DotStore.laws.alone mine.store mine.context theirs.context c.tells_invariant.ensures.store (c.leaves.ensures.unheard c.if-leaves.true) in
    subst (λ s. IfOk c.copy.result (λ joined. joined ≡ s)) (ap (λ v. v.store) c.self.view_is ∙ sym stays) c.copy.ensures

pub returns-then-leaves-2 : goal.returns-then-leaves-2
returns-then-leaves-2 g c =
    let join = g.S.DotStore.join in
    let mine = c.args.self.now in
    let theirs = c.args.other.now in
    let stays : join mine.store mine.context theirs.store theirs.context ≡ theirs.store =
    ap (λ s. join s mine.context theirs.store theirs.context) (c.leaves-2.ensures.nothing c.if-leaves-2.true)
    ∙ g.met.S.DotStore.laws.alone_right theirs.store theirs.context mine.context c.tells_invariant-2.ensures.store (c.leaves-2.ensures.unheard c.if-leaves-2.true) in
    subst (λ s. IfOk c.copy-then-leaves-2.result (λ joined. joined ≡ s)) (ap (λ v. v.store) c.other.view_is ∙ sym stays) c.copy-then-leaves-2.ensures

pub returns-then-is_much_smaller : goal.returns-then-is_much_smaller
returns-then-is_much_smaller g c =
    let join = g.S.DotStore.join in
    let mine = c.args.self.now in
    let theirs = c.args.other.now in
    let turned : join theirs.store theirs.context mine.store mine.context ≡ join mine.store mine.context theirs.store theirs.context =
    ap (λ v. v.store) (join_comm (causal_laws g.met.S.DotStore.laws) theirs mine c.tells_invariant-2.ensures c.tells_invariant.ensures) in
    let made : IfOk c.join_in.result (λ joined. joined ≡ join theirs.store theirs.context mine.store mine.context) = search rules in
    subst (λ s. IfOk c.join_in.result (λ joined. joined ≡ s)) turned made
