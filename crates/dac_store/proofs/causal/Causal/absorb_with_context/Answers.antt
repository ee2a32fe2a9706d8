use Rattle.std.proofs.Common.{◌≡◌, ◌∙◌, ap, sym}
use Rattle.std.specs.FinSet as set
use Rattle.dac_store.specs.laws.Stores.{within_join}
use Rattle.dac_store.proofs.causal.Causal.absorb_with_context.Goals as goal

pub invariant_of-self-2 : goal.invariant_of-self-2
invariant_of-self-2 g c =
    let join = g.S.DotStore.join in
    let mine = c.self.inside in
    let theirs = c.args.other.now in
    let made : c.absorb_store.new.store ≡ join mine.store mine.context theirs.store theirs.context = c.in_ok-absorb_store.ensures.ok ∙ ap (λ v. join mine.store mine.context v.store v.context) c.borrowed.ensures in
    let union : c.args.union ≡ set.union mine.context theirs.context = c.requires ∙ ap (λ v. set.union v.context theirs.context) (sym c.self.view_is) in
    rw (made, union) (within_join g.met.S.DotStore.laws mine.store mine.context theirs.store theirs.context c.self.invariant c.tells_invariant-2.ensures)
