use Rattle.std.proofs.Common.{◌∙◌, sym}
use Rattle.std.specs.Option.{option_copied}
use Rattle.dac_store.proofs.JoinLemmas.{absorbed, dropped, keyed_put, keyed_without}
use Rattle.dac_store.proofs.dot_map.DotMap.absorb_at.Goals as goal

pub invariant_of-self-then-is_empty : goal.invariant_of-self-then-is_empty
invariant_of-self-then-is_empty g c = rw c.in_ok-remove.ensures.ok (keyed_without g.met.K.Ord.total g.S.DotStore.is_store g.S.DotStore.is_empty c.self.inside.map c.args.key c.self.invariant)

pub returns-then-is_empty-clause-joined : goal.returns-then-is_empty-clause-joined
returns-then-is_empty-clause-joined g c = λ _.
    (rw c.self.view_is at c.in_ok-remove.ensures.ok)
    ∙ dropped g.met.K.Ord.total g.met.K.MapKey.exact g.met.S.DotStore.laws c.args.how.now.mine.now c.args.how.now.theirs.now c.args.self.now c.args.key (option_copied c.args.theirs) c.in_ok-joined.joined
    (rw c.self.view_is at c.self.invariant) (c.are_others_unheard.ensures c.if-not-are_others_unheard.false) (rw c.get.ensures at c.in_ok-joined.ensures) (sym c.is_empty.ensures ∙ c.if-is_empty.true)

pub invariant_of-self-2 : goal.invariant_of-self-2
invariant_of-self-2 g c =
    rw c.in_ok-put.ensures.ok
    (keyed_put g.met.K.Ord.total g.S.DotStore.is_store g.S.DotStore.is_empty c.self.inside.map c.args.key c.in_ok-joined.joined c.self.invariant c.tells_invariant.ensures (sym c.is_empty.ensures ∙ c.if-is_empty.false))

pub returns-clause-joined : goal.returns-clause-joined
returns-clause-joined g c = λ _.
    (rw c.self.view_is at c.in_ok-put.ensures.ok)
    ∙ absorbed g.met.K.Ord.total g.met.K.MapKey.exact g.met.S.DotStore.laws c.args.how.now.mine.now c.args.how.now.theirs.now c.args.self.now c.args.key (option_copied c.args.theirs) c.in_ok-joined.joined
    (rw c.self.view_is at c.self.invariant) (c.are_others_unheard.ensures c.if-not-are_others_unheard.false) (rw c.get.ensures at c.in_ok-joined.ensures) (sym c.is_empty.ensures ∙ c.if-is_empty.false)
