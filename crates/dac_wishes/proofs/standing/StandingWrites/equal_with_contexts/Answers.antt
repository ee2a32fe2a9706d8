use Rattle.std.proofs.Common.{◌∙◌, sym}
use Rattle.std.proofs.lemmas.Bool.{false≢true}
use Rattle.dac_wishes.specs.StoredStanding.{stored_standing}
use Rattle.dac_wishes.proofs.StandingStoring.{same_permits, same_starts, same_drains}
use Rattle.dac_wishes.proofs.standing.StandingWrites.equal_with_contexts.Goals as goal

pub has_same_store-requires : goal.has_same_store-requires
has_same_store-requires c = rw (c.of-starts.ensures, c.of.ensures) (rw (← c.self.view_is, ← c.other.view_is) at c.requires)

pub has_same_store-requires-2 : goal.has_same_store-requires-2
has_same_store-requires-2 c = rw (c.of-permits.ensures, c.of-2.ensures) (rw (← c.self.view_is, ← c.other.view_is) at c.requires)

pub has_same_store-requires-3 : goal.has_same_store-requires-3
has_same_store-requires-3 c = rw (c.of-drains.ensures, c.of-3.ensures) (rw (← c.self.view_is, ← c.other.view_is) at c.requires)

pub returns-then-not-has_same_store : goal.returns-then-not-has_same_store
returns-then-not-has_same_store c =
    let test = rw (c.of-starts.ensures, c.of.ensures) at c.has_same_store.ensures in
    rw (← c.self.view_is, ← c.other.view_is)
    (λ e. absurd (false≢true e), λ same. absurd (false≢true (sym c.if-not-has_same_store.true ∙ test.1 (same_starts c.self.invariant c.other.invariant same))))

pub returns-then-not-has_same_store-2 : goal.returns-then-not-has_same_store-2
returns-then-not-has_same_store-2 c =
    let test = rw (c.of-permits.ensures, c.of-2.ensures) at c.has_same_store-2.ensures in
    rw (← c.self.view_is, ← c.other.view_is)
    (λ e. absurd (false≢true e), λ same. absurd (false≢true (sym c.if-not-has_same_store-2.true ∙ test.1 (same_permits c.self.invariant c.other.invariant same))))

pub returns : goal.returns
returns c =
    let starts = (rw (c.of-starts.ensures, c.of.ensures) at c.has_same_store.ensures).0 c.if-not-has_same_store.false in
    let permits = (rw (c.of-permits.ensures, c.of-2.ensures) at c.has_same_store-2.ensures).0 c.if-not-has_same_store-2.false in
    let drains = rw (c.of-drains.ensures, c.of-3.ensures) at c.has_same_store-3.ensures in
    rw (← c.self.view_is, ← c.other.view_is) (
      λ e i. stored_standing (starts i).context (permits i).store (starts i).store (drains.0 e i).store,
      λ same. drains.1 (same_drains c.self.invariant c.other.invariant same),
    )
