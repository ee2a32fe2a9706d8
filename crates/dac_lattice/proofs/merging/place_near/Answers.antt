use Rattle.std.proofs.Common.{◌∙◌, ap, sym}
use Rattle.std.specs.FinMap.{find}
use Rattle.std.specs.Ordering.{is_eq}
use Rattle.dac_origins.specs.laws.InOrder.{tie}
use Rattle.dac_lattice.specs.laws.EntryLaws.{find_at}
use Rattle.dac_lattice.proofs.merging.place_near.Goals as goal

-- the entry at the index has the key
pub returns-in-Some : goal.returns-in-Some
returns-in-Some g c =
    let at = c.in-Some.ensures.lookup.3 in
    let key = g.met.K.MapKey.exact _ _ (tie _ (sym (c.is_eq.ensures ∙ ap is_eq c.cmp.ensures) ∙ c.if-is_eq.true)) in
    (at.0, λ d. ap (λ q. find g.K.Ord.cmp q c.args.entries.now) (sym key ∙ ap (λ e. e.0) (at.1 d)) ∙ find_at g.met.K.Ord.total g.met.K.MapKey.exact c.args.entries.now c.args.place d c.requires at.0)
