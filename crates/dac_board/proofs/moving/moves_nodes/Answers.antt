use Rattle.std.proofs.Common.{sym, ap, ◌∙◌}
use Rattle.std.proofs.lemmas.Bool.{not-false}
use Rattle.dac_origins.specs.laws.Dots.{origins_total, exact_origins}
use Rattle.dac_wishes.specs.DrainsValue.{DrainsValue}
use Rattle.dac_wishes.specs.StoredDrains.{drains_by_origin}
use Rattle.dac_board.proofs.Walks.{same_standing}
use Rattle.dac_board.proofs.moving.moves_nodes.Goals as goal

pub returns-else-not-lives-clause-drains : goal.returns-else-not-lives-clause-drains
returns-else-not-lives-clause-drains c = λ e.
    same_standing origins_total exact_origins c.args.old.now.drains c.args.new.now.drains
    (sym (c.entries.ensures ∙ ap (λ (v : DrainsValue). drains_by_origin v.standing) c.drains.ensures)
    ∙ c.same_drains-drains.ensures (not-false _ e)
    ∙ (c.entries-2.ensures ∙ ap (λ (v : DrainsValue). drains_by_origin v.standing) c.drains-2.ensures))
