-- No operations mean the least state.
use Rattle.std.proofs.Common.{[], sym, ◌∙◌}
use Rattle.std.specs.FinSet as set
use Rattle.std.specs.FinMap as map
use Rattle.dac_origins.specs.Dots.{dot_cmp, origin_cmp}
use Rattle.dac_origins.specs.laws.Dots.{dots_total, exact_dots}
use Rattle.dac_wishes.specs.KeyedWrites.{keyed_write_cmp}
use Rattle.dac_wishes.specs.laws.DrainsValue.{same_drains}
use Rattle.dac_wishes.specs.Writes.{write_cmp}
use Rattle.dac_wishes.specs.laws.WishesValue.{same_wishes}
use Rattle.dac_wishes.specs.laws.PermissionsValue.{same_permissions}
use Rattle.dac_meaning.specs.laws.StateLaws.{same_state}
use Rattle.dac_meaning.specs.StateValue.{bottom, permissions_of, wishes_of, drains_of}
use Rattle.dac_meaning.specs.Meaning.{meaning_of}
use Rattle.dac_meaning.specs.MeaningLaws.{NothingMeansBottom}
use Rattle.dac_meaning.specs.laws.Readers.{heard-meaning, known-meaning, starts-meaning, permits-meaning, lives-meaning, claims-meaning, drains-meaning}

pub nothing_means_bottom : NothingMeansBottom
nothing_means_bottom =
    let known = set.same_set dots_total exact_dots _ _ (λ d. known-meaning [] d ∙ sym (set.contains-empty dot_cmp d)) in
    same_state (meaning_of []) bottom
    (set.same_set dots_total exact_dots _ _ (λ d. heard-meaning [] d ∙ sym (set.contains-empty dot_cmp d)))
    (same_permissions (permissions_of (meaning_of [])) (permissions_of bottom) known (λ w. permits-meaning [] w ∙ sym (map.get-empty write_cmp w)))
    (same_wishes (wishes_of (meaning_of [])) (wishes_of bottom) known (λ w. starts-meaning [] w ∙ sym (set.contains-empty write_cmp w)))
    (lives-meaning [])
    (claims-meaning [])
    (same_drains (drains_of (meaning_of [])) (drains_of bottom) known (λ w. drains-meaning [] w ∙ sym (map.get-empty (keyed_write_cmp origin_cmp) w)))
