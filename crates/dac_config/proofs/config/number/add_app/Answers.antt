use Rattle.std.proofs.Common.{ℕ, ◌<◌, List, All, length, map, sym, ap, subst, ◌∙◌}
use Rattle.dac_config.proofs.Common.{Vec, groups_of, permissions_of, numbers_from, permitted, node_row, ArePlaces}
use Rattle.dac_config.proofs.Tables.{app_added, place_added}
use Rattle.dac_config.proofs.Numbers.{members_numbered}
use Rattle.dac_config.proofs.config.number.add_app.Goals as goal

pub places_of-requires-clause-members : goal.places_of-requires-clause-members
places_of-requires-clause-members c =
    let nodes = c.args.nodes.now in
    subst (All (All (λ number. number < length nodes)))
    (sym (ap (map (λ (group : Vec ℕ). group.items)) c.deref-2.ensures.value ∙ c.in_ok-groups.ensures))
    (members_numbered nodes (groups_of c.deref.result.now))

pub returns-clause-rows : goal.returns-clause-rows
returns-clause-rows c =
    let groups = c.in_ok-groups.ensures ∙ ap (λ groups. map (numbers_from 0 (map node_row c.args.nodes.now)) (groups_of groups)) c.deref.ensures.value in
    let permission = c.is_permitted-permission.ensures ∙ ap (λ permissions. permitted (permissions_of permissions) c.args.app.now.name.now) c.deref-3.ensures.value in
    app_added c.args.numbered.now c.in_ok-name.name _ c.insert.new.self.entries _ c.requires.new (λ i. record { name = c.in_ok-name.ensures.items_if_clones_equal (λ x y same. same) i; timeout = c.args.app.now.timeout; groups = groups i; permission = permission i }) c.in_ok-insert.ensures.entries

pub returns-clause-places : goal.returns-clause-places
returns-clause-places c = λ all.
    let groups = c.in_ok-groups.ensures ∙ ap (λ groups. map (numbers_from 0 (map node_row c.args.nodes.now)) (groups_of groups)) c.deref.ensures.value in
    let permission = c.is_permitted-permission.ensures ∙ ap (λ permissions. permitted (permissions_of permissions) c.args.app.now.name.now) c.deref-3.ensures.value in
    let placed = subst (λ (groups : List (Vec ℕ)). ArePlaces c.in_ok-places.places.items (map (λ group. group.items) groups)) c.deref-2.ensures.value c.in_ok-places.ensures in
    place_added c.args.numbered.now c.in_ok-name.name _ c.insert.new.self.entries _ c.requires.new (λ i. record { name = c.in_ok-name.ensures.items_if_clones_equal (λ x y same. same) i; timeout = c.args.app.now.timeout; groups = groups i; permission = permission i }) c.in_ok-insert.ensures.entries placed all
