use Rattle.std.proofs.Common.{List, Bor, map, subst}
use Rattle.dac_live.proofs.Common.{Page}
use Rattle.std.specs.List.Sorted.{IsPermutation}
use Rattle.std.proofs.lemmas.List.Sorted.{IsPermutation-map}
use Rattle.dac_live.proofs.nodes.pages_by_place.Goals as goal

pub returns : goal.returns
returns c =
    let now = λ (p : Bor Page). p.now in
    subst (λ (ps : List Page). IsPermutation ps (map now c.sort_unstable_by_key.new.self.items)) c.in_ok-all.ensures
    (IsPermutation-map now c.in_ok-all.all.items c.sort_unstable_by_key.new.self.items c.sort_unstable_by_key.ensures.permutation)
