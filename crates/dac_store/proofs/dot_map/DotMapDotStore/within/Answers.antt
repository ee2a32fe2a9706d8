use Rattle.std.proofs.Common.{◌≡◌, true}
use Rattle.std.specs.FinSet as set
use Rattle.dac_store.proofs.ChunkLemmas.{all_dots, each_dots}
use Rattle.dac_store.proofs.dot_map.DotMapDotStore.within.Goals as goal

pub returns : goal.returns
returns g c =
    let all = rw c.self.view_is at c.all.ensures in (
      λ e. all_dots g.S.DotStore.has (λ x. set.contains c.args.context.now x ≡ true) c.args.self.now (all.0 e),
      λ h. all.1 (each_dots g.S.DotStore.has (λ x. set.contains c.args.context.now x ≡ true) c.args.self.now h),
    )
