use Rattle.std.proofs.Common.{◌≡◌, ◌∙◌, [], Some, append-nil, ap, subst, sym}
use Rattle.std.specs.Prelude.{OnOk}
use Rattle.std.specs.FinMap.{put}
use Rattle.dac_sorted.proofs.ChangeLemmas.{changed_last}
use Rattle.dac_sorted.proofs.map.SortedMap.push.Goals as goal

pub returns-in_default-clause-ok : goal.returns-in_default-clause-ok
returns-in_default-clause-ok g c =
    subst (λ m. OnOk c.put.result (c.put.new.self ≡ m))
    (ap (put g.K.Ord.cmp c.args.key c.args.value) c.self.view_is ∙ sym (changed_last g.met.K.Ord.total g.met.K.MapKey.exact c.args.self.now [] c.args.self.now c.args.key (Some c.args.value) (append-nil c.args.self.now) c.requires))
    c.put.ensures.ok
