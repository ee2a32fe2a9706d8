use Rattle.std.proofs.Common.{◌≡◌, ◌++◌}
use Rattle.dac_status.proofs.Common.{codes, group_in}
use Rattle.dac_status.proofs.Lines.{texts}
use Rattle.dac_status.proofs.apps.put_list.Given as goal

abbrev pub invariant-loop-group : goal.invariant-loop-group
invariant-loop-group l = l.text.items ≡ (l.fn.text.items ++ codes "list") ++ texts (λ n. n) (group_in l.config l.labels l.groups l.marks) l.group
