use Rattle.std.proofs.Common.{◌≡◌, ◌++◌, [], sym, append-nil}
use Rattle.dac_lattice.specs.Entries.{keep}
use Rattle.dac_lattice.proofs.MergeLemmas.{where_made}
use Rattle.dac_lattice.proofs.merging.push_lowest.Goals as goal

pub returns-in-Some-Some : goal.returns-in-Some-Some
returns-in-Some-Some g c =
    rw (c.in-Some-Some.is-0, c.in-Some-Some.is-1)
    (where_made c.push_kept.result c.both.result (λ v. c.push_kept.new.merged.items ≡ c.args.merged.now.items ++ keep c.in-Some-Some.field-0-0.now.0 v []) _ c.push_kept.ensures c.both.ensures)

pub returns-in-Some-None : goal.returns-in-Some-None
returns-in-Some-None g c =
    rw (c.in-Some-None.is-0, c.in-Some-None.is-1)
    (where_made c.push_kept-in-Some-None.result c.left.result (λ v. c.push_kept-in-Some-None.new.merged.items ≡ c.args.merged.now.items ++ keep c.in-Some-None.field-0-0.now.0 v []) _ c.push_kept-in-Some-None.ensures c.left.ensures)

pub returns-in-None-Some : goal.returns-in-None-Some
returns-in-None-Some g c =
    rw (c.in-None-Some.is-0, c.in-None-Some.is-1)
    (where_made c.push_kept-in-None-Some.result c.right.result (λ v. c.push_kept-in-None-Some.new.merged.items ≡ c.args.merged.now.items ++ keep c.in-None-Some.field-0-1.now.0 v []) _ c.push_kept-in-None-Some.ensures c.right.ensures)

pub returns-in-None-None : goal.returns-in-None-None
returns-in-None-None g c = rw (c.in-None-None.is-0, c.in-None-None.is-1) (sym (append-nil c.args.merged.now.items))
