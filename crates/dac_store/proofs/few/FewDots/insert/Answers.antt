use Rattle.std.proofs.Common.{◌||◌, ◌∙◌, sym, ap}
use Rattle.std.specs.Ordering.{eq_by_cmp}
use Rattle.dac_origins.specs.Dots.{dot_cmp}
use Rattle.dac_origins.specs.Keys.{has_key}
use Rattle.dac_store.specs.Few.{dots_of}
use Rattle.dac_store.proofs.few.FewDots.insert.Goals as goal

pub returns-in_ok-insert_key-in-Sorted-clause-ok : goal.returns-in_ok-insert_key-in-Sorted-clause-ok
returns-in_ok-insert_key-in-Sorted-clause-ok c q =
    c.in_ok-insert_key-in-Sorted.ensures.ok q ∙ ap (λ few. eq_by_cmp dot_cmp q c.args.dot || has_key dot_cmp (dots_of few) q) (sym c.in-Sorted.is)
