use Rattle.std.proofs.Common.{◌≡◌, cond, Some, Result, Ok, Err, OnErr, ap, sym, ◌∙◌}
use Rattle.std.specs.Ordering.{eq_by_cmp}
use Rattle.std.specs.FinMap as map
use Rattle.std.specs.FinMap.Entries.{find, find-put}
use Rattle.dac_origins.specs.Dots.{origin_cmp}
use Rattle.dac_origins.specs.laws.Dots.{origins_total, exact_origins}
use Rattle.dac_deltas.specs.Numbers.{greater}
use Rattle.dac_deltas.proofs.acks.Acks.raise.Goals as goal
use Rattle.dac_deltas.proofs.acks.Acks.raise.Goals.{in-Some, in-None}

pub returns-clause-ok : goal.returns-clause-ok
returns-clause-ok c =
    let now = c.args.self.now in
    let origin = c.args.origin in
    let number = c.args.number in
    let is : c.match-get.greatest ≡ greater (map.get now origin) number = elim c.match-get.branch [
      | in-Some w ↦ w.greatest-is ∙ (w.max-greatest.ensures ∙ ap (λ before. greater before number) (sym w.in-Some.is ∙ c.get.ensures))
      | in-None w ↦ w.greatest-is ∙ ap (λ before. greater before number) (sym w.in-None.is ∙ c.get.ensures)
    ] in
    map.same_map origins_total exact_origins _ _ (λ q.
    map.get-from_entries origins_total c.put.new.self q
    ∙ (ap (find origin_cmp q) c.in_ok-put.ensures.ok
    ∙ (find-put origin_cmp origins_total q origin c.match-get.greatest c.self.inside.numbers
    ∙ ((λ i. cond (eq_by_cmp origin_cmp q origin) (Some (is i)) ((sym (map.get-from_entries origins_total c.self.inside.numbers q) ∙ ap (λ m. map.get m q) c.self.view_is) i))
    ∙ sym (map.get-insert origins_total now origin (greater (map.get now origin) number) q)))))

fails_so : {T E P : Type 0} (r : Result T E) → P → OnErr r P
fails_so (Ok x) p = tt
fails_so (Err e) p = p

pub returns-in_err-put-clause-first : goal.returns-in_err-put-clause-first
returns-in_err-put-clause-first c =
    let origin = c.args.origin in
    let none = map.get-from_entries origins_total c.self.inside.numbers origin ∙ c.in_err-put.ensures.first in
    fails_so c.from_residual.result (sym (ap (λ m. map.get m origin) c.self.view_is) ∙ none)
