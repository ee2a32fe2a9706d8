use Rattle.std.proofs.Common.{◌≡◌, ◌++◌, ◌∙◌, ap, subst, sym}
use Rattle.std.specs.FinSet as set
use Rattle.std.proofs.lemmas.List.{append-nil}
use Rattle.dac_origins.specs.Dots.{dot_cmp}
use Rattle.dac_origins.specs.Keys.{IsRising}
use Rattle.dac_dots.specs.Entries.{AreRows, dots_of}
use Rattle.dac_dots.proofs.SetLemmas.{listed, listed_is, listed_same, rising_listed}
use Rattle.dac_dots.proofs.context.Context.dots.Goals as goal

pub returns : goal.returns
returns c =
    let es = c.entries-entries.result in
    let rows = subst AreRows (sym c.entries-entries.ensures) c.self.invariant in
    let view = ap dots_of c.entries-entries.ensures ∙ c.self.view_is in
    let all : c.loop-origin.dots.items ≡ listed es = sym (append-nil c.loop-origin.dots.items) ∙ ap (λ l. c.loop-origin.dots.items ++ listed l) (sym c.in_default.ensures.0) ∙ c.loop-origin.invariant in
    record {
      value = all ∙ listed_is es c.args.self.now view rows;
      rising = subst (IsRising dot_cmp) (sym all) (rising_listed es rows);
      same = ap set.from_list all ∙ listed_same es c.args.self.now view;
    }
