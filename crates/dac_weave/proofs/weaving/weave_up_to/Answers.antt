use Rattle.std.proofs.Common.{◌≡◌, List, sym, subst, ◌∙◌}
use Rattle.dac_weave.specs.laws.Common.{JournalValue, Weaves}
use Rattle.dac_weave.specs.Cut.{cut}
use Rattle.dac_weave.specs.Placing.{AllWhole}
use Rattle.dac_weave.specs.Woven.{AllFit}
use Rattle.dac_weave.proofs.Cutting.{long_row, weaves-row, rests-row}
use Rattle.dac_weave.proofs.Placed.{gives}
use Rattle.dac_weave.proofs.weaving.weave_up_to.Goals as goal

pub cut-requires : goal.cut-requires
cut-requires c = long_row c.args.config.now c.args.journals.now c.args.row.now c.args.merge.now c.requires

pub weave_parts-requires : goal.weave_parts-requires
weave_parts-requires c =
    let js = c.args.journals.now in
    let row = c.args.row.now in
    let is : c.as_slice.result.now ≡ cut js row = c.as_slice.ensures.value ∙ c.in_ok-parts.ensures in
    subst (λ (ks : List JournalValue). Weaves c.args.config.now ks c.args.merge.now) (sym is) (weaves-row c.args.config.now js row c.args.merge.now c.requires)

pub returns-clause-rests : goal.returns-clause-rests
returns-clause-rests c =
    let t = c.args.config.now in
    let js = c.args.journals.now in
    let row = c.args.row.now in
    let is : c.as_slice.result.now ≡ cut js row = c.as_slice.ensures.value ∙ c.in_ok-parts.ensures in
    let new = c.weave_parts.new.merge in
    rests-row t js row c.args.merge.now c.requires new (subst (λ (ks : List JournalValue). Weaves t ks new) is c.in_ok-weave_parts.ensures.weaves)
    (subst (λ (ks : List JournalValue). AllWhole ks new.cursors.items) is c.in_ok-weave_parts.ensures.whole) c.in_ok-weave_parts.ensures.continues

pub returns-clause-gives : goal.returns-clause-gives
returns-clause-gives c =
    let t = c.args.config.now in
    let row = c.args.row.now in
    let is : c.as_slice.result.now ≡ cut c.args.journals.now row = c.as_slice.ensures.value ∙ c.in_ok-parts.ensures in
    let new = c.weave_parts.new.merge in
    gives t (cut c.args.journals.now row) new (subst (λ (ks : List JournalValue). Weaves t ks new) is c.in_ok-weave_parts.ensures.weaves) (subst AllFit is c.in_ok-weave_parts.ensures.fit)
    (subst (λ (ks : List JournalValue). AllWhole ks new.cursors.items) is c.in_ok-weave_parts.ensures.whole)
