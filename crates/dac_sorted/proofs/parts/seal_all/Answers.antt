use Rattle.std.proofs.Common.{◌++◌, ◌∙◌, ap, arith, append-nil, sym}
use Rattle.std.specs.Arc.{arc_value}
use Rattle.std.specs.List.{flat_map}
use Rattle.std.proofs.lemmas.List.{drop_all, take_all}
use Rattle.dac_sorted.proofs.PartLemmas.{none_left}
use Rattle.dac_sorted.proofs.parts.seal_all.Goals as goal

pub returns-then-count-eq0-clause-sealed : goal.returns-then-count-eq0-clause-sealed
returns-then-count-eq0-clause-sealed g c =
    let long = c.len-count.ensures in let fits = c.args.last.now.ok.0 in let none = c.if-count-eq0.true in
    sym (append-nil (flat_map arc_value c.args.blocks.now.items)) ∙ ap (λ l. flat_map arc_value c.args.blocks.now.items ++ l) (sym (none_left c.args.last.now.items (omega (arith, fits, long, none))))

pub returns-then-count-eq0-clause-rest : goal.returns-then-count-eq0-clause-rest
returns-then-count-eq0-clause-rest g c =
    let long = c.len-count.ensures in let fits = c.args.last.now.ok.0 in let none = c.if-count-eq0.true in
    none_left c.args.last.now.items (omega (arith, fits, long, none))

pub returns-clause-sealed : goal.returns-clause-sealed
returns-clause-sealed g c =
    let long = c.len-count.ensures in let fits = c.args.last.now.ok.0 in
    c.in_ok-seal.ensures.sealed ∙ ap (λ l. flat_map arc_value c.args.blocks.now.items ++ l) (take_all c.len-count.result c.args.last.now.items (omega (arith, fits, long)))

pub returns-clause-rest : goal.returns-clause-rest
returns-clause-rest g c =
    let long = c.len-count.ensures in let fits = c.args.last.now.ok.0 in
    c.in_ok-seal.ensures.rest ∙ drop_all c.len-count.result c.args.last.now.items (omega (arith, fits, long))
