use Rattle.std.proofs.Common.{rules, eqb, ◌≡◌, ◌++◌, ◌∙◌, List, Option, ap, map}
use Rattle.std.specs.Iterator.{Drains}
use Rattle.std.proofs.lemmas.Iterator.{YieldsList, items_from_drains}
use Rattle.std.proofs.lemmas.Iterator.Consumers.{YieldsList-from_filter, YieldsList-at}
use Rattle.std.proofs.lemmas.Iterator.Splits.{YieldsList-from_slice_split}
use borrow.Author.Tests.{tests}
use Rattle.dac_script.proofs.words.words_of.Goals as goal

-- the items of an iterator whose steps are known
drained : {S A B : Type 0} {steps : S → Option A → S → Type 0} {v : A → B} {s : S} {all : List B} → YieldsList steps v s all → (items : List A) → Drains steps s items
    → map v items ≡ all
drained road items all = items_from_drains items (all.1.0, all.1.1, λ _. (all.0, all.1.2)) road

pub returns : goal.returns
returns c =
    let ran = c.in_ok-extend.ensures.ran in
    ap (map (λ word. word.now)) (ran.3.0 ∙ ap (λ xs. xs ++ ran.1) c.in_ok-words.ensures.items)
    ∙ drained
    (YieldsList-at ran.2 (YieldsList-from_filter _ _ (YieldsList-from_slice_split _ (λ b. eqb b 32) c.args.line.now (search rules) (search rules) (search rules) (λ x b q k. search (rules, tests)))
    c.filter.ensures.closure (λ x b q k. search (rules, tests))))
    ran.1 ran.4
