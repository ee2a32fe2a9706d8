-- Nonempty lists and sets, and the dots of sets in order.
use Rattle.std.specs.Prelude.{◌≡◌, ◌≤◌, false, List, [], ◌∷◌, length, refl}
use Rattle.std.proofs.Common.{sym, ap, ◌∙◌, arith}
use Rattle.dac_part_bytes.proofs.Common.{is_eq, tied_itself, false≢true, or_left, Dot, dot_cmp, dots_total, exact_dots, in_order, in_order-one, is_empty_list, is_empty_set}
use Rattle.std.specs.FinSet as set
use Rattle.std.proofs.lemmas.Bool.{eqb-true, false_from_ne_true}

pub not_empty : {X : Type 0} (xs : List X) → 1 ≤ length xs → is_empty_list xs ≡ false
not_empty [] h = absurd (omega arith)
not_empty (x ∷ xs) h = refl

pub not_empty_set : (ds : List Dot) → 1 ≤ length ds → is_empty_set (set.from_list ds) ≡ false
not_empty_set [] h = absurd (omega arith)
not_empty_set (d ∷ ds) h = false_from_ne_true _ (λ e.
    let none : set.insert (set.from_list ds) d ≡ set.empty = set.empty_of_len (set.insert (set.from_list ds) d) (eqb-true _ _ e) in
    false≢true (sym (set.contains-empty dot_cmp d) ∙ ap (λ s. set.contains s d) (sym none) ∙ set.contains-insert dots_total (set.from_list ds) d d ∙ or_left _ _ (ap is_eq (tied_itself dots_total d))))

pub no_dots : [] ≡ in_order (set.empty {R = dot_cmp})
no_dots = in_order-one dots_total exact_dots (set.empty {R = dot_cmp}) [] refl refl
