-- A loop that updates each application's timer, place by place.
use Rattle.std.proofs.Common.{◌≡◌, ℕ, ◌+◌, ◌-◌, ◌<◌, List, [], ◌∷◌, ◌++◌, Option, get_or, set, suc, sym, ap, ◌∙◌, arith, append-nil, append_assoc}
use Rattle.std.proofs.Math.Seq.{set-append_seam, get_or-append_seam}
use Rattle.dac_config.specs.Table.{Table, app_count}
use Rattle.dac_decide.specs.declared.waits.Noted.{Noted}
use Rattle.dac_decide.specs.FailoverWait.{Note, noted_of, waits_of}
use Rattle.dac_decide.specs.laws.Kept.{numbered, kept_of, length_kept, kept_more}

module _ (table : Table) (note : Note) (notes : List Note) where
  -- the timers of the first n applications with one more note, and of the others without it
  abbrev pub partly : ℕ → List (Option Noted)
  partly n = kept_of (note ∷ notes) 0 n ++ kept_of notes n (app_count table - n)

  pub partly_all : partly (app_count table) ≡ waits_of table (note ∷ notes)
  partly_all =
      let none : app_count table - app_count table ≡ 0 = omega arith in
      ap (λ n. kept_of (note ∷ notes) 0 (app_count table) ++ kept_of notes (app_count table) n) none ∙ append-nil (kept_of (note ∷ notes) 0 (app_count table))

  -- the place that is next
  at_seam : (n : ℕ) → n < app_count table → partly n ≡ kept_of (note ∷ notes) 0 n ++ noted_of (numbered n) notes ∷ kept_of notes (n + 1) (app_count table - (n + 1))
  at_seam n lt =
      let one_more : app_count table - n ≡ suc (app_count table - (n + 1)) = omega arith in
      ap (λ left. kept_of (note ∷ notes) 0 n ++ kept_of notes n left) one_more

  pub partly_at : (n : ℕ) (xs : List (Option Noted)) (d : Option Noted) → n < app_count table → xs ≡ partly n → get_or xs n d ≡ noted_of (numbered n) notes
  partly_at n xs d lt is =
      ap (λ l. get_or l n d) (is ∙ at_seam n lt)
      ∙ ap (λ i. get_or (kept_of (note ∷ notes) 0 n ++ noted_of (numbered n) notes ∷ kept_of notes (n + 1) (app_count table - (n + 1))) i d) (sym (length_kept (note ∷ notes) n))
      ∙ get_or-append_seam (kept_of (note ∷ notes) 0 n) (noted_of (numbered n) notes) (kept_of notes (n + 1) (app_count table - (n + 1))) d

  pub partly_more : (n : ℕ) (xs : List (Option Noted)) → n < app_count table → xs ≡ partly n → set xs n (noted_of (numbered n) (note ∷ notes)) ≡ partly (n + 1)
  partly_more n xs lt is =
      let first = kept_of (note ∷ notes) 0 n in
      let old = noted_of (numbered n) notes in
      let new = noted_of (numbered n) (note ∷ notes) in
      let rest = kept_of notes (n + 1) (app_count table - (n + 1)) in
      ap (λ l. set l n new) (is ∙ at_seam n lt)
      ∙ ap (λ i. set (first ++ old ∷ rest) i new) (sym (length_kept (note ∷ notes) n))
      ∙ set-append_seam first old rest new
      ∙ sym (append_assoc first (new ∷ []) rest)
      ∙ ap (λ l. l ++ rest) (sym (kept_more (note ∷ notes) n))
