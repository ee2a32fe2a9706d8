-- The text of a run's phases, phase by phase.
use Rattle.std.proofs.Common.{◌≡◌, ℕ, suc, ◌+◌, ◌-◌, ◌<◌, ◌≤◌, inl, inr, List, [], ◌∷◌, ◌++◌, length, take, drop, get_or, min, codes, refl, sym, ap, ◌∙◌, subst, append_assoc, append-nil, length-drop, arith}
use Rattle.dac_live_play.proofs.Common.{Table, WorldEvent, take_more, flat_map, canonical_text, MAX_TEXT}
use Rattle.std.specs.Prelude.{zip}
use Rattle.std.proofs.lemmas.Bool.{cases_eq}
use Rattle.std.proofs.lemmas.List.{length-take, length-take-le, get_or_default}
use Rattle.dac_phases.specs.laws.Spoken.{flat_more, zip_at, zip_within}
use Rattle.dac_script.specs.Input.{IsTaken}
use Rattle.dac_weave.specs.declared.weaving.Woven.{Woven}
use Rattle.dac_live_play.specs.Recordings.{event_line, caller_text, told_text, phase_text, phases_from, phases_text, page_lines, remarks_text, record_text, IsPlaceholder, Fits, PhasesFit, IsLastOf, RecordsPhases, IsTooLong}

-- ---- the bounds
-- the last of these bounds, or the start
pub end_of : ℕ → List ℕ → ℕ
end_of start [] = start
end_of start (bound ∷ bounds) = end_of bound bounds

pub end-first : (start : ℕ) → end_of start [] ≡ start
unfolding end_of
end-first start = refl

end-push : (start : ℕ) (bounds : List ℕ) (bound : ℕ) → end_of start (bounds ++ bound ∷ []) ≡ bound
unfolding end_of
end-push start [] bound = refl
end-push start (b ∷ bounds) bound = end-push b bounds bound

pub end-next : (bounds : List ℕ) (i : ℕ) → i < length bounds → end_of 0 (take (i + 1) bounds) ≡ get_or bounds i 0
end-next bounds i lt = ap (end_of 0) (take_more bounds i 0 lt) ∙ end-push 0 (take i bounds) (get_or bounds i 0)

module _ (table : Table) (placeholder : List ℕ) (run : Woven) where
  abbrev events : List WorldEvent
  events = run.events.items

  abbrev seats : List ℕ
  seats = run.seats.items

  -- the phase from one bound to another
  abbrev one : ℕ → ℕ → ℕ → List ℕ
  one number start bound = phase_text table placeholder number (zip (drop start (take bound events)) (drop start (take bound seats)))

  phases-push : (before start : ℕ) (bounds : List ℕ) (bound : ℕ) → phases_from table placeholder run before start (bounds ++ bound ∷ []) ≡ phases_from table placeholder run before start bounds ++ one (before + length bounds + 1) (end_of start bounds) bound
  unfolding end_of
  phases-push before start [] bound =
      let here : before + 1 ≡ before + 0 + 1 = omega arith in
      append-nil (one (before + 1) start bound) ∙ ap (λ n. one n start bound) here
  phases-push before start (b ∷ bounds) bound =
      let later = phases-push (before + 1) b bounds bound in
      let count : before + 1 + length bounds + 1 ≡ before + suc (length bounds) + 1 = omega arith in
      ap (λ (t : List ℕ). one (before + 1) start b ++ t) (later ∙ ap (λ n. phases_from table placeholder run (before + 1) b bounds ++ one n (end_of b bounds) bound) count)
      ∙ sym (append_assoc (one (before + 1) start b) (phases_from table placeholder run (before + 1) b bounds) (one (before + suc (length bounds) + 1) (end_of b bounds) bound))

  -- one more phase
  pub phases_more : (i : ℕ) → i < length run.bounds.items → phases_text table placeholder run (i + 1) ≡ phases_text table placeholder run i ++ one (i + 1) (end_of 0 (take i run.bounds.items)) (get_or run.bounds.items i 0)
  phases_more i lt =
      let bounds = run.bounds.items in
      let size : 0 + length (take i bounds) + 1 ≡ i + 1 = omega (arith, length-take-le i bounds (below lt)) in
      ap (phases_from table placeholder run 0 0) (take_more bounds i 0 lt) ∙ phases-push 0 0 (take i bounds) (get_or bounds i 0)
      ∙ ap (λ n. phases_text table placeholder run i ++ one n (end_of 0 (take i bounds)) (get_or bounds i 0)) size
    where
      below : i < length run.bounds.items → i ≤ length run.bounds.items
      below h = omega (arith, h)

  -- appending one more phase
  pub put_phase_more : (i start bound : ℕ) (first text more : List ℕ) → i < length run.bounds.items → start ≡ end_of 0 (take i run.bounds.items) → bound ≡ get_or run.bounds.items i 0 → text ≡ first ++ phases_text table placeholder run i → more ≡ text ++ one (i + 1) start bound
      → more ≡ first ++ phases_text table placeholder run (i + 1)
  put_phase_more i start bound first text more lt start_is bound_is is more_is =
      more_is ∙ ap (λ t. t ++ one (i + 1) start bound) is ∙ append_assoc first (phases_text table placeholder run i) (one (i + 1) start bound)
      ∙ ap (λ t. first ++ t) ((λ k. phases_text table placeholder run i ++ one (i + 1) (start_is k) (bound_is k)) ∙ sym (phases_more i lt))

-- ---- the last number with a property
pub last_same : (P Q : ℕ → Type 0) (most last : ℕ) → ((k : ℕ) → P k → Q k) → ((k : ℕ) → Q k → P k) → IsLastOf P most last → IsLastOf Q most last
last_same P Q most last to from l = record { within = l.within; has = λ lt. to last (l.has lt); greatest = λ more over under q. l.greatest more over under (from more q) }

pub last_none : (P : ℕ → Type 0) → IsLastOf P 0 0
last_none P = record { within = omega arith; has = λ lt. absurd (omega (arith, lt)); greatest = λ more over under. absurd (omega (arith, over, under)) }

pub last_now : (P : ℕ → Type 0) (i : ℕ) → P (i + 1) → IsLastOf P (i + 1) (i + 1)
last_now P i has = record { within = omega arith; has = λ lt. has; greatest = λ more over under. absurd (omega (arith, over, under)) }

pub last_still : (P : ℕ → Type 0) (i last : ℕ) → (P (i + 1) → ⊥) → IsLastOf P i last → IsLastOf P (i + 1) last
last_still P i last not l = record {
  within = omega (arith, l.within);
  has = l.has;
  greatest = λ more over under p. elim (cases_eq more (i + 1)) [
    | inl e ↦ not (subst P e p)
    | inr ne ↦ l.greatest more over (less more under ne) p
  ];
}
  where
    less : (more : ℕ) → more ≤ i + 1 → (more ≡ i + 1 → ⊥) → more ≤ i
    less more under ne = omega (arith, under)

-- ---- the events of a phase
pub part_long : {A B : Type 0} (start bound : ℕ) (xs : List A) (ys : List B) → length xs ≡ length ys → length (drop start (take bound xs)) ≡ length (drop start (take bound ys))
part_long start bound xs ys long =
    length-drop start (take bound xs) ∙ ap (λ n. n - start) (length-take bound xs ∙ ap (λ n. min bound n) long ∙ sym (length-take bound ys)) ∙ sym (length-drop start (take bound ys))

regroup : (f a c l n : List ℕ) → (((f ++ a) ++ c) ++ l) ++ n ≡ f ++ (a ++ (c ++ (l ++ n)))
regroup f a c l n = simp append_assoc

-- one more event, after its caller
pub told_more : (table : Table) (placeholder : List ℕ) (all : List WorldEvent) (own : List ℕ) (i : ℕ) (e : WorldEvent) (seat : ℕ) (first text0 text1 text2 text3 : List ℕ) → i < length all → length own ≡ length all → e ≡ get_or all i e → seat ≡ get_or own i 0
    → text0 ≡ first ++ flat_map (told_text table placeholder) (take i (zip all own)) → text1 ≡ text0 ++ caller_text seat → text2 ≡ text1 ++ event_line table placeholder e → text3 ≡ text2 ++ 10 ∷ []
    → text3 ≡ first ++ flat_map (told_text table placeholder) (take (i + 1) (zip all own))
told_more table placeholder all own i e seat first text0 text1 text2 text3 lt long at seat_at is caller_is line_is fed_is =
    let f = told_text table placeholder in
    let zs = zip all own in
    let line = event_line table placeholder e in
    let inside : i < length own = omega (arith, lt, long) in
    let told_at : (e, seat) ≡ get_or zs i (e, seat) = zip_at all own i e seat lt inside at (seat_at ∙ get_or_default own i 0 seat inside) in
    let more : flat_map f (take (i + 1) zs) ≡ flat_map f (take i zs) ++ f (e, seat) = flat_more f zs i (e, seat) (zip_within all own i lt inside) told_at in
    fed_is ∙ ap (λ (t : List ℕ). t ++ 10 ∷ []) (line_is ∙ ap (λ (t : List ℕ). t ++ line) (caller_is ∙ ap (λ (t : List ℕ). t ++ caller_text seat) is))
    ∙ regroup first (flat_map f (take i zs)) (caller_text seat) line (10 ∷ []) ∙ ap (λ (t : List ℕ). first ++ t) (sym more)

-- ---- the whole input
module _ (table : Table) (printed : List ℕ) (run : Woven) where
  -- the text with its phases
  pub records_phases : (placeholder canonical front text pages : List ℕ) (phases : ℕ) → IsPlaceholder table placeholder → canonical ≡ canonical_text table → front ≡ (canonical ++ codes "--\n") ++ remarks_text printed → pages ≡ page_lines table placeholder
      → text ≡ (front ++ phases_text table placeholder run (length run.bounds.items)) ++ pages → IsLastOf (PhasesFit table placeholder run front pages) (length run.bounds.items) phases → RecordsPhases table printed run text phases
  records_phases placeholder canonical front text pages phases placeholder_is canonical_is front_is pages_is text_is fit = record {
    is = record { placeholder = placeholder; placeholder_is = placeholder_is; text_is = text_is ∙ joined (length run.bounds.items) };
    fit = last_same (PhasesFit table placeholder run front pages) (λ count. IsTaken (record_text table placeholder printed run count)) (length run.bounds.items) phases
        (λ count. subst IsTaken (joined count)) (λ count. subst IsTaken (sym (joined count))) fit;
  }
    where
      joined : (count : ℕ) → (front ++ phases_text table placeholder run count) ++ pages ≡ record_text table placeholder printed run count
      joined count =
          (λ k. (front_is k ++ phases_text table placeholder run count) ++ pages_is k)
          ∙ ap (λ (c : List ℕ). (((c ++ codes "--\n") ++ remarks_text printed) ++ phases_text table placeholder run count) ++ page_lines table placeholder) canonical_is
          ∙ regroup (canonical_text table) (codes "--\n") (remarks_text printed) (phases_text table placeholder run count) (page_lines table placeholder)

  -- the text is too long, but not its configuration
  pub too_long : (text : List ℕ) (phases : ℕ) → RecordsPhases table printed run text phases → length (canonical_text table) ≤ MAX_TEXT → (IsTaken text → ⊥) → IsTooLong table printed run phases
  too_long text phases records few long = record {
    text = text;
    is = records.is;
    long = inl long;
    fit = last_same (λ count. IsTaken (record_text table records.is.placeholder printed run count)) (λ count. Fits table (record_text table records.is.placeholder printed run count)) (length run.bounds.items) phases
        (λ count taken. (taken, few)) (λ count fits. fits.0) records.fit;
  }

  -- the configuration is too long
  pub none_fits : (text : List ℕ) (phases : ℕ) → RecordsPhases table printed run text phases → MAX_TEXT < length (canonical_text table) → IsTooLong table printed run 0
  none_fits text phases records long = record {
    text = text;
    is = records.is;
    long = inr long;
    fit = record { within = omega arith; has = λ lt. absurd (omega (arith, lt)); greatest = λ more over under fits. omega (arith, fits.1, long) };
  }
