-- Laws of the definitions in `Logs`.
use Rattle.std.specs.Prelude.{◌≡◌, ◌≤◌, ℕ, ◌+◌, ◌-◌, List, [], ◌∷◌, ◌++◌, length, drop, fold, min, max, cond, Some, None, refl}
use Rattle.std.proofs.Common.{arith, sym, ap, ◌∙◌, suc, append_assoc, drop-drop, lt-ltb, le-ltb}
use Rattle.std.proofs.lemmas.List.{append-nil, drop-append-le, length-append, length-drop}
use Rattle.dac_deltas.specs.KeptDeltas.{KeptDeltas, cut, pushed}
use Rattle.dac_deltas.specs.declared.buffer.TheConstants.{MAX_DELTAS}
use Rattle.dac_deltas.specs.Logs.{DroppedHaveNone, IntervalsAreOfTheLog, PushesAppend, PushesAppendAll, TrimsMoveTheBase, kept_of}

-- ---- the laws
module _ {L : Type 0} where
  pub same_kept : (count count' base base' : ℕ) (ds ds' : List L) → count ≡ count' → base ≡ base' → ds ≡ ds' → ◌≡◌ {A = KeptDeltas L} (record { count = count; base = base; deltas = ds }) (record { count = count'; base = base'; deltas = ds' })
  same_kept count count' base base' ds ds' c b d = λ i. record { count = c i; base = b i; deltas = d i }

  pub pushes_append : PushesAppend L
  pushes_append base log delta h =
      let all = length-append log (delta ∷ []) in
      let some = length-drop base log in
      let more = log ++ delta ∷ [] in
      let gone = length (drop base log) + 1 - MAX_DELTAS in
      let to : base + gone ≡ max base (length more - MAX_DELTAS) = omega arith in
      same_kept _ _ _ _ _ _ (sym all) to (ap (drop gone) (sym (drop-append-le base log (delta ∷ []) h)) ∙ (drop-drop gone base more ∙ ap (λ n. drop n more) to))

  -- dropping after several pushes equals dropping after each
  pub pushes_drop_together : (k : KeptDeltas L) (ds : List L) → length k.deltas ≤ MAX_DELTAS → fold pushed k ds ≡ cut (record { count = k.count + length ds; base = k.base; deltas = k.deltas ++ ds }) (length k.deltas + length ds - MAX_DELTAS)
  pushes_drop_together k [] few =
      let none : length k.deltas + 0 - MAX_DELTAS ≡ 0 = omega arith in
      same_kept _ _ _ _ _ _ (omega arith) (omega arith) (sym (append-nil k.deltas) ∙ ap (λ n. drop n (k.deltas ++ [])) (sym none))
  pushes_drop_together k (d ∷ ds) few =
      let one = k.deltas ++ d ∷ [] in
      let all = k.deltas ++ d ∷ ds in
      let gone = length k.deltas + 1 - MAX_DELTAS in
      let long = length-append k.deltas (d ∷ []) in
      let left = length-drop gone one in
      let later = length (drop gone one) + length ds - MAX_DELTAS in
      let to : gone + later ≡ length k.deltas + suc (length ds) - MAX_DELTAS = omega arith in
      pushes_drop_together (pushed k d) ds (omega arith)
      ∙ same_kept _ _ _ _ _ _ (omega arith) (omega arith)
      (ap (drop later) (sym (drop-append-le gone one ds (omega arith))) ∙ (drop-drop later gone (one ++ ds) ∙ (ap (λ n. drop n (one ++ ds)) to ∙ ap (drop (length k.deltas + suc (length ds) - MAX_DELTAS)) (append_assoc k.deltas (d ∷ []) ds))))

  pub pushes_append_all : PushesAppendAll L
  pushes_append_all base log deltas h few =
      let left = length-drop base log in
      let all = length-append log deltas in
      let gone = length (drop base log) + length deltas - MAX_DELTAS in
      let to : base + gone ≡ max base (length (log ++ deltas) - MAX_DELTAS) = omega arith in
      pushes_drop_together (kept_of base log) deltas (omega arith)
      ∙ same_kept _ _ _ _ _ _ (sym all) to (ap (drop gone) (sym (drop-append-le base log deltas h)) ∙ (drop-drop gone base (log ++ deltas) ∙ ap (λ n. drop n (log ++ deltas)) to))

  pub trims_move_the_base : TrimsMoveTheBase L
  trims_move_the_base base log n =
      let to : base + (min n (length log) - base) ≡ max base (min n (length log)) = omega arith in
      same_kept _ _ _ _ _ _ refl to (drop-drop (min n (length log) - base) base log ∙ ap (λ k. drop k log) to)

  module _ (bottom : L) (join : L → L → L) where
    pub intervals_are_of_the_log : IntervalsAreOfTheLog bottom join
    intervals_are_of_the_log base log a h =
        let to : base + (a - base) ≡ a = omega arith in
        ap (λ b. cond b None (Some (fold join bottom (drop (a - base) (drop base log))))) (le-ltb a base h)
        ∙ ap (λ ds. Some (fold join bottom ds)) (drop-drop (a - base) base log ∙ ap (λ k. drop k log) to)

    pub dropped_have_none : DroppedHaveNone bottom join
    dropped_have_none base log a h = ap (λ b. cond b None (Some (fold join bottom (drop (a - base) (drop base log))))) (lt-ltb a base h)
