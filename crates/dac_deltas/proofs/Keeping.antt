-- The contents of a buffer, after deltas are added and the oldest are dropped.
use Rattle.std.proofs.Common.{◌≡◌, ◌+◌, ◌-◌, ◌≤◌, ℕ, List, [], ◌∷◌, ◌++◌, drop, fold, length, refl, sym, ap, subst, ◌∙◌, arith, min}
use Rattle.std.proofs.lemmas.List.{length-drop, length-append, length-map, length-take, drop-map, get_or-map, map-append}
use Rattle.std.specs.List.{All}
use Rattle.dac_base.specs.declared.limits.TheConstants.{MAX_COUNTER}
use Rattle.dac_deltas.specs.KeptDeltas.{KeptDeltas, IsBuffer, newest, pushed, trimmed}
use Rattle.dac_deltas.specs.laws.Logs.{same_kept, pushes_drop_together}
use Rattle.dac_deltas.specs.BlockEnds.{AreJoined, IsKept, deltas_of}
use Rattle.dac_deltas.proofs.Joining.{joined_drop}
use Rattle.dac_deltas.specs.declared.buffer.TheConstants.{MAX_DELTAS}

module _ {L : Type 0} (is_value : L → Type 0) (join : L → L → L) where
  -- each stored delta is a value, because it is a block itself
  joined_values : (es : List (L × List L)) → AreJoined is_value join es → All is_value (deltas_of es)
  joined_values es h k d lt =
      let many = length-map es (λ (x : L × List L). x.0) in
      let long = length-take (k + 1) (deltas_of es) in
      let e : L × List L = (d, []) in
      let had = h k e (omega arith) 0 (omega arith) (omega arith) in
      subst is_value (sym (get_or-map (λ (x : L × List L). x.0) es k e d (omega arith))) had.value

  -- one more ending
  pub joined_end : (es new : List (L × List L)) (e : L × List L) → AreJoined is_value join (es ++ e ∷ []) → new ≡ es ++ e ∷ [] → AreJoined is_value join new × (deltas_of new ≡ deltas_of es ++ e.0 ∷ [])
  joined_end es new e joined pushed = (
    subst (AreJoined is_value join) (sym pushed) joined,
    ap deltas_of pushed ∙ map-append (λ (x : L × List L). x.0) es (e ∷ []),
  )

  module _ (count : ℕ) (es : List (L × List L)) (h : IsKept is_value join count es) where
    -- the base and the number of stored deltas add up to the count
    pub whole : (count - length es) + length es ≡ count
    whole = let buffer = h.buffer in let numbered = buffer.numbered in let many = length-map es (λ (x : L × List L). x.0) in omega arith

    -- after deltas are added, all but the newest are dropped
    pub kept_added : (mid new : List (L × List L)) (ds : List L) → count + length ds ≤ MAX_COUNTER → AreJoined is_value join mid → deltas_of mid ≡ deltas_of es ++ ds → new ≡ drop (length mid - MAX_DELTAS) mid → IsKept is_value join (count + length ds) new
    kept_added mid new ds room joined added dropped =
        let w = whole in
        let many = length-map es (λ (x : L × List L). x.0) in
        let more = length-map mid (λ (x : L × List L). x.0) in
        let all = ap length added ∙ length-append (deltas_of es) ds in
        let left = ap length dropped ∙ length-drop (length mid - MAX_DELTAS) mid in
        let long = length-map new (λ (x : L × List L). x.0) in
        let now = subst (AreJoined is_value join) (sym dropped) (joined_drop is_value join (length mid - MAX_DELTAS) mid joined) in
        record {
          buffer = record {
            numbered = omega arith;
            few = omega arith;
            countable = room;
            values = joined_values new now;
          };
          joined = now;
        }

    -- adding several deltas equals as many pushes
    pub shown_added : (mid new : List (L × List L)) (ds : List L) → deltas_of mid ≡ deltas_of es ++ ds → new ≡ drop (length mid - MAX_DELTAS) mid → newest (count + length ds) (deltas_of new) ≡ fold pushed (newest count (deltas_of es)) ds
    shown_added mid new ds added dropped =
        let w = whole in
        let buffer = h.buffer in
        let few = buffer.few in
        let many = length-map es (λ (x : L × List L). x.0) in
        let more = length-map mid (λ (x : L × List L). x.0) in
        let all = ap length added ∙ length-append (deltas_of es) ds in
        let left = ap length dropped ∙ length-drop (length mid - MAX_DELTAS) mid in
        let long = length-map new (λ (x : L × List L). x.0) in
        let gone : length mid - MAX_DELTAS ≡ length (deltas_of es) + length ds - MAX_DELTAS = omega arith in
        same_kept _ _ _ _ _ _ refl (omega arith) (ap deltas_of dropped ∙ (sym (drop-map (λ (x : L × List L). x.0) (length mid - MAX_DELTAS) mid) ∙ (ap (drop (length mid - MAX_DELTAS)) added ∙ ap (λ n. drop n (deltas_of es ++ ds)) gone)))
        ∙ sym (pushes_drop_together (newest count (deltas_of es)) ds few)

    -- dropping the oldest deltas
    pub kept_dropped : (new : List (L × List L)) (n : ℕ) → n ≤ length es → new ≡ drop n es → IsKept is_value join count new
    kept_dropped new n some dropped =
        let w = whole in
        let buffer = h.buffer in
        let few = buffer.few in
        let many = length-map es (λ (x : L × List L). x.0) in
        let left = ap length dropped ∙ length-drop n es in
        let long = length-map new (λ (x : L × List L). x.0) in
        let now = subst (AreJoined is_value join) (sym dropped) (joined_drop is_value join n es h.joined) in
        record {
          buffer = record {
            numbered = omega arith;
            few = omega arith;
            countable = buffer.countable;
            values = joined_values new now;
          };
          joined = now;
        }

    pub shown_dropped : (new : List (L × List L)) (n m : ℕ) → m ≡ min n count - (count - length es) → new ≡ drop m es → newest count (deltas_of new) ≡ trimmed (newest count (deltas_of es)) n
    shown_dropped new n m is dropped =
        let w = whole in
        let many = length-map es (λ (x : L × List L). x.0) in
        let left = ap length dropped ∙ length-drop m es in
        let long = length-map new (λ (x : L × List L). x.0) in
        let same : m ≡ min n count - (count - length (deltas_of es)) = omega arith in
        same_kept _ _ _ _ _ _ refl (omega arith) (ap deltas_of dropped ∙ (sym (drop-map (λ (x : L × List L). x.0) m es) ∙ ap (λ k. drop k (deltas_of es)) same))

    -- the base that contracts see
    pub base_is : (k : KeptDeltas L) (b : ℕ) → newest count (deltas_of es) ≡ k → b ≡ k.base → b ≡ count - length es
    base_is k b shown is =
        let many = length-map es (λ (x : L × List L). x.0) in
        let same = ap (λ (k : KeptDeltas L). k.base) shown in
        omega arith

    -- making joins changes nothing else
    pub kept_same : (new : List (L × List L)) → AreJoined is_value join new → deltas_of new ≡ deltas_of es → IsKept is_value join count new
    kept_same new joined same = record { buffer = subst (λ ds. IsBuffer is_value (newest count ds)) (sym same) h.buffer; joined = joined }
