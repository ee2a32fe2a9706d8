-- Cached intervals.
use Rattle.std.specs.Prelude.{◌≡◌, ℕ, ◌+◌, ◌-◌, ◌≤◌, fold, drop, cond, Option, Some, None}
use Rattle.std.proofs.Common.{sym, ap, ◌∙◌, arith, drop-drop, le-ltb}
use Rattle.dac_deltas.specs.KeptDeltas.{KeptDeltas, cut, numbered_from, interval_of}
use Rattle.dac_deltas.specs.BlockEnds.{IsReady}

module _ {L : Type 0} (join : L → L → L) (bottom : L) where
  -- if all deltas from its number on are stored, an interval is their join
  pub whole_interval : (k : KeptDeltas L) (a : ℕ) (x : L) → k.base ≤ a → x ≡ fold join bottom (numbered_from k a) → Some x ≡ interval_of bottom join k a
  whole_interval k a x low is = ap (λ y. Some y) is ∙ ap (λ b. cond b None (Some (fold join bottom (numbered_from k a)))) (sym (le-ltb a k.base low))

  -- a cached interval stays right after the oldest deltas are dropped
  pub ready_cut : (k : KeptDeltas L) (n : ℕ) (ready : Option (ℕ × L)) → IsReady join bottom k ready → IsReady join bottom (cut k n) ready
  ready_cut k n None h = tt
  ready_cut k n (Some made) h = λ low.
      let to : n + (made.0 - (k.base + n)) ≡ made.0 - k.base = omega arith in
      h (omega arith) ∙ sym (ap (fold join bottom) (drop-drop (made.0 - (k.base + n)) n k.deltas ∙ ap (λ m. drop m k.deltas) to))
