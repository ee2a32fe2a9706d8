-- A change in one part of a map.
use Rattle.std.proofs.Common.{◌≡◌, ℕ, ◌<◌, true, false, Bool, List, [], Some, Result, Ok, Err, length, get_or, slice_set, sym, ap, subst, ◌∙◌}
use Rattle.std.specs.Prelude.{IfOk, OnErr}
use Rattle.std.specs.declared.cmp.Ordering.{Ordering}
use Rattle.std.specs.Cmp.{IsTotalOrder}
use Rattle.std.specs.List.{flat_map}
use Rattle.std.specs.FinMap.{find, put}
use Rattle.std.specs.FinMap.Entries.{is_sorted-put}
use Rattle.std.proofs.lemmas.List.{append-nil}
use Rattle.std.proofs.lemmas.Map.Lookups.{CmpEqualImpliesEq}
use Rattle.dac_lattice.specs.Altered.{Altering, IsAlteredIf}
use Rattle.dac_lattice.specs.Search.{IsInOrder}
use Rattle.dac_sorted.specs.Parts.{IsCounted, IsPlaceOf, IsReplaced}
use Rattle.dac_sorted.proofs.PartLemmas.{part_found_at}
use Rattle.dac_sorted.proofs.ChangeLemmas.{count_there, replaced_changed, some_put}
use Rattle.dac_sorted.proofs.ReplaceLemmas.{one_replaced, same_block}

module _ {K X T : Type 0} (R : K → K → Ordering) (does : Altering X T) (k : K) where
  -- a change of a part is one of the whole
  pub altered_part : (part new_part whole new_whole : List (K × X)) (before after : T)
      → find R k part ≡ find R k whole → ((v : X) → new_part ≡ put R k v part → new_whole ≡ put R k v whole)
      → (new_part ≡ part → new_whole ≡ whole)
      → (done : Bool) → IsAlteredIf R does k part before new_part after done → IsAlteredIf R does k whole before new_whole after done
  altered_part part new_part whole new_whole before after found puts same true c =
      record { value = c.value; made = c.made; found = sym found ∙ c.found; done = c.done; entries = puts c.made c.entries }
  altered_part part new_part whole new_whole before after found puts same false c = (same c.0, c.1)

  module _ (o : IsTotalOrder R) where
    -- entries stay entries
    some_altered : (old new : List (K × X)) (before after : T) (done : Bool) → IsAlteredIf R does k old before new after done → 0 < length old → 0 < length new
    some_altered old new before after true c p = subst (λ l. 0 < length l) (sym c.entries) (some_put o k c.made old)
    some_altered old new before after false c p = subst (λ l. 0 < length l) (sym c.0) p

    pub some_tried : {E : Type 0} (r : Result Bool E) (old new : List (K × X)) (before after : T)
        → IfOk r (IsAlteredIf R does k old before new after) → OnErr r ((new ≡ old) × (after ≡ before)) → 0 < length old → 0 < length new
    some_tried (Ok done) old new before after c e p = some_altered old new before after done c p
    some_tried (Err _) old new before after c e p = subst (λ l. 0 < length l) (sym e.0) p

    -- the entries stay in order, and their number stays
    pub counted_altered : (old new : List (K × X)) (before after : T) (count : ℕ) (done : Bool) → IsAlteredIf R does k old before new after done → IsCounted R old count → IsCounted R new count
    counted_altered old new before after count true c u = record {
      in_order = subst (IsInOrder R) (sym c.entries) (is_sorted-put R o k c.made old u.in_order);
      counted = count_there o old k c.value c.made count u.in_order (sym c.found) u.counted ∙ ap length (sym c.entries);
      few = u.few;
    }
    counted_altered old new before after count false c u = subst (λ m. IsCounted R m count) (sym c.0) u

    pub counted_tried : {E : Type 0} (r : Result Bool E) (old new : List (K × X)) (before after : T) (count : ℕ)
        → IfOk r (IsAlteredIf R does k old before new after) → OnErr r ((new ≡ old) × (after ≡ before)) → IsCounted R old count → IsCounted R new count
    counted_tried (Ok done) old new before after count c e u = counted_altered old new before after count done c u
    counted_tried (Err _) old new before after count c e u = subst (λ m. IsCounted R m count) (sym e.0) u

    module _ (exact : CmpEqualImpliesEq R) {B : Type 0} (value : B → List (K × X)) where
      -- in the block at the key's place
      pub altered_block : (blocks : List B) (i : ℕ) (b new : B) (before after : T) → IsInOrder R (flat_map value blocks) → IsPlaceOf R value k blocks i → i < length blocks → b ≡ get_or blocks i b
          → (done : Bool) → IsAlteredIf R does k (value b) before (value new) after done
          → IsAlteredIf R does k (flat_map value blocks) before (flat_map value (slice_set blocks i new)) after done
      altered_block blocks i b new before after s place p is done c =
          let whole = flat_map value blocks in
          let part = part_found_at o exact value k blocks [] whole i s (append-nil whole) place b p is in
          altered_part (value b) (value new) whole (flat_map value (slice_set blocks i new)) before after part.found
          (λ v made. replaced_changed o exact value k (Some v) blocks (slice_set blocks i new) i b s p is place
          (subst (λ es. IsReplaced value i es blocks (slice_set blocks i new)) made (one_replaced value blocks i new p)))
          (λ same. same_block value blocks i b new p is same)
          done c
