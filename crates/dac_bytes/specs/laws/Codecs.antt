-- Codecs that are composed of other codecs.
use Rattle.std.specs.Prelude.{◌≡◌, ℕ, ◌+◌, Bool, true, false, cond, List, ◌++◌, length, Result, Ok, Err, refl}
use Rattle.std.proofs.Common.{sym, ap, subst, ◌∙◌}
use Rattle.dac_bytes.specs.declared.fault.ReadFault.{ReadFault}
use Rattle.dac_bytes.specs.Reading.{Rest, Field, ◌>>=◌}
use Rattle.dac_bytes.specs.Takes.{IsCodec, Passes, Takes, Again}
use Rattle.dac_bytes.specs.laws.Takes.{TakesAs-more, TakesAs-made, TakesAs-both, Again-made, Again-both, bind_ok}

-- a codec by a reader with equal results
pub codec_alike : {X : Type 0} (read other : Rest → Field X) (text : X → List ℕ) (Is : X → Type 0) → ((r : Rest) → other r ≡ read r) → IsCodec read text Is → IsCodec other text Is
codec_alike read other text Is alike codec = record {
  takes = λ r x fits e. codec.takes r x fits (sym (alike r) ∙ e);
  again = λ x is at rest. alike (record { at = at; bytes = text x ++ rest }) ∙ codec.again x is at rest;
}

-- a third step after two
pub bind_bind : {A B C : Type 0} (m : Result A ReadFault) (f : A → Result B ReadFault) (g : B → Result C ReadFault) → ((m >>= f) >>= g) ≡ (m >>= λ x. f x >>= g)
bind_bind (Ok x) f g = refl
bind_bind (Err e) f g = refl

module _ {X : Type 0} (read : Rest → Field X) (text : X → List ℕ) (Is : X → Type 0) (codec : IsCodec read text Is) where
  -- a codec for an equivalent form
  pub codec_same : (More : X → Type 0) → ((x : X) → Is x → More x) → ((x : X) → More x → Is x) → IsCodec read text More
  codec_same More to back = record { takes = TakesAs-more read text Is More codec.takes to; again = λ x is. codec.again x (back x is) }

  -- a field that must pass a test
  module _ (good : X → Bool) (wrong : Rest → X × Rest → ReadFault) where
    abbrev pub wanted_at : Rest → Field X
    wanted_at r = read r >>= λ x. cond (good x.0) (Ok x) (Err (wrong r x))

    passed : (r : Rest) (b : Bool) (x y : X × Rest) → cond b (Ok x) (Err (wrong r x)) ≡ Ok y → (b ≡ true) × (x ≡ y)
    passed r true x y e = (refl, cc)
    passed r false x y e = absurd cc

    pub codec_wanted : IsCodec wanted_at text (Passes Is good)
    codec_wanted = record {
      takes = λ r y fits e.
          let b = bind_ok (read r) (λ x. cond (good x.0) (Ok x) (Err (wrong r x))) y e in
          let g = passed r (good b.0.0) b.0 y b.2 in
          let t = codec.takes r b.0 fits b.1 in
          subst (λ (y : X × Rest). Takes r (text y.0) y.1 × Passes Is good y.0) g.1 (t.0, (t.1, g.0));
      again = λ x is at rest.
          let r : Rest = record { at = at; bytes = text x ++ rest } in
          let end : Rest = record { at = at + length (text x); bytes = rest } in
          ap (λ f. f >>= λ y. cond (good y.0) (Ok y) (Err (wrong r y))) (codec.again x is.0 at rest)
          ∙ ap (λ (b : Bool). cond b (Ok (x, end)) (Err (wrong r (x, end)))) is.1;
    }

  -- a field whose value is converted
  module _ {Y : Type 0} (make : X → Y) (spelled : Y → List ℕ) (More : Y → Type 0) where
    pub codec_made : ((x : X) → Is x → (text x ≡ spelled (make x)) × More (make x)) → ((y : Y) → More y → (x : X) × Is x × (make x ≡ y))
        → IsCodec (λ r. read r >>= λ x. Ok (make x.0, x.1)) spelled More
    codec_made to back = record {
      takes = TakesAs-made read text Is make spelled More codec.takes to;
      again = λ y is.
          let b = back y is in
          let read_made = λ (r : Rest). read r >>= λ x. Ok (make x.0, x.1) in
          subst (λ (y : Y). Again read_made (spelled y) y) b.2
          (subst (λ (t : List ℕ). Again read_made t (make b.0)) (to b.0 b.1).0 (Again-made read make (text b.0) b.0 (codec.again b.0 b.1)));
    }

  -- two fields whose values are combined; the first can determine how the second is read
  module _ {Y Z : Type 0} (next : X → Rest → Field Y) (text_next : X → Y → List ℕ) (IsNext : X → Y → Type 0) (codec_next : (x : X) → Is x → IsCodec (next x) (text_next x) (IsNext x))
      (make : X → Y → Z) (spelled : Z → List ℕ) (More : Z → Type 0) where
    pub codec_both : ((x : X) (y : Y) → Is x → IsNext x y → (text x ++ text_next x y ≡ spelled (make x y)) × More (make x y))
        → ((z : Z) → More z → (x : X) × (y : Y) × Is x × IsNext x y × (make x y ≡ z)) → IsCodec (λ r. read r >>= λ x. next x.0 x.1 >>= λ y. Ok (make x.0 y.0, y.1)) spelled More
    codec_both to back = record {
      takes = TakesAs-both read text Is next text_next IsNext make spelled More codec.takes (λ x is. (codec_next x is).takes) to;
      again = λ z is.
          let b = back z is in
          let read_both = λ (r : Rest). read r >>= λ x. next x.0 x.1 >>= λ y. Ok (make x.0 y.0, y.1) in
          subst (λ (z : Z). Again read_both (spelled z) z) b.4
          (subst (λ (t : List ℕ). Again read_both t (make b.0 b.1)) (to b.0 b.1 b.2 b.3).0
          (Again-both read next make (text b.0) (text_next b.0 b.1) b.0 b.1 (codec.again b.0 b.2) ((codec_next b.0 b.2).again b.1 b.3)));
    }

  module _ {Y : Type 0} (next : X → Rest → Field Y) (text_next : X → Y → List ℕ) (IsNext : X → Y → Type 0) (codec_next : (x : X) → Is x → IsCodec (next x) (text_next x) (IsNext x)) where
    abbrev pub pair_bytes : X × Y → List ℕ
    pair_bytes p = text p.0 ++ text_next p.0 p.1

    abbrev pub ArePair : X × Y → Type 0
    ArePair p = Is p.0 × IsNext p.0 p.1

    pub codec_pair : IsCodec (λ r. read r >>= λ x. next x.0 x.1 >>= λ y. Ok ((x.0, y.0), y.1)) pair_bytes ArePair
    codec_pair = codec_both next text_next IsNext codec_next (λ x y. (x, y)) pair_bytes ArePair (λ x y p q. (refl, (p, q))) (λ z is. (z.0, z.1, is.0, is.1, refl))
