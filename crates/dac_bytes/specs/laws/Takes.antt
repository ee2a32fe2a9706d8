-- Laws of the definitions in `Takes`.
use Rattle.std.specs.Prelude.{◌≡◌, ℕ, ◌+◌, Bool, true, false, cond, List, [], ◌++◌, length, take, drop, Result, Ok, Err, refl}
use Rattle.std.proofs.Common.{sym, ap, subst, ◌∙◌, inl, inr, ◌≤◌, arith, append_assoc}
use Rattle.std.proofs.lemmas.Bool.{cases_lt}
use Rattle.std.proofs.lemmas.List.{take-append-drop, length-append, length-take, get_or-drop, get_or-take, get_or_past}
use Rattle.dac_bytes.specs.declared.fault.ReadFaultKind.{ReadFaultKind}
use Rattle.dac_bytes.specs.declared.fault.ReadFault.{ReadFault}
use Rattle.dac_bytes.specs.Reading.{Rest, Field, fault, ◌>>=◌}
use Rattle.dac_bytes.specs.Takes.{Again, IsBytes, Takes, TakesAs}

-- ---- taking

IsBytes-drop : (n : ℕ) (bytes : List ℕ) → IsBytes bytes → IsBytes (drop n bytes)
IsBytes-drop n bytes h i = rw get_or-drop (h (n + i))

pub IsBytes-take : (n : ℕ) (bytes : List ℕ) → IsBytes bytes → IsBytes (take n bytes)
IsBytes-take n bytes h i =
    elim (cases_lt i n) [
      | inl lt ↦ rw (get_or-take n bytes i 0 lt) (h i)
      | inr le ↦ rw (get_or_past (take n bytes) i 0 (omega (arith, length-take n bytes))) (omega arith)
    ]

pub Takes-front : (n : ℕ) (r : Rest) → n ≤ length r.bytes → IsBytes r.bytes → Takes r (take n r.bytes) (record { at = r.at + n; bytes = drop n r.bytes })
Takes-front n r long fits =
    record {
      parts = sym (take-append-drop n r.bytes);
      offset = omega (arith, length-take n r.bytes);
      fits = IsBytes-drop n r.bytes fits;
    }

pub Takes-none : (r : Rest) → IsBytes r.bytes → Takes r [] r
Takes-none r fits = record { parts = refl; offset = omega arith; fits = fits }

-- taking one text, followed by another
pub Takes-then : (a : Rest) (x : List ℕ) (b : Rest) (y : List ℕ) (c : Rest) → Takes a x b → Takes b y c → Takes a (x ++ y) c
Takes-then a x b y c p q =
    record {
      parts = p.parts ∙ ap (λ (t : List ℕ). x ++ t) q.parts ∙ sym (append_assoc x y c.bytes);
      offset = omega (arith, p.offset, q.offset, length-append x y);
      fits = q.fits;
    }

-- ---- steps that succeeded

pub bind_ok : {A B : Type 0} (r : Result A ReadFault) (f : A → Result B ReadFault) (y : B) → (r >>= f) ≡ Ok y → (x : A) × (r ≡ Ok x) × (f x ≡ Ok y)
bind_ok (Ok x) f y e = (x, refl, e)
bind_ok (Err d) f y e = absurd cc

-- a test that must fail
pub guard_ok : {X : Type 0} (b : Bool) (kind : ReadFaultKind) (r : Rest) (x y : X) → cond b (fault kind r) (Ok x) ≡ Ok y → (b ≡ false) × (x ≡ y)
guard_ok true kind r x y e = absurd cc
guard_ok false kind r x y e = (refl, cc)

-- a test that must hold
pub wanted_ok : {X : Type 0} (b : Bool) (kind : ReadFaultKind) (r : Rest) (x y : X) → cond b (Ok x) (fault kind r) ≡ Ok y → (b ≡ true) × (x ≡ y)
wanted_ok true kind r x y e = (refl, cc)
wanted_ok false kind r x y e = absurd cc

abbrev done : {X : Type 0} → X → Result X ReadFault
done x = Ok x

pub ok_is : {X : Type 0} (x y : X) → done x ≡ done y → x ≡ y
ok_is x y e = cc

-- a weaker property of the values that are read
pub TakesAs-more : {X : Type 0} (read : Rest → Field X) (text : X → List ℕ) (Is More : X → Type 0) → TakesAs read text Is → ((x : X) → Is x → More x) → TakesAs read text More
TakesAs-more read text Is More takes more r x fits e = let t = takes r x fits e in (t.0, more x.0 t.1)

-- a field that is rejected if a test holds
pub TakesAs-guard : {X : Type 0} (read : Rest → Field X) (text : X → List ℕ) (Is : X → Type 0) (bad : X → Bool) (kind : ReadFaultKind)
    → TakesAs read text Is → TakesAs (λ r. read r >>= λ x. cond (bad x.0) (fault kind r) (Ok x)) text (λ x. Is x × (bad x ≡ false))
TakesAs-guard {X = X} read text Is bad kind takes r x fits e =
    let b = bind_ok (read r) (λ x. cond (bad x.0) (fault kind r) (Ok x)) x e in
    let g = guard_ok (bad b.0.0) kind r b.0 x b.2 in
    let t = takes r b.0 fits b.1 in
    subst (λ (x : X × Rest). Takes r (text x.0) x.1 × (Is x.0 × (bad x.0 ≡ false))) g.1 (t.0, (t.1, g.0))

-- a field that is rejected if a test fails
pub TakesAs-wanted : {X : Type 0} (read : Rest → Field X) (text : X → List ℕ) (Is : X → Type 0) (good : X → Bool) (kind : ReadFaultKind)
    → TakesAs read text Is → TakesAs (λ r. read r >>= λ x. cond (good x.0) (Ok x) (fault kind r)) text (λ x. Is x × (good x ≡ true))
TakesAs-wanted {X = X} read text Is good kind takes r x fits e =
    let b = bind_ok (read r) (λ x. cond (good x.0) (Ok x) (fault kind r)) x e in
    let g = wanted_ok (good b.0.0) kind r b.0 x b.2 in
    let t = takes r b.0 fits b.1 in
    subst (λ (x : X × Rest). Takes r (text x.0) x.1 × (Is x.0 × (good x.0 ≡ true))) g.1 (t.0, (t.1, g.0))

-- a field whose value is converted
pub TakesAs-made : {X Y : Type 0} (read : Rest → Field X) (text : X → List ℕ) (Is : X → Type 0) (make : X → Y) (spelled : Y → List ℕ) (More : Y → Type 0)
    → TakesAs read text Is → ((x : X) → Is x → (text x ≡ spelled (make x)) × More (make x)) → TakesAs (λ r. read r >>= λ x. Ok (make x.0, x.1)) spelled More
TakesAs-made {Y = Y} read text Is make spelled More takes made r y fits e =
    let b = bind_ok (read r) (λ x. Ok (make x.0, x.1)) y e in
    let t = takes r b.0 fits b.1 in
    let m = made b.0.0 t.1 in
    let from : Takes r (spelled (make b.0.0)) b.0.1 = subst (λ (w : List ℕ). Takes r w b.0.1) m.0 t.0 in
    subst (λ (y : Y × Rest). Takes r (spelled y.0) y.1 × More y.0) (ok_is (make b.0.0, b.0.1) y b.2) (from, m.1)

-- two fields whose values are combined
pub TakesAs-both : {X Y Z : Type 0} (read : Rest → Field X) (text : X → List ℕ) (Is : X → Type 0) (next : X → Rest → Field Y) (text_next : X → Y → List ℕ) (IsNext : X → Y → Type 0)
    → (make : X → Y → Z) (spelled : Z → List ℕ) (More : Z → Type 0)
    → TakesAs read text Is → ((x : X) → Is x → TakesAs (next x) (text_next x) (IsNext x))
    → ((x : X) (y : Y) → Is x → IsNext x y → (text x ++ text_next x y ≡ spelled (make x y)) × More (make x y))
    → TakesAs (λ r. read r >>= λ x. next x.0 x.1 >>= λ y. Ok (make x.0 y.0, y.1)) spelled More
TakesAs-both {Z = Z} read text Is next text_next IsNext make spelled More takes then_takes made r z fits e =
    let b = bind_ok (read r) (λ x. next x.0 x.1 >>= λ y. Ok (make x.0 y.0, y.1)) z e in
    let c = bind_ok (next b.0.0 b.0.1) (λ y. Ok (make b.0.0 y.0, y.1)) z b.2 in
    let t = takes r b.0 fits b.1 in
    let u = then_takes b.0.0 t.1 b.0.1 c.0 t.0.fits c.1 in
    let m = made b.0.0 c.0.0 t.1 u.1 in
    let both = Takes-then r (text b.0.0) b.0.1 (text_next b.0.0 c.0.0) c.0.1 t.0 u.0 in
    let from : Takes r (spelled (make b.0.0 c.0.0)) c.0.1 = subst (λ (w : List ℕ). Takes r w c.0.1) m.0 both in
    subst (λ (z : Z × Rest). Takes r (spelled z.0) z.1 × More z.0) (ok_is (make b.0.0 c.0.0, c.0.1) z c.2) (from, m.1)

-- ---- reading again

-- one field, followed by another
pub Again-then : {X Y : Type 0} (read : Rest → Field X) (more : X × Rest → Field Y) (a b : List ℕ) (x : X) (y : Y)
    → Again read a x → Again (λ r. more (x, r)) b y → Again (λ r. read r >>= more) (a ++ b) y
Again-then read more a b x y p q at rest =
    let first = ap (λ (t : List ℕ). read (record { at = at; bytes = t }) >>= more) (append_assoc a b rest) in
    let second = ap (λ f. f >>= more) (p at (b ++ rest)) in
    let offset : at + length a + length b ≡ at + length (a ++ b) = omega (arith, length-append a b) in
    first ∙ second ∙ q (at + length a) rest ∙ ap (λ (n : ℕ). Ok (y, record { at = n; bytes = rest })) offset

-- a field whose value is converted
pub Again-made : {X Y : Type 0} (read : Rest → Field X) (make : X → Y) (text : List ℕ) (x : X) → Again read text x → Again (λ r. read r >>= λ x. Ok (make x.0, x.1)) text (make x)
Again-made read make text x p at rest = ap (λ f. f >>= λ x. Ok (make x.0, x.1)) (p at rest)

-- a field that a test doesn't reject
pub Again-guard : {X : Type 0} (read : Rest → Field X) (bad : X → Bool) (kind : ReadFaultKind) (text : List ℕ) (x : X) → Again read text x → bad x ≡ false → Again (λ r. read r >>= λ x. cond (bad x.0) (fault kind r) (Ok x)) text x
Again-guard read bad kind text x p ok at rest =
    let r : Rest = record { at = at; bytes = text ++ rest } in
    let end : Rest = record { at = at + length text; bytes = rest } in
    ap (λ f. f >>= λ x. cond (bad x.0) (fault kind r) (Ok x)) (p at rest) ∙ ap (λ (b : Bool). cond b (fault kind r) (Ok (x, end))) ok

-- a field that passes a test
pub Again-wanted : {X : Type 0} (read : Rest → Field X) (good : X → Bool) (kind : ReadFaultKind) (text : List ℕ) (x : X) → Again read text x → good x ≡ true → Again (λ r. read r >>= λ x. cond (good x.0) (Ok x) (fault kind r)) text x
Again-wanted read good kind text x p ok at rest =
    let r : Rest = record { at = at; bytes = text ++ rest } in
    let end : Rest = record { at = at + length text; bytes = rest } in
    ap (λ f. f >>= λ x. cond (good x.0) (Ok x) (fault kind r)) (p at rest) ∙ ap (λ (b : Bool). cond b (Ok (x, end)) (fault kind r)) ok

-- two fields whose values are combined
pub Again-both : {X Y Z : Type 0} (read : Rest → Field X) (next : X → Rest → Field Y) (make : X → Y → Z) (a b : List ℕ) (x : X) (y : Y)
    → Again read a x → Again (next x) b y → Again (λ r. read r >>= λ x. next x.0 x.1 >>= λ y. Ok (make x.0 y.0, y.1)) (a ++ b) (make x y)
Again-both read next make a b x y p q =
    Again-then read (λ x. next x.0 x.1 >>= λ y. Ok (make x.0 y.0, y.1)) a b x (make x y) p (Again-made (next x) (make x) b y q)
