-- A reader's result depends only on the tokens that it takes, and the last of them causes its fault.
use Rattle.std.proofs.Common.{◌≡◌, ℕ, ◌<◌, List, [], ◌∷◌, ◌++◌, length, Result, Ok, Err, sym, ap, subst, ◌∙◌, append_assoc, length-append, arith}
use Rattle.dac_shapes.specs.laws.Common.{ConfigFault, BadShape, ◌>>=◌, End, Located, Seen, State, fails, at}
use Rattle.dac_first_fault.specs.FirstFault.{IsLocatedAt, Itself, InList, InTuple}

-- A reader can have a bound on the number of tokens: `Room i n` holds if the bound of i suffices for n. `AtEnd` is the
-- result at the end of a text if it needs more.
module _ {I A : Type 0} (Room : I → ℕ → Type 0) (AtEnd : Located → Result (A × State) ConfigFault → Type 0) (read : I → State → Result (A × State) ConfigFault) (us : List Located) (seen : Seen) where
  -- it needs more than these tokens, so a fault after them is its fault
  pub record Wants : Type 0 where
    pub more : (i : I) (p : ConfigFault) → Room i (length us) → read i (at (Err p) us seen) ≡ Err p
    pub end : (i : I) (t : Located) → t.word ≡ End → Room i (length us) → AtEnd t (read i (at (Ok t) us seen))

module _ {I A : Type 0} (Room : I → ℕ → Type 0) (AtEnd : Located → Result (A × State) ConfigFault → Type 0) (read : I → State → Result (A × State) ConfigFault) (us : List Located) (seen : Seen) where
  -- it reads this item from the first tokens, whatever follows them
  pub record Takes : Type 0 where
    pub a : List Located
    pub b : List Located
    pub x : A
    pub after : Seen
    pub whole : us ≡ a ++ b
    pub some : 0 < length a
    pub goes : (i : I) (last : Result Located ConfigFault) (rest : List Located) → Room i (length (a ++ rest)) → read i (at last (a ++ rest) seen) ≡ Ok (x, at last rest after)

  -- the token l causes this fault, whatever follows it, and the reader needs more than the tokens before it
  pub record Fails : Type 0 where
    pub a : List Located
    pub l : Located
    pub b : List Located
    pub e : ConfigFault
    pub whole : us ≡ a ++ l ∷ b
    pub goes : (i : I) (last : Result Located ConfigFault) (rest : List Located) → Room i (length (a ++ l ∷ rest)) → read i (at last (a ++ l ∷ rest) seen) ≡ Err e
    pub stands : IsLocatedAt a l e
    pub wants : Wants Room AtEnd read a seen

  pub data Outcome : Type 0 where
    Took : Takes → Outcome
    Failed : Fails → Outcome
    Asked : Wants Room AtEnd read us seen → Outcome

-- a reader that fails where another one fails
pub fails_as : {I J A B : Type 0} {Room : I → ℕ → Type 0} {More : J → ℕ → Type 0} {AtEnd : Located → Result (A × State) ConfigFault → Type 0} {Late : Located → Result (B × State) ConfigFault → Type 0} {f : I → State → Result (A × State) ConfigFault} {g : J → State → Result (B × State) ConfigFault} {us : List Located} {seen other : Seen}
    → (k : Fails Room AtEnd f us seen) → ((j : J) (last : Result Located ConfigFault) (rest : List Located) → More j (length (k.a ++ k.l ∷ rest)) → g j (at last (k.a ++ k.l ∷ rest) other) ≡ Err k.e) → Wants More Late g k.a other → Fails More Late g us other
fails_as k goes wants = record { a = k.a; l = k.l; b = k.b; e = k.e; whole = k.whole; goes = goes; stands = k.stands; wants = wants }

stands_behind : (a before : List Located) (t : Located) (e : ConfigFault) → IsLocatedAt before t e → IsLocatedAt (a ++ before) t e
stands_behind a before t e (Itself offset kind) = Itself offset kind
stands_behind a before t e (InList front o is w v k) = InList (a ++ front) o (ap (λ (l : List Located). a ++ l) is ∙ sym (append_assoc a front (o ∷ []))) w v k
stands_behind a before t e (InTuple front o is w v k) = InTuple (a ++ front) o (ap (λ (l : List Located). a ++ l) is ∙ sym (append_assoc a front (o ∷ []))) w v k

-- a reader that, after the tokens a, behaves as another one
module _ {I J A : Type 0} (Room : I → ℕ → Type 0) (More : J → ℕ → Type 0) (AtEnd : Located → Result (A × State) ConfigFault → Type 0) (f : I → State → Result (A × State) ConfigFault) (g : J → State → Result (A × State) ConfigFault) (a : List Located) (seen after : Seen)
    (leads : (i : I) (last : Result Located ConfigFault) (rest : List Located) → Room i (length (a ++ rest)) → (j : J) × More j (length rest) × (f i (at last (a ++ rest) seen) ≡ g j (at last rest after))) where
  pub wants_further : (b : List Located) → Wants More AtEnd g b after → Wants Room AtEnd f (a ++ b) seen
  wants_further b w = record {
    more = λ i p room. let l = leads i (Err p) b room in l.2 ∙ w.more l.0 p l.1;
    end = λ i t is room. let l = leads i (Ok t) b room in subst (AtEnd t) (sym l.2) (w.end l.0 t is l.1);
  }

  pub goes_further : (b rest : List Located) (last : Result Located ConfigFault) (i : I) (r : Result (A × State) ConfigFault) → Room i (length ((a ++ b) ++ rest)) → ((j : J) → More j (length (b ++ rest)) → g j (at last (b ++ rest) after) ≡ r) → f i (at last ((a ++ b) ++ rest) seen) ≡ r
  goes_further b rest last i r room goes =
      let l = leads i last (b ++ rest) (subst (λ (q : List Located). Room i (length q)) (append_assoc a b rest) room) in
      ap (λ (q : List Located). f i (at last q seen)) (append_assoc a b rest) ∙ l.2 ∙ goes l.0 l.1

  pub fails_further : (b : List Located) → Fails More AtEnd g b after → Fails Room AtEnd f (a ++ b) seen
  fails_further b t = record {
    a = a ++ t.a;
    l = t.l;
    b = t.b;
    e = t.e;
    whole = ap (λ (l : List Located). a ++ l) t.whole ∙ sym (append_assoc a t.a (t.l ∷ t.b));
    goes = λ i last rest room. goes_further t.a (t.l ∷ rest) last i (Err t.e) room (λ j m. t.goes j last rest m);
    stands = stands_behind a t.a t.l t.e t.stands;
    wants = wants_further t.a t.wants;
  }

  pub further : (b : List Located) → Outcome More AtEnd g b after → Outcome Room AtEnd f (a ++ b) seen
  further b (Took t) = Took (record {
    a = a ++ t.a;
    b = t.b;
    x = t.x;
    after = t.after;
    whole = ap (λ (l : List Located). a ++ l) t.whole ∙ sym (append_assoc a t.a t.b);
    some = omega (arith, t.some, length-append a t.a);
    goes = λ i last rest room. goes_further t.a rest last i (Ok (t.x, at last rest t.after)) room (λ j m. t.goes j last rest m);
  })
  further b (Failed t) = Failed (fails_further b t)
  further b (Asked w) = Asked (wants_further b w)

-- ---- readers with a bound for any number of tokens

abbrev pub Always : Unit {0} → ℕ → Type 0
Always i n = Unit {0}

-- the end is out of place
abbrev pub Plain : {A : Type 0} → Located → Result (A × State) ConfigFault → Type 0
Plain t r = r ≡ fails BadShape t.at

abbrev pub Reader : Type 0 → Type 0
Reader A = State → Result (A × State) ConfigFault

abbrev pub Gives : {A : Type 0} → Reader A → List Located → Seen → Type 0
Gives read us seen = Outcome Always Plain (λ _. read) us seen

abbrev pub IsReader : {A : Type 0} → Reader A → Type 0
IsReader read = (us : List Located) (seen : Seen) → Gives read us seen

abbrev pub Wanting : {A : Type 0} → Reader A → List Located → Seen → Type 0
Wanting read us seen = Wants Always Plain (λ _. read) us seen

-- if a first part fails or needs more, so does the sequence
module _ {A B : Type 0} (f : Reader A) (next : A × State → Result (B × State) ConfigFault) where
  wanting_then : (us : List Located) (seen : Seen) → Wanting f us seen → Wanting (λ s. f s >>= next) us seen
  wanting_then us seen w = record { more = λ i p room. ap (λ r. r >>= next) (w.more i p room); end = λ i t is room. ap (λ r. r >>= next) (w.end i t is room) }

  fails_then : (us : List Located) (seen : Seen) → Fails Always Plain (λ _. f) us seen → Fails Always Plain (λ _ s. f s >>= next) us seen
  fails_then us seen t = fails_as t (λ i last rest room. ap (λ r. r >>= next) (t.goes i last rest room)) (wanting_then t.a seen t.wants)

  pub then : (us : List Located) (seen : Seen) → Gives f us seen → ((b : List Located) (x : A) (after : Seen) → Gives (λ s. next (x, s)) b after) → Gives (λ s. f s >>= next) us seen
  then us seen (Took t) behind =
      subst (λ (l : List Located). Gives (λ s. f s >>= next) l seen) (sym t.whole)
      (further Always Always Plain (λ _ s. f s >>= next) (λ _ s. next (t.x, s)) t.a seen t.after (λ i last rest room. (tt, tt, ap (λ r. r >>= next) (t.goes i last rest room))) t.b (behind t.b t.x t.after))
  then us seen (Failed t) behind = Failed (fails_then us seen t)
  then us seen (Asked w) behind = Asked (wanting_then us seen w)

  -- a last step that takes no token
  pub made : (B' : A → B) → ((x : A) (s : State) → next (x, s) ≡ Ok (B' x, s)) → (us : List Located) (seen : Seen) → Gives f us seen → Gives (λ s. f s >>= next) us seen
  made B' is us seen (Took t) = Took (record {
    a = t.a;
    b = t.b;
    x = B' t.x;
    after = t.after;
    whole = t.whole;
    some = t.some;
    goes = λ i last rest room. ap (λ r. r >>= next) (t.goes i last rest room) ∙ is t.x (at last rest t.after);
  })
  made B' is us seen (Failed t) = Failed (fails_then us seen t)
  made B' is us seen (Asked w) = Asked (wanting_then us seen w)
