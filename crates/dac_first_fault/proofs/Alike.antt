-- Readers that, from some token, behave as another reader.
use Rattle.std.proofs.Common.{◌≡◌, ℕ, ◌<◌, List, [], ◌∷◌, ◌++◌, length, Result, Ok, Err, refl, sym, ap, subst, ◌∙◌, arith}
use Rattle.dac_shapes.specs.laws.Common.{ConfigFault, Located, Seen, State, at, cons_is}
use Rattle.dac_first_fault.proofs.Outcomes.{Wants, Fails, Outcome, Took, Failed, Asked, Reader, Gives, fails_as, Wanting}

same_wants : {A : Type 0} (f g : Reader A) → ((s : State) → f s ≡ g s) → (us : List Located) (seen : Seen) → Wanting g us seen → Wanting f us seen
same_wants f g same us seen w = record { more = λ i p room. same (at (Err p) us seen) ∙ w.more i p room; end = λ i t is room. same (at (Ok t) us seen) ∙ w.end i t is room }

-- a reader with the same result at each state
pub same_reader : {A : Type 0} (f g : Reader A) → ((s : State) → f s ≡ g s) → (us : List Located) (seen : Seen) → Gives g us seen → Gives f us seen
same_reader f g same us seen (Took k) = Took (record { a = k.a; b = k.b; x = k.x; after = k.after; whole = k.whole; some = k.some; goes = λ i last rest room. same (at last (k.a ++ rest) seen) ∙ k.goes i last rest room })
same_reader f g same us seen (Failed k) = Failed (fails_as k (λ i last rest room. same (at last (k.a ++ k.l ∷ rest) seen) ∙ k.goes i last rest room) (same_wants f g same k.a seen k.wants))
same_reader f g same us seen (Asked w) = Asked (same_wants f g same us seen w)

module _ {I J A : Type 0} (Room : I → ℕ → Type 0) (More : J → ℕ → Type 0) (AtEnd : Located → Result (A × State) ConfigFault → Type 0) (f : I → State → Result (A × State) ConfigFault) (g : J → State → Result (A × State) ConfigFault) (t : Located) (b : List Located) (seen other : Seen)
    (same : (i : I) (last : Result Located ConfigFault) (rest : List Located) → Room i (length (t ∷ rest)) → (j : J) × More j (length (t ∷ rest)) × (f i (at last (t ∷ rest) seen) ≡ g j (at last (t ∷ rest) other))) (wants : Wants Room AtEnd f [] seen) where
  end_alike : (u : Located) (rest : List Located) (last : Result Located ConfigFault) (i : I) → u ≡ t → Room i (length (u ∷ rest)) → (P : Result (A × State) ConfigFault → Type 0) → ((j : J) → More j (length (u ∷ rest)) → P (g j (at last (u ∷ rest) other))) → P (f i (at last (u ∷ rest) seen))
  end_alike u rest last i is room P goes =
      let start : u ∷ rest ≡ t ∷ rest = ap (λ (v : Located). v ∷ rest) is in
      let l = same i last rest (subst (λ (q : List Located). Room i (length q)) start room) in
      subst (λ (q : List Located). P (f i (at last q seen))) (sym start) (subst P (sym l.2) (subst (λ (q : List Located). P (g l.0 (at last q other))) start (goes l.0 (subst (λ (q : List Located). More l.0 (length q)) (sym start) l.1))))

  begun : (r : Result (A × State) ConfigFault) (u : Located) (rest : List Located) (last : Result Located ConfigFault) (i : I) → u ≡ t → Room i (length (u ∷ rest)) → ((j : J) → More j (length (u ∷ rest)) → g j (at last (u ∷ rest) other) ≡ r) → f i (at last (u ∷ rest) seen) ≡ r
  begun r u rest last i is room goes = end_alike u rest last i is room (λ q. q ≡ r) goes

  taken_alike : (a c : List Located) (x : A) (after : Seen) → t ∷ b ≡ a ++ c → 0 < length a → ((j : J) (last : Result Located ConfigFault) (rest : List Located) → More j (length (a ++ rest)) → g j (at last (a ++ rest) other) ≡ Ok (x, at last rest after)) → Outcome Room AtEnd f (t ∷ b) seen
  taken_alike [] c x after whole some goes = absurd (omega arith)
  taken_alike (u ∷ a) c x after whole some goes = Took (record {
    a = u ∷ a;
    b = c;
    x = x;
    after = after;
    whole = whole;
    some = some;
    goes = λ i last rest room. begun (Ok (x, at last rest after)) u (a ++ rest) last i (sym (cons_is t u b (a ++ c) whole).0) room (λ j m. goes j last rest m);
  })

  wants_alike : (a : List Located) → Wants More AtEnd g a other → ((u : Located) (rest : List Located) → a ≡ u ∷ rest → u ≡ t) → Wants Room AtEnd f a seen
  wants_alike [] w head = wants
  wants_alike (u ∷ a) w head = record { more = λ i p room. begun (Err p) u a (Err p) i (head u a refl) room (λ j m. w.more j p m); end = λ i q is room. end_alike u a (Ok q) i (head u a refl) room (AtEnd q) (λ j m. w.end j q is m) }

  pub goes_alike : (a : List Located) (l : Located) (c rest : List Located) (last : Result Located ConfigFault) (i : I) (r : Result (A × State) ConfigFault) → t ∷ b ≡ a ++ l ∷ c → Room i (length (a ++ l ∷ rest)) → ((j : J) → More j (length (a ++ l ∷ rest)) → g j (at last (a ++ l ∷ rest) other) ≡ r) → f i (at last (a ++ l ∷ rest) seen) ≡ r
  goes_alike [] l c rest last i r whole room goes = begun r l rest last i (sym (cons_is t l b c whole).0) room goes
  goes_alike (u ∷ a) l c rest last i r whole room goes = begun r u (a ++ l ∷ rest) last i (sym (cons_is t u b (a ++ l ∷ c) whole).0) room goes

  pub wants_before : (a : List Located) (l : Located) (c : List Located) → t ∷ b ≡ a ++ l ∷ c → Wants More AtEnd g a other → Wants Room AtEnd f a seen
  wants_before a l c whole w = wants_alike a w (λ u rest is. sym (cons_is t u b (rest ++ l ∷ c) (whole ∙ ap (λ (q : List Located). q ++ l ∷ c) is)).0)

  pub wants_all : Wants More AtEnd g (t ∷ b) other → Wants Room AtEnd f (t ∷ b) seen
  wants_all w = wants_alike (t ∷ b) w (λ u rest is. sym (cons_is t u b rest is).0)

  pub fails_alike : Fails More AtEnd g (t ∷ b) other → Fails Room AtEnd f (t ∷ b) seen
  fails_alike k = fails_as k (λ i last rest room. goes_alike k.a k.l k.b rest last i (Err k.e) k.whole room (λ j m. k.goes j last rest m)) (wants_before k.a k.l k.b k.whole k.wants)

  pub alike : Outcome More AtEnd g (t ∷ b) other → Outcome Room AtEnd f (t ∷ b) seen
  alike (Took k) = taken_alike k.a k.b k.x k.after k.whole k.some k.goes
  alike (Failed k) = Failed (fails_alike k)
  alike (Asked w) = Asked (wants_all w)
