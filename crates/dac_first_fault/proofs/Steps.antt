-- Readers of single tokens, and the readings after them.
use Rattle.std.proofs.Common.{◌≡◌, Bool, true, false, cond, List, [], ◌∷◌, Result, Ok, Err, refl, sym, ap, subst, ◌∙◌, arith}
use Rattle.dac_shapes.specs.laws.Common.{ConfigFault, FaultKind, BadShape, Symbol, OpenTuple, CloseTuple, Comma, ◌>>=◌, End, Located, Seen, State, fails, is_symbol, token, symbol_at, pair_at, closed, at}
use Rattle.dac_first_fault.specs.FirstFault.{IsLocatedAt, Itself, CanCause}
use Rattle.dac_first_fault.proofs.Outcomes.{Took, Failed, Asked, further, Always, Plain, Reader, Gives, IsReader, Wanting, then}

-- ---- a reader that begins with one token

module _ {A : Type 0} (f : Reader A) (t : Located) (b : List Located) (seen : Seen) where
  pub first_goes : (g : Reader A) (after : Seen) → ((last : Result Located ConfigFault) (rest : List Located) → f (at last (t ∷ rest) seen) ≡ g (at last rest after)) → Gives g b after → Gives f (t ∷ b) seen
  first_goes g after same gives = further Always Always Plain (λ _. f) (λ _. g) (t ∷ []) seen after (λ i last rest room. (tt, tt, same last rest)) b gives

  pub first_taken : (x : A) (after : Seen) → ((last : Result Located ConfigFault) (rest : List Located) → f (at last (t ∷ rest) seen) ≡ Ok (x, at last rest after)) → Gives f (t ∷ b) seen
  first_taken x after same = Took (record { a = t ∷ []; b = b; x = x; after = after; whole = refl; some = omega arith; goes = λ i last rest room. same last rest })

  pub first_fails : (e : ConfigFault) → ((last : Result Located ConfigFault) (rest : List Located) → f (at last (t ∷ rest) seen) ≡ Err e) → IsLocatedAt [] t e → Wanting f [] seen → Gives f (t ∷ b) seen
  first_fails e same stands wants = Failed (record { a = []; l = t; b = b; e = e; whole = refl; goes = λ i last rest room. same last rest; stands = stands; wants = wants })

pub wants_token : {A : Type 0} (next : Located × State → Result (A × State) ConfigFault) → ((t : Located) (s : State) → t.word ≡ End → next (t, s) ≡ fails BadShape t.at) → (seen : Seen) → Wanting (λ s. token s >>= next) [] seen
wants_token next ends seen = record { more = λ i p room. refl; end = λ i t is room. ends t (at (Ok t) [] seen) is }

-- ---- a token's fault is at its offset

abbrev pub Here : {K : Type 0} → Located → Result K ConfigFault → Type 0
Here t r = (e : ConfigFault) → r ≡ Err e → IsLocatedAt [] t e

pub here_ok : {K : Type 0} (t : Located) (x : K) → Here t (Ok x)
here_ok t x e q = absurd cc

pub here_fails : {K : Type 0} (t : Located) (kind : FaultKind) → CanCause kind t.word → Here {K = K} t (fails kind t.at)
here_fails t kind can e q =
    let d : record { kind = kind; at = t.at } ≡ e = cc in
    Itself (sym (ap (λ (f : ConfigFault). f.at) d)) (subst (λ (f : ConfigFault). CanCause f.kind t.word) d can)

pub here_if : {K : Type 0} (t : Located) (c : Bool) (r q : Result K ConfigFault) → (c ≡ true → Here t r) → (c ≡ false → Here t q) → Here t (cond c r q)
here_if t true r q a b = a refl
here_if t false r q a b = b refl

pub here_then : {K L : Type 0} (t : Located) (r : Result K ConfigFault) (f : K → Result L ConfigFault) → Here t r → ((k : K) → r ≡ Ok k → Here t (f k)) → Here t (r >>= f)
here_then t (Ok k) f a b = b k refl
here_then t (Err d) f a b = λ e q. a e (let same : d ≡ e = cc in ap (λ (x : ConfigFault). Err x) same)

-- the contents of a token, which don't depend on the tokens after it
pub record IsLook {K : Type 0} (g : Located → Result K ConfigFault) : Type 0 where
  pub offset : (t : Located) → Here t (g t)
  pub end : (t : Located) → t.word ≡ End → g t ≡ fails BadShape t.at

module _ {K A : Type 0} (g : Located → Result K ConfigFault) (is : IsLook g) (next : K → Reader A) where
  look_wants : (seen : Seen) → Wanting (λ s. token s >>= λ q. g q.0 >>= λ k. next k q.1) [] seen
  look_wants seen = wants_token (λ q. g q.0 >>= λ k. next k q.1) (λ t s w. ap (λ r. r >>= λ k. next k s) (is.end t w)) seen

  look_at : (t : Located) (b : List Located) (seen : Seen) (r : Result K ConfigFault) → g t ≡ r → ((k : K) → g t ≡ Ok k → Gives (λ s. token s >>= λ q. g q.0 >>= λ k. next k q.1) (t ∷ b) seen) → Gives (λ s. token s >>= λ q. g q.0 >>= λ k. next k q.1) (t ∷ b) seen
  look_at t b seen (Ok k) e ok = ok k e
  look_at t b seen (Err d) e ok = first_fails (λ s. token s >>= λ q. g q.0 >>= λ k. next k q.1) t b seen d (λ last rest. ap (λ r. r >>= λ k. next k (at last rest seen)) e) (is.offset t d e) (look_wants seen)

  pub look_then : ((k : K) → IsReader (next k)) → IsReader (λ s. token s >>= λ q. g q.0 >>= λ k. next k q.1)
  look_then reads [] seen = Asked (look_wants seen)
  look_then reads (t ∷ b) seen = look_at t b seen (g t) refl (λ k e.
      first_goes (λ s. token s >>= λ q. g q.0 >>= λ k. next k q.1) t b seen (next k) seen (λ last rest. ap (λ r. r >>= λ k. next k (at last rest seen)) e) (reads k b seen))

  -- a reader of one token only
  pub look_only : (x : K → A) → ((k : K) (s : State) → next k s ≡ Ok (x k, s)) → IsReader (λ s. token s >>= λ q. g q.0 >>= λ k. next k q.1)
  look_only x is [] seen = Asked (look_wants seen)
  look_only x is (t ∷ b) seen = look_at t b seen (g t) refl (λ k e.
      first_taken (λ s. token s >>= λ q. g q.0 >>= λ k. next k q.1) t b seen (x k) seen (λ last rest. ap (λ r. r >>= λ k. next k (at last rest seen)) e ∙ is k (at last rest seen)))

-- ---- one symbol

module _ {A : Type 0} (x : Symbol) (next : Reader A) where
  symbol_wants : (seen : Seen) → Wanting (λ s. symbol_at x s >>= next) [] seen
  unfolding symbol_at
  symbol_wants seen = record { more = λ i p room. refl; end = λ i t is room. rw is refl }

  symbol_by : (t : Located) (b : List Located) (seen : Seen) (c : Bool) → is_symbol x t.word ≡ c → (is_symbol x t.word ≡ true → Gives (λ s. symbol_at x s >>= next) (t ∷ b) seen) → Gives (λ s. symbol_at x s >>= next) (t ∷ b) seen
  unfolding symbol_at
  symbol_by t b seen true e goes = goes e
  symbol_by t b seen false e goes = first_fails (λ s. symbol_at x s >>= next) t b seen (record { kind = BadShape; at = t.at }) (λ last rest. rw e refl) (Itself refl tt) (symbol_wants seen)

  pub symbol_then : IsReader next → IsReader (λ s. symbol_at x s >>= next)
  unfolding symbol_at
  symbol_then reads [] seen = Asked (symbol_wants seen)
  symbol_then reads (t ∷ b) seen = symbol_by t b seen (is_symbol x t.word) refl (λ e. first_goes (λ s. symbol_at x s >>= next) t b seen next seen (λ last rest. rw e refl) (reads b seen))

  -- a reader of one symbol only
  pub symbol_only : (y : A) → ((s : State) → next s ≡ Ok (y, s)) → IsReader (λ s. symbol_at x s >>= next)
  unfolding symbol_at
  symbol_only y is [] seen = Asked (symbol_wants seen)
  symbol_only y is (t ∷ b) seen = symbol_by t b seen (is_symbol x t.word) refl (λ e. first_taken (λ s. symbol_at x s >>= next) t b seen y seen (λ last rest. rw e (is (at last rest seen))))

-- ---- a value and the brace that closes its pair, and a pair

pub closed_reader : {A : Type 0} (value : Reader A) → IsReader value → IsReader (closed value)
closed_reader value reads us seen = then value (λ one. symbol_at CloseTuple one.1 >>= λ close. Ok (one.0, close)) us seen (reads us seen) (λ b x after. symbol_only CloseTuple (λ s. Ok (x, s)) x (λ s. refl) b after)

module _ {K A : Type 0} (name_of : Located → Result K ConfigFault) (rest : K → Reader A) where
  abbrev inner : Reader A
  inner s = token s >>= λ first. name_of first.0 >>= λ name. symbol_at Comma first.1 >>= rest name

  pub pair_end : (t : Located) (s : State) → t.word ≡ End → pair_at name_of rest t s ≡ fails BadShape t.at
  unfolding pair_at
  pair_end t s w = rw w refl

  pair_by : (t : Located) (b : List Located) (seen : Seen) (c : Bool) → is_symbol OpenTuple t.word ≡ c → IsReader inner → Gives (λ s. token s >>= λ q. pair_at name_of rest q.0 q.1) (t ∷ b) seen
  unfolding pair_at
  pair_by t b seen true e reads = first_goes (λ s. token s >>= λ q. pair_at name_of rest q.0 q.1) t b seen inner seen (λ last rest. rw e refl) (reads b seen)
  pair_by t b seen false e reads =
      first_fails (λ s. token s >>= λ q. pair_at name_of rest q.0 q.1) t b seen (record { kind = BadShape; at = t.at }) (λ last rest. rw e refl) (Itself refl tt) (wants_token (λ q. pair_at name_of rest q.0 q.1) pair_end seen)

  pub pair_reader : IsLook name_of → ((k : K) → IsReader (rest k)) → IsReader (λ s. token s >>= λ q. pair_at name_of rest q.0 q.1)
  pair_reader look reads [] seen = Asked (wants_token (λ q. pair_at name_of rest q.0 q.1) pair_end seen)
  pair_reader look reads (t ∷ b) seen = pair_by t b seen (is_symbol OpenTuple t.word) refl (look_then name_of look (λ k s. symbol_at Comma s >>= rest k) (λ k. symbol_then Comma (rest k) (reads k)))
