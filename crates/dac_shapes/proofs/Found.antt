-- Soundness of the parser for tokens, lists, pairs and terms: their words are in the grammar, and their names are
-- allowed.
use Rattle.std.proofs.Common.{◌≡◌, Bool, true, false, cond, List, [], ◌∷◌, ◌++◌, map, Result, Ok, Err, refl, sym, ap, subst, ◌∙◌, append_assoc, inl, inr, ℕ, zero, suc, ◌⊎◌, IfOk, All}
use Rattle.dac_shapes.specs.laws.Common.{All-nil, All-cons, ConfigFault, Symbol, OpenList, CloseList, OpenTuple, CloseTuple, Comma, BadShape, ◌>>=◌, Word, Punctuation, End, Located, is_end, Name, Number, Text, Stream, taken, taken_of, State, fails, is_symbol, token, symbol_at, more_at, comma_list, list_of, pair_at, closed, room, is_text, terms_at, terms_in, texts_at, term_by, term_at, passed_at, Seen, AllMay, steps, Parted, PartedOrNone, IsListOf, between, AreBrackets, IsTerm, AreTerms, OfList, OfTuple, Atom, Integer, Strings, Empty, Between, One, More}
use Rattle.dac_shapes.specs.laws.Names.{chosen, mark_is, text_is, bind_ok, held, required, ok_is}

abbrev pub words_in : State → List Word
words_in s = map (λ t. t.word) s.left.tokens

-- the last token of the stream is the end, unless it has a fault
abbrev pub EndsWell : State → Type 0
EndsWell s = IfOk s.left.last (λ t. t.word ≡ End)

-- from s to u exactly these words were read
pub record Moves (s : State) (ws : List Word) (u : State) : Type 0 where
  pub words : words_in s ≡ ws ++ words_in u
  pub last : u.left.last ≡ s.left.last

-- from s to u exactly these words were read, and no name was seen
pub record Passes (s : State) (ws : List Word) (u : State) : Type 0 where
  pub moves : Moves s ws u
  pub well : EndsWell u
  pub seen : u.seen ≡ s.seen

pub Moves-then : (s u v : State) (a b : List Word) → Moves s a u → Moves u b v → Moves s (a ++ b) v
Moves-then s u v a b m n = record { words = m.words ∙ ap (λ (w : List Word). a ++ w) n.words ∙ sym (append_assoc a b (words_in v)); last = n.last ∙ m.last }

pub still_well : (s u : State) (ws : List Word) → EndsWell s → Moves s ws u → EndsWell u
still_well s u ws well m = subst (λ r. IfOk r (λ t. t.word ≡ End)) (sym m.last) well

taken_is : (tokens : List Located) (last : Result Located ConfigFault) (t : Located) (r : Stream) → taken_of tokens last ≡ Ok (t, r) → (r.last ≡ last) × ((tokens ≡ t ∷ r.tokens) ⊎ (last ≡ Ok t))
taken_is [] (Err e) t r h = absurd cc
taken_is [] (Ok u) t r h = let e = ok_is (u, record { tokens = []; last = Ok u }) (t, r) h in (sym (ap (λ (p : Located × Stream). p.1.last) e), inr (ap (λ (p : Located × Stream). Ok p.0) e))
taken_is (x ∷ xs) last t r h = let e = ok_is (x, record { tokens = xs; last = last }) (t, r) h in (sym (ap (λ (p : Located × Stream). p.1.last) e), inl (ap (λ (p : Located × Stream). p.0 ∷ p.1.tokens) e))

pub token_is : (s : State) (t : Located) (u : State) → token s ≡ Ok (t, u) → (taken s.left ≡ Ok (t, u.left)) × (u.seen ≡ s.seen)
token_is s t u e =
    let b = bind_ok _ _ _ e in
    let q = ok_is (b.0.0, record s { left = b.0.1 }) (t, u) b.2 in
    (b.1 ∙ ap (λ (p : Located × State). Ok (p.0, p.1.left)) q, sym (ap (λ (p : Located × State). p.1.seen) q))

-- taking a token leaves the last one unchanged
pub same_last : (s : State) (t : Located) (u : State) → EndsWell s → token s ≡ Ok (t, u) → EndsWell u
same_last s t u well e = subst (λ r. IfOk r (λ x. x.word ≡ End)) (sym (taken_is s.left.tokens s.left.last t u.left (token_is s t u e).0).0) well

pub token_moves : (s : State) (t : Located) (u : State) → EndsWell s → token s ≡ Ok (t, u) → is_end t.word ≡ false → Moves s (t.word ∷ []) u
token_moves s t u well e more =
    let is = taken_is s.left.tokens s.left.last t u.left (token_is s t u e).0 in
    elim is.1 [
      | inl h ↦ record { words = ap (map (λ x. x.word)) h; last = is.0 }
      | inr h ↦ let ends : t.word ≡ End = subst (λ r. IfOk r (λ x. x.word ≡ End)) h well in absurd (no_end t.word ends more)
    ]
  where
    no_end : (w : Word) → w ≡ End → is_end w ≡ false → ⊥
    no_end w e f = let g : true ≡ false = ap is_end (sym e) ∙ f in cc

-- this word was read, which isn't the end
pub word_passes : (s : State) (t : Located) (u : State) (w : Word) → EndsWell s → token s ≡ Ok (t, u) → t.word ≡ w → is_end w ≡ false → Passes s (w ∷ []) u
word_passes s t u w well e is more = record {
  moves = subst (λ (v : Word). Moves s (v ∷ []) u) is (token_moves s t u well e (ap is_end is ∙ more));
  well = same_last s t u well e;
  seen = (token_is s t u e).1;
}

pub symbol_passes : (x : Symbol) (s u : State) → EndsWell s → symbol_at x s ≡ Ok u → Passes s (Punctuation x ∷ []) u
unfolding symbol_at
symbol_passes x s u well e =
    let b = bind_ok _ _ _ e in
    let h = held _ _ _ _ b.2 in
    subst (λ (v : State). Passes s (Punctuation x ∷ []) v) h.1 (word_passes s b.0.0 b.0.1 (Punctuation x) well b.1 (mark_is x b.0.0.word h.0) refl)

-- a comma, or the closing symbol
abbrev pub part : Bool → Symbol → Symbol
part more close = cond more Comma close

pub more_passes : (close : Symbol) (s : State) (more : Bool) (u : State) → EndsWell s → more_at close s ≡ Ok (more, u) → Passes s (Punctuation (part more close) ∷ []) u
unfolding more_at
more_passes close s more u well e =
    let b = bind_ok (token s) (λ t. cond (is_symbol Comma t.0.word) (Ok (true, t.1)) (cond (is_symbol close t.0.word) (Ok (false, t.1)) (fails BadShape t.0.at))) (more, u) e in
    elim (chosen (is_symbol Comma b.0.0.word) (Ok (true, b.0.1)) (cond (is_symbol close b.0.0.word) (Ok (false, b.0.1)) (fails BadShape b.0.0.at)) (Ok (more, u)) b.2) [
      | inl h ↦ let q = ok_is (true, b.0.1) (more, u) h.1 in subst (λ (p : Bool × State). Passes s (Punctuation (part p.0 close) ∷ []) p.1) q (word_passes s b.0.0 b.0.1 (Punctuation Comma) well b.1 (mark_is Comma b.0.0.word h.0) refl)
      | inr h ↦
          let g = held (is_symbol close b.0.0.word) (false, b.0.1) _ (more, u) h.1 in
          subst (λ (p : Bool × State). Passes s (Punctuation (part p.0 close) ∷ []) p.1) g.1 (word_passes s b.0.0 b.0.1 (Punctuation close) well b.1 (mark_is close b.0.0.word g.0) refl)
    ]

-- the state s before its token t was taken
abbrev pub back : Located → State → State
back t s = record s { left = record { tokens = t ∷ s.left.tokens; last = s.left.last } }

-- from the token t an item was read, which is allowed
pub record Reads {A : Type 0} (Is : List Word → A → Type 0) (step : Seen → A → Seen) (May : Seen → A → Type 0) (t : Located) (s : State) (x : A) (u : State) : Type 0 where
  pub ws : List Word
  pub is : Is ws x
  pub moves : Moves (back t s) ws u
  pub begun : is_end t.word ≡ false
  pub may : May s.seen x
  pub seen : u.seen ≡ step s.seen x

-- from s an item was read, which is allowed
pub record Gets {A : Type 0} (Is : List Word → A → Type 0) (step : Seen → A → Seen) (May : Seen → A → Type 0) (s : State) (x : A) (u : State) : Type 0 where
  pub ws : List Word
  pub is : Is ws x
  pub moves : Moves s ws u
  pub may : May s.seen x
  pub seen : u.seen ≡ step s.seen x

-- a token, and the item read from it
pub token_then : (s : State) (t : Located) (u : State) (ws : List Word) (v : State) → EndsWell s → token s ≡ Ok (t, u) → is_end t.word ≡ false → Moves (back t u) ws v → Moves s ws v
token_then s t u ws v well e begun m =
    let n = token_moves s t u well e begun in
    record { words = n.words ∙ m.words; last = m.last ∙ n.last }

module _ {A : Type 0} (Is : List Word → A → Type 0) (read : List A → Located → State → Result (A × State) ConfigFault) (close : Symbol) (step : Seen → A → Seen) (May : List A → Seen → A → Type 0)
    (reads : (before : List A) (t : Located) (s : State) (x : A) (u : State) → EndsWell s → read before t s ≡ Ok (x, u) → Reads Is step (May before) t s x u) where
  -- the result of a list: the items before, and those read up to the closing symbol
  pub record Lists (before : List A) (t : Located) (s : State) (all : List A) (u : State) : Type 0 where
    pub xs : List A
    pub whole : all ≡ before ++ xs
    pub ws : List Word
    pub is : Parted Is ws xs
    pub moves : Moves (back t s) (ws ++ Punctuation close ∷ []) u
    pub begun : is_end t.word ≡ false
    pub may : AllMay step May before s.seen xs
    pub seen : u.seen ≡ steps step s.seen xs

  parted_more : (first rest : List Word) (x : A) (xs : List A) → Is first x → Parted Is rest xs → Parted Is (first ++ Punctuation Comma ∷ rest) (x ∷ xs)
  parted_more first rest x [] i p = absurd p
  parted_more first rest x (y ∷ ys) i p = (first, rest, refl, i, p)

  last_one : (before : List A) (t : Located) (s : State) (x : A) (s1 : State) (u : State) → Reads Is step (May before) t s x s1 → Passes s1 (Punctuation close ∷ []) u → Lists before t s (before ++ x ∷ []) u
  last_one before t s x s1 u r m = record {
    xs = x ∷ [];
    whole = refl;
    ws = r.ws;
    is = r.is;
    begun = r.begun;
    moves = Moves-then (back t s) s1 u r.ws (Punctuation close ∷ []) r.moves m.moves;
    may = (r.may, tt);
    seen = m.seen ∙ r.seen;
  }

  -- one more item, a comma, and the items from the token after it
  one_more : (before : List A) (t : Located) (s : State) (x : A) (s1 s2 : State) (t' : Located) (s3 : State) (all : List A) (u : State) → Reads Is step (May before) t s x s1 → Passes s1 (Punctuation Comma ∷ []) s2 → token s2 ≡ Ok (t', s3)
      → Lists (before ++ x ∷ []) t' s3 all u → Lists before t s all u
  one_more before t s x s1 s2 t' s3 all u r m k l =
      let tail = token_then s2 t' s3 (l.ws ++ Punctuation close ∷ []) u m.well k l.begun l.moves in
      let both = Moves-then (back t s) s1 u r.ws (Punctuation Comma ∷ l.ws ++ Punctuation close ∷ []) r.moves (Moves-then s1 s2 u (Punctuation Comma ∷ []) (l.ws ++ Punctuation close ∷ []) m.moves tail) in
      let next : s3.seen ≡ step s.seen x = (token_is s2 t' s3 k).1 ∙ m.seen ∙ r.seen in
      record {
        xs = x ∷ l.xs;
        whole = l.whole ∙ append_assoc before (x ∷ []) l.xs;
        ws = r.ws ++ Punctuation Comma ∷ l.ws;
        is = parted_more r.ws l.ws x l.xs r.is l.is;
        moves = subst (λ (w : List Word). Moves (back t s) w u) (sym (append_assoc r.ws (Punctuation Comma ∷ l.ws) (Punctuation close ∷ []))) both;
        begun = r.begun;
        may = (r.may, subst (λ (q : Seen). AllMay step May (before ++ x ∷ []) q l.xs) next l.may);
        seen = l.seen ∙ ap (λ (q : Seen). steps step q l.xs) next;
      }

  pub list_found : (n : ℕ) (before : List A) (t : Located) (s : State) (all : List A) (u : State) → EndsWell s → comma_list read close n before t s ≡ Ok (all, u) → Lists before t s all u
  unfolding comma_list
  list_found zero before t s all u well e = absurd cc
  list_found (suc n) before t s all u well e =
      let a = bind_ok (read before t s) (λ one. more_at close one.1 >>= λ more. cond more.0 (token more.1 >>= λ next. comma_list read close n (before ++ one.0 ∷ []) next.0 next.1) (Ok (before ++ one.0 ∷ [], more.1))) (all, u) e in
      let r = reads before t s a.0.0 a.0.1 well a.1 in
      let well1 : EndsWell a.0.1 = still_well (back t s) a.0.1 r.ws well r.moves in
      let b = bind_ok (more_at close a.0.1) (λ more. cond more.0 (token more.1 >>= λ next. comma_list read close n (before ++ a.0.0 ∷ []) next.0 next.1) (Ok (before ++ a.0.0 ∷ [], more.1))) (all, u) a.2 in
      let m = more_passes close a.0.1 b.0.0 b.0.1 well1 b.1 in
      elim (chosen b.0.0 (token b.0.1 >>= λ next. comma_list read close n (before ++ a.0.0 ∷ []) next.0 next.1) (Ok (before ++ a.0.0 ∷ [], b.0.1)) (Ok (all, u)) b.2) [
        | inl h ↦
            let m1 = subst (λ (c : Bool). Passes a.0.1 (Punctuation (part c close) ∷ []) b.0.1) h.0 m in
            let k = bind_ok (token b.0.1) (λ next. comma_list read close n (before ++ a.0.0 ∷ []) next.0 next.1) (all, u) h.1 in
            let well3 : EndsWell k.0.1 = same_last b.0.1 k.0.0 k.0.1 m1.well k.1 in
            one_more before t s a.0.0 a.0.1 b.0.1 k.0.0 k.0.1 all u r m1 k.1 (list_found n (before ++ a.0.0 ∷ []) k.0.0 k.0.1 all u well3 k.2)
        | inr h ↦
            let m0 = subst (λ (c : Bool). Passes a.0.1 (Punctuation (part c close) ∷ []) b.0.1) h.0 m in
            subst (λ (p : List A × State). Lists before t s p.0 p.1) (ok_is (before ++ a.0.0 ∷ [], b.0.1) (all, u) h.1) (last_one before t s a.0.0 a.0.1 b.0.1 r m0)
      ]

  parted_some : (ws : List Word) (xs : List A) → Parted Is ws xs → PartedOrNone Is ws xs
  parted_some ws [] p = absurd p
  parted_some ws (x ∷ xs) p = p

module _ {A : Type 0} (Is : List Word → A → Type 0) (read : List A → Located → State → Result (A × State) ConfigFault) (step : Seen → A → Seen) (May : List A → Seen → A → Type 0)
    (reads : (before : List A) (t : Located) (s : State) (x : A) (u : State) → EndsWell s → read before t s ≡ Ok (x, u) → Reads Is step (May before) t s x u) where
  pub bracketed_found : (s : State) (xs : List A) (u : State) → EndsWell s → list_of read s ≡ Ok (xs, u) → Gets (IsListOf Is) (steps step) (AllMay step May []) s xs u
  unfolding list_of
  bracketed_found s xs u well e =
      let f2 : Located × State → Result (List A × State) ConfigFault = λ first. cond (is_symbol CloseList first.0.word) (Ok ([], first.1)) (comma_list read CloseList (room first.1) [] first.0 first.1) in
      let f1 : State → Result (List A × State) ConfigFault = λ v. token v >>= f2 in
      let a = bind_ok (symbol_at OpenList s) f1 (xs, u) e in
      let m = symbol_passes OpenList s a.0 well a.1 in
      let k = bind_ok (token a.0) f2 (xs, u) a.2 in
      elim (chosen (is_symbol CloseList k.0.0.word) (Ok ([], k.0.1)) (comma_list read CloseList (room k.0.1) [] k.0.0 k.0.1) (Ok (xs, u)) k.2) [
        | inl h ↦
            let n = word_passes a.0 k.0.0 k.0.1 (Punctuation CloseList) m.well k.1 (mark_is CloseList k.0.0.word h.0) refl in
            subst (λ (p : List A × State). Gets (IsListOf Is) (steps step) (AllMay step May []) s p.0 p.1) (ok_is ([], k.0.1) (xs, u) h.1) (record {
              ws = between OpenList [] CloseList;
              is = ([], refl, refl);
              moves = Moves-then s a.0 k.0.1 (Punctuation OpenList ∷ []) (Punctuation CloseList ∷ []) m.moves n.moves;
              may = tt;
              seen = n.seen ∙ m.seen;
            })
        | inr h ↦
            let l = list_found Is read CloseList step May reads (room k.0.1) [] k.0.0 k.0.1 xs u (same_last a.0 k.0.0 k.0.1 m.well k.1) h.1 in
            let tail = token_then a.0 k.0.0 k.0.1 (l.ws ++ Punctuation CloseList ∷ []) u m.well k.1 l.begun l.moves in
            let before : k.0.1.seen ≡ s.seen = (token_is a.0 k.0.0 k.0.1 k.1).1 ∙ m.seen in
            subst (λ (all : List A). Gets (IsListOf Is) (steps step) (AllMay step May []) s all u) (sym l.whole) (record {
              ws = between OpenList l.ws CloseList;
              is = (l.ws, refl, parted_some Is read CloseList step May reads l.ws l.xs l.is);
              moves = Moves-then s a.0 u (Punctuation OpenList ∷ []) (l.ws ++ Punctuation CloseList ∷ []) m.moves tail;
              may = subst (λ (q : Seen). AllMay step May [] q l.xs) before l.may;
              seen = l.seen ∙ ap (λ (q : Seen). steps step q l.xs) before;
            })
      ]

-- the words of a pair up to its comma, followed by these
abbrev pub pair_begun : List ℕ → List Word → List Word
pair_begun name rest = Punctuation OpenTuple ∷ Name name ∷ Punctuation Comma ∷ rest

-- the words of a pair of a name and a value
abbrev pub pair_words : List ℕ → List Word → List Word
pair_words name value = Punctuation OpenTuple ∷ Name name ∷ Punctuation Comma ∷ value ++ Punctuation CloseTuple ∷ []

module _ {A : Type 0} (Is : List Word → A → Type 0) (value : State → Result (A × State) ConfigFault) (step : Seen → A → Seen) (May : Seen → A → Type 0)
    (valued : (s : State) (x : A) (u : State) → EndsWell s → value s ≡ Ok (x, u) → Gets (λ ws x. Is (ws ++ Punctuation CloseTuple ∷ []) x) step May s x u) where
  -- a value, and the brace that closes its pair
  pub closed_found : (s : State) (x : A) (u : State) → EndsWell s → closed value s ≡ Ok (x, u) → Gets Is step May s x u
  closed_found s x u well e =
      let a = bind_ok _ _ _ e in
      let v = valued s a.0.0 a.0.1 well a.1 in
      let b = bind_ok _ _ _ a.2 in
      let r = symbol_passes CloseTuple a.0.1 b.0 (still_well s a.0.1 v.ws well v.moves) b.1 in
      subst (λ (y : A × State). Gets Is step May s y.0 y.1) (ok_is (a.0.0, b.0) (x, u) b.2) (record {
        ws = v.ws ++ Punctuation CloseTuple ∷ [];
        is = v.is;
        moves = Moves-then s a.0.1 b.0 v.ws (Punctuation CloseTuple ∷ []) v.moves r.moves;
        may = v.may;
        seen = r.seen ∙ v.seen;
      })

joined_words : (w0 n : Word) (ws ws0 ws1 ws2 v : List Word) → w0 ≡ Punctuation OpenTuple → ws ≡ n ∷ ws0 → ws0 ≡ Punctuation Comma ∷ ws1 → ws1 ≡ v ++ ws2 → w0 ∷ ws ≡ Punctuation OpenTuple ∷ n ∷ Punctuation Comma ∷ (v ++ ws2)
joined_words w0 n ws ws0 ws1 ws2 v e0 e1 e2 e3 = cc

module _ {K A : Type 0} (Is : List Word → A → Type 0) (name_of : Located → Result K ConfigFault) (Fine : K → List ℕ → Type 0) (rest : K → State → Result (A × State) ConfigFault) (step : Seen → A → Seen) (May : Seen → A → Type 0)
    (named : (t : Located) (k : K) → name_of t ≡ Ok k → (name : List ℕ) × (t.word ≡ Name name) × Fine k name)
    (rested : (k : K) (name : List ℕ) (s : State) (x : A) (u : State) → EndsWell s → Fine k name → rest k s ≡ Ok (x, u) → Gets (λ ws x. Is (pair_begun name ws) x) step May s x u) where
  pub pair_found : (t : Located) (s : State) (x : A) (u : State) → EndsWell s → pair_at name_of rest t s ≡ Ok (x, u) → Reads Is step May t s x u
  unfolding pair_at
  pair_found t s x u well e =
      let h = required _ _ _ _ e in
      let begins = mark_is OpenTuple t.word h.0 in
      let a = bind_ok _ _ _ h.1 in
      let b = bind_ok _ _ _ a.2 in
      let n = named a.0.0 b.0 b.1 in
      let p = word_passes s a.0.0 a.0.1 (Name n.0) well a.1 n.1 refl in
      let c = bind_ok _ _ _ b.2 in
      let q = symbol_passes Comma a.0.1 c.0 p.well c.1 in
      let v = rested b.0 n.0 c.0 x u q.well n.2 c.2 in
      let before : c.0.seen ≡ s.seen = q.seen ∙ p.seen in
      record {
        ws = pair_begun n.0 v.ws;
        is = v.is;
        moves = record {
          words = joined_words t.word (Name n.0) (words_in s) (words_in a.0.1) (words_in c.0) (words_in u) v.ws begins p.moves.words q.moves.words v.moves.words;
          last = v.moves.last ∙ q.moves.last ∙ p.moves.last;
        };
        begun = ap is_end begins;
        may = subst (λ (y : Seen). May y x) before v.may;
        seen = v.seen ∙ ap (λ (y : Seen). step y x) before;
      }

-- these words were skipped from s, and then the token t was read
pub record Jumps (Is : List Word → Type 0) (s : State) (t : Located) (u : State) : Type 0 where
  pub well : EndsWell u
  pub seen : u.seen ≡ s.seen
  pub moved : is_end t.word ≡ false → (ws : List Word) × Is ws × Moves s ws (back t u)

-- these words were skipped from the token b, which isn't the end, and then the token t was read
pub record Skips (Is : List Word → Type 0) (b : Located) (s : State) (t : Located) (u : State) : Type 0 where
  pub begun : is_end b.word ≡ false
  pub jumps : Jumps Is (back b s) t u

token_jumps : (Is : List Word → Type 0) → Is [] → (s : State) (t : Located) (u : State) → EndsWell s → token s ≡ Ok (t, u) → Jumps Is s t u
token_jumps Is none s t u well e = record {
  well = same_last s t u well e;
  seen = (token_is s t u e).1;
  moved = λ begun. ([], none, token_then s t u [] (back t u) well e begun (record { words = refl; last = refl }));
}

-- words skipped, with one more word before them
word_before : (Is IsAll : List Word → Type 0) (w : Word) (s : State) (t : Located) (u : State) → ((ws : List Word) → Is ws → IsAll (w ∷ ws)) → (b : Located) → b.word ≡ w → Jumps Is s t u → Jumps IsAll (back b s) t u
word_before Is IsAll w s t u more b is j = record {
  well = j.well;
  seen = j.seen;
  moved = λ begun.
      let m = j.moved begun in
      (w ∷ m.0, more m.0 m.1, record { words = rw is (ap (λ (v : List Word). w ∷ v) m.2.words); last = m.2.last });
}

-- words skipped from a token, after taking that token
taken_before : (Is : List Word → Type 0) (s : State) (b : Located) (v : State) (t : Located) (u : State) → EndsWell s → token s ≡ Ok (b, v) → Skips Is b v t u → Jumps Is s t u
taken_before Is s b v t u well e k = record {
  well = k.jumps.well;
  seen = k.jumps.seen ∙ (token_is s b v e).1;
  moved = λ begun. let m = k.jumps.moved begun in (m.0, m.1, token_then s b v m.0 (back t u) well e k.begun m.2);
}

-- ---- strings

abbrev AreTexts : List Word → Type 0
AreTexts words = All (λ word. word ≡ Text) words

texts_found : (n : ℕ) (s : State) (t : Located) (u : State) → EndsWell s → texts_at n s ≡ Ok (t, u) → Jumps AreTexts s t u
unfolding texts_at
texts_found zero s t u well e = token_jumps AreTexts (All-nil (λ word. word ≡ Text)) s t u well e
texts_found (suc n) s t u well e =
    let a = bind_ok (token s) (λ x. cond (is_text x.0.word) (texts_at n x.1) (Ok x)) (t, u) e in
    elim (chosen (is_text a.0.0.word) (texts_at n a.0.1) (Ok a.0) (Ok (t, u)) a.2) [
      | inl h ↦
          let w = text_is a.0.0.word h.0 in
          let rest = texts_found n a.0.1 t u (same_last s a.0.0 a.0.1 well a.1) h.1 in
          taken_before AreTexts s a.0.0 a.0.1 t u well a.1 (record { begun = ap is_end w; jumps = word_before AreTexts AreTexts Text a.0.1 t u (λ ws all. All-cons (λ word. word ≡ Text) Text ws refl all) a.0.0 w rest })
      | inr h ↦ token_jumps AreTexts (All-nil (λ word. word ≡ Text)) s t u well (a.1 ∙ h.1)
    ]

-- ---- terms between brackets

-- terms separated by commas, and the closing symbol
abbrev AreClosed : Symbol → List Word → Type 0
AreClosed close words = (inner : List Word) × (words ≡ inner ++ Punctuation close ∷ []) × AreTerms inner

-- no terms, or terms separated by commas, and the closing symbol
abbrev AreClosedOrNone : Symbol → List Word → Type 0
AreClosedOrNone close words = (words ≡ Punctuation close ∷ []) ⊎ AreClosed close words

module _ (pass : Located → State → Result (Located × State) ConfigFault) (close : Symbol)
    (passes : (b : Located) (s : State) (t : Located) (u : State) → EndsWell s → pass b s ≡ Ok (t, u) → Skips IsTerm b s t u) where
  -- a term, a symbol, and the words skipped from the token after it
  after_term : (IsRest IsAll : List Word → Type 0) (x : Symbol) → ((first rest : List Word) → IsTerm first → IsRest rest → IsAll (first ++ Punctuation x ∷ rest)) → (b : Located) (s : State) (m : Located) (v : State) (t : Located) (u : State)
      → Skips IsTerm b s m v → m.word ≡ Punctuation x → Jumps IsRest v t u → Skips IsAll b s t u
  after_term IsRest IsAll x more b s m v t u k w j = record {
    begun = k.begun;
    jumps = record {
      well = j.well;
      seen = j.seen ∙ k.jumps.seen;
      moved = λ begun.
          let first = k.jumps.moved (ap is_end w) in
          let rest = (word_before IsRest (λ ws. (tail : List Word) × (ws ≡ Punctuation x ∷ tail) × IsRest tail) (Punctuation x) v t u (λ ws is. (ws, refl, is)) m w j).moved begun in
          (first.0 ++ rest.0, subst (λ (ws : List Word). IsAll (first.0 ++ ws)) (sym rest.1.1) (more first.0 rest.1.0 first.1 rest.1.2), Moves-then (back b s) (back m v) (back t u) first.0 rest.0 first.2 rest.2);
    };
  }

  terms_found : (n : ℕ) (b : Located) (s : State) (t : Located) (u : State) → EndsWell s → terms_at pass close n b s ≡ Ok (t, u) → Skips (AreClosed close) b s t u
  unfolding terms_at
  terms_found zero b s t u well e = absurd cc
  terms_found (suc n) b s t u well e =
      let f2 : Located × State → Result (Located × State) ConfigFault = λ next. terms_at pass close n next.0 next.1 in
      let f1 : Located × State → Result (Located × State) ConfigFault = λ m. cond (is_symbol close m.0.word) (token m.1) (cond (is_symbol Comma m.0.word) (token m.1 >>= f2) (fails BadShape m.0.at)) in
      let a = bind_ok (pass b s) f1 (t, u) e in
      let k = passes b s a.0.0 a.0.1 well a.1 in
      elim (chosen (is_symbol close a.0.0.word) (token a.0.1) (cond (is_symbol Comma a.0.0.word) (token a.0.1 >>= f2) (fails BadShape a.0.0.at)) (Ok (t, u)) a.2) [
        | inl h ↦
            after_term (λ ws. ws ≡ []) (AreClosed close) close (λ first rest is none. (first, ap (λ (ws : List Word). first ++ Punctuation close ∷ ws) none, One first is)) b s a.0.0 a.0.1 t u k (mark_is close a.0.0.word h.0)
            (token_jumps (λ ws. ws ≡ []) refl a.0.1 t u k.jumps.well h.1)
        | inr h ↦
            let g = required (is_symbol Comma a.0.0.word) (token a.0.1 >>= f2) _ (t, u) h.1 in
            let c = bind_ok (token a.0.1) f2 (t, u) g.1 in
            let rest = terms_found n c.0.0 c.0.1 t u (same_last a.0.1 c.0.0 c.0.1 k.jumps.well c.1) c.2 in
            after_term (AreClosed close) (AreClosed close) Comma (λ first rest is more. (first ++ Punctuation Comma ∷ more.0, ap (λ (ws : List Word). first ++ Punctuation Comma ∷ ws) more.1 ∙ sym (append_assoc first (Punctuation Comma ∷ more.0) (Punctuation close ∷ [])), More first more.0 is more.2)) b s a.0.0 a.0.1 t u k
            (mark_is Comma a.0.0.word g.0) (taken_before (AreClosed close) a.0.1 c.0.0 c.0.1 t u k.jumps.well c.1 rest)
      ]

  terms_in_found : (n : ℕ) (s : State) (t : Located) (u : State) → EndsWell s → terms_in pass close n s ≡ Ok (t, u) → Jumps (AreClosedOrNone close) s t u
  unfolding terms_in
  terms_in_found n s t u well e =
      let a = bind_ok (token s) (λ first. cond (is_symbol close first.0.word) (token first.1) (terms_at pass close n first.0 first.1)) (t, u) e in
      let well1 = same_last s a.0.0 a.0.1 well a.1 in
      elim (chosen (is_symbol close a.0.0.word) (token a.0.1) (terms_at pass close n a.0.0 a.0.1) (Ok (t, u)) a.2) [
        | inl h ↦
            let w = mark_is close a.0.0.word h.0 in
            taken_before (AreClosedOrNone close) s a.0.0 a.0.1 t u well a.1
            (record { begun = ap is_end w; jumps = word_before (λ ws. ws ≡ []) (AreClosedOrNone close) (Punctuation close) a.0.1 t u (λ ws none. inl (ap (λ (l : List Word). Punctuation close ∷ l) none)) a.0.0 w (token_jumps (λ ws. ws ≡ []) refl a.0.1 t u well1 h.1) })
        | inr h ↦
            let k = terms_found n a.0.0 a.0.1 t u well1 h.1 in
            let j = taken_before (AreClosed close) s a.0.0 a.0.1 t u well a.1 k in
            record { well = j.well; seen = j.seen; moved = λ begun. let m = j.moved begun in (m.0, inr m.1, m.2) }
      ]

  -- brackets with their contents are a term
  brackets_found : (n : ℕ) (open_mark : Symbol) (offset : ℕ) (s : State) (t : Located) (u : State) → AreBrackets open_mark close → EndsWell s → terms_in pass close n s ≡ Ok (t, u) → Skips IsTerm (record { word = Punctuation open_mark; at = offset }) s t u
  brackets_found n open_mark offset s t u pair well e = record {
    begun = refl;
    jumps = word_before (AreClosedOrNone close) IsTerm (Punctuation open_mark) s t u is (record { word = Punctuation open_mark; at = offset }) refl (terms_in_found n s t u well e);
  }
    where
      is : (ws : List Word) → AreClosedOrNone close ws → IsTerm (Punctuation open_mark ∷ ws)
      is ws (inl h) = subst (λ (l : List Word). IsTerm (Punctuation open_mark ∷ l)) (sym h) (Empty open_mark close pair)
      is ws (inr h) = subst (λ (l : List Word). IsTerm (Punctuation open_mark ∷ l)) (sym h.1) (Between open_mark close h.0 pair h.2)

-- ---- terms

one_word : (w : Word) (offset : ℕ) (s : State) (t : Located) (u : State) → IsTerm (w ∷ []) → is_end w ≡ false → EndsWell s → token s ≡ Ok (t, u) → Skips IsTerm (record { word = w; at = offset }) s t u
one_word w offset s t u is no_end well e = record {
  begun = no_end;
  jumps = word_before (λ ws. ws ≡ []) IsTerm w s t u (λ ws none. subst (λ (l : List Word). IsTerm (w ∷ l)) (sym none) is) (record { word = w; at = offset }) refl (token_jumps (λ ws. ws ≡ []) refl s t u well e);
}

module _ (pass : Located → State → Result (Located × State) ConfigFault)
    (passes : (b : Located) (s : State) (t : Located) (u : State) → EndsWell s → pass b s ≡ Ok (t, u) → Skips IsTerm b s t u) where
  term_by_found : (w : Word) (offset n : ℕ) (s : State) (t : Located) (u : State) → EndsWell s → term_by pass n (record { word = w; at = offset }) s ≡ Ok (t, u) → Skips IsTerm (record { word = w; at = offset }) s t u
  unfolding term_by
  term_by_found (Name name) offset n s t u well e = one_word (Name name) offset s t u (Atom name) refl well e
  term_by_found (Number negative digits) offset n s t u well e = one_word (Number negative digits) offset s t u (Integer negative digits) refl well e
  term_by_found Text offset n s t u well e = record {
    begun = refl;
    jumps = word_before AreTexts IsTerm Text s t u (λ ws all. Strings ws all) (record { word = Text; at = offset }) refl (texts_found n s t u well e);
  }
  term_by_found (Punctuation OpenList) offset n s t u well e = brackets_found pass CloseList passes n OpenList offset s t u OfList well e
  term_by_found (Punctuation OpenTuple) offset n s t u well e = brackets_found pass CloseTuple passes n OpenTuple offset s t u OfTuple well e
  term_by_found _ offset n s t u well e = absurd cc

term_found : (n : ℕ) (b : Located) (s : State) (t : Located) (u : State) → EndsWell s → term_at n b s ≡ Ok (t, u) → Skips IsTerm b s t u
unfolding term_at
term_found zero b s t u well e = absurd cc
term_found (suc n) b s t u well e = term_by_found (term_at n) (term_found n) b.word b.at n s t u well e

-- a term was skipped, and the brace after it
pub record PassesTerm (s : State) (u : State) : Type 0 where
  pub ws : List Word
  pub term : IsTerm ws
  pub moves : Moves s (ws ++ Punctuation CloseTuple ∷ []) u
  pub seen : u.seen ≡ s.seen

pub passed_found : (s : State) (u : State) → EndsWell s → passed_at s ≡ Ok u → PassesTerm s u
unfolding passed_at
passed_found s u well e =
    let a = bind_ok _ _ _ e in
    let b = bind_ok _ _ _ a.2 in
    let h = held _ _ _ _ b.2 in
    let w = mark_is CloseTuple b.0.0.word h.0 in
    let k = term_found (suc (room s)) a.0.0 a.0.1 b.0.0 b.0.1 (same_last s a.0.0 a.0.1 well a.1) b.1 in
    let j = taken_before IsTerm s a.0.0 a.0.1 b.0.0 b.0.1 well a.1 k in
    let m = j.moved (ap is_end w) in
    let close : Moves (back b.0.0 b.0.1) (Punctuation CloseTuple ∷ []) b.0.1 = record { words = ap (λ (v : Word). v ∷ words_in b.0.1) w; last = refl } in
    subst (λ (v : State). PassesTerm s v) h.1 (record { ws = m.0; term = m.1; moves = Moves-then s (back b.0.0 b.0.1) b.0.1 m.0 (Punctuation CloseTuple ∷ []) m.2 close; seen = j.seen })
