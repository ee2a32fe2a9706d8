-- The law of the first fault admits at most one fault of a text.
use Rattle.std.proofs.Common.{◌≡◌, ℕ, zero, suc, ◌<◌, ◌≤◌, Bool, true, false, ltb, List, [], ◌∷◌, ◌++◌, length, Result, Ok, Err, refl, sym, ap, subst, ◌∙◌, append_assoc, append-nil, arith, inl, inr}
use Rattle.dac_shapes.specs.laws.Common.{◌⊎◌, ◌↔◌, ltb-true, ltb-false, All-nil, FaultKind, ConfigFault, Symbol, CloseList, CloseTuple, Word, Punctuation, Name, Number, Text, End, Located, Stream, stopped, AreTokensOf, StopAt, Section, IsFile, cons_is, map-append}
use Rattle.dac_tokens.specs.declared.fault.FaultKind.TheVariants as kind
use Rattle.dac_tokens.specs.Stream.{ended as ended_by}
use Rattle.dac_first_fault.specs.FirstFault.{IsLocatedAt, Itself, InList, InTuple, CanCause, words, IsWell, IsFileWithinLimits, IsNoName, Only, Before, IsOfName, Breaks, rank, BeginsWith, IsFaultOf, Long, NoToken, Token, Ends, Nobody, CanBeginLoosely, Spoils, Brings, apps_in}
use Rattle.dac_first_fault.proofs.Order.{well_so_far}
use Rattle.dac_first_fault.proofs.Offsets.{name_or_not}
use Rattle.dac_first_fault.proofs.Fewer.{keeps_fewer}

-- ---- a name causes one fault

-- a name can cause a fault of this kind
abbrev IsNameKind : FaultKind → Type 0
IsNameKind k = rank k < 6

can_kind : (k : FaultKind) (w : Word) (name : List ℕ) → w ≡ Name name → CanCause k w → IsNameKind k
can_kind k w name is can = grind arith

no_mark : (w : Word) (name : List ℕ) (x : Symbol) → w ≡ Name name → w ≡ Punctuation x → ⊥
no_mark w name x is other = let wrong : Name name ≡ Punctuation x = sym is ∙ other in absurd cc

-- the fault of a name is at its offset
name_kind : (a : List Located) (l : Located) (e : ConfigFault) (name : List ℕ) → l.word ≡ Name name → IsLocatedAt a l e → (e.at ≡ l.at) × IsNameKind e.kind
name_kind a l e name is (Itself offset can) = (offset, can_kind e.kind l.word name is can)
name_kind a l e name is (InList front o parts w v k) = absurd (no_mark l.word name _ is v)
name_kind a l e name is (InTuple front o parts w v k) = absurd (no_mark l.word name _ is v)

of_name : (k : FaultKind) → IsNameKind k → 0 < rank k → IsOfName k
of_name k fits some = grind arith

-- two limits can't both be broken first
clash : (ws : List Word) (j k : FaultKind) → Breaks ws j → Breaks ws k → IsNameKind k → rank j < rank k → ⊥
clash ws j k b c fits less =
    let g = c.first (of_name k fits (omega (arith, less))) in
    b.broken (record { more = g.more; sections = g.sections; file = g.file; keeps = keeps_fewer (Only j) (Before k) (λ other is. subst (λ (o : FaultKind). rank o < rank k) (sym is) less) g.sections g.keeps })

abbrev of_rank : ℕ → FaultKind
of_rank zero = kind.BadShape
of_rank (suc zero) = kind.NameTooLong
of_rank (suc (suc zero)) = kind.TwiceApp
of_rank (suc (suc (suc zero))) = kind.TwiceInList
of_rank (suc (suc (suc (suc zero)))) = kind.TooManyApps
of_rank (suc (suc (suc (suc (suc n))))) = kind.TooManyNodes

rank_is : (k : FaultKind) → IsNameKind k → of_rank (rank k) ≡ k
rank_is k fits = grind arith

one_kind : (ws : List Word) (j k : FaultKind) → Breaks ws j → Breaks ws k → IsNameKind j → IsNameKind k → j ≡ k
one_kind ws j k b c fits other = by (ltb (rank j) (rank k)) (ltb (rank k) (rank j)) refl refl
  where
    by : (x y : Bool) → ltb (rank j) (rank k) ≡ x → ltb (rank k) (rank j) ≡ y → j ≡ k
    by true y less e = absurd (clash ws j k b c other (ltb-true (rank j) (rank k) less))
    by false true e less = absurd (clash ws k j c b fits (ltb-true (rank k) (rank j) less))
    by false false e f =
        let same : rank j ≡ rank k = omega (arith, ltb-false (rank j) (rank k) e, ltb-false (rank k) (rank j) f) in
        sym (rank_is j fits) ∙ ap of_rank same ∙ rank_is k other

same_fault : (e f : ConfigFault) → e.kind ≡ f.kind → e.at ≡ f.at → e ≡ f
same_fault e f k n = ap (λ (k : FaultKind). record { kind = k; at = e.at }) k ∙ ap (λ (n : ℕ). record { kind = f.kind; at = n }) n

-- ---- a token that is no name causes one fault

-- the fault besides BadShape that a token that is no name can cause at its own offset, if there is one
abbrev special : Word → FaultKind
special Text = kind.Unsupported
special (Number negative digits) = kind.NumberTooLarge
special _ = kind.BadShape

plain_kind : (k : FaultKind) (w : Word) → CanCause k w → IsNoName w → (k ≡ kind.BadShape) ⊎ (k ≡ special w)
plain_kind kind.BadShape w can plain = inl refl
plain_kind kind.Unsupported w can plain = inr (sym (ap special can))
plain_kind kind.NumberTooLarge w can plain = inr (sym (ap special can.1))
plain_kind kind.NameTooLong w can plain = absurd (subst IsNoName can.1 plain)
plain_kind kind.TwiceApp w can plain = absurd (subst IsNoName can.1 plain)
plain_kind kind.TwiceInList w can plain = absurd (subst IsNoName can.1 plain)
plain_kind kind.TooManyApps w can plain = absurd (subst IsNoName can.1 plain)
plain_kind kind.TooManyNodes w can plain = absurd (subst IsNoName can.1 plain)
plain_kind _ w can plain = absurd can

module _ (ws : List Word) where
  one_special : (w : Word) → Spoils ws kind.BadShape → Spoils ws (special w) → kind.BadShape ≡ special w
  one_special Text shape told = absurd (shape told)
  one_special (Number negative digits) shape told = absurd (shape told)
  one_special _ shape told = refl

  -- these words determine one kind
  one_plain : (w : Word) (j k : FaultKind) → (j ≡ kind.BadShape) ⊎ (j ≡ special w) → (k ≡ kind.BadShape) ⊎ (k ≡ special w) → Spoils ws j → Spoils ws k → j ≡ k
  one_plain w j k (inl a) (inl b) told other = a ∙ sym b
  one_plain w j k (inl a) (inr b) told other = a ∙ one_special w (subst (λ (f : FaultKind). Spoils ws f) a told) (subst (λ (f : FaultKind). Spoils ws f) b other) ∙ sym b
  one_plain w j k (inr a) (inl b) told other = a ∙ sym (one_special w (subst (λ (f : FaultKind). Spoils ws f) b other) (subst (λ (f : FaultKind). Spoils ws f) a told)) ∙ sym b
  one_plain w j k (inr a) (inr b) told other = a ∙ sym b

none_more : (a : List Located) (l : Located) → [] ≡ a ++ l ∷ [] → ⊥
none_more [] l e = cc
none_more (u ∷ a) l e = cc

spoils_of : (w : Word) (ws : List Word) (k : FaultKind) → IsNoName w → Brings w ws k → Spoils ws k
spoils_of (Name name) ws k no_name brings = absurd no_name
spoils_of _ ws k no_name brings = brings

-- the last of a list of tokens is unique
last_same : (a b : List Located) (o p : Located) → a ++ o ∷ [] ≡ b ++ p ∷ [] → o ≡ p
last_same [] [] o p e = (cons_is o p [] [] e).0
last_same [] (v ∷ b) o p e = absurd (none_more b p (cons_is o v [] (b ++ p ∷ []) e).1)
last_same (u ∷ a) [] o p e = absurd (none_more a o (sym (cons_is u p (a ++ o ∷ []) [] e).1))
last_same (u ∷ a) (v ∷ b) o p e = last_same a b o p (cons_is u v (a ++ o ∷ []) (b ++ p ∷ []) e).1

-- a fault at a closing bracket excludes one at the bracket that it closes
module _ (before : List Located) (t : Located) (no_name : IsNoName t.word) where
  abbrev ws : List Word
  ws = words before ++ t.word ∷ []

  shape_here : (e : ConfigFault) (x : Symbol) → t.word ≡ Punctuation x → CanCause e.kind t.word → e.kind ≡ kind.BadShape
  shape_here e x is can = elim (plain_kind e.kind t.word can no_name) [
    | inl shape ↦ shape
    | inr other ↦ other ∙ ap special is
  ]

  shape_not : (e : ConfigFault) (x : Symbol) → t.word ≡ Punctuation x → CanCause e.kind t.word → Spoils ws e.kind → CanBeginLoosely ws → ⊥
  shape_not e x is can told loosely = subst (λ (k : FaultKind). Spoils ws k) (shape_here e x is can) told loosely

  closes_one : t.word ≡ Punctuation CloseList → t.word ≡ Punctuation CloseTuple → ⊥
  closes_one a b = let wrong : Punctuation CloseList ≡ Punctuation CloseTuple = sym a ∙ b in absurd cc

  one_here : (e f : ConfigFault) → Spoils ws e.kind → Spoils ws f.kind → IsLocatedAt before t e → IsLocatedAt before t f → e ≡ f
  one_here e f a b (Itself p can) (Itself q other) = same_fault e f (one_plain ws t.word e.kind f.kind (plain_kind e.kind t.word can no_name) (plain_kind f.kind t.word other no_name) a b) (p ∙ sym q)
  one_here e f a b (Itself p can) (InList front o parts w v k) = absurd (shape_not e CloseList v can a (subst (λ (f : ConfigFault). Spoils ws f.kind) k b))
  one_here e f a b (Itself p can) (InTuple front o parts w v k) = absurd (shape_not e CloseTuple v can a (subst (λ (f : ConfigFault). Spoils ws f.kind) k b))
  one_here e f a b (InList front o parts w v k) (Itself q can) = absurd (shape_not f CloseList v can b (subst (λ (f : ConfigFault). Spoils ws f.kind) k a))
  one_here e f a b (InTuple front o parts w v k) (Itself q can) = absurd (shape_not f CloseTuple v can b (subst (λ (f : ConfigFault). Spoils ws f.kind) k a))
  one_here e f a b (InList front o parts w v k) (InList other p pieces x y m) = k ∙ ap (λ (u : Located). record { kind = kind.EmptyList; at = u.at }) (last_same front other o p (sym parts ∙ pieces)) ∙ sym m
  one_here e f a b (InTuple front o parts w v k) (InTuple other p pieces x y m) = k ∙ ap (λ (u : Located). record { kind = kind.EmptyTuple; at = u.at }) (last_same front other o p (sym parts ∙ pieces)) ∙ sym m
  one_here e f a b (InList front o parts w v k) (InTuple other p pieces x y m) = absurd (closes_one v y)
  one_here e f a b (InTuple front o parts w v k) (InList other p pieces x y m) = absurd (closes_one y v)

-- ---- the order of two tokens in one list

data Order (a : List Located) (l : Located) (c : List Located) (m : Located) : Type 0 where
  Same : a ≡ c → l ≡ m → Order a l c m
  Earlier : (x : List Located) → c ≡ a ++ l ∷ x → Order a l c m
  Later : (x : List Located) → a ≡ c ++ m ∷ x → Order a l c m

behind_one : (u v : Located) (a : List Located) (l : Located) (c : List Located) (m : Located) → u ≡ v → Order a l c m → Order (u ∷ a) l (v ∷ c) m
behind_one u v a l c m e (Same p q) = Same (ap (λ (w : Located). w ∷ a) e ∙ ap (λ (ts : List Located). v ∷ ts) p) q
behind_one u v a l c m e (Earlier x p) = Earlier x (ap (λ (w : Located). w ∷ c) (sym e) ∙ ap (λ (ts : List Located). u ∷ ts) p)
behind_one u v a l c m e (Later x p) = Later x (ap (λ (w : Located). w ∷ a) e ∙ ap (λ (ts : List Located). v ∷ ts) p)

order_of : (a : List Located) (l : Located) (b c : List Located) (m : Located) (d : List Located) → a ++ l ∷ b ≡ c ++ m ∷ d → Order a l c m
order_of [] l b [] m d e = Same refl (cons_is l m b d e).0
order_of [] l b (v ∷ c) m d e = Earlier c (ap (λ (w : Located). w ∷ c) (sym (cons_is l v b (c ++ m ∷ d) e).0))
order_of (u ∷ a) l b [] m d e = Later a (ap (λ (w : Located). w ∷ a) (cons_is u m (a ++ l ∷ b) d e).0)
order_of (u ∷ a) l b (v ∷ c) m d e = let p = cons_is u v (a ++ l ∷ b) (c ++ m ∷ d) e in behind_one u v a l c m p.0 (order_of a l b c m d p.1)

-- a valid prefix is valid up to each of its tokens
well_to : (a : List Located) (l : Located) (b : List Located) → IsWell (words (a ++ l ∷ b)) → IsWell (words a ++ l.word ∷ [])
well_to a l b w = well_so_far (words a ++ l.word ∷ []) (words b) (subst IsWell (map-append (λ (t : Located). t.word) a (l ∷ b) ∙ sym (append_assoc (words a) (l.word ∷ []) (words b))) w)

well_within : (ws : List Word) → IsFileWithinLimits ws → IsWell ws
well_within ws is =
    let file : IsFile (ws ++ []) is.sections = subst (λ (l : List Word). IsFile l is.sections) (sym (append-nil ws)) is.file in
    record {
      goes_on = record { more = []; sections = is.sections; file = file; keeps = tt };
      named = ws;
      rest = [];
      parts = sym (append-nil ws);
      no_name = All-nil IsNoName;
      keeps = record { more = []; sections = is.sections; file = file; keeps = is.within };
    }

-- ---- two faults of a text

module _ (text : List ℕ) (s : Stream) (spelled : (ts : List Located) → (AreTokensOf text ts ↔ (s ≡ ended_by (length text) ts))) (stops : (ts : List Located) (e : ConfigFault) → (StopAt 0 0 text ts e ↔ (s ≡ stopped ts e))) where
  pub record ByToken (e : ConfigFault) : Type 0 where
    pub before : List Located
    pub t : Located
    pub rest : List Located
    pub whole : s.tokens ≡ before ++ t ∷ rest
    pub begins : BeginsWith text (before ++ t ∷ [])
    pub well : IsWell (words before)
    pub not_well : IsWell (words before ++ t.word ∷ []) → ⊥
    pub brings : Brings t.word (words before ++ t.word ∷ []) e.kind
    pub stands : IsLocatedAt before t e

  -- the cause is the end of the tokens
  pub data AtEnd (e : ConfigFault) : Type 0 where
    Stopped : s ≡ stopped s.tokens e → AtEnd e
    NoFile : s ≡ ended_by (length text) s.tokens → ((sections : List Section) → IsFile (words s.tokens) sections → ⊥) → e ≡ record { kind = kind.BadShape; at = length text } → AtEnd e
    Empty : s ≡ ended_by (length text) s.tokens → IsFileWithinLimits (words s.tokens) → ((is : IsFileWithinLimits (words s.tokens)) → apps_in is.sections ≡ 0) → e ≡ record { kind = kind.NoDistributed; at = length text } → AtEnd e

  pub data Cause (e : ConfigFault) : Type 0 where
    TooFar : 65536 < length text → e ≡ record { kind = kind.TooLong; at = 65536 } → Cause e
    Brought : length text ≤ 65536 → ByToken e → Cause e
    Final : length text ≤ 65536 → IsWell (words s.tokens) → AtEnd e → Cause e

  tokens_of : (ts : List Located) (e : ConfigFault) → s ≡ stopped ts e → s.tokens ≡ ts
  tokens_of ts e is = ap (λ (q : Stream). q.tokens) is

  tokens_in : (ts : List Located) → AreTokensOf text ts → s.tokens ≡ ts
  tokens_in ts is = ap (λ (q : Stream). q.tokens) ((spelled ts).0 is)

  tokens_with : (ts : List Located) (b : BeginsWith text ts) → s.tokens ≡ ts ++ b.rest
  tokens_with ts b = elim b.is [
    | inl tokens ↦ tokens_in (ts ++ b.rest) tokens
    | inr stop ↦ tokens_of (ts ++ b.rest) stop.0 ((stops (ts ++ b.rest) stop.0).0 stop.1)
  ]

  ended_so : (ts : List Located) → AreTokensOf text ts → s ≡ ended_by (length text) s.tokens
  ended_so ts is = (spelled ts).0 is ∙ ap (ended_by (length text)) (sym (tokens_in ts is))

  pub cause_of : (e : ConfigFault) → IsFaultOf text e → Cause e
  cause_of e (Long far is) = TooFar far is
  cause_of e (NoToken before short well stop) =
      let is = (stops before e).0 stop in
      let same = sym (tokens_of before e is) in
      Final short (subst (λ (ts : List Located). IsWell (words ts)) same well) (Stopped (is ∙ ap (λ (ts : List Located). stopped ts e) same))
  cause_of e (Token before t short begins well not_well brings stands) =
      Brought short (record { before = before; t = t; rest = begins.rest; whole = tokens_with (before ++ t ∷ []) begins ∙ append_assoc before (t ∷ []) begins.rest; begins = begins; well = well; not_well = not_well; brings = brings; stands = stands })
  cause_of e (Ends ts short tokens well none is) =
      let same = sym (tokens_in ts tokens) in
      Final short (subst (λ (ts : List Located). IsWell (words ts)) same well) (NoFile (ended_so ts tokens) (subst (λ (ts : List Located). (sections : List Section) → IsFile (words ts) sections → ⊥) same none) is)
  cause_of e (Nobody ts short tokens within none is) =
      let all : IsFileWithinLimits (words s.tokens) = subst (λ (ts : List Located). IsFileWithinLimits (words ts)) (sym (tokens_in ts tokens)) within in
      Final short (well_within (words s.tokens) all) (Empty (ended_so ts tokens) all (subst (λ (ts : List Located). (is : IsFileWithinLimits (words ts)) → apps_in is.sections ≡ 0) (sym (tokens_in ts tokens)) none) is)

  pub not_final : (e : ConfigFault) → ByToken e → IsWell (words s.tokens) → ⊥
  not_final e b w = b.not_well (well_to b.before b.t b.rest (subst (λ (ts : List Located). IsWell (words ts)) b.whole w))

  not_both : (e : ConfigFault) → s ≡ stopped s.tokens e → s ≡ ended_by (length text) s.tokens → ⊥
  not_both e a b = let wrong : s.last ≡ Err e = ap (λ (q : Stream). q.last) a in let other : s.last ≡ Ok (record { word = End; at = length text }) = ap (λ (q : Stream). q.last) b in absurd cc

  err_same : (e f : ConfigFault) (r : Result Located ConfigFault) → r ≡ Err e → r ≡ Err f → e ≡ f
  err_same e f r p q = cc

  one_end : (e f : ConfigFault) → AtEnd e → AtEnd f → e ≡ f
  one_end e f (Stopped a) (Stopped b) = err_same e f s.last (ap (λ (q : Stream). q.last) a) (ap (λ (q : Stream). q.last) b)
  one_end e f (Stopped a) (NoFile b none q) = absurd (not_both e a b)
  one_end e f (Stopped a) (Empty b is listed q) = absurd (not_both e a b)
  one_end e f (NoFile a none p) (Stopped b) = absurd (not_both f b a)
  one_end e f (NoFile a none p) (NoFile b other q) = p ∙ sym q
  one_end e f (NoFile a none p) (Empty b is listed q) = absurd (none is.sections is.file)
  one_end e f (Empty a is listed p) (Stopped b) = absurd (not_both f b a)
  one_end e f (Empty a is listed p) (NoFile b none q) = absurd (none is.sections is.file)
  one_end e f (Empty a is listed p) (Empty b other empty q) = p ∙ sym q

  -- both faults have the same token as their cause
  shared : (e f : ConfigFault) (b : ByToken e) → Brings b.t.word (words b.before ++ b.t.word ∷ []) f.kind → IsLocatedAt b.before b.t f → e ≡ f
  shared e f b brings stands = elim (name_or_not b.t.word) [
    | inl n ↦
        let ws = words b.before ++ b.t.word ∷ [] in
        let x = name_kind b.before b.t e n.0 n.1 b.stands in
        let y = name_kind b.before b.t f n.0 n.1 stands in
        same_fault e f (one_kind ws e.kind f.kind (subst (λ (w : Word). Brings w ws e.kind) n.1 b.brings) (subst (λ (w : Word). Brings w ws f.kind) n.1 brings) x.1 y.1) (x.0 ∙ sym y.0)
    | inr no_name ↦
        let ws = words b.before ++ b.t.word ∷ [] in
        one_here b.before b.t no_name e f (spoils_of b.t.word ws e.kind no_name b.brings) (spoils_of b.t.word ws f.kind no_name brings) b.stands stands
  ]

  one_token : (e f : ConfigFault) (b : ByToken e) (c : ByToken f) → Order b.before b.t c.before c.t → e ≡ f
  one_token e f b c (Same p q) =
      let at_t = λ (P : List Located → Located → Type 0) (k : P c.before c.t). subst (λ (ts : List Located). P ts b.t) (sym p) (subst (λ (t : Located). P c.before t) (sym q) k) in
      shared e f b (at_t (λ ts t. Brings t.word (words ts ++ t.word ∷ []) f.kind) c.brings) (at_t (λ ts t. IsLocatedAt ts t f) c.stands)
  one_token e f b c (Earlier x p) = absurd (b.not_well (well_to b.before b.t x (subst (λ (ts : List Located). IsWell (words ts)) p c.well)))
  one_token e f b c (Later x p) = absurd (c.not_well (well_to c.before c.t x (subst (λ (ts : List Located). IsWell (words ts)) p b.well)))

  one_cause : (e f : ConfigFault) → Cause e → Cause f → e ≡ f
  one_cause e f (TooFar a p) (TooFar b q) = p ∙ sym q
  one_cause e f (TooFar a p) (Brought short b) = absurd (omega (arith, a, short))
  one_cause e f (TooFar a p) (Final short w b) = absurd (omega (arith, a, short))
  one_cause e f (Brought short a) (TooFar b q) = absurd (omega (arith, b, short))
  one_cause e f (Brought short a) (Brought other b) = one_token e f a b (order_of a.before a.t a.rest b.before b.t b.rest (sym a.whole ∙ b.whole))
  one_cause e f (Brought short a) (Final other w b) = absurd (not_final e a w)
  one_cause e f (Final short w a) (TooFar b q) = absurd (omega (arith, b, short))
  one_cause e f (Final short w a) (Brought other b) = absurd (not_final f b w)
  one_cause e f (Final short w a) (Final other v b) = one_end e f a b

  pub one_fault : (e f : ConfigFault) → IsFaultOf text e → IsFaultOf text f → e ≡ f
  one_fault e f a b = one_cause e f (cause_of e a) (cause_of f b)
