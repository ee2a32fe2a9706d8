-- Tokens, split by their words.
use Rattle.std.proofs.Common.{◌≡◌, true, false, List, [], ◌∷◌, ◌++◌, map, Result, Ok, refl, ap, ◌∙◌}
use Rattle.dac_tokens.specs.declared.fault.ConfigFault.{ConfigFault}
use Rattle.dac_tokens.specs.declared.token.Symbol.{Symbol}
use Rattle.dac_tokens.specs.declared.token.Symbol.TheVariants.{CloseList, CloseTuple}
use Rattle.dac_tokens.specs.Words.{Word, Punctuation, Located}
use Rattle.dac_shapes.specs.Limits.{Seen}
use Rattle.dac_shapes.specs.Shape.{State, is_symbol, symbol_at}

abbrev pub words_of : List Located → List Word
words_of ts = map (λ t. t.word) ts

pub cons_is : {A : Type 0} (x y : A) (xs ys : List A) → x ∷ xs ≡ y ∷ ys → (x ≡ y) × (xs ≡ ys)
cons_is x y xs ys e = (cc, cc)

-- tokens whose words are two parts split into two parts
pub record Split (ts : List Located) (a b : List Word) : Type 0 where
  pub front : List Located
  pub rest : List Located
  pub whole : ts ≡ front ++ rest
  pub first : words_of front ≡ a
  pub second : words_of rest ≡ b

pub split : (ts : List Located) (a b : List Word) → words_of ts ≡ a ++ b → Split ts a b
split ts [] b e = record { front = []; rest = ts; whole = refl; first = refl; second = e }
split [] (w ∷ a) b e = absurd cc
split (t ∷ ts) (w ∷ a) b e =
    let c = cons_is t.word w (words_of ts) (a ++ b) e in
    let s = split ts a b c.1 in
    record { front = t ∷ s.front; rest = s.rest; whole = ap (λ (l : List Located). t ∷ l) s.whole; first = ap (λ (v : Word). v ∷ words_of s.front) c.0 ∙ ap (λ (l : List Word). w ∷ l) s.first; second = s.second }

-- tokens whose first word is this one
pub record Cut (ts : List Located) (w : Word) (a : List Word) : Type 0 where
  pub head : Located
  pub tail : List Located
  pub whole : ts ≡ head ∷ tail
  pub is : head.word ≡ w
  pub rest : words_of tail ≡ a

pub cut : (ts : List Located) (w : Word) (a : List Word) → words_of ts ≡ w ∷ a → Cut ts w a
cut [] w a e = absurd cc
cut (t ∷ ts) w a e = let c = cons_is t.word w (words_of ts) a e in record { head = t; tail = ts; whole = refl; is = c.0; rest = c.1 }

pub none : (ts : List Located) → words_of ts ≡ [] → ts ≡ []
none [] e = refl
none (t ∷ ts) e = absurd cc

-- tokens whose last word is this one
pub record Ended (ts : List Located) (a : List Word) (w : Word) : Type 0 where
  pub front : List Located
  pub end : Located
  pub whole : ts ≡ front ++ end ∷ []
  pub first : words_of front ≡ a
  pub is : end.word ≡ w

pub ended : (ts : List Located) (a : List Word) (w : Word) → words_of ts ≡ a ++ w ∷ [] → Ended ts a w
ended ts a w e =
    let s = split ts a (w ∷ []) e in
    let c = cut s.rest w [] s.second in
    let only : s.rest ≡ c.head ∷ [] = c.whole ∙ ap (λ (l : List Located). c.head ∷ l) (none c.tail c.rest) in
    record { front = s.front; end = c.head; whole = s.whole ∙ ap (λ (l : List Located). s.front ++ l) only; first = s.first; is = c.is }

-- words that don't begin with a closing symbol
pub record Begins (ws : List Word) : Type 0 where
  pub head : Word
  pub tail : List Word
  pub whole : ws ≡ head ∷ tail
  pub no_list : is_symbol CloseList head ≡ false
  pub no_tuple : is_symbol CloseTuple head ≡ false

-- these tokens remain, followed by the last one
abbrev pub at : Result Located ConfigFault → List Located → Seen → State
at last ts seen = record { left = record { tokens = ts; last = last }; seen = seen }

pub record Inside (ts : List Located) (left : Word) (inner : List Word) (right : Word) : Type 0 where
  pub open_at : Located
  pub mid : List Located
  pub close_at : Located
  pub whole : ts ≡ open_at ∷ (mid ++ close_at ∷ [])
  pub opens : open_at.word ≡ left
  pub is : words_of mid ≡ inner
  pub closes : close_at.word ≡ right

pub inside : (ts : List Located) (left : Word) (inner : List Word) (right : Word) → words_of ts ≡ left ∷ inner ++ right ∷ [] → Inside ts left inner right
inside ts left inner right e =
    let c = cut ts left (inner ++ right ∷ []) e in
    let d = ended c.tail inner right c.rest in
    record { open_at = c.head; mid = d.front; close_at = d.end; whole = c.whole ∙ ap (λ (l : List Located). c.head ∷ l) d.whole; opens = c.is; is = d.first; closes = d.is }

module _ (last : Result Located ConfigFault) where
  pub symbol_again : (x : Symbol) (t : Located) (ts : List Located) (seen : Seen) → is_symbol x (Punctuation x) ≡ true → t.word ≡ Punctuation x → symbol_at x (at last (t ∷ ts) seen) ≡ Ok (at last ts seen)
  unfolding symbol_at
  symbol_again x t ts seen is e = rw (e, is) refl
