-- The result of `term_by` for each kind of first token.
use Rattle.std.proofs.Common.{◌≡◌, ℕ, Bool, List, None, Some, Result, refl}
use Rattle.dac_shapes.specs.laws.Common.{ConfigFault, BadShape, Symbol, Punctuation, Name, Number, Text, End, Located, State, fails, token, closing_of, terms_in, texts_at, term_by}

module _ (pass : Located → State → Result (Located × State) ConfigFault) (n : ℕ) (t : Located) (s : State) where
  pub by_name : (name : List ℕ) → t.word ≡ Name name → term_by pass n t s ≡ token s
  unfolding term_by
  by_name name e = rw e refl

  pub by_number : (negative : Bool) (digits : List ℕ) → t.word ≡ Number negative digits → term_by pass n t s ≡ token s
  unfolding term_by
  by_number negative digits e = rw e refl

  pub by_text : t.word ≡ Text → term_by pass n t s ≡ texts_at n s
  unfolding term_by
  by_text e = rw e refl

  pub by_mark : (symbol close : Symbol) → t.word ≡ Punctuation symbol → closing_of symbol ≡ Some close → term_by pass n t s ≡ terms_in pass close n s
  unfolding term_by
  by_mark symbol close e is = rw (e, is) refl

  pub by_other_mark : (symbol : Symbol) → t.word ≡ Punctuation symbol → closing_of symbol ≡ None → term_by pass n t s ≡ fails BadShape t.at
  unfolding term_by
  by_other_mark symbol e is = rw (e, is) refl

  pub by_end : t.word ≡ End → term_by pass n t s ≡ fails BadShape t.at
  unfolding term_by
  by_end e = rw e refl
