-- A whole file that keeps the bound limits, up to the last word that isn't quiet.
use Rattle.std.proofs.Common.{◌≡◌, ℕ, Bool, true, false, cond, eqb, List, [], ◌∷◌, ◌++◌, length, Result, Ok, Err, refl, sym, ap, subst, ◌∙◌, append_assoc, append-nil, inl, inr}
use Rattle.dac_shapes.specs.laws.Common.{◌⊎◌, All, All-nil, All-head, ConfigFault, FaultKind, BadShape, NoDistributed, OpenList, OpenTuple, CloseList, Comma, FullStop, ◌>>=◌, Word, Punctuation, Located, is_end, Section, Written, written, Seen, nothing, Keeps, State, fails, is_symbol, token, symbol_at, list_of, section_at, end_at, file_at, IsFile, IsLooseFile, at, mark_is}
use Rattle.dac_first_fault.proofs.Begun.{halt, Begun, words_in, by_pair}
use Rattle.dac_first_fault.proofs.Spared.{Strict, Free, no_limit}
use Rattle.dac_first_fault.proofs.Loosely.{file_strict}
use Rattle.dac_first_fault.proofs.Held.{words, IsQuiet, Kept, Stops, Lone, Holds}
use Rattle.dac_first_fault.proofs.HeldSections.{AreSections, sections_held}

module _ (Marks : Type 0) (bad : ℕ) (Bound : FaultKind → Type 0) (mode : Marks ⊎ Free Bound) where
  -- a file that keeps the bound limits
  abbrev pub KeptFile : List Word → List Section → Type 0
  KeptFile ws sections = IsLooseFile Bound ws sections × Keeps Bound sections

  -- if reading stopped, these words are none or a full stop
  abbrev Quiet : {X : Type 0} → List Word → Result X ConfigFault → Type 0
  Quiet ws (Ok x) = Unit {0}
  Quiet ws (Err e) = Stops bad Bound e.kind e.at → (ws ≡ []) ⊎ (ws ≡ Punctuation FullStop ∷ [])

  abbrev Falls : {X : Type 0} → List Word → Result X ConfigFault → Type 0
  Falls ws (Ok x) = Unit {0}
  Falls ws (Err e) = Stops bad Bound e.kind e.at → Kept Marks KeptFile ws

  -- ---- the end of a file

  abbrev stop : Located × State → Result (ℕ × State) ConfigFault
  stop t = cond (is_end t.0.word) (Ok (t.0.at, t.1)) (fails BadShape t.0.at)

  module _ (sections : List Section) (seen : Seen) where
    abbrev judged : ℕ × State → Result Written ConfigFault
    judged end = cond (eqb (length (written sections end.1.seen.met).apps) 0) (fails NoDistributed end.0) (Ok (written sections end.1.seen.met))

    judged_quiet : (ws : List Word) (offset : ℕ) (w : Written) (c : Bool) → Quiet ws (cond c (fails NoDistributed offset) (Ok w))
    judged_quiet ws offset w true = λ h. absurd h
    judged_quiet ws offset w false = tt

    stop_quiet : (ws : List Word) (t : Located) (u : State) (c : Bool) → Quiet ws (cond c (Ok (t.at, u)) (fails BadShape t.at) >>= judged)
    stop_quiet ws t u true = judged_quiet ws t.at (written sections u.seen.met) (eqb (length (written sections u.seen.met).apps) 0)
    stop_quiet ws t u false = λ h. absurd h

    behind_stop : (w : Word) (ts : List Located) (last : Result Located ConfigFault) → last ≡ Err halt → w ≡ Punctuation FullStop → Quiet (w ∷ words ts) ((token (at last ts seen) >>= stop) >>= judged)
    behind_stop w [] last e is = subst (λ (l : Result Located ConfigFault). Quiet (w ∷ []) ((token (at l [] seen) >>= stop) >>= judged)) (sym e) (λ h. inr (ap (λ (v : Word). v ∷ []) is))
    behind_stop w (t ∷ ts) last e is = stop_quiet (w ∷ words (t ∷ ts)) t (at last ts seen) (is_end t.word)

    at_stop : (t : Located) (ts : List Located) (last : Result Located ConfigFault) → last ≡ Err halt → (c : Bool) → is_symbol FullStop t.word ≡ c → Quiet (words (t ∷ ts)) ((cond c (Ok (at last ts seen)) (fails BadShape t.at) >>= λ u. token u >>= stop) >>= judged)
    at_stop t ts last e true is = behind_stop t.word ts last e (mark_is FullStop t.word is)
    at_stop t ts last e false is = λ h. absurd h

    end_quiet : (ts : List Located) (last : Result Located ConfigFault) → last ≡ Err halt → Quiet (words ts) (end_at (at last ts seen) >>= judged)
    unfolding end_at symbol_at
    end_quiet [] last e = subst (λ (l : Result Located ConfigFault). Quiet [] (end_at (at l [] seen) >>= judged)) (sym e) (λ h. inl refl)
    end_quiet (t ∷ ts) last e = at_stop t ts last e (is_symbol FullStop t.word) refl

  -- ---- a file

  empty_kept : (ws : List Word) → All (IsQuiet Marks) ws → Kept Marks KeptFile ws
  empty_kept ws none = record {
    named = [];
    rest = ws;
    parts = refl;
    quiet = none;
    begun = record { more = Punctuation OpenList ∷ Punctuation CloseList ∷ Punctuation FullStop ∷ []; x = []; is = ((Punctuation OpenList ∷ Punctuation CloseList ∷ [], refl, ([], refl, refl)), tt) };
  }

  list_kept : (ws : List Word) → Kept Marks (AreSections Bound) ws → Kept Marks KeptFile ws
  list_kept ws k =
      let b = k.begun in
      record { named = k.named; rest = k.rest; parts = k.parts; quiet = k.quiet; begun = record { more = b.more ++ Punctuation FullStop ∷ []; x = b.x.0; is = ((k.named ++ b.more, sym (append_assoc k.named b.more (Punctuation FullStop ∷ [])), b.is.0), b.is.1) } }

  quiet_kept : {X : Type 0} (own : List Word) (xs : List Section × State) → (AreSections Bound) own xs → (ws : List Word) (r : Result X ConfigFault) → Quiet ws r → Falls (own ++ ws) r
  quiet_kept own xs is ws (Ok x) k = tt
  quiet_kept own xs is ws (Err e) k = λ h. elim (k h) [
    | inl none ↦ record { named = own; rest = []; parts = ap (λ (l : List Word). own ++ l) none; quiet = All-nil (IsQuiet Marks); begun = record { more = Punctuation FullStop ∷ []; x = xs.0; is = ((own, refl, is.0), is.1) } }
    | inr stop ↦
        let all = append-nil (own ++ Punctuation FullStop ∷ []) in
        record { named = own ++ Punctuation FullStop ∷ []; rest = []; parts = ap (λ (l : List Word). own ++ l) stop ∙ sym all; quiet = All-nil (IsQuiet Marks); begun = record { more = []; x = xs.0; is = ((own, all, is.0), is.1) } }
  ]

  list_falls : (ws : List Word) (r : Result (List Section × State) ConfigFault) → Holds Marks bad Bound by_pair (AreSections Bound) ws r → Falls ws (r >>= λ x. end_at x.1 >>= judged x.0 x.1.seen)
  list_falls ws (Ok x) k = subst (λ (l : List Word). Falls l (end_at x.1 >>= judged x.0 x.1.seen)) (sym k.whole) (quiet_kept k.own x k.is (words_in x.1) (end_at x.1 >>= judged x.0 x.1.seen) (end_quiet x.0 x.1.seen x.1.left.tokens x.1.left.last k.short.0))
  list_falls ws (Err e) k = λ h. elim (k h) [
    | inl n ↦ empty_kept ws n
    | inr q ↦ list_kept ws q
  ]

  file_falls : (ts : List Located) → Lone Marks bad Bound ts → Falls (words ts) (file_at (at (Err halt) ts nothing))
  unfolding file_at
  file_falls ts lone = list_falls (words ts) (list_of section_at (at (Err halt) ts nothing)) (sections_held Marks bad Bound mode ts lone)

  -- if reading stopped, a file that keeps the bound limits begins with the words up to the last that isn't quiet
  pub file_kept : (ts : List Located) → Lone Marks bad Bound ts → (e : ConfigFault) → Stops bad Bound e.kind e.at → file_at (at (Err halt) ts nothing) ≡ Err e → Kept Marks KeptFile (words ts)
  file_kept ts lone e stops is = by (file_at (at (Err halt) ts nothing)) is (file_falls ts lone)
    where
      by : (r : Result Written ConfigFault) → r ≡ Err e → Falls (words ts) r → Kept Marks KeptFile (words ts)
      by r same k = (subst (λ (q : Result Written ConfigFault). Falls (words ts) q) same k) stops

none_quiet : (ws : List Word) → All (IsQuiet ⊥) ws → ws ≡ []
none_quiet [] all = refl
none_quiet (w ∷ ws) all = absurd (never w (All-head (IsQuiet ⊥) w ws all))
  where
    never : (w : Word) → IsQuiet ⊥ w → ⊥
    never (Punctuation OpenList) quiet = quiet
    never (Punctuation OpenTuple) quiet = quiet
    never (Punctuation Comma) quiet = quiet
    never _ quiet = quiet

-- if reading reaches the end of the tokens, some file begins with their words
pub file_begun : (bad : ℕ) (ts : List Located) → Lone ⊥ bad Strict ts → file_at (at (Err halt) ts nothing) ≡ Err halt → Begun IsFile (words ts)
file_begun bad ts lone e =
    let k = file_kept ⊥ bad Strict (inr no_limit) ts lone halt tt e in
    let b = k.begun in
    let whole : words ts ≡ k.named = k.parts ∙ ap (λ (l : List Word). k.named ++ l) (none_quiet k.rest k.quiet) ∙ append-nil k.named in
    subst (λ (l : List Word). Begun IsFile l) (sym whole) (record { more = b.more; x = b.x; is = file_strict Strict (λ kind kept. kept) (k.named ++ b.more) b.x b.is.0 })
