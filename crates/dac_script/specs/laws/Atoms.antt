-- A word has a name exactly if it is an atom of that name.
use Rattle.std.proofs.Common.{◌≡◌, ℕ, ◌+◌, true, cond, not, ◌&&◌, List, [], ◌∷◌, ◌++◌, length, take, slice_index, All, Some, None, codes, ◌==◌, refl, sym, ap, subst, ◌∙◌, arith, inl, inr, length-append}
use Rattle.dac_script.specs.laws.Common.{list_all, bytes_eq, and_from, and_parts, cond-true, cond_both, eq-eqb, eqb-true, nat_tests, take_all, take_at, get_or_at, none-some, same_Some, cond_some, bytes_eq-Decides, name_in}
use Rattle.std.specs.Bool.{Decides}
use Rattle.std.specs.Char.{IsAsciiLowercase}
use Rattle.std.proofs.lemmas.Bool.Decides.{Decides-and, Decides-by_and, Decides-not}
use Rattle.std.proofs.lemmas.List.{take_more}
use Rattle.dac_tokens.specs.Scan.{is_name_byte, is_quotable}
use Rattle.dac_tokens.specs.TokenGrammar.{Begins, IsNameByte, IsBareAtom, IsQuotable, IsQuoted}
use Rattle.dac_tokens.specs.laws.NameBytes.{tells_letter, tells_name_byte}
use Rattle.dac_config.specs.Canonical.{begins_small, is_bare}
use Rattle.dac_script.specs.Words.{before_quote, quoted_name}
use Rattle.dac_script.specs.Forms.{IsAtom}

-- ---- tests of bytes

tells_begin : (name : List ℕ) → Decides (begins_small name) (Begins IsAsciiLowercase name)
tells_begin [] = (λ e. absurd cc, λ h. absurd h)
tells_begin (b ∷ bs) = tells_letter b

tells_bare : (name : List ℕ) → Decides (is_bare name) (IsBareAtom name)
tells_bare name =
    let fun = bytes_eq name (codes "fun") in
    let all = Decides-by_and is_name_byte IsNameByte (list_all is_name_byte) tells_name_byte refl (λ _ _. refl) name in
    let front = Decides-and (begins_small name) (not fun) (tells_begin name) (Decides-not fun (bytes_eq-Decides name (codes "fun"))) in
    let each = Decides-and (begins_small name && not fun) (list_all is_name_byte name) front all in
    (λ e. record { begins = (each.0 e).0.0; goes_on = (each.0 e).1; no_fun = (each.0 e).0.1 }, λ h. each.1 ((h.begins, h.no_fun), h.goes_on))

tells_quotable : (b : ℕ) → Decides (is_quotable b) (IsQuotable b)
tells_quotable b = (λ e. grind (arith, nat_tests), λ h. grind (arith, nat_tests))

tells_all_quotable : (name : List ℕ) → Decides (list_all is_quotable name) (All IsQuotable name)
tells_all_quotable name = Decides-by_and is_quotable IsQuotable (list_all is_quotable) tells_quotable refl (λ _ _. refl) name

-- ---- an atom is read as its name

closing : (last : ℕ) (taken name : List ℕ) → last ≡ 39 → taken ≡ name → list_all is_quotable name ≡ true → cond (last == 39 && list_all is_quotable taken) (Some taken) None ≡ Some name
closing last taken name quote same all =
    let passes : (last == 39 && list_all is_quotable taken) ≡ true = and_from (last == 39) (list_all is_quotable taken) (eq-eqb last 39 quote) (ap (list_all is_quotable) same ∙ all) in
    cond-true (last == 39 && list_all is_quotable taken) (Some taken) None passes ∙ ap (λ (n : List ℕ). Some n) same

closed : (name : List ℕ) → list_all is_quotable name ≡ true → before_quote (name ++ 39 ∷ []) ≡ Some name
closed [] all = refl
closed (c ∷ cs) all =
    let n = length (cs ++ 39 ∷ []) in
    let e : length (c ∷ cs) ≡ n = omega (arith, length-append cs (39 ∷ [])) in
    closing (slice_index (c ∷ (cs ++ 39 ∷ [])) n) (take n (c ∷ (cs ++ 39 ∷ []))) (c ∷ cs) (get_or_at (c ∷ cs) 39 [] 0 n e) (take_at (c ∷ cs) (39 ∷ []) n e) all

-- an atom has its name
pub name_read : (name word : List ℕ) → IsAtom name word → name_in word ≡ Some name
name_read name word (inl bare) = ap name_in bare.0 ∙ cond-true (is_bare name) (Some name) (quoted_name name) ((tells_bare name).1 bare.1)
name_read name word (inr quoted) = ap name_in quoted.0 ∙ closed name ((tells_all_quotable name).1 quoted.1)

-- ---- a name is read only from its atoms

ends_quoted : (bs name : List ℕ) → before_quote bs ≡ Some name → (bs ≡ name ++ 39 ∷ []) × All IsQuotable name
ends_quoted [] name e = absurd (none-some name e)
ends_quoted (c ∷ cs) name e =
    let n = length cs in
    let last = slice_index (c ∷ cs) n in
    let taken = take n (c ∷ cs) in
    let p = cond_some (last == 39 && list_all is_quotable taken) taken name e in
    let passes = and_parts (last == 39) (list_all is_quotable taken) p.0 in
    let whole : c ∷ cs ≡ taken ++ last ∷ [] = sym (take_all (n + 1) (c ∷ cs) (omega arith)) ∙ take_more (c ∷ cs) n 0 (omega arith) in (
      whole ∙ ap (λ (l : List ℕ). l ++ last ∷ []) p.1 ∙ ap (λ (b : ℕ). name ++ b ∷ []) (eqb-true last 39 passes.0),
      subst (All IsQuotable) p.1 ((tells_all_quotable taken).0 passes.1),
    )

begins_quoted : (word name : List ℕ) → quoted_name word ≡ Some name → IsQuoted name word
begins_quoted [] name e = absurd (none-some name e)
begins_quoted (b ∷ bs) name e =
    cond_both (b == 39) (before_quote bs) None (λ o. o ≡ Some name → IsQuoted name (b ∷ bs))
    (λ quote e.
    let inner = ends_quoted bs name e in
    (ap (λ (c : ℕ). c ∷ bs) (eqb-true b 39 quote) ∙ ap (λ (l : List ℕ). 39 ∷ l) inner.0, inner.1))
    (λ _ e. absurd (none-some name e)) e

-- a word with a name is an atom of that name
pub name_spelled : (name word : List ℕ) → name_in word ≡ Some name → IsAtom name word
name_spelled name word e =
    cond_both (is_bare word) (Some word) (quoted_name word) (λ o. o ≡ Some name → IsAtom name word)
    (λ bare e.
    let same = same_Some word name e in
    inl (same, subst IsBareAtom same ((tells_bare word).0 bare)))
    (λ _ e. inr (begins_quoted word name e)) e
