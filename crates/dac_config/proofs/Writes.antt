-- The canonical text is spelled by words of the grammar that can follow each other; and drafts can be spelled by such
-- words.
use Rattle.std.proofs.Common.{◌≡◌, ◌⊎◌, inl, inr, ℕ, ◌+◌, ◌-◌, ◌*◌, ◌/◌, ◌%◌, ◌<◌, ◌≤◌, Bool, true, false, cond, not, ◌&&◌, List, [], ◌∷◌, ◌++◌, length, map, filter, All, codes, decimal, unwrap_or, option_map, slice_get, bytes_eq, refl, sym, ap, subst, ◌∙◌, arith, append_assoc, append-nil}
use Rattle.std.specs.Bool.{Decides}
use Rattle.dac_config.proofs.Common.{list_all, length-map, All-nil, All-cons, All-head, All-tail, All-push, App, Permission, Param, Distributed, Permissions, Mandatory, Optional, Timeout, Section, Kernel, spelled, params_in, Parted, between, IsListOf, IsPair, IsNode, IsItem, IsMs, IsPermission, strict, IsTimeout, IsAppValue, IsWait, IsParam, IsSection, IsFile, NodeRow, AppRow, Table, begins_small, is_bare, name_text, separated_after, parted, list_text, pair_text, node_name_text, group_text, app_text, forbidden_text, wait_texts, param_texts, canonical_text}
use Rattle.std.specs.List.{AllByRecursion as Each}
use Rattle.std.specs.Char.{IsAsciiDigit, IsAsciiLowercase}
use Rattle.std.proofs.lemmas.Bool.Decides.{Decides-and, Decides-by_and, Decides-not}
use Rattle.std.proofs.lemmas.Fmt.{decimal_by_steps}
use Rattle.std.proofs.lemmas.Slice.Eq.{bytes_eq-Decides}
use Rattle.dac_tokens.specs.declared.token.Symbol.TheVariants.{OpenList, CloseList, OpenTuple, CloseTuple, Comma, FullStop}
use Rattle.dac_tokens.specs.Digits.{value_from}
use Rattle.dac_tokens.specs.Scan.{is_name_byte}
use Rattle.dac_tokens.specs.laws.NameBytes.{tells_letter, tells_name_byte}
use Rattle.dac_tokens.specs.Words.{Word, Punctuation, Name, Number, Located}
use Rattle.dac_tokens.specs.TokenGrammar.{Nothing, Blank, Closed, IsNameByte, Begins, IsQuotable, IsDigits, ContinuesAsNumber, IsBareAtom, bytes_of, Spells, AreSpelled, depth_after_word, NestWell, AreTokensOf}
use Rattle.dac_shapes.specs.declared.draft.SyncWait.{SyncWait}
use Rattle.dac_shapes.specs.declared.draft.SyncWait.TheVariants.{NoSync, Forever, Ms}
use Rattle.dac_shapes.specs.declared.param.ParamName.TheVariants as named
use Rattle.dac_shapes.specs.Grammar.{IsApp}
use Rattle.dac_shapes.specs.laws.Params.{ParamsHave, params_have}
use Rattle.dac_config.proofs.Names.{each_parts}

-- ---- spelling

abbrev spelling_of : Word → List ℕ
spelling_of (Punctuation symbol) = bytes_of symbol
spelling_of (Name name) = name_text name
spelling_of (Number negative digits) = digits
spelling_of _ = []

abbrev spelled_words : List Word → List ℕ
spelled_words [] = []
spelled_words (word ∷ words) = spelling_of word ++ spelled_words words

-- each word with the number of bytes before it
abbrev located : ℕ → List Word → List Located
located at [] = []
located at (word ∷ words) = record { word = word; at = at } ∷ located (at + length (spelling_of word)) words

-- the words begin with a symbol; a full stop is the last word
abbrev BeginsApart : List Word → Type 0
BeginsApart (Punctuation FullStop ∷ words) = words ≡ []
BeginsApart (Punctuation _ ∷ words) = Unit {0}
BeginsApart _ = ⊥

-- a word can be spelled if these words follow
abbrev CanStand : Word → List Word → Type 0
CanStand (Punctuation FullStop) after = after ≡ []
CanStand (Punctuation _) after = Unit {0}
CanStand (Name name) after = All IsQuotable name × BeginsApart after
CanStand (Number false digits) after = IsDigits digits × BeginsApart after
CanStand _ after = ⊥

-- each of these words can be spelled before the next ones, and never more than 64 brackets are open, given those open
-- before them
abbrev Stand : ℕ → List Word → Type 0
Stand depth [] = Unit {0}
Stand depth (word ∷ words) = CanStand word words × (depth_after_word depth word ≤ 64) × Stand (depth_after_word depth word) words

-- ---- a name is bare exactly if it is a bare atom

tells_begin : (name : List ℕ) → Decides (begins_small name) (Begins IsAsciiLowercase name)
tells_begin [] = (λ e. absurd cc, λ h. absurd h)
tells_begin (b ∷ bs) = tells_letter b

pub tells_bare : (name : List ℕ) → Decides (is_bare name) (IsBareAtom name)
tells_bare name =
    let fun = bytes_eq name (codes "fun") in
    let all = Decides-by_and is_name_byte IsNameByte (list_all is_name_byte) tells_name_byte refl (λ _ _. refl) name in
    let front = Decides-and (begins_small name) (not fun) (tells_begin name) (Decides-not fun (bytes_eq-Decides name (codes "fun"))) in
    let each = Decides-and (begins_small name && not fun) (list_all is_name_byte name) front all in
    (λ e. record { begins = (each.0 e).0.0; goes_on = (each.0 e).1; no_fun = (each.0 e).0.1 }, λ h. each.1 ((h.begins, h.no_fun), h.goes_on))

name_bytes_quotable : (bytes : List ℕ) → All IsNameByte bytes → All IsQuotable bytes
name_bytes_quotable [] all = All-nil IsQuotable
name_bytes_quotable (b ∷ bs) all = All-cons IsQuotable b bs (quotable b (All-head IsNameByte b bs all)) (name_bytes_quotable bs (All-tail IsNameByte b bs all))
  where
    quotable : (b : ℕ) → IsNameByte b → IsQuotable b
    quotable b h = (λ quote. omega (arith, h, quote), λ unquotable. omega (arith, h, unquotable))

bare_quotable : (name : List ℕ) → is_bare name ≡ true → All IsQuotable name
bare_quotable name h = name_bytes_quotable name ((tells_bare name).0 h).goes_on

-- ---- the bytes after a name or a number

no_name_byte : (words : List Word) → BeginsApart words → Begins IsNameByte (spelled_words words ++ codes "\n") → ⊥
no_name_byte (Punctuation FullStop ∷ words) apart h = omega (arith, h)
no_name_byte (Punctuation _ ∷ words) apart h = omega (arith, h)
no_name_byte _ apart h = apart

ends_behind_dot : (words : List Word) → words ≡ [] → (◌≡◌ {A = ℕ} 46 95 ⊎ (◌≡◌ {A = ℕ} 46 46 × Begins IsAsciiDigit (spelled_words words ++ codes "\n"))) → ⊥
ends_behind_dot [] none (inl h) = omega (arith, h)
ends_behind_dot [] none (inr h) = omega (arith, h.1)
ends_behind_dot (word ∷ words) none h = absurd cc

ends_number : (words : List Word) → BeginsApart words → ContinuesAsNumber (spelled_words words ++ codes "\n") → ⊥
ends_number (Punctuation FullStop ∷ words) apart (inl h) = omega (arith, h)
ends_number (Punctuation FullStop ∷ words) apart (inr (inl h)) = omega (arith, h)
ends_number (Punctuation FullStop ∷ words) apart (inr (inr h)) = ends_behind_dot words apart h
ends_number (Punctuation _ ∷ words) apart h = omega (arith, h)
ends_number _ apart h = apart

-- ---- the spelling of each word

name_spelled : (name rest : List ℕ) → All IsQuotable name → (Begins IsNameByte rest → ⊥) → (c : Bool) → is_bare name ≡ c → Spells (Name name) (cond c name (39 ∷ (name ++ 39 ∷ []))) rest
name_spelled name rest quotable ends true bare = inl (refl, (tells_bare name).0 bare, ends)
name_spelled name rest quotable ends false bare = inr (refl, quotable)

ends_term : (words : List Word) → words ≡ [] → Spells (Punctuation FullStop) (46 ∷ []) (spelled_words words ++ codes "\n")
ends_term [] none = (refl, inr (inl (omega arith)))
ends_term (word ∷ words) none = absurd cc

word_spelled : (word : Word) (after : List Word) → CanStand word after → Spells word (spelling_of word) (spelled_words after ++ codes "\n")
word_spelled (Punctuation FullStop) after h = ends_term after h
word_spelled (Punctuation _) after h = refl
word_spelled (Name name) after h = name_spelled name (spelled_words after ++ codes "\n") h.0 (no_name_byte after h.1) (is_bare name) refl
word_spelled (Number false digits) after h = ((refl, h.0), ends_number after h.1)
word_spelled _ after h = absurd h

words_spelled : (at depth : ℕ) (words : List Word) → Stand depth words → AreSpelled at (spelled_words words ++ codes "\n") (located at words)
words_spelled at depth [] h = Closed (Blank 10 [] (omega arith) Nothing)
words_spelled at depth (word ∷ words) h = (
  spelling_of word,
  spelled_words words ++ codes "\n",
  record {
    gap = [];
    parts = append_assoc (spelling_of word) (spelled_words words) (codes "\n");
    is_gap = Nothing;
    offset = omega arith;
    spelled = word_spelled word words h.0;
  },
  words_spelled (at + length (spelling_of word)) (depth_after_word depth word) words h.2,
)

words_nested : (at depth : ℕ) (words : List Word) → Stand depth words → NestWell depth (located at words)
words_nested at depth [] h = tt
words_nested at depth (word ∷ words) h = (h.1, words_nested (at + length (spelling_of word)) (depth_after_word depth word) words h.2)

-- such words are the tokens of their spelling with a line feed
words_read : (words : List Word) → Stand 0 words → AreTokensOf (spelled_words words ++ codes "\n") (located 0 words)
words_read words h = record { spelled = words_spelled 0 0 words h; nested = words_nested 0 0 words h }

words_located : (at : ℕ) (words : List Word) → map (λ (t : Located). t.word) (located at words) ≡ words
words_located at [] = refl
words_located at (word ∷ words) = ap (λ (ws : List Word). word ∷ ws) (words_located (at + length (spelling_of word)) words)

-- ---- drafts that can be written

pub record CanSpellGroup (group : List (List ℕ)) : Type 0 where
  pub some : 0 < length group
  pub names : Each (All IsQuotable) group

pub record CanSpellApp (app : App) : Type 0 where
  pub name : All IsQuotable app.name
  pub timeout : app.timeout < 4294967296
  pub some : 0 < length app.groups
  pub groups : Each CanSpellGroup app.groups

abbrev pub CanSpellWait : SyncWait → Type 0
CanSpellWait NoSync = ⊥
CanSpellWait Forever = Unit {0}
CanSpellWait (Ms n) = n < 4294967296

abbrev pub CanSpell : Param → Type 0
CanSpell (Distributed apps) = Each CanSpellApp apps
CanSpell (Permissions permissions) = Each (λ permission. All IsQuotable permission.name) permissions
CanSpell (Mandatory names) = Each (All IsQuotable) names
CanSpell (Optional names) = Each (All IsQuotable) names
CanSpell (Timeout wait) = CanSpellWait wait
CanSpell Param.Other = Unit {0}

-- ---- a configuration with names

abbrev pub name_at : List NodeRow → ℕ → List ℕ
name_at nodes number = unwrap_or (option_map (λ node. node.name) (slice_get nodes number)) []

abbrev pub written_app : List NodeRow → AppRow → App
written_app nodes row = record { name = row.name; timeout = row.timeout; groups = map (map (name_at nodes)) row.groups }

abbrev pub ban : AppRow → Permission
ban row = record { name = row.name; value = false }

abbrev pub written_bans : List AppRow → List Permission
written_bans apps = map ban (filter (λ app. not app.permission) apps)

abbrev pub wait_params : SyncWait → List Param
wait_params NoSync = []
wait_params w = Timeout w ∷ []

abbrev pub params_of : Table → List Param
params_of table =
    Distributed (map (written_app table.nodes) table.apps) ∷ Permissions (written_bans table.apps) ∷ Mandatory (map (λ node. node.name) (filter (λ node. node.mandatory) table.nodes))
    ∷ Optional (map (λ node. node.name) (filter (λ node. node.optional) table.nodes)) ∷ wait_params table.sync_wait

-- ---- words that can follow each other

-- before a symbol these words can be spelled if k more brackets can be open
abbrev IsPiece : ℕ → List Word → Type 0
IsPiece k words = (depth : ℕ) (rest : List Word) → depth + k ≤ 64 → BeginsApart rest → Stand depth rest → Stand depth (words ++ rest)

name_piece : (k : ℕ) (name : List ℕ) → All IsQuotable name → IsPiece k (Name name ∷ [])
name_piece k name quotable = λ depth rest le apart h. ((quotable, apart), omega (arith, le), h)

comma_piece : (k : ℕ) (words more : List Word) → IsPiece k words → IsPiece k more → IsPiece k (words ++ Punctuation Comma ∷ more)
comma_piece k words more first second = λ depth rest le apart h.
    subst (Stand depth) (sym (append_assoc words (Punctuation Comma ∷ more) rest)) (first depth (Punctuation Comma ∷ (more ++ rest)) le tt (tt, omega (arith, le), second depth rest le apart h))

closed : (depth : ℕ) (rest : List Word) → Stand depth rest → Stand (depth + 1 - 1) rest
closed depth rest h = let same : depth ≡ depth + 1 - 1 = omega arith in subst (λ d. Stand d rest) same h

list_piece : (k : ℕ) (words : List Word) → IsPiece k words → IsPiece (k + 1) (between OpenList words CloseList)
list_piece k words piece = λ depth rest le apart h. (
  tt,
  omega (arith, le),
  subst (Stand (depth + 1)) (sym (append_assoc words (Punctuation CloseList ∷ []) rest)) (piece (depth + 1) (Punctuation CloseList ∷ rest) (omega (arith, le)) tt (tt, omega (arith, le), closed depth rest h)),
)

tuple_piece : (k : ℕ) (words : List Word) → IsPiece k words → IsPiece (k + 1) (between OpenTuple words CloseTuple)
tuple_piece k words piece = λ depth rest le apart h. (
  tt,
  omega (arith, le),
  subst (Stand (depth + 1)) (sym (append_assoc words (Punctuation CloseTuple ∷ []) rest)) (piece (depth + 1) (Punctuation CloseTuple ∷ rest) (omega (arith, le)) tt (tt, omega (arith, le), closed depth rest h)),
)

-- ---- words that spell a text

-- some words of this shape spell the text, wherever k more brackets can be open
record Writes (k : ℕ) (Is : List Word → Type 0) (text : List ℕ) : Type 0 where
  words : List Word
  is : Is words
  stands : IsPiece k words
  spells : spelled_words words ≡ text

spelled_append : (xs ys : List Word) → spelled_words (xs ++ ys) ≡ spelled_words xs ++ spelled_words ys
spelled_append [] ys = refl
spelled_append (x ∷ xs) ys = simp (append_assoc, spelled_append xs ys)

module _ {k : ℕ} {Is : List Word → Type 0} {text : List ℕ} (w : Writes k Is text) where
  shaped : (As : List Word → Type 0) → As w.words → Writes k As text
  shaped As is = record { words = w.words; is = is; stands = w.stands; spells = w.spells }

  alone : Writes k Is (text ++ [])
  alone = record { words = w.words; is = w.is; stands = w.stands; spells = w.spells ∙ sym (append-nil text) }

  list_writes : Writes (k + 1) (λ words. (inner : List Word) × (words ≡ between OpenList inner CloseList) × Is inner) (codes "[" ++ (text ++ codes "]"))
  list_writes = record { words = between OpenList w.words CloseList; is = (w.words, refl, w.is); stands = list_piece k w.words w.stands; spells = rw (spelled_append w.words (Punctuation CloseList ∷ []), w.spells) refl }

  tuple_writes : Writes (k + 1) (λ words. (inner : List Word) × (words ≡ between OpenTuple inner CloseTuple) × Is inner) (codes "{" ++ (text ++ codes "}"))
  tuple_writes = record { words = between OpenTuple w.words CloseTuple; is = (w.words, refl, w.is); stands = tuple_piece k w.words w.stands; spells = rw (spelled_append w.words (Punctuation CloseTuple ∷ []), w.spells) refl }

  pair_writes : (name : List ℕ) → All IsQuotable name → Writes (k + 1) (IsPair name Is) (pair_text (name_text name) text)
  pair_writes name quotable = record {
    words = between OpenTuple (Name name ∷ Punctuation Comma ∷ w.words) CloseTuple;
    is = (w.words, refl, w.is);
    stands = tuple_piece k (Name name ∷ Punctuation Comma ∷ w.words) (comma_piece k (Name name ∷ []) w.words (name_piece k name quotable) w.stands);
    spells = rw (spelled_append w.words (Punctuation CloseTuple ∷ []), w.spells) refl;
  }

comma_writes : {k : ℕ} {Is As : List Word → Type 0} {text more : List ℕ} → Writes k Is text → Writes k As more
    → Writes k (λ words. (first rest : List Word) × (words ≡ first ++ Punctuation Comma ∷ rest) × Is first × As rest) (text ++ (codes "," ++ more))
comma_writes {k = k} v w = record {
  words = v.words ++ Punctuation Comma ∷ w.words;
  is = (v.words, w.words, refl, v.is, w.is);
  stands = comma_piece k v.words w.words v.stands w.stands;
  spells = rw (spelled_append v.words (Punctuation Comma ∷ w.words), v.spells, w.spells) refl;
}

nothing_writes : {k : ℕ} → Writes k (λ words. words ≡ []) []
nothing_writes = record { words = []; is = refl; stands = λ depth rest le apart h. h; spells = refl }

name_writes : (k : ℕ) (name : List ℕ) → All IsQuotable name → Writes k (λ words. words ≡ Name name ∷ []) (name_text name)
name_writes k name quotable = record { words = Name name ∷ []; is = refl; stands = name_piece k name quotable; spells = append-nil (name_text name) }

module _ {A B : Type 0} (k : ℕ) (Is : List Word → A → Type 0) (of : B → A) (text : B → List ℕ) (P : A → Type 0) (one : (x : B) → P (of x) → Writes k (λ words. Is words (of x)) (text x)) where
  parted_writes : (xs : List B) → Each P (map of xs) → 0 < length xs → Writes k (λ words. Parted Is words (map of xs)) (parted (map text xs))
  parted_writes [] each some = absurd (omega (arith, some))
  parted_writes (x ∷ []) each some = alone (one x each.0)
  parted_writes (x ∷ y ∷ ys) each some = comma_writes (one x each.0) (parted_writes (y ∷ ys) each.1 (omega arith))

  listed_writes : (xs : List B) → Each P (map of xs) → Writes (k + 1) (λ words. IsListOf Is words (map of xs)) (list_text (map text xs))
  listed_writes [] each = list_writes nothing_writes
  listed_writes (x ∷ xs) each = list_writes (parted_writes (x ∷ xs) each (omega arith))

-- ---- numbers

record IsDecimal (n : ℕ) (digits : List ℕ) : Type 0 where
  are : IsDigits digits
  value : n ≡ value_from 0 digits

digits_more : (digits : List ℕ) (digit : ℕ) → IsDigits digits → IsAsciiDigit digit → IsDigits (digits ++ digit ∷ [])
digits_more [] digit are is = absurd are.begins
digits_more (d ∷ digits) digit are is = record { begins = are.begins; goes_on = All-push IsAsciiDigit (d ∷ digits) digit are.goes_on is }

value_more : (n : ℕ) (digits : List ℕ) (digit : ℕ) → value_from n (digits ++ digit ∷ []) ≡ 10 * value_from n digits + (digit - 48)
value_more n [] digit = refl
value_more n (d ∷ digits) digit = value_more (10 * n + (d - 48)) digits digit

is_decimal : (n : ℕ) → n < 4294967296 → IsDecimal n (decimal n)
is_decimal n lt = decimal_by_steps IsDecimal one more n (omega (arith, lt))
  where
    one : (n : ℕ) → n < 10 → IsDecimal n ((48 + n) ∷ [])
    one n lt = record { are = record { begins = (omega (arith, lt), omega (arith, lt)); goes_on = All-cons IsAsciiDigit (48 + n) [] (omega (arith, lt), omega (arith, lt)) (All-nil IsAsciiDigit) }; value = omega arith }

    more : (n : ℕ) (ds : List ℕ) → 10 ≤ n → IsDecimal (n / 10) ds → IsDecimal n (ds ++ ((48 + n % 10) ∷ []))
    more n ds le is = record { are = digits_more ds (48 + n % 10) is.are (omega arith, omega arith); value = omega (arith, is.value, value_more 0 ds (48 + n % 10)) }

number_writes : (k n : ℕ) → n < 4294967296 → Writes k (λ words. (word : Word) × (words ≡ word ∷ []) × IsMs word n) (decimal n)
number_writes k n lt = record {
  words = Number false (decimal n) ∷ [];
  is = (Number false (decimal n), refl, (false, decimal n, refl, (is_decimal n lt).value, lt, λ e. absurd cc));
  stands = λ depth rest le apart h. (((is_decimal n lt).are, apart), omega (arith, le), h);
  spells = append-nil (decimal n);
}

-- ---- the parts of a configuration

group_writes : (nodes : List NodeRow) (numbers : List ℕ) → CanSpellGroup (map (name_at nodes) numbers) → Writes 1 (λ words. IsItem words (map (name_at nodes) numbers)) (group_text nodes numbers)
group_writes nodes [] can = absurd (omega (arith, can.some))
group_writes nodes (n ∷ []) can = let w = name_writes 1 (name_at nodes n) can.names.0 in shaped w (λ words. IsItem words (name_at nodes n ∷ [])) (inl (name_at nodes n, w.is, refl))
group_writes nodes (n ∷ m ∷ numbers) can =
    let w = tuple_writes (parted_writes 0 IsNode (name_at nodes) (node_name_text nodes) (All IsQuotable) (λ k quotable. name_writes 0 (name_at nodes k) quotable) (n ∷ m ∷ numbers) can.names (omega arith)) in
    shaped w (λ words. IsItem words (map (name_at nodes) (n ∷ m ∷ numbers))) (inr w.is)

app_writes : (nodes : List NodeRow) (row : AppRow) → CanSpellApp (written_app nodes row) → Writes 3 (λ words. IsApp strict words (written_app nodes row)) (app_text nodes row)
app_writes nodes row can =
    let some : 0 < length row.groups = omega (arith, can.some, length-map row.groups (map (name_at nodes))) in
    let list = list_writes (parted_writes 1 IsItem (map (name_at nodes)) (group_text nodes) CanSpellGroup (group_writes nodes) row.groups can.groups some) in
    let value = comma_writes (number_writes 2 row.timeout can.timeout) list in
    let word = value.is.3.0 in
    pair_writes (shaped value (λ words. IsAppValue strict words (written_app nodes row)) (word ∷ Punctuation Comma ∷ [], value.is.1, value.is.2 ∙ ap (λ (first : List Word). first ++ Punctuation Comma ∷ value.is.1) value.is.3.1, inr (word, refl, value.is.3.2), value.is.4)) row.name can.name

ban_writes : (row : AppRow) → All IsQuotable row.name → Writes 3 (λ words. IsPermission words (ban row)) (forbidden_text row.name)
ban_writes row can = pair_writes (name_writes 2 (codes "false") (bare_quotable (codes "false") refl)) row.name can

names_write : (name : List ℕ) → All IsQuotable name → (nodes : List NodeRow) → Each (All IsQuotable) (map (λ node. node.name) nodes)
    → Writes 5 (IsPair name (λ words. IsListOf IsNode words (map (λ node. node.name) nodes))) (pair_text (name_text name) (list_text (map (λ node. name_text node.name) nodes)))
names_write name quotable nodes can = pair_writes (listed_writes 3 IsNode (λ (node : NodeRow). node.name) (λ node. name_text node.name) (All IsQuotable) (λ node quotable. name_writes 3 node.name quotable) nodes can) name quotable

-- a parameter, followed by that of the wait
wait_writes : (param : Param) (text : List ℕ) (wait : SyncWait) → Writes 5 (λ words. IsParam strict words param) text → Each CanSpell (wait_params wait)
    → Writes 5 (λ words. Parted (IsParam strict) words (param ∷ wait_params wait)) (text ++ separated_after (codes ",") (wait_texts wait))
wait_writes param text NoSync w can = alone w
wait_writes param text Forever w can = comma_writes w (alone (pair_writes (name_writes 4 (codes "infinity") (bare_quotable (codes "infinity") refl)) (codes "sync_nodes_timeout") (bare_quotable (codes "sync_nodes_timeout") refl)))
wait_writes param text (Ms n) w can = comma_writes w (alone (pair_writes (number_writes 4 n can.0) (codes "sync_nodes_timeout") (bare_quotable (codes "sync_nodes_timeout") refl)))

params_write : (table : Table) → Each CanSpell (params_of table) → Writes 5 (λ words. Parted (IsParam strict) words (params_of table)) (parted (param_texts table))
params_write table can =
    let apps = pair_writes (listed_writes 3 (IsApp strict) (written_app table.nodes) (app_text table.nodes) CanSpellApp (app_writes table.nodes) table.apps can.0) (codes "distributed") (bare_quotable (codes "distributed") refl) in
    let bans = pair_writes (listed_writes 3 IsPermission ban (λ row. forbidden_text row.name) (λ permission. All IsQuotable permission.name) ban_writes (filter (λ app. not app.permission) table.apps) can.1.0) (codes "permissions") (bare_quotable (codes "permissions") refl) in
    let mandatory = names_write (codes "sync_nodes_mandatory") (bare_quotable (codes "sync_nodes_mandatory") refl) (filter (λ node. node.mandatory) table.nodes) can.1.1.0 in
    let optional = names_write (codes "sync_nodes_optional") (bare_quotable (codes "sync_nodes_optional") refl) (filter (λ node. node.optional) table.nodes) can.1.1.1.0 in
    let optional_names = map (λ (node : NodeRow). node.name) (filter (λ (node : NodeRow). node.optional) table.nodes) in
    comma_writes apps (comma_writes bans (comma_writes mandatory (wait_writes (Optional optional_names) (pair_text (codes "sync_nodes_optional") (list_text (map (λ node. name_text node.name) (filter (λ node. node.optional) table.nodes)))) table.sync_wait optional can.1.1.1.1)))

-- the canonical text spells a file with the section `kernel`
pub file_written : (table : Table) → Each CanSpell (params_of table) → (tokens : List Located) × AreTokensOf (canonical_text table) tokens × IsFile (map (λ t. t.word) tokens) (Kernel (params_of table) ∷ [])
file_written table can =
    let section = pair_writes (list_writes (params_write table can)) (codes "kernel") (bare_quotable (codes "kernel") refl) in
    let file = list_writes (alone section) in
    let words = file.words ++ Punctuation FullStop ∷ [] in
    let stands : Stand 0 words = file.stands 0 (Punctuation FullStop ∷ []) (omega arith) refl (refl, omega arith, tt) in
    let text : spelled_words words ++ codes "\n" ≡ canonical_text table = rw (spelled_append file.words (Punctuation FullStop ∷ []), file.spells) (append_assoc (list_text (pair_text (codes "kernel") (list_text (param_texts table)) ∷ [])) (codes ".") (codes "\n")) in (
      located 0 words,
      subst (λ (t : List ℕ). AreTokensOf t (located 0 words)) text (words_read words stands),
      subst (λ (ws : List Word). IsFile ws (Kernel (params_of table) ∷ [])) (sym (words_located 0 words)) (file.words, refl, file.is),
    )

-- ---- a text's draft can be spelled: its names by their bytes, and its numbers below 2 ^ 32

abbrev Quotes : Word → Type 0
Quotes (Name name) = All IsQuotable name
Quotes _ = Unit {0}

word_quotes : (word : Word) (own rest : List ℕ) → Spells word own rest → Quotes word
word_quotes (Name name) own rest (inl bare) = name_bytes_quotable name bare.1.goes_on
word_quotes (Name name) own rest (inr quoted) = quoted.1
word_quotes _ own rest h = tt

tokens_quote : (at : ℕ) (bytes : List ℕ) (tokens : List Located) → AreSpelled at bytes tokens → Each Quotes (map (λ t. t.word) tokens)
tokens_quote at bytes [] h = tt
tokens_quote at bytes (t ∷ tokens) h = (word_quotes t.word h.0 h.1 h.2.spelled, tokens_quote (t.at + length h.0) h.1 tokens h.3)

module _ {A : Type 0} (Is : List Word → A → Type 0) (P : A → Type 0) (one : (words : List Word) (x : A) → Each Quotes words → Is words x → P x) where
  parted_spells : (words : List Word) (xs : List A) → Each Quotes words → Parted Is words xs → Each P xs
  parted_spells words [] quotes h = absurd h
  parted_spells words (x ∷ []) quotes h = (one words x quotes h, tt)
  parted_spells words (x ∷ y ∷ ys) quotes h =
      let parts : Each Quotes (h.0 ++ Punctuation Comma ∷ h.1) = subst (Each Quotes) h.2 quotes in
      let split = each_parts Quotes h.0 (Punctuation Comma ∷ h.1) parts in
      (one h.0 x split.0 h.3, parted_spells h.1 (y ∷ ys) split.1.1 h.4)

  listed_spells : (words : List Word) (xs : List A) → Each Quotes words → IsListOf Is words xs → Each P xs
  listed_spells words [] quotes h = tt
  listed_spells words (x ∷ xs) quotes h =
      let parts : Each Quotes (between OpenList h.0 CloseList) = subst (Each Quotes) h.1 quotes in
      parted_spells h.0 (x ∷ xs) (each_parts Quotes h.0 (Punctuation CloseList ∷ []) parts.1).0 h.2

some_of : {A : Type 0} (Is : List Word → A → Type 0) (words : List Word) (xs : List A) → Parted Is words xs → 0 < length xs
some_of Is words [] h = absurd h
some_of Is words (x ∷ xs) h = omega arith

-- the name of a pair, and the words of its value
pair_spells : (name : List ℕ) (IsValue : List Word → Type 0) (words : List Word) → Each Quotes words → (h : IsPair name IsValue words) → All IsQuotable name × Each Quotes h.0
pair_spells name IsValue words quotes h =
    let parts : Each Quotes (Punctuation OpenTuple ∷ Name name ∷ Punctuation Comma ∷ (h.0 ++ Punctuation CloseTuple ∷ [])) = subst (Each Quotes) h.1 quotes in
    (parts.1.0, (each_parts Quotes h.0 (Punctuation CloseTuple ∷ []) parts.1.1.1).0)

node_spells : (words : List Word) (name : List ℕ) → Each Quotes words → IsNode words name → All IsQuotable name
node_spells words name quotes is = let parts : Each Quotes (Name name ∷ []) = subst (Each Quotes) is quotes in parts.0

item_spells : (words : List Word) (group : List (List ℕ)) → Each Quotes words → IsItem words group → CanSpellGroup group
item_spells words group quotes (inl h) =
    let alone : CanSpellGroup (h.0 ∷ []) = record { some = omega arith; names = (node_spells words h.0 quotes h.1, tt) } in
    subst CanSpellGroup (sym h.2) alone
item_spells words group quotes (inr h) =
    let parts : Each Quotes (between OpenTuple h.0 CloseTuple) = subst (Each Quotes) h.1 quotes in
    record { some = some_of IsNode h.0 group h.2; names = parted_spells IsNode (All IsQuotable) node_spells h.0 group (each_parts Quotes h.0 (Punctuation CloseTuple ∷ []) parts.1).0 h.2 }

timeout_spells : (words : List Word) (n : ℕ) → IsTimeout strict words n → n < 4294967296
timeout_spells words n (inl h) = omega (arith, h.1)
timeout_spells words n (inr h) = h.2.4

app_spells : (words : List Word) (app : App) → Each Quotes words → IsApp strict words app → CanSpellApp app
app_spells words app quotes h =
    let pair = pair_spells app.name _ words quotes h in
    let value = h.2 in
    let parts : Each Quotes (value.0 ++ value.1) = subst (Each Quotes) value.2 pair.1 in
    let list = value.4 in
    let inner : Each Quotes (between OpenList list.0 CloseList) = subst (Each Quotes) list.1 (each_parts Quotes value.0 value.1 parts).1 in
    record {
      name = pair.0;
      timeout = timeout_spells value.0 app.timeout value.3;
      some = some_of IsItem list.0 app.groups list.2;
      groups = parted_spells IsItem CanSpellGroup item_spells list.0 app.groups (each_parts Quotes list.0 (Punctuation CloseList ∷ []) inner.1).0 list.2;
    }

permission_spells : (words : List Word) (permission : Permission) → Each Quotes words → IsPermission words permission → All IsQuotable permission.name
permission_spells words permission quotes h = (pair_spells permission.name _ words quotes h).0

wait_spells : (words : List Word) (wait : SyncWait) → IsWait strict words wait → CanSpellWait wait
wait_spells words NoSync h = h
wait_spells words Forever h = tt
wait_spells words (Ms n) h = h.2.4

param_spells : (words : List Word) (param : Param) → Each Quotes words → IsParam strict words param → CanSpell param
param_spells words (Distributed apps) quotes h = listed_spells (IsApp strict) CanSpellApp app_spells h.0 apps (pair_spells (spelled named.Distributed) _ words quotes h).1 h.2
param_spells words (Permissions permissions) quotes h = listed_spells IsPermission (λ permission. All IsQuotable permission.name) permission_spells h.0 permissions (pair_spells (spelled named.Permissions) _ words quotes h).1 h.2
param_spells words (Mandatory names) quotes h = listed_spells IsNode (All IsQuotable) node_spells h.0 names (pair_spells (spelled named.Mandatory) _ words quotes h).1 h.2
param_spells words (Optional names) quotes h = listed_spells IsNode (All IsQuotable) node_spells h.0 names (pair_spells (spelled named.Optional) _ words quotes h).1 h.2
param_spells words (Timeout wait) quotes h = wait_spells h.0 wait h.2
param_spells words Param.Other quotes h = tt

section_spells : (words : List Word) (section : Section) → Each Quotes words → IsSection strict words section → ParamsHave CanSpell section
section_spells words (Kernel params) quotes h = listed_spells (IsParam strict) CanSpell param_spells h.0 params (pair_spells (codes "kernel") _ words quotes h).1 h.2
section_spells words Section.Other quotes h = tt

-- the sections of a file can be spelled
pub file_spells : (bytes : List ℕ) (tokens : List Located) (sections : List Section) → AreSpelled 0 bytes tokens → IsFile (map (λ t. t.word) tokens) sections → Each CanSpell (params_in sections)
file_spells bytes tokens sections spelled h =
    let parts : Each Quotes (h.0 ++ Punctuation FullStop ∷ []) = subst (Each Quotes) h.1 (tokens_quote 0 bytes tokens spelled) in
    params_have CanSpell sections (listed_spells (IsSection strict) (ParamsHave CanSpell) section_spells h.0 sections (each_parts Quotes h.0 (Punctuation FullStop ∷ []) parts).0 h.2)
