-- A word that spells the value of its place has no fault in that role and spells no other value. Of many words the
-- least fault is returned.
use Rattle.std.proofs.Common.{◌≡◌, ℕ, zero, suc, ◌-◌, ◌<◌, ◌≤◌, Bool, true, false, List, [], ◌∷◌, length, take, drop, get_or, map, Option, Some, None, unwrap_or, refl, sym, ap, subst, ◌∙◌, arith, inl, inr}
use Rattle.dac_script.specs.laws.Common.{Bor, MatchOption, cond_both, ltb-true, length-drop, length-map, take_all, none-some, same_Some, NodeId, Table, node_count, node_named, ScriptFaultKind, BadNumber, Role, name_in, number_in, bytes_in, Slot, AllTell, Word, Node, About, App, Number, Flag, IsNoHex, AreWrong, IsFaultless, IsLeast, slot_of, least_of}
use Rattle.std.specs.Prelude.{◌≢◌, ◌⊎◌, ◌↔◌, nat_lt}
use Rattle.std.specs.Option.{IsSomeAnd}
use Rattle.std.specs.List.{Any, zip}
use Rattle.std.proofs.lemmas.Bool.{ltb-false}
use Rattle.std.proofs.lemmas.Slice.Zip.{AllZip-long}
use Rattle.dac_config.specs.Table.{app_count, app_named}
use Rattle.dac_script.specs.declared.fault.ScriptFaultKind.TheVariants.{BadCount, BadName, UnknownActor, BadHex}
use Rattle.dac_script.specs.declared.values.Values.{Values}
use Rattle.dac_script.specs.declared.verb.Role.TheVariants as role
use Rattle.dac_script.specs.Faults.{script_number}
use Rattle.dac_script.specs.Forms.{Tells, flag_word}
use Rattle.dac_script.specs.Forms.Slot.{Hex}
use Rattle.dac_script.specs.LineFaults.{IsNoNode, IsWrong, IsAnyWrong, AreDistinct, IsOutside}
use Rattle.dac_script.specs.Values.{lesser}
use Rattle.dac_script.specs.laws.Atoms.{name_read, name_spelled}
use Rattle.dac_script.specs.laws.Numbers.{number_read}
use Rattle.dac_script.specs.laws.Digits.{some_bytes, no_bytes, bytes_read}

-- ---- the least fault

-- the only kind is the least
pub only : (kind : ScriptFaultKind) → IsLeast (λ other. other ≡ kind) kind
only kind = record { has = refl; least = λ other h. omega (arith, ap script_number h) }

pub alone : (kind : ScriptFaultKind) (A : Type 0) → A → IsLeast (λ other. (other ≡ kind) × A) kind
alone kind A here = record { has = (refl, here); least = λ other h. omega (arith, ap script_number h.0) }

pub least_as : {P Q : ScriptFaultKind → Type 0} (kind : ScriptFaultKind) → ((other : ScriptFaultKind) → P other ↔ Q other) → IsLeast P kind → IsLeast Q kind
least_as kind same least = record { has = (same kind).0 least.has; least = λ other h. least.least other ((same other).1 h) }

-- where an option determines the faults
pub least_some : {X : Type 0} (none : ScriptFaultKind → Type 0) (some : X → ScriptFaultKind → Type 0) (o : Option X) (x : X) (kind : ScriptFaultKind) → o ≡ Some x → IsLeast (some x) kind → IsLeast (λ kind. MatchOption o (none kind) (λ x. some x kind)) kind
least_some none some o x kind is least = subst (λ o. IsLeast (λ kind. MatchOption o (none kind) (λ x. some x kind)) kind) (sym is) least

pub least_none : {X : Type 0} (none : ScriptFaultKind → Type 0) (some : X → ScriptFaultKind → Type 0) (o : Option X) (kind : ScriptFaultKind) → o ≡ None → IsLeast none kind → IsLeast (λ kind. MatchOption o (none kind) (λ x. some x kind)) kind
least_none none some o kind is least = subst (λ o. IsLeast (λ kind. MatchOption o (none kind) (λ x. some x kind)) kind) (sym is) least

module _ {P Q : ScriptFaultKind → Type 0} where
  -- the least of some faults, which no other fault precedes
  pub least_left : (kind : ScriptFaultKind) → IsLeast P kind → ((other : ScriptFaultKind) → Q other → script_number kind ≤ script_number other) → IsLeast (λ kind. P kind ⊎ Q kind) kind
  least_left kind least others = record { has = inl least.has; least = λ other h. elim h [ inl p ↦ least.least other p | inr q ↦ others other q ] }

  pub least_right : (kind : ScriptFaultKind) → ((other : ScriptFaultKind) → P other → script_number kind ≤ script_number other) → IsLeast Q kind → IsLeast (λ kind. P kind ⊎ Q kind) kind
  least_right kind others least = record { has = inr least.has; least = λ other h. elim h [ inl p ↦ others other p | inr q ↦ least.least other q ] }

  -- the lesser of two least faults
  pub least_both : (one other : ScriptFaultKind) → IsLeast P one → IsLeast Q other → IsLeast (λ kind. P kind ⊎ Q kind) (least_of one other)
  least_both one other first later =
      cond_both (nat_lt (script_number other) (script_number one)) other one (IsLeast (λ kind. P kind ⊎ Q kind))
      (λ less. least_right other (λ k p. omega (arith, ltb-true (script_number other) (script_number one) less, first.least k p)) later)
      (λ less. least_left one first (λ k p. omega (arith, ltb-false (script_number other) (script_number one) less, later.least k p)))

-- ---- the fault of one word

pub no_node : (table : Table) (word : List ℕ) → name_in word ≡ None → IsLeast (IsNoNode table word) BadName
no_node table word none = least_left BadName (alone BadName (name_in word ≡ None) none) (λ kind p. omega (arith, ap script_number p.0))

pub unknown_node : (table : Table) (word name : List ℕ) → name_in word ≡ Some name → node_named table name ≡ None → IsLeast (IsNoNode table word) UnknownActor
unknown_node table word name is none =
    let unknown = alone UnknownActor (IsSomeAnd (name_in word) (λ name. node_named table name ≡ None)) (rw is none) in
    least_right UnknownActor (λ kind p. absurd (none-some name (sym p.1 ∙ is))) unknown

-- ---- a configured name, or the number past all

past : {X : Type 0} (o : Option X) (none x : X) → MatchOption o (x ≡ none) (λ found. x ≡ found) ↔ (x ≡ unwrap_or o none)
past None none x = (λ is. is, λ is. is)
past (Some found) none x = (λ is. is, λ is. is)

-- ---- the value of one word

module _ (table : Table) (word name : List ℕ) (is : name_in word ≡ Some name) where
  pub about_told : Tells table (About (unwrap_or (node_named table name) (record { 0 = node_count table }))) word
  about_told = (name, name_spelled name word is, (past (node_named table name) (record { 0 = node_count table }) _).1 refl)

  pub app_told : Tells table (App (unwrap_or (app_named table name) (record { 0 = app_count table }))) word
  app_told = (name, name_spelled name word is, (past (app_named table name) (record { 0 = app_count table }) _).1 refl)

pub no_name : (word : List ℕ) → name_in word ≡ None → IsLeast (λ kind. (kind ≡ BadName) × (name_in word ≡ None)) BadName
no_name word none = alone BadName (name_in word ≡ None) none

pub no_number : (table : Table) (word : List ℕ) → number_in word ≡ None → IsLeast (IsWrong table role.Number word) BadNumber
no_number table word none = alone BadNumber (number_in word ≡ None) none

pub bad_bytes : (table : Table) (word : List ℕ) → bytes_in word ≡ None → IsLeast (IsWrong table role.Hex word) BadHex
bad_bytes table word none = alone BadHex (IsNoHex word) (no_bytes word none)

-- ---- kinds of places

abbrev pub kind_of : Slot → ℕ
kind_of (Word text) = 0
kind_of (Node node) = 1
kind_of (About node) = 2
kind_of (App app) = 3
kind_of (Number number) = 4
kind_of (Flag value) = 5
kind_of (Hex bytes) = 6

abbrev pub role_kind : Role → ℕ
role_kind role.Actor = 1
role_kind role.Other = 1
role_kind role.Application = 3
role_kind role.About = 2
role_kind role.Number = 4
role_kind role.Flag = 5
role_kind role.Hex = 6

slot_kind : (values : Values) (r : Role) → kind_of (slot_of values r) ≡ role_kind r
slot_kind values role.Actor = refl
slot_kind values r = refl

pub slot_kinds : (values : Values) (roles : List Role) → map kind_of (map (slot_of values) roles) ≡ map role_kind roles
slot_kinds values [] = refl
slot_kinds values (r ∷ roles) = ap (λ k. k ∷ map kind_of (map (slot_of values) roles)) (slot_kind values r) ∙ ap (λ l. role_kind r ∷ l) (slot_kinds values roles)

-- ---- a word that spells its value

named_same : {X : Type 0} (f : List ℕ → X) (o : Option (List ℕ)) (name other : List ℕ) (x y : X) → o ≡ Some name → o ≡ Some other → x ≡ f name → y ≡ f other → x ≡ y
named_same f o name other x y is also here there = cc

module _ (table : Table) where
  no_node_here : (word name : List ℕ) (node : NodeId) → name_in word ≡ Some name → node_named table name ≡ Some node → IsFaultless (IsNoNode table word)
  no_node_here word name node is known kind (inl p) = none-some name (sym p.1 ∙ is)
  no_node_here word name node is known kind (inr p) =
      none-some node (sym (subst (λ o. IsSomeAnd o (λ n. node_named table n ≡ None)) is p.1) ∙ known)

  -- it has no fault in its role
  fine : (r : Role) (slot : Slot) (word : List ℕ) → kind_of slot ≡ role_kind r → Tells table slot word → IsFaultless (IsWrong table r word)
  fine role.Actor (Node node) word e has = no_node_here word has.0 node (name_read has.0 word has.1) has.2
  fine role.Other (Node node) word e has = no_node_here word has.0 node (name_read has.0 word has.1) has.2
  fine role.Application (App app) word e has = λ kind p. none-some has.0 (sym p.1 ∙ name_read has.0 word has.1)
  fine role.About (About node) word e has = λ kind p. none-some has.0 (sym p.1 ∙ name_read has.0 word has.1)
  fine role.Number (Number number) word e has = λ kind p. none-some number (sym p.1 ∙ number_read number word has.0 has.1)
  fine role.Flag (Flag true) word e has = λ kind p. p.1.0 has
  fine role.Flag (Flag false) word e has = λ kind p. p.1.1 has
  fine role.Hex (Hex bytes) word e has = λ kind p. some_bytes word bytes (bytes_read bytes word has.0 has.1) p.1
  fine r slot word e has = absurd (omega (arith, e))

  -- it spells no other value
  same : (s t : Slot) (word : List ℕ) → kind_of s ≡ kind_of t → Tells table s word → Tells table t word → s ≡ t
  same (Word text) (Word other) word e has also = ap Word (sym has ∙ also)
  same (Node node) (Node other) word e has also =
      ap Node (same_Some node other (named_same (node_named table) (name_in word) has.0 also.0 (Some node) (Some other) (name_read has.0 word has.1) (name_read also.0 word also.1) (sym has.2) (sym also.2)))
  same (About node) (About other) word e has also =
      ap About (named_same (λ name. unwrap_or (node_named table name) (record { 0 = node_count table })) (name_in word) has.0 also.0 node other (name_read has.0 word has.1) (name_read also.0 word also.1)
      ((past (node_named table has.0) _ node).0 has.2) ((past (node_named table also.0) _ other).0 also.2))
  same (App app) (App other) word e has also =
      ap App (named_same (λ name. unwrap_or (app_named table name) (record { 0 = app_count table })) (name_in word) has.0 also.0 app other (name_read has.0 word has.1) (name_read also.0 word also.1)
      ((past (app_named table has.0) _ app).0 has.2) ((past (app_named table also.0) _ other).0 also.2))
  same (Number number) (Number other) word e has also =
      let is = number_read number word has.0 has.1 in
      let too = number_read other word also.0 also.1 in
      let n : number ≡ other = cc in ap Number n
  same (Flag value) (Flag other) word e has also = ap Flag (flags value other (sym has ∙ also))
    where
      flags : (value other : Bool) → flag_word value ≡ flag_word other → value ≡ other
      flags true true e = refl
      flags false false e = refl
      flags value other e = cc
  same (Hex bytes) (Hex other) word e has also =
      let is = bytes_read bytes word has.0 has.1 in
      let too = bytes_read other word also.0 also.1 in
      let n : bytes ≡ other = cc in ap Hex n
  same s t word e has also = absurd (omega (arith, e))

  -- ---- many words

  pub all_same : (ss ts : List Slot) (words : List (List ℕ)) → map kind_of ss ≡ map kind_of ts → AllTell table ss words → AllTell table ts words → ss ≡ ts
  all_same [] [] words e has also = refl
  all_same (s ∷ ss) ts [] e has also = absurd has
  all_same (s ∷ ss) (t ∷ ts) (word ∷ words) e has also =
      let k : kind_of s ≡ kind_of t = cc in
      let ks : map kind_of ss ≡ map kind_of ts = cc in
      ap (λ x. x ∷ ss) (same s t word k has.0 also.0) ∙ ap (λ l. t ∷ l) (all_same ss ts words ks has.1 also.1)
  all_same ss ts words e has also = absurd (cc)

any_parts : {X : Type 0} (P : X → Type 0) (x : X) (xs : List X) → Any P (x ∷ xs) → P x ⊎ Any P xs
any_parts P x xs (zero, y, lt, is, h) = inl (subst P (sym is) h)
any_parts P x xs (suc k, y, lt, is, h) = inr (k, y, omega (arith, lt), is, h)

any_more : {X : Type 0} (P : X → Type 0) (x : X) (xs : List X) → P x ⊎ Any P xs → Any P (x ∷ xs)
any_more P x xs (inl h) = (0, x, omega arith, refl, h)
any_more P x xs (inr (k, y, lt, is, h)) = (suc k, y, omega (arith, lt), is, h)

module _ (table : Table) where
  none_wrong : (kind : ScriptFaultKind) (roles : List Role) → ¬ IsAnyWrong table roles [] kind
  none_wrong kind [] (k, y, lt, is, h) = omega (arith, lt)
  none_wrong kind (r ∷ roles) (k, y, lt, is, h) = omega (arith, lt)

  -- words that spell their values have no fault in their roles
  any_fine : (roles : List Role) (slots : List Slot) (words : List (List ℕ)) → map kind_of slots ≡ map role_kind roles → AllTell table slots words → IsFaultless (IsAnyWrong table roles words)
  any_fine roles [] [] e has kind wrong = none_wrong kind roles wrong
  any_fine roles [] (word ∷ words) e has kind wrong = absurd has
  any_fine roles (s ∷ slots) [] e has kind wrong = absurd has
  any_fine [] (s ∷ slots) (word ∷ words) e has kind wrong = absurd (cc)
  any_fine (r ∷ roles) (s ∷ slots) (word ∷ words) e has kind wrong =
      let k : kind_of s ≡ role_kind r = cc in
      let ks : map kind_of slots ≡ map role_kind roles = cc in
      elim (any_parts (λ both. IsWrong table both.0 both.1 kind) (r, word) (zip roles words) wrong) [
        | inl here ↦ fine table r s word k has.0 kind here
        | inr later ↦ any_fine roles slots words ks has.1 kind later
      ]

  pub all_fine : (roles : List Role) (slots : List Slot) (words : List (List ℕ)) → map kind_of slots ≡ map role_kind roles → AllTell table slots words → IsFaultless (AreWrong table roles words)
  all_fine roles slots words e has kind (inl p) =
      p.1 (AllZip-long (Tells table) slots words has ∙ sym (length-map slots kind_of) ∙ ap length e ∙ length-map roles role_kind)
  all_fine roles slots words e has kind (inr wrong) = any_fine roles slots words e has kind wrong

  -- ---- one word after another

  abbrev pub WordRead : Values → Role → List ℕ → Option ScriptFaultKind → Type 0
  WordRead values r word fault = MatchOption fault (Tells table (slot_of values r) word) (IsLeast (IsWrong table r word))

  abbrev pub WordsRead : Values → List Role → List (List ℕ) → Option ScriptFaultKind → Type 0
  WordsRead values roles words fault = MatchOption fault (AllTell table (map (slot_of values) roles) words) (IsLeast (IsAnyWrong table roles words))

  pub nothing_read : (values : Values) (roles : List Role) (words : List (List ℕ)) → length words ≡ length roles → length roles ≡ 0 → WordsRead values roles words None
  nothing_read values [] [] same none = tt
  nothing_read values roles words same none = absurd (omega (arith, same, none))

  read_on : (values : Values) (r : Role) (roles : List Role) (word : List ℕ) (words : List (List ℕ)) (fault later : Option ScriptFaultKind)
      → WordRead values r word fault → WordsRead values roles words later → WordsRead values (r ∷ roles) (word ∷ words) (lesser fault later)
  read_on values r roles word words fault later first rest = by fault later first rest
    where
      each : (kind : ScriptFaultKind) → IsWrong table r word kind ⊎ IsAnyWrong table roles words kind ↔ IsAnyWrong table (r ∷ roles) (word ∷ words) kind
      each kind =
          let Wrong = λ (both : Role × List ℕ). IsWrong table both.0 both.1 kind in
          (any_more Wrong (r, word) (zip roles words), any_parts Wrong (r, word) (zip roles words))

      by : (fault later : Option ScriptFaultKind) → WordRead values r word fault → WordsRead values roles words later → WordsRead values (r ∷ roles) (word ∷ words) (lesser fault later)
      by None None first rest = (first, rest)
      by (Some kind) None first rest = least_as kind each (least_left kind first (λ other p. absurd (any_fine roles (map (slot_of values) roles) words (slot_kinds values roles) rest other p)))
      by None (Some kind) first rest = least_as kind each (least_right kind (λ other p. absurd (fine table r (slot_of values r) word (slot_kind values r) first other p)) rest)
      by (Some one) (Some other) first rest = least_as (least_of one other) each (least_both one other first rest)

  -- the tail of a slice
  behind_first : {X : Type 0} (xs : List X) → take (length xs - 1) (drop 1 xs) ≡ drop 1 xs
  behind_first xs = take_all (length xs - 1) (drop 1 xs) (omega (arith, length-drop 1 xs))

  -- the first word is parsed, then the others
  pub words_read : (values later : Values) (roles : List Role) (words : List (Bor (List ℕ))) (r : Role) (none : Bor (List ℕ)) (fault rest : Option ScriptFaultKind)
      → length words ≡ length roles → 0 < length roles → AreDistinct roles
      → WordRead values (get_or roles 0 r) (get_or words 0 none).now fault
      → ((sought : Role) → IsOutside sought (take (length roles - 1) (drop 1 roles)) → slot_of later sought ≡ slot_of values sought)
      → WordsRead later (take (length roles - 1) (drop 1 roles)) (map (λ word. word.now) (take (length words - 1) (drop 1 words))) rest
      → WordsRead later roles (map (λ word. word.now) words) (lesser fault rest)
  words_read values later (role ∷ roles) (word ∷ words) r none fault rest many some distinct first kept read =
      let same_roles = behind_first (role ∷ roles) in
      let same_words = behind_first (word ∷ words) in
      let stays = kept role (subst (IsOutside role) (sym same_roles) distinct.0) in
      let others = subst (λ (ws : List (Bor (List ℕ))). WordsRead later roles (map (λ word. word.now) ws) rest) same_words (subst (λ rs. WordsRead later rs (map (λ word. word.now) (take (length (word ∷ words) - 1) (drop 1 (word ∷ words)))) rest) same_roles read) in
      read_on later role roles word.now (map (λ word. word.now) words) fault rest
      (subst (λ slot. MatchOption fault (Tells table slot word.now) (IsLeast (IsWrong table role word.now))) (sym stays) first) others
  words_read values later roles words r none fault rest many some distinct first kept read = absurd (omega (arith, many, some))

  -- ---- as many words as roles

  after_count : (r : Role) (word : List ℕ) (kind : ScriptFaultKind) → IsWrong table r word kind → 2 ≤ script_number kind
  after_count role.Actor word kind (inl p) = omega (arith, ap script_number p.0)
  after_count role.Actor word kind (inr p) = omega (arith, ap script_number p.0)
  after_count role.Other word kind (inl p) = omega (arith, ap script_number p.0)
  after_count role.Other word kind (inr p) = omega (arith, ap script_number p.0)
  after_count r word kind p = omega (arith, ap script_number p.0)

  -- too few or too many words
  pub miscounted : (roles : List Role) (words : List (List ℕ)) → length words ≢ length roles → IsLeast (AreWrong table roles words) BadCount
  miscounted roles words differ = least_left BadCount (alone BadCount (length words ≢ length roles) differ) (λ kind wrong. after_count wrong.1.0 wrong.1.1 kind wrong.4)

  -- the right number of words
  pub counted : (roles : List Role) (words : List (List ℕ)) (kind : ScriptFaultKind) → length words ≡ length roles → IsLeast (IsAnyWrong table roles words) kind → IsLeast (AreWrong table roles words) kind
  counted roles words kind as_many least = least_right kind (λ other p. absurd (p.1 as_many)) least

-- ---- a word that determines the roles of the others

-- these places are a fixed word and values in the roles that it determines
abbrev pub HasRoles : (List ℕ → Option (List Role)) → List Slot → Type 0
HasRoles roles_after (Word word ∷ slots) = MatchOption (roles_after word) ⊥ (λ roles. map kind_of slots ≡ map role_kind roles)
HasRoles roles_after slots = ⊥

module _ (table : Table) (roles_after : List ℕ → Option (List Role)) where
  -- words that spell such places have no fault
  pub form_fine : (faults : List (List ℕ) → ScriptFaultKind → Type 0) (none : List ℕ → List (List ℕ) → ScriptFaultKind → Type 0)
      → ((first : List ℕ) (rest : List (List ℕ)) (kind : ScriptFaultKind) → faults (first ∷ rest) kind → MatchOption (roles_after first) (none first rest kind) (λ roles. AreWrong table roles rest kind))
      → (slots : List Slot) (words : List (List ℕ)) → HasRoles roles_after slots → AllTell table slots words → IsFaultless (faults words)
  form_fine faults none parts (Word word ∷ slots) (first ∷ rest) has tells kind wrong =
      by (roles_after word) has (subst (λ text. MatchOption (roles_after text) (none first rest kind) (λ roles. AreWrong table roles rest kind)) tells.0 (parts first rest kind wrong))
    where
      by : (o : Option (List Role)) → MatchOption o ⊥ (λ roles. map kind_of slots ≡ map role_kind roles) → MatchOption o (none first rest kind) (λ roles. AreWrong table roles rest kind) → ⊥
      by None has wrong = absurd has
      by (Some roles) kinds wrong = all_fine table roles slots rest kinds tells.1 kind wrong
  form_fine faults none parts (Word word ∷ slots) [] has tells kind wrong = absurd tells
  form_fine faults none parts slots words has tells kind wrong = absurd has

  -- and spell no others
  pub form_same : (ss ts : List Slot) (words : List (List ℕ)) → HasRoles roles_after ss → HasRoles roles_after ts → AllTell table ss words → AllTell table ts words → ss ≡ ts
  form_same (Word word ∷ ss) (Word other ∷ ts) (first ∷ rest) here there has also =
      all_same table (Word word ∷ ss) (Word other ∷ ts) (first ∷ rest)
      (ap (λ l. 0 ∷ l) (by (roles_after word) here (subst (λ text. MatchOption (roles_after text) ⊥ (λ roles. map kind_of ts ≡ map role_kind roles)) (sym also.0 ∙ has.0) there))) has also
    where
      by : (o : Option (List Role)) → MatchOption o ⊥ (λ roles. map kind_of ss ≡ map role_kind roles) → MatchOption o ⊥ (λ roles. map kind_of ts ≡ map role_kind roles) → map kind_of ss ≡ map kind_of ts
      by None here there = absurd here
      by (Some roles) here there = here ∙ sym there
  form_same (Word word ∷ ss) (Word other ∷ ts) [] here there has also = absurd has
  form_same (Word word ∷ ss) ts words here there has also = absurd there
  form_same ss ts words here there has also = absurd here
