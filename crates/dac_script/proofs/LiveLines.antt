-- Words spell at most one line of `live`, and have no fault if they spell one. For the words after a caller's number
-- this follows from the lines of `sim`.
use Rattle.std.proofs.Common.{◌≡◌, ℕ, zero, suc, ◌^◌, ◌<◌, ◌≤◌, true, false, cond, List, [], ◌∷◌, map, Option, Some, None, Result, Ok, Err, codes, decimal, refl, sym, ap, subst, ◌∙◌, arith, inl, inr}
use Rattle.dac_script.specs.laws.Common.{option_map, MatchOption, MatchResult, bytes_eq, is_ascii_digit, cond_both, false≢true, decimal_digit, same_Some, AllPass-from_list_all, list_all-from_AllPass, bytes_eq-Decides, NodeId, Table, node_count, What, ScriptFaultKind, BadWord, BadNumber, ScriptLine, Feed, Phase, Role, MAX_NUMBER, Slot, AllTell, Word, Node, Number, AreWrong, IsFaultless, IsLeast, caller_of, with_caller, plain_roles, SpellsLive, IsReading, least_of}
use Rattle.std.specs.Prelude.{◌≢◌, IfOk}
use Rattle.std.proofs.lemmas.Bool.{false_from_ne_true}
use Rattle.std.proofs.lemmas.Bool.Decides.{not_from_Decides}
use Rattle.dac_events.specs.declared.Command.TheVariants as command
use Rattle.dac_events.specs.declared.What.TheVariants as what
use Rattle.dac_script.specs.declared.line.Request.{Request}
use Rattle.dac_script.specs.declared.line.Request.TheVariants as request
use Rattle.dac_script.specs.declared.line.ScriptLine.TheVariants as says
use Rattle.dac_script.specs.declared.live_line.LiveLine.{LiveLine}
use Rattle.dac_script.specs.declared.live_line.LiveLine.TheVariants.{Do, Read}
use Rattle.dac_script.specs.declared.verb.Role.TheVariants as role
use Rattle.dac_script.specs.Forms.Slot.{Hex}
use Rattle.dac_script.specs.LiveCallers.{is_caller_word, HasActors}
use Rattle.dac_script.specs.LiveFaults.{asked_roles, IsForCaller, IsNoCaller, IsAskedWrong, IsCallerWrong, IsOtherWrong, HasFault}
use Rattle.dac_script.specs.LiveForms.{asked_form, live_form, HasCaller}
use Rattle.dac_script.specs.LiveInWords.{LiveLinesInWords}
use Rattle.dac_script.specs.Requests.{what_of}
use Rattle.dac_script.proofs.Told.{kind_of, role_kind, alone, only, least_some, least_none, least_as, least_left, least_right, least_both, HasRoles, form_fine, form_same}
use Rattle.dac_script.proofs.SpelledLines.{said_in, reading, event_below, nodes_below}

-- ---- callers

abbrev IsCaller : List ℕ → ℕ → Type 0
IsCaller word caller = (word ≡ decimal caller) × (0 < caller) × (caller ≤ 4)

numbered : (word text : List ℕ) (number : ℕ) (rest : Option ℕ) (None_is : Type 0) → text ≡ decimal number → 0 < number → number ≤ 4 → (word ≢ text → MatchOption rest None_is (IsCaller word)) → MatchOption (cond (bytes_eq word text) (Some number) rest) None_is (IsCaller word)
numbered word text number rest None_is same some few other =
    cond_both (bytes_eq word text) (Some number) rest (λ o. MatchOption o None_is (IsCaller word))
    (λ is. ((bytes_eq-Decides word text).0 is ∙ same, some, few)) (λ is. other (not_from_Decides (bytes_eq word text) (bytes_eq-Decides word text) is))

caller_is : (word : List ℕ) → MatchOption (caller_of word) (IsNoCaller word) (IsCaller word)
caller_is word =
    numbered word (codes "1") 1 _ _ (sym (decimal_digit 1 (omega arith))) (omega arith) (omega arith) (λ one.
    numbered word (codes "2") 2 _ _ (sym (decimal_digit 2 (omega arith))) (omega arith) (omega arith) (λ two.
    numbered word (codes "3") 3 _ _ (sym (decimal_digit 3 (omega arith))) (omega arith) (omega arith) (λ three.
    numbered word (codes "4") 4 _ _ (sym (decimal_digit 4 (omega arith))) (omega arith) (omega arith) (λ four. (one, two, three, four)))))

-- a caller's number isn't too large
few_enough : (caller : ℕ) → caller ≤ 4 → caller ≤ MAX_NUMBER
few_enough caller few =
    let most : MAX_NUMBER ≡ 2 ^ 62 = refl in
    omega (arith, few, most)

-- the word of a caller is read as its number; it has only digits, so it begins no line without a caller
abbrev IsCallerText : ℕ → List ℕ → Type 0
IsCallerText caller word = (caller_of word ≡ Some caller) × (plain_roles word ≡ None) × (is_caller_word word ≡ true) × (¬ IsNoCaller word)

caller_text : (caller : ℕ) (word : List ℕ) → IsCaller word caller → IsCallerText caller word
caller_text (suc zero) word is = subst (IsCallerText 1) (sym (is.0 ∙ decimal_digit 1 (omega arith))) (refl, refl, refl, λ none. none.0 refl)
caller_text (suc (suc zero)) word is = subst (IsCallerText 2) (sym (is.0 ∙ decimal_digit 2 (omega arith))) (refl, refl, refl, λ none. none.1 refl)
caller_text (suc (suc (suc zero))) word is = subst (IsCallerText 3) (sym (is.0 ∙ decimal_digit 3 (omega arith))) (refl, refl, refl, λ none. none.2 refl)
caller_text (suc (suc (suc (suc zero)))) word is = subst (IsCallerText 4) (sym (is.0 ∙ decimal_digit 4 (omega arith))) (refl, refl, refl, λ none. none.3 refl)
caller_text caller word is = absurd (omega (arith, is.1, is.2))

-- ---- requests

-- its places determine a request
abbrev request_of : What → Option Request
request_of (what.Boot now) = Some (request.Boot now)
request_of what.Crash = Some request.Crash
request_of (what.Command given) = Some (request.Command given)
request_of (what.Tick now) = Some (request.Tick now)
request_of happened = None

abbrev asked_by : Option ScriptLine → List Slot → Option (NodeId × Option Request)
asked_by (Some (says.Event event)) slots = option_map (λ asked. (event.node, Some asked)) (request_of event.what)
asked_by None (word ∷ Node node ∷ []) = Some (node, None)
asked_by line slots = None

abbrev asked_in : List Slot → Option (NodeId × Option Request)
asked_in slots = asked_by (said_in slots) slots

-- these places are those of a request, and determine it
asked_said : (both : NodeId × Option Request) → HasRoles asked_roles (asked_form both) × (asked_in (asked_form both) ≡ Some both)
asked_said (node, Some (request.Command (command.Down about))) = (refl, refl)
asked_said both = (refl, refl)

-- ---- lines

-- these places are those of a caller and its request, or those of another line
abbrev IsLive : List Slot → Type 0
IsLive (Number caller ∷ slots) = (0 < caller) × (caller ≤ 4) × HasRoles asked_roles slots
IsLive slots = HasRoles plain_roles slots

abbrev line_by : ℕ → NodeId × Option Request → LiveLine
line_by caller (node, Some asked) = Do node caller asked
line_by caller (node, None) = Read node caller

-- its places determine a line
abbrev live_in : List Slot → Option LiveLine
live_in (Number caller ∷ slots) = option_map (line_by caller) (asked_in slots)
live_in (Word word ∷ Hex bytes ∷ []) = Some (Feed bytes)
live_in (Word word ∷ []) = Some Phase
live_in slots = None

live_said : (line : LiveLine) → HasCaller line → IsLive (live_form line) × (live_in (live_form line) ≡ Some line)
live_said (Do node caller asked) few =
    let said = asked_said (node, Some asked) in ((few.0, few.1, said.0), ap (option_map (line_by caller)) said.1)
live_said (Read node caller) few = ((few.0, few.1, refl), refl)
live_said line few = (refl, refl)

module _ (table : Table) where
  asked_fine : (slots : List Slot) (words : List (List ℕ)) → HasRoles asked_roles slots → AllTell table slots words → IsFaultless (IsAskedWrong table words)
  asked_fine = form_fine table asked_roles (IsAskedWrong table) (λ first rest kind. kind ≡ BadWord) (λ first rest kind wrong. wrong)

  live_fine : (slots : List Slot) (words : List (List ℕ)) → IsLive slots → AllTell table slots words → IsFaultless (HasFault table words)
  live_fine (Number caller ∷ slots) (first ∷ rest) (some, few, roles) tells kind wrong =
      other (subst (λ o. MatchOption o (IsOtherWrong table first rest kind) (λ roles. AreWrong table roles rest kind)) (caller_text caller first (tells.0.0, some, few)).1 wrong)
    where
      other : IsOtherWrong table first rest kind → ⊥
      other (inl p) = p.1 (AllPass-from_list_all is_ascii_digit first (caller_text caller first (tells.0.0, some, few)).2)
      other (inr (digits, inl p)) = (caller_text caller first (tells.0.0, some, few)).3 p.1
      other (inr (digits, inr asked)) = asked_fine slots rest roles tells.1 kind asked
  live_fine (Number caller ∷ slots) [] live tells kind wrong = absurd tells
  live_fine slots words live tells kind wrong =
      form_fine table plain_roles (HasFault table) (IsOtherWrong table) (λ first rest kind wrong. wrong) slots words live tells kind wrong

  -- words after a caller's number spell no line without a caller
  not_plain : (caller : ℕ) (word : List ℕ) (slots : List Slot) (rest : List (List ℕ)) → IsCaller word caller → HasRoles plain_roles slots → AllTell table slots (word ∷ rest) → ⊥
  not_plain caller word (Word text ∷ slots) rest is roles tells =
      subst (λ o. MatchOption o ⊥ (λ roles. map kind_of slots ≡ map role_kind roles)) (ap plain_roles (sym tells.0) ∙ (caller_text caller word is).1) roles
  not_plain caller word slots rest is roles tells = roles

  live_same : (ss ts : List Slot) (words : List (List ℕ)) → IsLive ss → IsLive ts → AllTell table ss words → AllTell table ts words → ss ≡ ts
  live_same (Number c ∷ ss) (Number d ∷ ts) (first ∷ rest) (some, few, roles) (more, fewer, others) has also =
      let numbers : c ≡ d = same_Some c d (sym (caller_text c first (has.0.0, some, few)).0 ∙ (caller_text d first (also.0.0, more, fewer)).0) in
      ap (λ n. Number n ∷ ss) numbers ∙ ap (λ l. Number d ∷ l) (form_same table asked_roles ss ts rest roles others has.1 also.1)
  live_same (Number c ∷ ss) ts (first ∷ rest) (some, few, roles) plain has also = absurd (not_plain c first ts rest (has.0.0, some, few) plain also)
  live_same (Number c ∷ ss) ts [] live plain has also = absurd has
  live_same ss (Number d ∷ ts) (first ∷ rest) plain (some, few, roles) has also = absurd (not_plain d first ss rest (also.0.0, some, few) plain has)
  live_same ss (Number d ∷ ts) [] plain live has also = absurd also
  live_same ss ts words here there has also = form_same table plain_roles ss ts words here there has also

-- words that spell a line have no fault and spell no other
pub live_lines_in_words : LiveLinesInWords
live_lines_in_words table line words has = (
  live_fine table (live_form line) words (live_said line has.0).0 has.1,
  λ other also.
      let forms = live_same table (live_form other) (live_form line) words (live_said other also.0).0 (live_said line has.0).0 also.1 has.1 in
      same_Some other line (sym (live_said other also.0).1 ∙ ap live_in forms ∙ (live_said line has.0).1),
)

pub live_read : (table : Table) (words : List (List ℕ)) (said : Result LiveLine ScriptFaultKind) → MatchResult said (λ line. SpellsLive table line words) (IsLeast (HasFault table words)) → IsReading SpellsLive HasFault table words said
live_read table words said is = reading SpellsLive HasFault live_lines_in_words table words said is

-- neither `phase` nor `feed`
pub no_plain : (first phase feed : List ℕ) → phase ≡ codes "phase" → feed ≡ codes "feed" → first ≢ phase → first ≢ feed → plain_roles first ≡ None
no_plain first phase feed is_phase is_feed no_phase no_feed =
    ap (λ b. cond b (Some []) (cond (bytes_eq first (codes "feed")) (Some (role.Hex ∷ [])) None)) (differs (codes "phase") (λ same. no_phase (same ∙ sym is_phase)))
    ∙ ap (λ b. cond b (Some (role.Hex ∷ [])) None) (differs (codes "feed") (λ same. no_feed (same ∙ sym is_feed)))
  where
    differs : (text : List ℕ) → first ≢ text → bytes_eq first text ≡ false
    differs text other = false_from_ne_true (bytes_eq first text) (λ is. other ((bytes_eq-Decides first text).0 is))

module _ (table : Table) where
  -- ---- parsed words

  pub asked_fails : (first : List ℕ) (rest : List (List ℕ)) (roles : List Role) (kind : ScriptFaultKind) → asked_roles first ≡ Some roles → IsLeast (AreWrong table roles rest) kind → IsLeast (IsAskedWrong table (first ∷ rest)) kind
  asked_fails first rest roles kind = least_some (λ kind. kind ≡ BadWord) (λ roles. AreWrong table roles rest) (asked_roles first) roles kind

  pub nothing_asked : (first : List ℕ) (rest : List (List ℕ)) → asked_roles first ≡ None → IsLeast (IsAskedWrong table (first ∷ rest)) BadWord
  nothing_asked first rest is = least_none (λ kind. kind ≡ BadWord) (λ roles. AreWrong table roles rest) (asked_roles first) BadWord is (only BadWord)

  pub plain_fails : (first : List ℕ) (rest : List (List ℕ)) (roles : List Role) (kind : ScriptFaultKind) → plain_roles first ≡ Some roles → IsLeast (AreWrong table roles rest) kind → IsLeast (HasFault table (first ∷ rest)) kind
  plain_fails first rest roles kind = least_some (IsOtherWrong table first rest) (λ roles. AreWrong table roles rest) (plain_roles first) roles kind

  pub other_fails : (first : List ℕ) (rest : List (List ℕ)) (kind : ScriptFaultKind) → plain_roles first ≡ None → IsLeast (IsOtherWrong table first rest) kind → IsLeast (HasFault table (first ∷ rest)) kind
  other_fails first rest kind = least_none (IsOtherWrong table first rest) (λ roles. AreWrong table roles rest) (plain_roles first) kind

  pub no_caller_word : (first : List ℕ) (rest : List (List ℕ)) → is_caller_word first ≡ false → IsLeast (IsOtherWrong table first rest) BadWord
  no_caller_word first rest is =
      let no : ¬ IsForCaller first = λ digits. false≢true (sym is ∙ list_all-from_AllPass is_ascii_digit first digits) in
      least_left BadWord (alone BadWord (¬ IsForCaller first) no) (λ other p. absurd (no p.0))

  -- a caller's line is parsed exactly
  pub caller_judged : (first : List ℕ) (rest : List (List ℕ)) (said : Result (NodeId × Option Request) ScriptFaultKind) → plain_roles first ≡ None → is_caller_word first ≡ true
      → MatchResult said (λ both. AllTell table (asked_form both) rest) (IsLeast (IsAskedWrong table rest))
      → MatchResult (with_caller (caller_of first) said) (λ line. SpellsLive table line (first ∷ rest)) (IsLeast (HasFault table (first ∷ rest)))
  caller_judged first rest said plain is_digits is = by (caller_of first) said (caller_is first) is
    where
      lift : (kind : ScriptFaultKind) → IsLeast (IsCallerWrong table first rest) kind → IsLeast (HasFault table (first ∷ rest)) kind
      lift kind least =
          let digits = AllPass-from_list_all is_ascii_digit first is_digits in
          let asked : IsLeast (λ other. IsForCaller first × IsCallerWrong table first rest other) kind = least_as kind (λ other. (λ p. (digits, p), λ p. p.1)) least in
          other_fails first rest kind plain (least_right kind (λ other p. absurd (p.1 digits)) asked)

      by : (caller : Option ℕ) (said : Result (NodeId × Option Request) ScriptFaultKind) → MatchOption caller (IsNoCaller first) (IsCaller first) → MatchResult said (λ both. AllTell table (asked_form both) rest) (IsLeast (IsAskedWrong table rest))
          → MatchResult (with_caller caller said) (λ line. SpellsLive table line (first ∷ rest)) (IsLeast (HasFault table (first ∷ rest)))
      by (Some caller) (Ok (node, Some asked)) here is = ((here.1, here.2), ((here.0, few_enough caller here.2), is))
      by (Some caller) (Ok (node, None)) here is = ((here.1, here.2), ((here.0, few_enough caller here.2), is))
      by (Some caller) (Err kind) here is = lift kind (least_right kind (λ other p. absurd ((caller_text caller first here).3 p.1)) is)
      by None (Ok both) none is = lift BadNumber (least_left BadNumber (alone BadNumber (IsNoCaller first) none) (λ other p. absurd (asked_fine table (asked_form both) rest (asked_said both).0 is other p)))
      by None (Err kind) none is = lift (least_of BadNumber kind) (least_both BadNumber kind (alone BadNumber (IsNoCaller first) none) is)

  -- an accepted line has configured nodes, and callers from 1 to 4
  pub live_actors : (line : LiveLine) (words : List (List ℕ)) → SpellsLive table line words → HasActors (node_count table) line
  live_actors (Do node caller asked) words has =
      (event_below table node (what_of asked) (nodes_below table (live_form (Do node caller asked)) words has.1), has.0.0, has.0.1)
  live_actors (Read node caller) words has = ((nodes_below table (live_form (Read node caller)) words has.1).0, has.0.0, has.0.1)
  live_actors line words has = tt

  pub read_actors : (words : List (List ℕ)) (said : Result LiveLine ScriptFaultKind) → MatchResult said (λ line. SpellsLive table line words) (IsLeast (HasFault table words)) → IfOk said (HasActors (node_count table))
  read_actors words (Ok line) is = live_actors line words is
  read_actors words (Err kind) is = tt
