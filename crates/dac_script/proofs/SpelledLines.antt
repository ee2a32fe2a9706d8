-- Words spell at most one line, and have no fault if they spell one.
use Rattle.std.proofs.Common.{◌≡◌, ℕ, ◌<◌, false, cond, List, [], ◌∷◌, Option, Some, None, Result, Ok, Err, IfSome, codes, refl, sym, ap, subst, ◌∙◌}
use Rattle.dac_script.specs.laws.Common.{option_map, MatchOption, MatchResult, bytes_eq, cond_both, same_Some, bytes_eq-Decides, NodeId, Table, node_count, node_named, What, ScriptFaultKind, BadWord, ScriptLine, Role, Slot, AllTell, Spells, Word, Node, About, App, Number, Flag, roles_of, AreWrong, IsFaultless, IsLeast, IsReading, words_of}
use Rattle.std.specs.Prelude.{position}
use Rattle.std.proofs.lemmas.List.Quantifiers.{position-Some}
use Rattle.dac_config.specs.Table.{NodeRow}
use Rattle.dac_events.specs.declared.Command.TheVariants as command
use Rattle.dac_events.specs.declared.What.TheVariants as what
use Rattle.dac_script.specs.declared.line.ScriptLine.TheVariants as says
use Rattle.dac_script.specs.declared.verb.Ask.{Ask}
use Rattle.dac_script.specs.declared.verb.Ask.TheVariants as ask
use Rattle.dac_script.specs.declared.verb.Verb.{Verb}
use Rattle.dac_script.specs.declared.verb.Verb.TheVariants as verb
use Rattle.dac_script.specs.Actors.{HasActors}
use Rattle.dac_script.specs.Forms.{event_form, form_of}
use Rattle.dac_script.specs.Forms.Slot.{Hex}
use Rattle.dac_script.specs.InWords.{LinesInWords}
use Rattle.dac_script.specs.LineFaults.{HasFault}
use Rattle.dac_script.specs.Script.{IsAcceptedInWords, IsExact}
use Rattle.dac_script.specs.Verbs.{ask_text, text_of, ask_of, verb_of}
use Rattle.dac_script.specs.laws.Spaces.{words_in_words}
use Rattle.dac_script.proofs.Told.{only, least_some, least_none, HasRoles, form_fine, form_same}

-- ---- first words

chosen : {V : Type 0} (text_of : V → List ℕ) (word text : List ℕ) (v : V) (rest : Option V) → text ≡ text_of v → IfSome rest (λ v. word ≡ text_of v) → IfSome (cond (bytes_eq word text) (Some v) rest) (λ v. word ≡ text_of v)
chosen text_of word text v rest same other =
    cond_both (bytes_eq word text) (Some v) rest (λ o. IfSome o (λ v. word ≡ text_of v)) (λ is. (bytes_eq-Decides word text).0 is ∙ same) (λ _. other)

ask_is : (word : List ℕ) → IfSome (ask_of word) (λ v. word ≡ ask_text v)
ask_is word =
    chosen ask_text word (codes "boot") ask.Boot _ refl
    (chosen ask_text word (codes "crash") ask.Crash _ refl
    (chosen ask_text word (codes "tick") ask.Tick _ refl
    (chosen ask_text word (codes "down") ask.Down _ refl
    (chosen ask_text word (codes "permit") ask.Permit _ refl
    (chosen ask_text word (codes "start") ask.Start _ refl
    (chosen ask_text word (codes "stop") ask.Stop _ refl
    (chosen ask_text word (codes "drain") ask.Drain _ refl
    (chosen ask_text word (codes "takeover") ask.Takeover _ refl tt))))))))

asked : (word : List ℕ) (o : Option Ask) → IfSome o (λ v. word ≡ ask_text v) → IfSome (option_map (λ request. verb.Ask request) o) (λ v. word ≡ text_of v)
asked word None is = tt
asked word (Some request) is = is

verb_is : (word : List ℕ) → IfSome (verb_of word) (λ v. word ≡ text_of v)
verb_is word =
    chosen text_of word (codes "ship") verb.Ship _ refl
    (chosen text_of word (codes "hear") verb.Hear _ refl
    (chosen text_of word (codes "hand") verb.Hand _ refl
    (chosen text_of word (codes "share") verb.Share _ refl
    (chosen text_of word (codes "page") verb.Page _ refl
    (chosen text_of word (codes "state") verb.State _ refl
    (chosen text_of word (codes "same") verb.Same _ refl
    (chosen text_of word (codes "bytes") verb.Bytes _ refl
    (chosen text_of word (codes "feed") verb.Feed _ refl (asked word (ask_of word) (ask_is word))))))))))

-- ---- its places determine a line

abbrev happens : NodeId → What → Option ScriptLine
happens node happened = Some (says.Event (record { node = node; what = happened }))

abbrev said_by : Option Verb → List Slot → Option ScriptLine
said_by (Some (verb.Ask ask.Boot)) (Node node ∷ Number now ∷ []) = happens node (what.Boot now)
said_by (Some (verb.Ask ask.Crash)) (Node node ∷ []) = happens node what.Crash
said_by (Some (verb.Ask ask.Tick)) (Node node ∷ Number now ∷ []) = happens node (what.Tick now)
said_by (Some (verb.Ask ask.Down)) (Node node ∷ About about ∷ []) = happens node (what.Command (command.Down about))
said_by (Some (verb.Ask ask.Permit)) (Node node ∷ App app ∷ About about ∷ Flag value ∷ []) = happens node (what.Command (command.Permit app about value))
said_by (Some (verb.Ask ask.Start)) (Node node ∷ App app ∷ About about ∷ []) = happens node (what.Command (command.Start app about))
said_by (Some (verb.Ask ask.Stop)) (Node node ∷ App app ∷ About about ∷ []) = happens node (what.Command (command.Stop app about))
said_by (Some (verb.Ask ask.Drain)) (Node node ∷ About about ∷ Flag value ∷ []) = happens node (what.Command (command.Drain about value))
said_by (Some (verb.Ask ask.Takeover)) (Node node ∷ App app ∷ []) = happens node (what.Command (command.Takeover app))
said_by (Some verb.Ship) (Node node ∷ About to ∷ []) = happens node (what.Ship to)
said_by (Some verb.Hear) (Node node ∷ Number message ∷ []) = happens node (what.Deliver message)
said_by (Some verb.Hand) (Node node ∷ Number operation ∷ []) = happens node (what.Hand operation)
said_by (Some verb.Share) [] = Some says.Share
said_by (Some verb.Page) (Node node ∷ []) = Some (says.Page node)
said_by (Some verb.State) (Node node ∷ []) = Some (says.State node)
said_by (Some verb.Same) (Node first ∷ Node second ∷ []) = Some (says.Same first second)
said_by (Some verb.Bytes) (Number message ∷ []) = Some (says.Bytes message)
said_by (Some verb.Feed) (Hex bytes ∷ []) = Some (says.Feed bytes)
said_by o slots = None

abbrev pub said_in : List Slot → Option ScriptLine
said_in (Word word ∷ slots) = said_by (verb_of word) slots
said_in slots = None

abbrev verb_roles : List ℕ → Option (List Role)
verb_roles word = option_map roles_of (verb_of word)

-- these places are those of a verb, and determine the line
abbrev IsSaid : ScriptLine → List Slot → Type 0
IsSaid line slots = HasRoles verb_roles slots × (said_in slots ≡ Some line)

event_said : (node : NodeId) (happened : What) → IsSaid (says.Event (record { node = node; what = happened })) (event_form node happened)
event_said node (what.Command (command.Down about)) = (refl, refl)
event_said node happened = (refl, refl)

form_said : (line : ScriptLine) → IsSaid line (form_of line)
form_said (says.Event event) = event_said event.node event.what
form_said line = (refl, refl)

-- ---- words that spell a line

verb_wrong : (o : Option Verb) (none : Type 0) (P : List Role → Type 0) → MatchOption o none (λ verb. P (roles_of verb)) → MatchOption (option_map roles_of o) none P
verb_wrong None none P h = h
verb_wrong (Some verb) none P h = h

-- words that spell a line have no fault and spell no other
pub lines_in_words : LinesInWords
lines_in_words table line words has = (
  form_fine table verb_roles (HasFault table) (λ first rest kind. kind ≡ BadWord)
      (λ first rest kind. verb_wrong (verb_of first) (kind ≡ BadWord) (λ roles. AreWrong table roles rest kind)) (form_of line) words (form_said line).0 has,
  λ other also.
      let forms = form_same table verb_roles (form_of other) (form_of line) words (form_said other).0 (form_said line).0 also has in
      same_Some other line (sym (form_said other).1 ∙ ap said_in forms ∙ (form_said line).1),
)

-- ---- parsed words

-- the result of parsing is exact if spelling is
pub reading : {Line : Type 0} (S : Table → Line → List (List ℕ) → Type 0) (F : Table → List (List ℕ) → ScriptFaultKind → Type 0) → IsExact S F
    → (table : Table) (words : List (List ℕ)) (said : Result Line ScriptFaultKind) → MatchResult said (λ line. S table line words) (IsLeast (F table words)) → IsReading S F table words said
reading S F exact table words (Ok line) is = record { judged = (is, (exact table line words is).0); exact = λ other has. ap (λ l. Ok l) (sym ((exact table line words is).1 other has)) }
reading S F exact table words (Err kind) is = record { judged = is; exact = λ other has. absurd ((exact table other words has).0 kind is.has) }

-- an accepted line is spelled by the words between its spaces
pub accepted : {Line : Type 0} (S : Table → Line → List (List ℕ) → Type 0) (F : Table → List (List ℕ) → ScriptFaultKind → Type 0) → IsAcceptedInWords S F
accepted S F table said line read is = (
  λ same.
      let judged = subst (λ r. MatchResult r (λ l. S table l (words_of line) × IsFaultless (F table (words_of line))) (IsLeast (F table (words_of line)))) same is.judged in
      (words_of line, (words_in_words (words_of line) line).0 refl, judged.0),
  λ spelling. is.exact said (subst (S table said) (sym ((words_in_words spelling.0 line).1 spelling.1)) spelling.2),
)

module _ (table : Table) where
  -- a line whose places are those of a verb is spelled by its word and values
  pub verb_spells : (first : List ℕ) (rest : List (List ℕ)) (v : Verb) (slots : List Slot) (line : ScriptLine) → verb_of first ≡ Some v → AllTell table slots rest → form_of line ≡ Word (text_of v) ∷ slots → Spells table line (first ∷ rest)
  verb_spells first rest v slots line is tells form =
      let word : first ≡ text_of v = subst (λ o. IfSome o (λ v. first ≡ text_of v)) is (verb_is first) in
      subst (λ places. AllTell table places (first ∷ rest)) (sym form) (word, tells)

  pub verb_fails : (first : List ℕ) (rest : List (List ℕ)) (v : Verb) (kind : ScriptFaultKind) → verb_of first ≡ Some v → IsLeast (AreWrong table (roles_of v) rest) kind → IsLeast (HasFault table (first ∷ rest)) kind
  verb_fails first rest v kind = least_some (λ kind. kind ≡ BadWord) (λ verb. AreWrong table (roles_of verb) rest) (verb_of first) v kind

  pub no_verb : (first : List ℕ) (rest : List (List ℕ)) → verb_of first ≡ None → IsLeast (HasFault table (first ∷ rest)) BadWord
  no_verb first rest is = least_none (λ kind. kind ≡ BadWord) (λ verb. AreWrong table (roles_of verb) rest) (verb_of first) BadWord is (only BadWord)

  -- ---- configured nodes

  pub node_below : (name : List ℕ) (node : NodeId) → node_named table name ≡ Some node → node.0 < node_count table
  node_below name node is = by (position (λ (row : NodeRow). bytes_eq name row.name) table.nodes) refl is
    where
      by : (o : Option ℕ) → position (λ (row : NodeRow). bytes_eq name row.name) table.nodes ≡ o → option_map (λ (place : ℕ). record { 0 = place }) o ≡ Some node → node.0 < node_count table
      by None at e = absurd (cc)
      by (Some place) at e =
          let within = (position-Some (λ (row : NodeRow). bytes_eq name row.name) table.nodes place (record { name = []; mandatory = false; optional = false }) at).0 in
          subst (λ (n : NodeId). n.0 < node_count table) (same_Some _ node e) within

  -- the nodes of these places are configured
  abbrev pub AreBelow : List Slot → Type 0
  AreBelow [] = Unit {0}
  AreBelow (Node node ∷ slots) = (node.0 < node_count table) × AreBelow slots
  AreBelow (slot ∷ slots) = AreBelow slots

  pub nodes_below : (slots : List Slot) (words : List (List ℕ)) → AllTell table slots words → AreBelow slots
  nodes_below [] words has = tt
  nodes_below (slot ∷ slots) [] has = absurd has
  nodes_below (Node node ∷ slots) (word ∷ words) has = (node_below has.0.0 node has.0.2, nodes_below slots words has.1)
  nodes_below (slot ∷ slots) (word ∷ words) has = nodes_below slots words has.1

  pub event_below : (node : NodeId) (happened : What) → AreBelow (event_form node happened) → node.0 < node_count table
  event_below node (what.Command (command.Down about)) below = below.0
  event_below node happened below = below.0

  -- an accepted line acts at configured nodes
  pub actors_are : (line : ScriptLine) (words : List (List ℕ)) → Spells table line words → HasActors (node_count table) line
  actors_are (says.Event event) words has = event_below event.node event.what (nodes_below (event_form event.node event.what) words has)
  actors_are (says.Page node) words has = (nodes_below (form_of (says.Page node)) words has).0
  actors_are (says.State node) words has = (nodes_below (form_of (says.State node)) words has).0
  actors_are (says.Same first second) words has =
      let below = nodes_below (form_of (says.Same first second)) words has in (below.0, below.1.0)
  actors_are line words has = tt
