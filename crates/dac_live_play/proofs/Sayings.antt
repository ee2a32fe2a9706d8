-- Which texts say a run.
use Rattle.std.proofs.Common.{◌≡◌, ◌≢◌, ◌↔◌, ℕ, zero, suc, ◌+◌, ◌-◌, ◌<◌, ◌≤◌, Bool, true, false, not, cond, List, [], ◌∷◌, ◌++◌, length, map, take, get_or, Some, Result, Ok, Err, refl, sym, ap, ap₂, subst, ◌∙◌, arith, true≢false}
use Rattle.dac_live_play.proofs.Common.{All, IsTrue, range_with_len, take_more, get_or-map, length-map, All-head, All-tail, map-range_with_len_more, length-map-range_with_len, canonical_text, Table, node_count, WorldEvent, MAX_TEXT, Failure, ScriptLine, run_lines}
use Rattle.std.specs.Prelude.{IfOk, filter}
use Rattle.std.specs.List.{AllZip, join_with_byte, slice_get}
use Rattle.std.specs.Str.{bytes_eq}
use Rattle.std.proofs.lemmas.Bool.{cond-true}
use Rattle.std.proofs.lemmas.Slice.Eq.{bytes_eq-Decides}
use Rattle.std.proofs.lemmas.List.{map-append, length-append}
use Rattle.dac_base.specs.declared.NoMemory.{NoMemory}
use Rattle.dac_placement.specs.Placement.{nodes_of}
use Rattle.dac_script.specs.declared.failure.Failure.TheVariants.{Input, Config, Script}
use Rattle.dac_script.specs.declared.failure.Failure.TheVariants.{NoMemory as WantOfMemory}
use Rattle.dac_script.specs.declared.fault.ScriptFault.{ScriptFault}
use Rattle.dac_script.specs.declared.line.ScriptLine.TheVariants as says
use Rattle.dac_script.specs.Forms.{Spells}
use Rattle.dac_script.specs.Input.{IsTaken, IsParted, divider, with_feeds}
use Rattle.dac_script.specs.InWords.{LinesInWords}
use Rattle.dac_script.specs.LineFaults.{HasFault, IsFaultless}
use Rattle.dac_script.specs.Script.{lines_of, is_said, ReadsAs, IsFirstFault, IsScriptFailure}
use Rattle.dac_script.specs.Words.{words_of}
use Rattle.dac_live_play.specs.Recordings.{SaysRun}
use Rattle.dac_live_play.proofs.Lines.{numbered}

-- one more line equals its item
pub say_next : {X Y : Type 0} (f : X → Y) (g : ℕ → X) (ls : List Y) (i : ℕ) (l d : Y) → i < length ls → get_or ls i d ≡ l → l ≡ f (g i) → take i ls ≡ map f (map g (range_with_len 0 i)) → take (i + 1) ls ≡ map f (map g (range_with_len 0 (i + 1)))
say_next f g ls i l d in_ls l_is says so_far =
    take_more ls i d in_ls ∙ ap₂ (λ front y. front ++ y ∷ []) so_far (l_is ∙ says)
    ∙ sym (map-append f (map g (range_with_len 0 i)) (g i ∷ [])) ∙ ap (map f) (sym (map-range_with_len_more g 0 i i (omega arith)))

-- the lines of a run: one for each event and each node
pub run_length : (table : Table) (events : List WorldEvent) → length (run_lines table events) ≡ length events + node_count table
run_length table events =
    length-append (map says.Event events) (map says.Page (nodes_of table))
    ∙ ap₂ (λ a b. a + b) (length-map events says.Event) (length-map (nodes_of table) says.Page ∙ length-map-range_with_len numbered 0 (node_count table))

-- each line is that of its item
pub say_here : {X Y : Type 0} (f : X → Y) (xs : List X) (ls : List Y) (i : ℕ) (x : X) (l : Y) → i < length xs → x ≡ get_or xs i x → l ≡ get_or ls i l → ls ≡ map f xs → l ≡ f x
say_here f xs ls i x l in_xs x_is l_is same = l_is ∙ ap (λ (s : List _). get_or s i l) same ∙ get_or-map f xs i x l in_xs ∙ ap f (sym x_is)

-- ---- one reading

head_same : {A : Type 0} (x y : A) (xs ys : List A) → x ∷ xs ≡ y ∷ ys → x ≡ y
head_same x y xs ys same = cc

rest_same : {A : Type 0} (x y : A) (xs ys : List A) → x ∷ xs ≡ y ∷ ys → xs ≡ ys
rest_same x y xs ys same = cc

abbrev IsOther : List ℕ → Type 0
IsOther line = line ≢ divider

-- lines have one first divider
first_divider : (ones others xs ys : List (List ℕ)) → All IsOther ones → All IsOther others → ones ++ divider ∷ xs ≡ others ++ divider ∷ ys → (ones ≡ others) × (xs ≡ ys)
first_divider [] [] xs ys none other same = (refl, rest_same divider divider xs ys same)
first_divider [] (other_one ∷ others) xs ys none other same = absurd (All-head IsOther other_one others other (sym (head_same divider other_one xs (others ++ divider ∷ ys) same)))
first_divider (one ∷ ones) [] xs ys none other same = absurd (All-head IsOther one ones none (head_same one divider (ones ++ divider ∷ xs) ys same))
first_divider (one ∷ ones) (other_one ∷ others) xs ys none other same =
    let rest = first_divider ones others xs ys (All-tail IsOther one ones none) (All-tail IsOther other_one others other) (rest_same one other_one (ones ++ divider ∷ xs) (others ++ divider ∷ ys) same) in
    (ap₂ (λ (x : List ℕ) (l : List (List ℕ)). x ∷ l) (head_same one other_one (ones ++ divider ∷ xs) (others ++ divider ∷ ys) same) rest.0, rest.1)

-- a text without a divider isn't parted
pub unparted : (text config script : List ℕ) → All IsOther (lines_of text) → IsParted text config script → ⊥
unparted text config script none parted = between parted.before (subst (All IsOther) parted.lines none)
  where
    between : (before : List (List ℕ)) → All IsOther (before ++ divider ∷ parted.behind) → ⊥
    between [] all = All-head IsOther divider parted.behind all refl
    between (line ∷ before) all = between before (All-tail IsOther line (before ++ divider ∷ parted.behind) all)

-- a text is parted in one way
pub parted_once : (text config script other rest : List ℕ) → IsParted text config script → IsParted text other rest → (config ≡ other) × (script ≡ rest)
parted_once text config script other rest one two =
    let same = first_divider one.before two.before one.behind two.behind one.first two.first (sym one.lines ∙ two.lines) in
    (one.config_is ∙ ap with_feeds same.0 ∙ sym two.config_is, one.script_is ∙ ap (join_with_byte 10) same.1 ∙ sym two.script_is)

abbrev Tells : Table → List ℕ → ScriptLine → Type 0
Tells table line said = Spells table said (words_of line)

said_once : (exact : LinesInWords) (table : Table) (lines : List (List ℕ)) (ones others : List ScriptLine) → AllZip (Tells table) lines ones → AllZip (Tells table) lines others → ones ≡ others
said_once exact table [] [] [] first second = refl
said_once exact table [] [] (b ∷ others) first second = absurd second
said_once exact table [] (a ∷ ones) others first second = absurd first
said_once exact table (line ∷ lines) [] others first second = absurd first
said_once exact table (line ∷ lines) (a ∷ ones) [] first second = absurd second
said_once exact table (line ∷ lines) (a ∷ ones) (b ∷ others) first second =
    ap₂ (λ (x : ScriptLine) (l : List ScriptLine). x ∷ l) ((exact table b (words_of line) second.0).1 a first.0) (said_once exact table lines ones others first.1 second.1)

-- lines that a script skips say nothing, and each other one is kept
kept : (P : List ℕ → Type 0) (lines : List (List ℕ)) (place : ℕ) (line : List ℕ) → slice_get lines place ≡ Some line → is_said line ≡ true → All P (filter is_said lines) → P line
kept P [] place line stands said all = cc
kept P (first ∷ lines) place line stands said all =
    elim place as (λ k. slice_get (first ∷ lines) k ≡ Some line → P line) [
      | zero ↦ λ here. All-head P line (filter is_said lines) (subst (All P) (ap (λ (l : List ℕ). filter is_said (l ∷ lines)) (same_some first line here) ∙ cond-true (is_said line) (line ∷ filter is_said lines) (filter is_said lines) said) all)
      | suc k ↦ λ later. elim (is_said first) as (λ b. All P (cond b (first ∷ filter is_said lines) (filter is_said lines)) → P line) [
        | true ↦ λ both. kept P lines k line later said (All-tail P first (filter is_said lines) both)
        | false ↦ λ rest. kept P lines k line later said rest
      ] all
    ] stands
  where
    same_some : (x y : List ℕ) → Some x ≡ Some y → x ≡ y
    same_some x y e = cc

-- a script that is read has no fault
pub faultless : (table : Table) (lines : List (List ℕ)) (script : List ScriptLine) (fault : ScriptFault) → ReadsAs Spells HasFault table lines script → IsFirstFault Spells HasFault table lines fault → ⊥
faultless table lines script fault reads first =
    kept (λ (line : List ℕ). IsFaultless (HasFault table (words_of line))) lines (fault.line - 1) first.line first.stands first.said reads.faultless fault.kind first.least.has

-- ---- which texts say the run

-- bytes that don't differ are the same
pub same_head : (head canonical : List ℕ) (differs : Bool) → differs ≡ not (bytes_eq head canonical) → differs ≡ false → head ≡ canonical
same_head head canonical differs is fails = (bytes_eq-Decides head canonical).0 (yes (bytes_eq head canonical) (sym fails ∙ is))
  where
    yes : (b : Bool) → false ≡ not b → b ≡ true
    yes true e = refl
    yes false e = absurd (true≢false (sym e))

pub other_head : (head canonical : List ℕ) (differs : Bool) → differs ≡ not (bytes_eq head canonical) → differs ≡ true → head ≡ canonical → ⊥
other_head head canonical differs is holds same = true≢false (sym holds ∙ is ∙ ap not ((bytes_eq-Decides head canonical).1 same))

module _ (table : Table) (text : List ℕ) (events : List WorldEvent) where
  -- the text says the run if its script is read as the run's lines
  pub says_by : (head script : List ℕ) (lines : List ScriptLine) (is : Bool) → LinesInWords → IsTaken text → length (canonical_text table) ≤ MAX_TEXT → IsParted text head script → head ≡ canonical_text table
      → ReadsAs Spells HasFault table (lines_of script) lines → (IsTrue is ↔ (lines ≡ run_lines table events)) → IsTrue is ↔ SaysRun text table events
  says_by head script lines is exact taken few parted head_is reads same = (
    λ yes. record {
      taken = taken;
      few = few;
      script = script;
      parted = subst (λ (c : List ℕ). IsParted text c script) head_is parted;
      reads = subst (ReadsAs Spells HasFault table (lines_of script)) (same.0 yes) reads;
    },
    λ run.
        let scripts : script ≡ run.script = (parted_once text head script (canonical_text table) run.script parted run.parted).1 in
        same.1 (said_once exact table (filter is_said (lines_of script)) lines (run_lines table events) reads.said
        (subst (λ (s : List ℕ). AllZip (Tells table) (filter is_said (lines_of s)) (run_lines table events)) (sym scripts) run.reads.said)),
  )

  pub unsaid : (is : Bool) → is ≡ false → (SaysRun text table events → ⊥) → IsTrue is ↔ SaysRun text table events
  unsaid is fails none = (λ yes. absurd (true≢false (sym yes ∙ fails)), λ run. absurd (none run))

  -- a text with a fault doesn't say the run
  unread : (head script : List ℕ) (failure : Failure) → failure ≢ WantOfMemory → IsParted text head script → IsScriptFailure Spells HasFault table (lines_of script) failure → SaysRun text table events → ⊥
  unread head script (Input fault) other parted fails run = fails
  unread head script (Config fault) other parted fails run = fails
  unread head script (Script fault) other parted fails run =
      let scripts : run.script ≡ script = (parted_once text (canonical_text table) run.script head script run.parted parted).1 in
      faultless table (lines_of script) (run_lines table events) fault (subst (λ (s : List ℕ). ReadsAs Spells HasFault table (lines_of s) (run_lines table events)) scripts run.reads) fails
  unread head script WantOfMemory other parted fails run = other refl

  pub unsaid_by : (head script : List ℕ) (failure : Failure) (result : Result Bool NoMemory) → IsParted text head script → IsScriptFailure Spells HasFault table (lines_of script) failure
      → IfOk result (λ is. (is ≡ false) × (failure ≢ WantOfMemory)) → IfOk result (λ is. IsTrue is ↔ SaysRun text table events)
  unsaid_by head script failure (Err why) parted fails given = tt
  unsaid_by head script failure (Ok is) parted fails given = unsaid is given.0 (unread head script failure given.1 parted fails)
