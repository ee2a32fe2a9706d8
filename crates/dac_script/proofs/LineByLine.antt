-- Reading a script line by line. A line is either sound, or its least fault is returned.
use Rattle.std.proofs.Common.{◌≡◌, ℕ, ◌+◌, ◌-◌, ◌<◌, ◌≤◌, Bool, true, false, cond, List, [], ◌∷◌, ◌++◌, length, sym, ap, subst, ◌∙◌, arith, append-nil, length-append}
use Rattle.dac_script.specs.laws.Common.{IfNone, Bor, AllZip, get_or_at, take_at, All-push, filter-append, Table, ScriptFaultKind, Failure, words_of, IsFaultless, IsLeast, lines_of, is_said, IsScriptFailure}
use Rattle.std.specs.Prelude.{All, Option, Some, None, IfSome, filter}
use Rattle.std.proofs.lemmas.Option.{slice_get-get_or}
use Rattle.std.proofs.lemmas.Slice.Zip.{all_zipped_more}
use Rattle.dac_script.specs.declared.fault.ScriptFault.{ScriptFault}
use Rattle.dac_script.specs.declared.failure.Failure.TheVariants as failure
use Rattle.dac_script.specs.Script.{ReadsAs, IsFirstFault, IsLineFailure}

-- a text begins with its first line
begins : (rest line : List ℕ) (behind : Option (Bor (List ℕ))) → IfNone behind (lines_of rest ≡ line ∷ []) → IfSome behind (λ b. lines_of rest ≡ line ∷ lines_of b.now) → (more : List (List ℕ)) × (lines_of rest ≡ line ∷ more)
begins rest line None last next = ([], last)
begins rest line (Some b) last next = (lines_of b.now, next)

module _ {Line : Type 0} (Spells : Table → Line → List (List ℕ) → Type 0)
    (HasFault : Table → List (List ℕ) → ScriptFaultKind → Type 0) (table : Table) where
  -- the loop's invariant: the lines before number are read, and rest begins with line number
  pub record IsReadTo (text rest : List ℕ) (number : ℕ) (script : List Line) : Type 0 where
    pub before : List (List ℕ)
    pub lines : lines_of text ≡ before ++ lines_of rest
    pub counted : number ≡ length before + 1
    pub within : number + length rest ≤ length text + 1
    pub reads : ReadsAs Spells HasFault table before script

  -- reading one more line
  abbrev Adds : List ℕ → List Line → List Line → Type 0
  Adds line old new = (before : List (List ℕ)) → ReadsAs Spells HasFault table before old → ReadsAs Spells HasFault table (before ++ line ∷ []) new

  abbrev Fine : List ℕ → Type 0
  Fine line = IsFaultless (HasFault table (words_of line))

  abbrev Tells : List ℕ → Line → Type 0
  Tells line said = Spells table said (words_of line)

  -- a skipped line adds nothing
  pub reads_silent : (line : List ℕ) (script : List Line) → is_said line ≡ false → Adds line script script
  reads_silent line script silent before reads =
      let none : filter is_said (before ++ line ∷ []) ≡ filter is_said before =
      filter-append is_said before (line ∷ []) ∙ ap (λ (b : Bool). filter is_said before ++ cond b (line ∷ []) []) silent ∙ append-nil _ in
      record { said = subst (λ lines. AllZip Tells lines script) (sym none) reads.said; faultless = subst (All Fine) (sym none) reads.faultless }

  -- any other line adds its value
  pub reads_more : (line : List ℕ) (script : List Line) (said : Line) → is_said line ≡ true → Tells line said × Fine line → Adds line script (script ++ said ∷ [])
  reads_more line script said says read before reads =
      let more : filter is_said (before ++ line ∷ []) ≡ filter is_said before ++ line ∷ [] =
      filter-append is_said before (line ∷ []) ∙ ap (λ (b : Bool). filter is_said before ++ cond b (line ∷ []) []) says in
      record {
        said = subst (λ lines. AllZip Tells lines (script ++ said ∷ [])) (sym more) (all_zipped_more Tells (filter is_said before) script line said reads.said read.0);
        faultless = subst (All Fine) (sym more) (All-push Fine _ _ reads.faultless read.1);
      }

  -- the first faulty line, after lines that are sound
  first_fault : (before more : List (List ℕ)) (line : List ℕ) (script : List Line) (fault : ScriptFault) → fault.line ≡ length before + 1 → is_said line ≡ true → IsLeast (HasFault table (words_of line)) fault.kind
      → ReadsAs Spells HasFault table before script → IsFirstFault Spells HasFault table (before ++ line ∷ more) fault
  first_fault before more line script fault at says least reads =
      let place : length before ≡ fault.line - 1 = omega (arith, at) in
      let within : fault.line - 1 < length (before ++ line ∷ more) = omega (arith, at, length-append before (line ∷ more)) in
      record {
        before = script;
        reads = subst (λ lines. ReadsAs Spells HasFault table lines script) (sym (take_at before (line ∷ more) (fault.line - 1) place)) reads;
        counted = omega (arith, at);
        line = line;
        stands = slice_get-get_or (before ++ line ∷ more) (fault.line - 1) line within ∙ ap (λ l. Some l) (get_or_at before line more line (fault.line - 1) place);
        said = says;
        least = least;
      }

  -- the failure of a line is that of the script
  pub script_fails : (text rest line : List ℕ) (behind : Option (Bor (List ℕ))) (number : ℕ) (script : List Line) (why : Failure)
      → IfNone behind (lines_of rest ≡ line ∷ []) → IfSome behind (λ b. lines_of rest ≡ line ∷ lines_of b.now)
      → (is_said line ≡ true) × IsLineFailure Spells HasFault table number line why → IsReadTo text rest number script → IsScriptFailure Spells HasFault table (lines_of text) why
  script_fails text rest line behind number script why last next fails so_far = by why fails.1
    where
      by : (why : Failure) → IsLineFailure Spells HasFault table number line why → IsScriptFailure Spells HasFault table (lines_of text) why
      by (failure.Script fault) failed =
          let begun = begins rest line behind last next in
          subst (λ lines. IsFirstFault Spells HasFault table lines fault) (sym (so_far.lines ∙ ap (λ l. so_far.before ++ l) begun.1))
          (first_fault so_far.before begun.0 line script fault (failed.0 ∙ so_far.counted) fails.0 failed.1 so_far.reads)
      by why failed = failed
