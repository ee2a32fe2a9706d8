-- Exactly empty lines and comments are skipped.
use Rattle.std.proofs.Common.{◌≡◌, ◌==◌, ℕ, List, [], ◌∷◌, filter, All, refl, subst}
use Rattle.dac_script.specs.laws.Common.{AllZip, cond-true, ne_eqb, not_from_false, All-tail, Table, ScriptFaultKind, words_of, IsFaultless, is_said}
use Rattle.dac_script.specs.OwnWords.{BeginsWith, OnlyCommentsAreSkipped}

module _ {Line : Type 0} (Spells : Table → Line → List (List ℕ) → Type 0)
    (HasFault : Table → List (List ℕ) → ScriptFaultKind → Type 0) where
  -- the script that a line and others spell begins with what the line spells
  begins : (table : Table) (line : List ℕ) (lines : List (List ℕ)) (script : List Line)
      → AllZip (λ line said. Spells table said (words_of line)) (line ∷ filter is_said lines) script
      → All (λ line. IsFaultless (HasFault table (words_of line))) (filter is_said lines) → BeginsWith Spells HasFault table line lines script
  begins table line lines [] said faultless = absurd said
  begins table line lines (first ∷ more) said faultless = record {
    said = first;
    more = more;
    script_is = refl;
    spelled = said.0;
    rest = record { said = said.1; faultless = faultless };
  }

  pub only_comments : OnlyCommentsAreSkipped Spells HasFault
  only_comments = record {
    empty = λ table lines script. (λ reads. record { said = reads.said; faultless = reads.faultless }, λ reads. record { said = reads.said; faultless = reads.faultless });
    comment = λ table text lines script. (λ reads. record { said = reads.said; faultless = reads.faultless }, λ reads. record { said = reads.said; faultless = reads.faultless });
    other = λ table b bs lines script other reads.
        let Fine = λ (line : List ℕ). IsFaultless (HasFault table (words_of line)) in
        let more = filter is_said lines in
        let kept : filter is_said ((b ∷ bs) ∷ lines) ≡ (b ∷ bs) ∷ more = cond-true (is_said (b ∷ bs)) ((b ∷ bs) ∷ more) more (not_from_false (b == 37) (ne_eqb b 37 other)) in
        begins table (b ∷ bs) lines script
        (subst (λ ls. AllZip (λ line said. Spells table said (words_of line)) ls script) kept reads.said)
        (All-tail Fine (b ∷ bs) more (subst (All Fine) kept reads.faultless));
  }
