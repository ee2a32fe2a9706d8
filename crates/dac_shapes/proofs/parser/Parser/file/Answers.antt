use Rattle.std.proofs.Common.{◌≡◌, ◌∙◌, refl, sym, ap, ℕ, List, Ok, eqb, length, cond}
use Rattle.dac_shapes.specs.laws.Common.{cond-true, cond-false, NoDistributed, Section, Written, written, State, list_of, section_at, end_at, file_at, fails}
use Rattle.dac_shapes.proofs.Loops.{length_apps}
use Rattle.dac_shapes.proofs.parser.Parser.file.Goals as goal

-- the draft of a file, from its sections and its end
file_is : (s t u : State) (sections : List Section) (at : ℕ) (draft : Written) → list_of section_at s ≡ Ok (sections, t) → end_at t ≡ Ok (at, u) → draft ≡ written sections u.seen.met → file_at s ≡ cond (eqb (length draft.apps) 0) (fails NoDistributed at) (Ok draft)
unfolding file_at
file_is s t u sections at draft listed ended is = rw (listed, ended, is) refl

pub returns-then-is_empty : goal.returns-then-is_empty
returns-then-is_empty c = rw c.fault.ensures (file_is _ _ _ _ _ _ c.in_ok-sections.ensures.read c.in_ok-end.ensures c.of_sections-draft.ensures ∙ cond-true _ _ _ (ap (λ n. eqb n 0) (length_apps c.of_sections-draft.result.apps.items ∙ sym c.of_sections-draft.result.apps.ok.0) ∙ sym c.if-is_empty.ensures))

pub returns : goal.returns
returns c = file_is _ _ _ _ _ _ c.in_ok-sections.ensures.read c.in_ok-end.ensures c.of_sections-draft.ensures ∙ cond-false _ _ _ (ap (λ n. eqb n 0) (length_apps c.of_sections-draft.result.apps.items ∙ sym c.of_sections-draft.result.apps.ok.0) ∙ sym c.if-is_empty.ensures)
