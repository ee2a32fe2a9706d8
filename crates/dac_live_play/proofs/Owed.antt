-- The callers' lines of a script, in each phase.
use Rattle.std.proofs.Common.{ℕ, List, [], ◌∷◌, map, subst, arith}
use Rattle.dac_live_play.proofs.Common.{All, length-map, get_or-map, All-head, All-tail, LiveLine, Line, parts_of, lines_in, AsksAs}
use Rattle.std.specs.List.{onto_first}
use Rattle.std.proofs.lemmas.List.Elements.{All-nil, All-cons, All-same, All-map}
use Rattle.dac_script.specs.declared.live_line.LiveLine.TheVariants.{Do, Read, Feed, Phase}
use Rattle.dac_script.specs.LiveCallers.{HasActors}
use Rattle.dac_live.specs.Lines.{IsLineOf, HasLines}
use Rattle.dac_live.specs.Phase as run

module _ (nodes : ℕ) where
  -- each caller's line of a part has a configured node and a caller from 1 to 4
  abbrev IsPart : List LiveLine → Type 0
  IsPart part = All (IsLineOf nodes) (lines_in part)

  more_lines : (line : LiveLine) (part : List LiveLine) → HasActors nodes line → IsPart part → IsPart (line ∷ part)
  more_lines (Do node caller d) part here rest = All-cons (IsLineOf nodes) _ (lines_in part) (here.0, omega (arith, here.1), here.2) rest
  more_lines (Read node caller) part here rest = All-cons (IsLineOf nodes) _ (lines_in part) (here.0, omega (arith, here.1), here.2) rest
  more_lines (Feed bytes) part here rest = rest
  more_lines Phase part here rest = rest

  onto_parts : (line : LiveLine) (parts : List (List LiveLine)) → HasActors nodes line → All IsPart parts → All IsPart (onto_first line parts)
  onto_parts line [] here rest = All-cons IsPart (line ∷ []) [] (more_lines line [] here (All-nil (IsLineOf nodes))) (All-nil IsPart)
  onto_parts line (part ∷ parts) here rest = All-cons IsPart (line ∷ part) parts (more_lines line part here (All-head IsPart part parts rest)) (All-tail IsPart part parts rest)

  parts_owe : (script : List LiveLine) → All (HasActors nodes) script → All IsPart (parts_of script)
  parts_owe [] all = All-cons IsPart [] [] (All-nil (IsLineOf nodes)) (All-nil IsPart)
  parts_owe (Do node caller d ∷ script) all =
      onto_parts (Do node caller d) (parts_of script) (All-head (HasActors nodes) (Do node caller d) script all) (parts_owe script (All-tail (HasActors nodes) (Do node caller d) script all))
  parts_owe (Read node caller ∷ script) all =
      onto_parts (Read node caller) (parts_of script) (All-head (HasActors nodes) (Read node caller) script all) (parts_owe script (All-tail (HasActors nodes) (Read node caller) script all))
  parts_owe (Feed bytes ∷ script) all =
      onto_parts (Feed bytes) (parts_of script) (All-head (HasActors nodes) (Feed bytes) script all) (parts_owe script (All-tail (HasActors nodes) (Feed bytes) script all))
  parts_owe (Phase ∷ script) all = All-cons IsPart [] (parts_of script) (All-nil (IsLineOf nodes)) (parts_owe script (All-tail (HasActors nodes) Phase script all))

  -- phases with the callers' lines of the script satisfy this, too
  pub phases_owe : (script : List LiveLine) (phases : List run.Phase) → All (HasActors nodes) script → AsksAs phases (parts_of script) → All (HasLines nodes) phases
  phases_owe script phases all asks = λ k d lt.
      let asked : List (List Line) = map (λ (p : run.Phase). p.lines.items) phases in
      let every : All (All (IsLineOf nodes)) asked = All-same (All (IsLineOf nodes)) asked (map lines_in (parts_of script)) asks (All-map (All (IsLineOf nodes)) lines_in (parts_of script) (parts_owe script all)) in
      subst (All (IsLineOf nodes)) (get_or-map (λ (p : run.Phase). p.lines.items) phases k d d.lines.items lt) (every k d.lines.items (omega (arith, length-map phases (λ (p : run.Phase). p.lines.items))))
