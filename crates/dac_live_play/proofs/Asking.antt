-- The callers' lines of one more line, and of one more phase.
use Rattle.std.proofs.Common.{◌≡◌, ℕ, ◌+◌, ◌<◌, List, [], ◌∷◌, ◌++◌, length, map, take, get_or, Option, sym, ap, ◌∙◌, arith}
use Rattle.dac_live_play.proofs.Common.{take_more, length-map, get_or-map, LiveLine, Line, lines_in, AsksAs}
use Rattle.std.specs.List.{cons_option}
use Rattle.std.proofs.lemmas.List.Elements.{filter_map-append}
use Rattle.dac_live.specs.Phase.{Phase}
use Rattle.dac_live_play.specs.Phases.{asked_by}

pub asked_more : (part : List LiveLine) (i : ℕ) (line : LiveLine) (asked : Option Line) → i < length part → line ≡ get_or part i line → asked ≡ asked_by line → lines_in (take (i + 1) part) ≡ lines_in (take i part) ++ cons_option asked []
asked_more part i line asked lt here is =
    ap lines_in (take_more part i line lt) ∙ filter_map-append asked_by (take i part) (get_or part i line ∷ [])
    ∙ ap (λ (l : LiveLine). lines_in (take i part) ++ cons_option (asked_by l) []) (sym here)
    ∙ ap (λ (o : Option Line). lines_in (take i part) ++ cons_option o []) (sym is)

-- an item of a mapped list
pub at_map : {A B : Type 0} (f : A → B) (xs : List A) (i : ℕ) (x : A) → i < length xs → x ≡ get_or xs i x → f x ≡ get_or (map f xs) i (f x)
at_map f xs i x lt here = ap f here ∙ sym (get_or-map f xs i x (f x) lt)

-- there are as many phases as parts
pub as_many : (phases : List Phase) (parts : List (List LiveLine)) → AsksAs phases parts → length phases ≡ length parts
as_many phases parts asks = sym (length-map phases (λ (p : Phase). p.lines.items)) ∙ ap length asks ∙ length-map parts lines_in

-- the phase at a place has the callers' lines of its part
pub asks_at : (phases : List Phase) (parts : List (List LiveLine)) (i : ℕ) (phase : Phase) (part : List LiveLine) → AsksAs phases parts → i < length phases → phase ≡ get_or phases i phase → part ≡ get_or parts i part → phase.lines.items ≡ lines_in part
asks_at phases parts i phase part asks lt phase_is part_is =
    at_map (λ (p : Phase). p.lines.items) phases i phase lt phase_is
    ∙ ap (λ (l : List (List Line)). get_or l i phase.lines.items) asks
    ∙ get_or-map lines_in parts i part phase.lines.items (omega (arith, lt, as_many phases parts asks))
    ∙ ap lines_in (sym part_is)
