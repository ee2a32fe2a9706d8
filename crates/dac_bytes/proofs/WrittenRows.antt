-- Rows that are written in sequence.
use Rattle.std.proofs.Common.{◌≡◌, ℕ, ◌+◌, List, [], ◌∷◌, ◌++◌, take, Some, sym, ap, ◌∙◌, append_assoc}
use Rattle.std.specs.List.{flat_map, slice_get}
use Rattle.std.proofs.lemmas.List.{take_more, flat_map_more}
use Rattle.std.proofs.lemmas.Option.{get_or_from_slice_get, slice_get_within}
use Rattle.dac_dots.specs.Rows.{Row}
use Rattle.dac_bytes.specs.declared.version.Version.{Version}
use Rattle.dac_bytes.specs.Spelling.{row_bytes}

pub written_more : (version : Version) (rows : List Row) (i : ℕ) (row : Row) (start so_far more : List ℕ) → slice_get rows i ≡ Some row → so_far ≡ start ++ flat_map (row_bytes version) (take i rows) → more ≡ so_far ++ row_bytes version row
    → more ≡ start ++ flat_map (row_bytes version) (take (i + 1) rows)
written_more version rows i row start so_far more at is one =
    let text : flat_map (row_bytes version) (take (i + 1) rows) ≡ flat_map (row_bytes version) (take i rows) ++ row_bytes version row =
    ap (flat_map (row_bytes version)) (take_more rows i row (slice_get_within rows i row at) ∙ ap (λ (r : Row). take i rows ++ r ∷ []) (get_or_from_slice_get rows i row row at))
    ∙ sym (flat_map_more (row_bytes version) [] (take i rows) row) in
    one ∙ ap (λ t. t ++ row_bytes version row) is ∙ append_assoc start (flat_map (row_bytes version) (take i rows)) (row_bytes version row) ∙ ap (λ t. start ++ t) (sym text)
