-- Waits store the timer of each application of the configuration.
use Rattle.std.proofs.Common.{◌≡◌, ℕ, ◌+◌, ◌<◌, List, [], ◌∷◌, ◌++◌, Option, None, length, map, get_or, ap, ◌∙◌, arith}
use Rattle.std.specs.List.{range_with_len}
use Rattle.std.proofs.lemmas.List.{length-map, map-append, get_or-map}
use Rattle.std.proofs.lemmas.List.FromFn.{length-map-range_with_len, map-range_with_len_more, get_or-map-range_with_len}
use Rattle.dac_base.specs.declared.AppId.{AppId}
use Rattle.dac_config.specs.Table.{Table, app_count}
use Rattle.dac_decide.specs.declared.waits.Noted.{Noted}
use Rattle.dac_decide.specs.FailoverWait.{Note, noted_of, waits_of, noted_at}

abbrev pub numbered : ℕ → AppId
numbered n = record { 0 = n }

-- the timers of n applications, beginning with number a
abbrev pub kept_of : List Note → ℕ → ℕ → List (Option Noted)
kept_of notes a n = map (λ app. noted_of app notes) (map numbered (range_with_len a n))

pub length_kept : (notes : List Note) (n : ℕ) → length (kept_of notes 0 n) ≡ n
length_kept notes n = length-map (map numbered (range_with_len 0 n)) (λ app. noted_of app notes) ∙ length-map-range_with_len numbered 0 n

pub kept_more : (notes : List Note) (n : ℕ) → kept_of notes 0 (n + 1) ≡ kept_of notes 0 n ++ noted_of (numbered n) notes ∷ []
kept_more notes n = ap (map (λ app. noted_of app notes)) (map-range_with_len_more numbered 0 n n (omega arith)) ∙ map-append (λ app. noted_of app notes) (map numbered (range_with_len 0 n)) (numbered n ∷ [])

module _ (table : Table) (notes : List Note) where
  -- one place for each application of the configuration
  pub length_waits : length (waits_of table notes) ≡ app_count table
  length_waits = length_kept notes (app_count table)

  at_app : (app : AppId) (n : ℕ) → app.0 < n → get_or (kept_of notes 0 n) app.0 None ≡ noted_of app notes
  at_app app n lt =
      get_or-map (λ app. noted_of app notes) (map numbered (range_with_len 0 n)) app.0 app None (omega (arith, length-map-range_with_len numbered 0 n))
      ∙ ap (λ app. noted_of app notes) (get_or-map-range_with_len numbered 0 n app.0 app.0 app lt (omega arith))

  -- the place of an application
  pub kept_is : (app : AppId) → app.0 < app_count table → noted_at (waits_of table notes) app ≡ noted_of app notes
  kept_is app lt = at_app app (app_count table) lt
