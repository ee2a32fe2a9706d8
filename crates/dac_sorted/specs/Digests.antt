-- What digests say of entries.
use Rattle.std.specs.Prelude.{◌≡◌, List, None, Some}
use Rattle.std.specs.List.{All}
use Rattle.dac_lattice.specs.Entries.{Combine}

-- the digest says of each entry
abbrev pub SaysAll : {K V : Type 0} → (K → V → Type 0) → List (K × V) → Type 0
SaysAll says m = All (λ e. says e.0 e.1) m

-- a merge with a map that has none of these keys leaves each entry
abbrev pub AllStay : {K V : Type 0} → Combine K V → List (K × V) → Type 0
AllStay f m = All (λ e. f e.0 (Some e.1) None ≡ Some e.1) m
