-- The next entries of a map, with what their digest says.
use Rattle.std.specs.Prelude.{◌≡◌, ◌<◌, ◌++◌, List, length, Option, IfSome}
use Rattle.std.specs.Borrow.{Bor}
use Rattle.dac_sorted.specs.Digests.{SaysAll}

-- the chunk is the first of the entries, at least one, and its digest, if any, says of each
pub record IsChunkOf {K V D : Type 0} (says : D → K → V → Type 0) (digest : Option (Bor D)) (chunk old new : List (K × V)) : Type 0 where
  pub parted : old ≡ chunk ++ new
  pub some : 0 < length chunk
  pub said : IfSome digest (λ d. SaysAll (says d.now) chunk)
