-- Marks of nodes as the bits of a word, and of pairs of an application and a node as one word for each application.
use Rattle.std.specs.Prelude.{ℕ, ◌-◌, ◌^◌, ◌%◌, Bool, List, get_or, nat_eq}
use Rattle.std.specs.Int.{bit_at}
use Rattle.dac_wishes.specs.declared.key.Key.{Key}

-- whether the node of this number is marked. (Numbers share bits above 63.)
abbrev pub is_marked : ℕ → ℕ → Bool
is_marked word node = nat_eq (bit_at word (node % 64)) 1

-- the numbers of a key's application and node
abbrev pub place_of : Key → ℕ × ℕ
place_of key = (key.app.0, key.node.0)

-- whether the pair of an application and a node is marked, or the application has no word
abbrev pub is_moved : List ℕ → ℕ × ℕ → Bool
is_moved words place = is_marked (get_or words place.0 (2 ^ 64 - 1)) place.1
