-- The fingerprint of a text: its 64-bit FNV-1a hash.
use Rattle.std.specs.Prelude.{ℕ, ◌*◌, ◌%◌, ◌^◌, List, fold, bit_xor}

-- the hash after one more byte
abbrev pub mix_byte : ℕ → ℕ → ℕ
mix_byte mark byte = (bit_xor mark byte * 1099511628211) % 2 ^ 64

-- starts with the offset basis and mixes in each byte
abbrev pub fnv1a : List ℕ → ℕ
fnv1a text = fold mix_byte 14695981039346656037 text
