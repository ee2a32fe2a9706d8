-- Numbers as big-endian bytes. A number that doesn't fit is truncated to its low bits.
use Rattle.std.specs.Prelude.{ℕ, List}
use Rattle.std.specs.Int.{w8, w16, w32, w64, to_be_bytes}

unfoldable pub u8_bytes : ℕ → List ℕ
u8_bytes n = to_be_bytes w8 n

unfoldable pub u16_bytes : ℕ → List ℕ
u16_bytes n = to_be_bytes w16 n

unfoldable pub u32_bytes : ℕ → List ℕ
u32_bytes n = to_be_bytes w32 n

unfoldable pub u64_bytes : ℕ → List ℕ
u64_bytes n = to_be_bytes w64 n
