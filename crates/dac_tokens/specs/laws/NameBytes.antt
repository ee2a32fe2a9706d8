-- Tests of bytes decide the grammar's classes of the bytes of a bare atom.
use Rattle.std.proofs.Common.{ℕ, leb, arith}
use Rattle.std.specs.Bool.{Decides}
use Rattle.std.specs.Char.{is_ascii_lowercase, IsAsciiLowercase}
use Rattle.std.proofs.lemmas.Bool.{leb-true, le-leb}
use Rattle.std.proofs.lemmas.Bool.Decides.{nat_tests, Decides-and}
use Rattle.dac_tokens.specs.Scan.{is_name_byte}
use Rattle.dac_tokens.specs.TokenGrammar.{IsNameByte}

pub tells_letter : (b : ℕ) → Decides (is_ascii_lowercase b) (IsAsciiLowercase b)
tells_letter b = Decides-and (leb 97 b) (leb b 122) (leb-true 97 b, le-leb 97 b) (leb-true b 122, le-leb b 122)

pub tells_name_byte : (b : ℕ) → Decides (is_name_byte b) (IsNameByte b)
tells_name_byte b = (λ e. grind (arith, nat_tests), λ h. grind (arith, nat_tests))
