-- The fault in the front of bytes, test by test.
use Rattle.std.specs.Prelude.{◌≡◌, ℕ, ◌≤◌, not, nat_eq, nat_lt, List, ◌∷◌, ◌++◌, length, None, Some, refl, ◌<◌}
use Rattle.std.proofs.Common.{ap, ◌∙◌, arith}
use Rattle.dac_wire.specs.laws.Common.{Bool, true, false, cond, [], drop, Option, lt-ltb, u64_bytes, Version, One, Two, Table, PREAMBLE, WireFault, TooLong, BadMagic, BadVersion, OtherConfig, Short, NoMemory, MAX_MESSAGE, preamble_fault, version_in, preamble_bytes}
use Rattle.std.proofs.lemmas.Bool.{le-ltb, ltb-false}
use Rattle.std.proofs.lemmas.Bool.Decides.{Decides-eqb}
use Rattle.std.proofs.lemmas.List.{length-append}
use Rattle.std.proofs.lemmas.Slice.Eq.{starts_is}
use Rattle.std.specs.List.{starts_with}
use Rattle.dac_wire.specs.Decoding.{wrong}
use Rattle.dac_wire.specs.Spelling.{version_byte, name_bytes, mark_of}

-- the format's name, and then its version
abbrev name : List ℕ
name = 68 ∷ 65 ∷ 67 ∷ []

abbrev name_and_version : Version → List ℕ
name_and_version version = 68 ∷ 65 ∷ 67 ∷ version_byte version ∷ []

module _ (version : Version) (t : Table) (bytes : List ℕ) where
  pub too_long : MAX_MESSAGE < length bytes → preamble_fault version t bytes ≡ wrong TooLong MAX_MESSAGE
  unfolding preamble_fault
  too_long long = rw (lt-ltb MAX_MESSAGE (length bytes) long) refl

  module _ (short : length bytes ≤ MAX_MESSAGE) where
    pub bad_magic : starts_with nat_eq bytes name ≡ false → preamble_fault version t bytes ≡ wrong BadMagic 0
    unfolding preamble_fault
    bad_magic p = rw (le-ltb MAX_MESSAGE (length bytes) short, p) refl

    module _ (named : starts_with nat_eq bytes name ≡ true) where
      pub bad_version : starts_with nat_eq bytes (name_and_version version) ≡ false → preamble_fault version t bytes ≡ wrong BadVersion 3
      unfolding preamble_fault
      bad_version p = rw (le-ltb MAX_MESSAGE (length bytes) short, named, p) refl

      module _ (versioned : starts_with nat_eq bytes (name_and_version version) ≡ true) where
        pub no_mark : length bytes < PREAMBLE → preamble_fault version t bytes ≡ wrong Short 4
        unfolding preamble_fault
        no_mark p = rw (le-ltb MAX_MESSAGE (length bytes) short, named, versioned, lt-ltb (length bytes) PREAMBLE p) refl

        module _ (marked : PREAMBLE ≤ length bytes) where
          pub other_config : starts_with nat_eq bytes (preamble_bytes version t) ≡ false → preamble_fault version t bytes ≡ wrong OtherConfig 4
          unfolding preamble_fault
          other_config p = rw (le-ltb MAX_MESSAGE (length bytes) short, named, versioned, le-ltb (length bytes) PREAMBLE marked, p) refl

          pub no_fault : starts_with nat_eq bytes (preamble_bytes version t) ≡ true → preamble_fault version t bytes ≡ None
          unfolding preamble_fault
          no_fault p = rw (le-ltb MAX_MESSAGE (length bytes) short, named, versioned, le-ltb (length bytes) PREAMBLE marked, p) refl

-- ---- the combination of the tests

pub preamble_length : (version : Version) (t : Table) → length (preamble_bytes version t) ≡ PREAMBLE
unfolding preamble_bytes u64_bytes
preamble_length version t = refl

-- the five tests in sequence
table : (long named versioned short marked : Bool) → Option WireFault
table long named versioned short marked =
    cond long (wrong TooLong MAX_MESSAGE) (cond (not named) (wrong BadMagic 0) (cond (not versioned) (wrong BadVersion 3) (cond short (wrong Short 4) (cond (not marked) (wrong OtherConfig 4) None))))

-- a fault that isn't `NoMemory`
abbrev pub IsReal : Option WireFault → Type 0
IsReal None = Unit {0}
IsReal (Some e) = ¬ (e.kind ≡ NoMemory)

table_real : (a b c d e : Bool) → IsReal (table a b c d e)
unfolding table
table_real true b c d e = λ is. absurd cc
table_real false false c d e = λ is. absurd cc
table_real false true false d e = λ is. absurd cc
table_real false true true true e = λ is. absurd cc
table_real false true true false false = λ is. absurd cc
table_real false true true false true = tt

table_none : (a b c d e : Bool) → table a b c d e ≡ None → (a ≡ false) × (d ≡ false) × (e ≡ true)
unfolding table
table_none true b c d e h = absurd cc
table_none false false c d e h = absurd cc
table_none false true false d e h = absurd cc
table_none false true true true e h = absurd cc
table_none false true true false false h = absurd cc
table_none false true true false true h = (refl, refl, refl)

module _ (version : Version) (t : Table) (bytes : List ℕ) where
  -- the fault of a front isn't `NoMemory`
  pub front_real : IsReal (preamble_fault version t bytes)
  unfolding preamble_fault table
  front_real = table_real (nat_lt MAX_MESSAGE (length bytes)) (starts_with nat_eq bytes name) (starts_with nat_eq bytes (name_and_version version)) (nat_lt (length bytes) PREAMBLE) (starts_with nat_eq bytes (preamble_bytes version t))

  module _ (right : preamble_fault version t bytes ≡ None) where
    tests : (nat_lt MAX_MESSAGE (length bytes) ≡ false) × (nat_lt (length bytes) PREAMBLE ≡ false) × (starts_with nat_eq bytes (preamble_bytes version t) ≡ true)
    unfolding preamble_fault table
    tests = table_none (nat_lt MAX_MESSAGE (length bytes)) (starts_with nat_eq bytes name) (starts_with nat_eq bytes (name_and_version version)) (nat_lt (length bytes) PREAMBLE) (starts_with nat_eq bytes (preamble_bytes version t)) right

    -- bytes with a correct front contain the preamble
    pub front_long : PREAMBLE ≤ length bytes
    front_long = ltb-false (length bytes) PREAMBLE tests.1

    -- bytes with a correct front begin with the preamble
    pub front_begins : (bytes ≡ preamble_bytes version t ++ drop PREAMBLE bytes) × (length bytes ≤ MAX_MESSAGE)
    front_begins =
        let begins = (starts_is Decides-eqb bytes (preamble_bytes version t) (starts_with nat_eq bytes (preamble_bytes version t)) refl).0 tests.2 in
        (begins ∙ ap (λ n. preamble_bytes version t ++ drop n bytes) (preamble_length version t), ltb-false MAX_MESSAGE (length bytes) tests.0)

  -- the test finds that bytes begin with a text
  begins_with : (front rest : List ℕ) → bytes ≡ front ++ rest → starts_with nat_eq bytes front ≡ true
  begins_with front rest parts = (starts_is Decides-eqb bytes front (starts_with nat_eq bytes front) refl).1 rest parts

  module _ (rest : List ℕ) where
    in_name : preamble_bytes version t ++ rest ≡ name ++ (version_byte version ∷ u64_bytes (mark_of t) ++ rest)
    unfolding preamble_bytes u64_bytes
    in_name = refl

    in_version : preamble_bytes version t ++ rest ≡ name_and_version version ++ (u64_bytes (mark_of t) ++ rest)
    unfolding preamble_bytes u64_bytes
    in_version = refl

    -- Bytes that begin with the preamble and aren't too many have a correct front.
    pub front_is : bytes ≡ preamble_bytes version t ++ rest → length bytes ≤ MAX_MESSAGE → preamble_fault version t bytes ≡ None
    front_is parts short =
        let all : length bytes ≡ length (preamble_bytes version t ++ rest) = ap length parts in
        let front : length (preamble_bytes version t) ≡ PREAMBLE = preamble_length version t in
        no_fault version t bytes short
        (begins_with name (version_byte version ∷ u64_bytes (mark_of t) ++ rest) (parts ∙ in_name))
        (begins_with (name_and_version version) (u64_bytes (mark_of t) ++ rest) (parts ∙ in_version))
        (omega (arith, length-append (preamble_bytes version t) rest))
        (begins_with (preamble_bytes version t) rest parts)

-- ---- the version

-- Bytes that begin with the preamble of a version are read by this version.
pub version_is : (version : Version) (t : Table) (bytes rest : List ℕ) → bytes ≡ preamble_bytes version t ++ rest → version_in bytes ≡ version
unfolding version_in preamble_bytes u64_bytes
version_is One t bytes rest parts = ap (λ bytes. cond (starts_with nat_eq bytes (name_bytes One)) One Two) parts
version_is Two t bytes rest parts = ap (λ bytes. cond (starts_with nat_eq bytes (name_bytes One)) One Two) parts
