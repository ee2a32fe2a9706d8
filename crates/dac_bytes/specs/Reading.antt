-- Reading fields from left to right, up to the first fault.
use Rattle.std.specs.Prelude.{◌≡◌, ℕ, zero, suc, ◌+◌, ◌-◌, ◌^◌, Bool, true, List, [], ◌∷◌, length, take, drop, Option, Some, None, Result, Ok, Err, IfErr, nat_lt, ◌||◌, ◌==◌, if◌then◌else◌}
use Rattle.std.specs.Int.{Width, w8, w16, w32, w64, byte_len, from_be_bytes}
use Rattle.std.specs.declared.cmp.Ordering.{Ordering}
use Rattle.std.specs.Ordering.{is_lt}
use Rattle.dac_base.specs.declared.NodeId.{NodeId}
use Rattle.dac_base.specs.declared.limits.TheConstants.{MAX_COUNTER}
use Rattle.dac_origins.specs.declared.dot.Origin.{Origin}
use Rattle.dac_origins.specs.declared.dot.Dot.{Dot}
use Rattle.dac_origins.specs.Dots.{Dots, dot_cmp, origin_cmp}
use Rattle.dac_bytes.specs.declared.fault.ReadFaultKind.{ReadFaultKind}
use Rattle.dac_bytes.specs.declared.fault.ReadFaultKind.TheVariants.{Short, BadNumber, BadOrder, BadName, NoMemory}
use Rattle.dac_bytes.specs.declared.fault.ReadFault.{ReadFault}
use Rattle.dac_bytes.specs.declared.version.Version.{Version}
use Rattle.dac_bytes.specs.Versions.{incarnation_width, highest_incarnation}
use Rattle.dac_dots.specs.Rows.{Row, dots_in}

-- the bytes that remain, and the offset of the first in all bytes
pub record Rest : Type 0 where
  pub at : ℕ
  pub bytes : List ℕ

-- all of the bytes
abbrev pub whole : List ℕ → Rest
whole bytes = record { at = 0; bytes = bytes }

-- the rest after the first n bytes
abbrev pub after : ℕ → Rest → Rest
after n r = record { at = r.at + n; bytes = drop n r.bytes }

-- the result of reading a field: its value and the rest after it, or the first fault
abbrev pub Field : Type 0 → Type 0
Field X = Result (X × Rest) ReadFault

-- a fault at the first byte of r
abbrev pub fault : {X : Type 0} → ReadFaultKind → Rest → Result X ReadFault
fault kind r = Err (record { kind = kind; at = r.at })

infixl 10 ◌>>=◌
abbrev pub ◌>>=◌ : {A B : Type 0} → Result A ReadFault → (A → Result B ReadFault) → Result B ReadFault
(Ok x) >>= f = f x
(Err e) >>= f = Err e

-- The result of a function is, seen by `view`, the result of the definition.
abbrev pub Reads : {X Y : Type 0} → (X → Y) → Result X ReadFault → Result Y ReadFault → Type 0
Reads view (Ok x) read = read ≡ Ok (view x)
Reads view (Err e) read = read ≡ Err e

-- The definition has this fault, unless it is `NoMemory`, which has offset 0 and carries no information about the
-- bytes.
abbrev pub Fails : {Y : Type 0} → ReadFaultKind → ReadFault → Result Y ReadFault → Type 0
Fails NoMemory e read = e.at ≡ 0
Fails _ e read = read ≡ Err e

-- The result of a function isn't `NoMemory`.
abbrev pub IsOfBytes : {X : Type 0} → Result X ReadFault → Type 0
IsOfBytes result = IfErr result (λ e. ¬ (e.kind ≡ NoMemory))

-- The result of a function is, seen by `view`, the result of the definition, unless memory ran out.
abbrev pub Gives : {X Y : Type 0} → (X → Y) → Result X ReadFault → Result Y ReadFault → Type 0
Gives view (Ok x) read = read ≡ Ok (view x)
Gives view (Err e) read = Fails e.kind e read

-- ---- numbers

-- the next n bytes
abbrev pub taken : ℕ → Rest → Field (List ℕ)
taken n r = if nat_lt (length r.bytes) n then fault Short r else Ok (take n r.bytes, after n r)

-- a big-endian number of the width w
abbrev pub number_at : Width → Rest → Field ℕ
number_at w r = if nat_lt (length r.bytes) (byte_len w) then fault Short r else Ok (from_be_bytes w (take (byte_len w) r.bytes), after (byte_len w) r)

-- a number from `low` to `high`
unfoldable pub range_at : Width → ℕ → ℕ → Rest → Field ℕ
range_at w low high r = do
  n ← number_at w r
  if nat_lt n.0 low || nat_lt high n.0 then fault BadNumber r else Ok n

-- ---- nodes, origins and dots

-- a node, whose number is less than the number of nodes
unfoldable pub node_at : ℕ → Rest → Field NodeId
node_at nodes r = do
  n ← number_at w8 r
  if nat_lt n.0 nodes then Ok (record { 0 = n.0 }, n.1) else fault BadName r

-- an incarnation, from 1 to the version's maximum
abbrev pub incarnation_at : Version → Rest → Field ℕ
incarnation_at version r = range_at (incarnation_width version) 1 (highest_incarnation version) r

-- an incarnation, or 0
abbrev pub incarnation_or_zero_at : Version → Rest → Field ℕ
incarnation_or_zero_at version r = range_at (incarnation_width version) 0 (highest_incarnation version) r

-- a dot's counter, 1 to 2^62
abbrev pub counter_at : Rest → Field ℕ
counter_at r = range_at w64 1 MAX_COUNTER r

-- node and incarnation
unfoldable pub origin_at : Version → ℕ → Rest → Field Origin
origin_at version nodes r = do
  node ← node_at nodes r
  inc ← incarnation_at version node.1
  Ok (record { node = node.0; inc = inc.0 }, inc.1)

-- origin and counter
unfoldable pub dot_at : Version → ℕ → Rest → Field Dot
dot_at version nodes r = do
  origin ← origin_at version nodes r
  n ← counter_at origin.1
  Ok (record { origin = origin.0; n = n.0 }, n.1)

-- ---- items in order

-- whether k is greater than the previous key, if any
abbrev pub is_above : {K : Type 0} → (K → K → Ordering) → Option K → K → Bool
is_above R None k = true
is_above R (Some before) k = is_lt (R before k)

-- an origin greater than the previous one
unfoldable pub origin_above_at : Version → ℕ → Option Origin → Rest → Field Origin
origin_above_at version nodes before r = do
  origin ← origin_at version nodes r
  if is_above origin_cmp before origin.0 then Ok origin else fault BadOrder r

-- a dot greater than the previous one
unfoldable pub dot_above_at : Version → ℕ → Option Dot → Rest → Field Dot
dot_above_at version nodes before r = do
  d ← dot_at version nodes r
  if is_above dot_cmp before d.0 then Ok d else fault BadOrder r

-- n items, each read given the state that `next` returns for the previous one
unfoldable pub items_at : {S X : Type 0} → (S → Rest → Field X) → (X → S) → ℕ → S → Rest → Field (List X)
items_at item next zero s r = Ok ([], r)
items_at item next (suc n) s r = do
  first ← item s r
  others ← items_at item next n (next first.0) first.1
  Ok (first.0 ∷ others.0, others.1)

-- a count, and that many items, each with a key greater than the previous one
unfoldable pub counted_at : {K X : Type 0} → (Rest → Field ℕ) → (Option K → Rest → Field X) → (X → K) → Rest
    → Field (List X)
counted_at count item key r = do
  n ← count r
  xs ← items_at item (λ x. Some (key x)) n.0 None n.1
  Ok (xs.0, xs.1)

-- ---- contexts

-- a further counter, greater than the previous one
unfoldable pub further_at : ℕ → Rest → Field ℕ
further_at before r = do
  n ← counter_at r
  if nat_lt before n.0 then Ok n else fault BadOrder r

-- the number of further counters: at least one if the origin has no other dot
abbrev pub further_count_at : ℕ → Rest → Field ℕ
further_count_at upto r = range_at w32 (if upto == 0 then 1 else 0) (2 ^ 32 - 1) r

-- the dots of an origin greater than the previous one; their further counters don't continue 1 to `upto`
unfoldable pub row_at : Version → ℕ → Option Origin → Rest → Field Row
row_at version nodes before r = do
  origin ← origin_above_at version nodes before r
  upto ← range_at w64 0 MAX_COUNTER origin.1
  count ← further_count_at upto.0 upto.1
  further ← items_at further_at (λ n. n) count.0 (upto.0 + 1) count.1
  Ok (record { origin = origin.0; upto = upto.0; further = further.0 }, further.1)

-- the number of origins that have dots, and the row of each
unfoldable pub rows_at : Version → ℕ → Rest → Field (List Row)
rows_at version nodes r = do
  count ← number_at w16 r
  items_at (row_at version nodes) (λ (row : Row). Some row.origin) count.0 None count.1

-- the context of the rows
unfoldable pub context_at : Version → ℕ → Rest → Field Dots
context_at version nodes r = do
  rows ← rows_at version nodes r
  Ok (dots_in rows.0, rows.1)
