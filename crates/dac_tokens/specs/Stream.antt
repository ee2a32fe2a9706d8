-- A text as the list of its tokens.
use Rattle.std.specs.Prelude.{ℕ, zero, suc, ◌+◌, ◌-◌, false, List, [], ◌∷◌, length, Result, Ok, Err, nat_le, if◌then◌else◌}
use Rattle.dac_tokens.specs.declared.fault.ConfigFault.{ConfigFault}
use Rattle.dac_tokens.specs.declared.token.Symbol.TheVariants.{OpenList, CloseList, OpenTuple, CloseTuple, Comma, FullStop}
use Rattle.dac_tokens.specs.declared.token.TheConstants.{MAX_DEPTH}
use Rattle.dac_tokens.specs.Words.{Word, Punctuation, Name, Number, Text, End, is_end, Located}
use Rattle.dac_tokens.specs.Gives.{◌>>=◌}
use Rattle.dac_tokens.specs.Scan.{after_gap, word_at, unsupported}

-- the depth after an opening bracket at `at`, given `depth` before it: at most MAX_DEPTH
abbrev pub opened : ℕ → ℕ → Result ℕ ConfigFault
opened at depth = if nat_le MAX_DEPTH depth then unsupported at else Ok (depth + 1)

-- the number of brackets open after a token at `at`, given `depth` before it
abbrev pub depth_after : ℕ → ℕ → Word → Result ℕ ConfigFault
depth_after at depth (Punctuation OpenList) = opened at depth
depth_after at depth (Punctuation OpenTuple) = opened at depth
depth_after at depth (Punctuation CloseList) = Ok (depth - 1)
depth_after at depth (Punctuation CloseTuple) = Ok (depth - 1)
depth_after at depth (Punctuation Comma) = Ok depth
depth_after at depth (Punctuation FullStop) = Ok depth
depth_after at depth (Name name) = Ok depth
depth_after at depth (Number negative digits) = Ok depth
depth_after at depth Text = Ok depth
depth_after at depth End = Ok depth

-- The first token of bytes that end at the offset `end`, given `depth` open brackets; with the depth and the bytes
-- after it.
unfoldable pub token_from : ℕ → ℕ → List ℕ → Result (Located × ℕ × List ℕ) ConfigFault
token_from end depth bytes = do
  let rest = after_gap false bytes
  let at = end - length rest
  word ← word_at at rest
  after ← depth_after at depth word.0
  Ok (record { word = word.0; at = at }, after, word.1)

-- the tokens of a text up to the end or the first fault, and that end or fault
pub record Stream : Type 0 where
  pub tokens : List Located
  pub last : Result Located ConfigFault

-- the end of a text of `end` bytes
abbrev pub end_at : ℕ → Located
end_at end = record { word = End; at = end }

-- these tokens, followed by the end
abbrev pub ended : ℕ → List Located → Stream
ended end ts = record { tokens = ts; last = Ok (end_at end) }

-- these tokens, followed by a fault
abbrev pub stopped : List Located → ConfigFault → Stream
stopped ts e = record { tokens = ts; last = Err e }

-- the first token read, followed by the tokens of the rest
abbrev pub and_then : Result (Located × ℕ × List ℕ) ConfigFault → (ℕ → List ℕ → Stream) → Stream
and_then (Err e) rest = record { tokens = []; last = Err e }
and_then (Ok first) rest =
    if is_end first.0.word then record { tokens = []; last = Ok first.0 }
    else record { tokens = first.0 ∷ (rest first.1 first.2).tokens; last = (rest first.1 first.2).last }

-- at most n tokens; n bounds the recursion
unfoldable pub tokens_within : ℕ → ℕ → ℕ → List ℕ → Stream
tokens_within zero end depth bytes = record { tokens = []; last = Ok (record { word = End; at = end }) }
tokens_within (suc n) end depth bytes = and_then (token_from end depth bytes) (tokens_within n end)

-- the tokens of bytes that end at the offset `end`, given `depth` open brackets
unfoldable pub tokens_of : ℕ → ℕ → List ℕ → Stream
tokens_of end depth bytes = tokens_within (suc (length bytes)) end depth bytes

abbrev pub taken_of : List Located → Result Located ConfigFault → Result (Located × Stream) ConfigFault
taken_of [] (Err e) = Err e
taken_of [] (Ok t) = Ok (t, record { tokens = []; last = Ok t })
taken_of (t ∷ ts) last = Ok (t, record { tokens = ts; last = last })

-- the first token of a stream, and the stream after it; at the end, the end again
abbrev pub taken : Stream → Result (Located × Stream) ConfigFault
taken s = taken_of s.tokens s.last
