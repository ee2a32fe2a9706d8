-- States as bytes, in each version.
use Rattle.std.specs.Prelude.{ℕ, List, ◌++◌}
use Rattle.dac_bytes.specs.Spelling.{context_bytes}
use Rattle.dac_part_bytes.specs.Spelling.{permits_bytes, starts_bytes, lives_bytes, claims_bytes, drains_bytes}
use Rattle.dac_meaning.specs.StateValue.{StateValue}
use Rattle.dac_bytes.specs.declared.version.Version.{Version}
use Rattle.dac_bytes.specs.declared.version.Version.TheVariants.{Two}

-- The one spelling of a state in a version: its parts in sequence.
unfoldable pub state_bytes : Version → StateValue → List ℕ
state_bytes version s =
    context_bytes version s.heard ++ context_bytes version s.known ++ permits_bytes version s.permits ++ starts_bytes version s.starts ++ lives_bytes version s.lives ++ claims_bytes version s.claims ++ drains_bytes version s.drains

-- The spelling that is written: that of version two.
abbrev pub spelling_of : StateValue → List ℕ
spelling_of = state_bytes Two
