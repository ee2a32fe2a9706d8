-- The command line, in the model of `clap`.
use Rattle.std.specs.Prelude.{List, [], ◌∷◌, Option, Some, None, option_map, true, codes, if◌then◌else◌}
use Rattle.std.specs.Str.{bytes_eq}
use Rattle.clap.specs.Words.{App, Text, new_app, with_subcommand, subcommand_of}
use Rattle.dac_program.specs.declared.command_line.Request.{Request}
use Rattle.dac_program.specs.declared.command_line.Request.TheVariants.{Check, Sim, Live, Record}

-- a subcommand is required
abbrev pub required : App → App
required app = record { top = record app.top { subcommand_required = true }; subs = app.subs }

-- there is a version flag
abbrev pub versioned : App → App
versioned app = record { top = record app.top { has_version = true }; subs = app.subs }

-- the program without its subcommands
abbrev pub bare : App
bare = versioned (required (new_app (codes "distac")))

-- the program with the subcommands that start no threads
abbrev pub threadless : App
threadless = with_subcommand (with_subcommand bare (new_app (codes "check")).top) (new_app (codes "sim")).top

-- the program with all subcommands
abbrev pub distac : App
distac = with_subcommand (with_subcommand threadless (new_app (codes "live")).top) (new_app (codes "record")).top

-- the words of `distac check`
abbrev pub check_words : Text → List Text
check_words name = name ∷ codes "check" ∷ []

-- the words of `distac sim`
abbrev pub sim_words : Text → List Text
sim_words name = name ∷ codes "sim" ∷ []

-- the words of `distac live`
abbrev pub live_words : Text → List Text
live_words name = name ∷ codes "live" ∷ []

-- the words of `distac record`
abbrev pub record_words : Text → List Text
record_words name = name ∷ codes "record" ∷ []

-- the subcommand among the words
abbrev pub subcommand_in : List Text → Option Text
subcommand_in words = option_map (λ p. p.0) (subcommand_of distac words)

-- the request of a subcommand
abbrev pub request_in : Option Text → Option Request
request_in None = None
request_in (Some name) =
    if bytes_eq name (codes "check") then Some Check
    else (if bytes_eq name (codes "sim") then Some Sim
    else (if bytes_eq name (codes "live") then Some Live
    else (if bytes_eq name (codes "record") then Some Record
    else None)))
