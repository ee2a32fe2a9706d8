-- The first word of a line.
use Rattle.std.specs.Prelude.{ℕ, List, Option, Some, None, codes, if◌then◌else◌, option_map}
use Rattle.std.specs.Str.{bytes_eq}
use Rattle.dac_script.specs.declared.verb.Ask.{Ask}
use Rattle.dac_script.specs.declared.verb.Ask.TheVariants as ask
use Rattle.dac_script.specs.declared.verb.Verb.{Verb}
use Rattle.dac_script.specs.declared.verb.Verb.TheVariants as verb

-- the word of a request
abbrev pub ask_text : Ask → List ℕ
ask_text ask.Boot = codes "boot"
ask_text ask.Crash = codes "crash"
ask_text ask.Tick = codes "tick"
ask_text ask.Down = codes "down"
ask_text ask.Permit = codes "permit"
ask_text ask.Start = codes "start"
ask_text ask.Stop = codes "stop"
ask_text ask.Drain = codes "drain"
ask_text ask.Takeover = codes "takeover"

-- the word of a verb
abbrev pub text_of : Verb → List ℕ
text_of (verb.Ask request) = ask_text request
text_of verb.Ship = codes "ship"
text_of verb.Hear = codes "hear"
text_of verb.Hand = codes "hand"
text_of verb.Share = codes "share"
text_of verb.Page = codes "page"
text_of verb.State = codes "state"
text_of verb.Same = codes "same"
text_of verb.Bytes = codes "bytes"
text_of verb.Feed = codes "feed"

-- the request of a word
abbrev pub ask_of : List ℕ → Option Ask
ask_of word =
    if bytes_eq word (codes "boot") then Some ask.Boot
    else (if bytes_eq word (codes "crash") then Some ask.Crash
    else (if bytes_eq word (codes "tick") then Some ask.Tick
    else (if bytes_eq word (codes "down") then Some ask.Down
    else (if bytes_eq word (codes "permit") then Some ask.Permit
    else (if bytes_eq word (codes "start") then Some ask.Start
    else (if bytes_eq word (codes "stop") then Some ask.Stop
    else (if bytes_eq word (codes "drain") then Some ask.Drain
    else (if bytes_eq word (codes "takeover") then Some ask.Takeover
    else None))))))))

-- the verb of a word
abbrev pub verb_of : List ℕ → Option Verb
verb_of word =
    if bytes_eq word (codes "ship") then Some verb.Ship
    else (if bytes_eq word (codes "hear") then Some verb.Hear
    else (if bytes_eq word (codes "hand") then Some verb.Hand
    else (if bytes_eq word (codes "share") then Some verb.Share
    else (if bytes_eq word (codes "page") then Some verb.Page
    else (if bytes_eq word (codes "state") then Some verb.State
    else (if bytes_eq word (codes "same") then Some verb.Same
    else (if bytes_eq word (codes "bytes") then Some verb.Bytes
    else (if bytes_eq word (codes "feed") then Some verb.Feed
    else option_map (λ request. verb.Ask request) (ask_of word)))))))))
