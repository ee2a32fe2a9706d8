-- The output of `distac live`.
use Rattle.std.specs.Prelude.{ℕ, ◌+◌, List, [], ◌∷◌, ◌++◌, Ok, Err, codes, slice_get, if◌then◌else◌}
use Rattle.std.specs.List.{flat_map}
use Rattle.std.specs.Option.{option_map_or}
use Rattle.std.specs.Fmt.{decimal}
use Rattle.dac_base.specs.declared.NodeId.{NodeId}
use Rattle.dac_events.specs.Refusals.{number_of, name_of}
use Rattle.dac_config.specs.Table.{Table, node_name}
use Rattle.dac_config.specs.Canonical.{name_text}
use Rattle.dac_script.specs.declared.live_line.LiveLine.{LiveLine}
use Rattle.dac_script.specs.declared.live_line.LiveLine.TheVariants as says
use Rattle.dac_pages.specs.declared.page.Page.{Page}
use Rattle.dac_placement.specs.Placement.{nodes_of}
use Rattle.dac_play.specs.Texts.{refused_text}
use Rattle.dac_play.specs.Wires.{fed_text}
use Rattle.dac_live.specs.declared.report.LineAnswer.{LineAnswer}
use Rattle.dac_live.specs.declared.report.LineAnswer.TheVariants.{Done, Fresh, Stale}
use Rattle.dac_live.specs.declared.report.LiveReport.{LiveReport}
use Rattle.dac_live.specs.Asks.{is_of}
use Rattle.dac_live.specs.Line.{Line}
use Rattle.dac_status.specs.Texts.{header_text, page_text}
use Rattle.dac_wire.specs.Decoding.{packet_at}
use Rattle.dac_live_play.specs.Phases.{parts_of, lines_in}
use Rattle.dac_live_play.specs.Placed.{placed_text}

-- ---- a caller's line

-- the result of a caller's line: its node accepted or refused the request, or the page read was fresh or stale
abbrev pub outcome_text : LineAnswer → List ℕ
outcome_text (Done (Ok reply)) = codes "ok\n"
outcome_text (Done (Err why)) = refused_text (number_of why) (name_of why)
outcome_text Fresh = codes "fresh\n"
outcome_text Stale = codes "stale\n"

-- a caller's line: node, caller and result
abbrev pub line_text : Table → Line → LineAnswer → List ℕ
line_text table line answer =
    name_text (node_name table line.node) ++ (codes " " ++ (decimal line.caller ++ (codes " " ++ outcome_text answer)))

-- the line is printed with those of its node and caller
abbrev pub own_text : Table → NodeId → ℕ → Line → LineAnswer → List ℕ
own_text table node caller line answer = if is_of node.0 caller line then line_text table line answer else []

-- ---- a phase

-- the lines of one caller, in the order of the script
abbrev pub caller_text : Table → List Line → List LineAnswer → NodeId → ℕ → List ℕ
caller_text table lines answers node caller =
    placed_text (λ place line answer. own_text table node caller line answer) 0 lines answers

-- the lines of a node's four callers
abbrev pub callers_text : Table → List Line → List LineAnswer → NodeId → List ℕ
callers_text table lines answers node = flat_map (caller_text table lines answers node) (1 ∷ 2 ∷ 3 ∷ 4 ∷ [])

-- the lines of all nodes' callers, by name
abbrev pub asked_text : Table → List Line → List LineAnswer → List ℕ
asked_text table lines answers = flat_map (callers_text table lines answers) (nodes_of table)

-- the result of parsing fed bytes; other lines print nothing here
abbrev pub feed_text : Table → LiveLine → List ℕ
feed_text table (says.Do node caller d) = []
feed_text table (says.Read node caller) = []
feed_text table (says.Feed bytes) = fed_text (packet_at table bytes)
feed_text table says.Phase = []

-- a phase: its callers' lines, then its feeds in order
abbrev pub phase_text : Table → ℕ → List LiveLine → List LineAnswer → List ℕ
phase_text table number part answers =
    codes "phase " ++ (decimal number ++ (codes "\n" ++ (asked_text table (lines_in part) answers ++ flat_map (feed_text table) part)))

-- all phases, counted from 1
abbrev pub phases_text : Table → List (List LiveLine) → List (List LineAnswer) → List ℕ
phases_text table parts answers =
    placed_text (λ place part told. phase_text table (place + 1) part told) 0 parts answers

-- ---- the pages

-- a node's incarnation and page; a node that is off has no page
abbrev pub shown_text : Table → NodeId → Page → List ℕ
shown_text table node page = header_text (node_name table node) page.origin
    ++ option_map_or (λ origin. page_text table page.summary) page.origin []

-- the last page of a node
abbrev pub last_text : Table → List Page → NodeId → List ℕ
last_text table pages node = option_map_or (shown_text table node) (slice_get pages node.0) []

-- the last pages of all nodes, by name
abbrev pub pages_text : Table → List Page → List ℕ
pages_text table pages = flat_map (last_text table pages) (nodes_of table)

-- ---- the whole output

-- the output of a run in these phases
abbrev pub run_text : Table → List (List LiveLine) → LiveReport → List ℕ
run_text table parts report =
    phases_text table parts report.answers ++ (pages_text table report.pages ++ codes "close ok\nweave ok\n")

-- the output of a script, given the report of its run
abbrev pub live_text : Table → List LiveLine → LiveReport → List ℕ
live_text table script report = run_text table (parts_of script) report
