-- The printed page of a node, from a summary.
use Rattle.std.specs.Prelude.{ℕ, false, nat_lt, ◌==◌, List, [], ◌++◌, Option, None, Some, codes, slice_index_or, map as list_map, if◌then◌else◌, Bool, true}
use Rattle.std.specs.List.{flat_map, range_with_len}
use Rattle.std.specs.Option.{option_map_or}
use Rattle.std.specs.Fmt.{decimal}
use Rattle.dac_base.specs.declared.limits.TheConstants.{MAX_NODES}
use Rattle.dac_base.specs.declared.NodeId.{NodeId}
use Rattle.dac_base.specs.declared.AppId.{AppId}
use Rattle.dac_origins.specs.declared.dot.Origin.{Origin}
use Rattle.dac_lattice.specs.declared.flags.Flag.{Flag}
use Rattle.dac_lattice.specs.declared.flags.Flag.TheVariants.{Up, Down}
use Rattle.dac_chains.specs.declared.lives.Life.{Life}
use Rattle.dac_chains.specs.declared.claims.How.{How}
use Rattle.dac_chains.specs.declared.claims.How.TheVariants as how
use Rattle.dac_chains.specs.declared.claims.Claim.{Claim}
use Rattle.dac_config.specs.Table.{Table, node_count, node_name, app_name, group_of}
use Rattle.dac_config.specs.Canonical.{name_text}
use Rattle.dac_placement.specs.declared.verdicts.Verdict.{Verdict}
use Rattle.dac_placement.specs.declared.verdicts.Verdict.TheVariants as verdict
use Rattle.dac_placement.specs.Placement.{nodes_of, apps_of}
use Rattle.dac_status.specs.declared.marks.Mark.{Mark}
use Rattle.dac_status.specs.declared.marks.Mark.TheVariants as mark
use Rattle.dac_status.specs.declared.summary.AppSummary.{AppSummary}
use Rattle.dac_status.specs.declared.summary.Summary.{Summary}
use Rattle.dac_status.specs.Summaries.{no_app, placed}

-- ---- nodes

-- a node by its name, or by its number if the configuration lacks it, which occurs only in forged states
abbrev pub node_text : Table → NodeId → List ℕ
node_text table node = if nat_lt node.0 (node_count table) then name_text (node_name table node) else decimal node.0

-- the line above a page: the node of this name runs as this incarnation, or is off
abbrev pub header_text : List ℕ → Option Origin → List ℕ
header_text node None = codes "node " ++ (name_text node ++ codes " off\n")
header_text node (Some origin) = codes "node " ++ (name_text node ++ (codes " " ++ (decimal origin.inc ++ codes "\n")))

abbrev pub flag_text : Flag → List ℕ
flag_text Up = codes " up "
flag_text Down = codes " down "

-- the words after the incarnation of a node that is up and drained
abbrev pub drained_text : Flag → Bool → List ℕ
drained_text Up true = codes " drained"
drained_text _ _ = []

-- the line of a node of this name, with its life and whether it is drained
abbrev pub life_text : List ℕ → Option Life → Bool → List ℕ
life_text node None drained = codes "node " ++ (name_text node ++ codes " unknown\n")
life_text node (Some life) drained = codes "node "
    ++ (name_text node ++ (flag_text life.flag ++ (decimal life.inc ++ (drained_text life.flag drained ++ codes "\n"))))

-- ---- applications

-- how an application came to its node, after a space
abbrev pub how_text : How → List ℕ
how_text how.Normal = codes " normal"
how_text how.Failover = codes " failover"
how_text how.Takeover = codes " takeover"

-- the node from which an application was taken, if any
abbrev pub from_text : Table → Option NodeId → List ℕ
from_text table None = []
from_text table (Some node) = codes " from " ++ node_text table node

-- a claim: its node and incarnation, its term, and how the application came there
abbrev pub claim_text : Table → Claim → List ℕ
claim_text table claim =
    node_text table claim.origin.node ++ (codes " " ++ (decimal claim.origin.inc ++ (codes " term " ++ (decimal claim.term ++ (how_text claim.how ++ from_text table claim.from)))))

-- the holder of an application, by its greatest claim
abbrev pub holder_text : Table → Option Claim → List ℕ
holder_text table None = codes "none"
holder_text table (Some claim) = claim_text table claim

abbrev pub verdict_text : Table → Verdict → List ℕ
verdict_text table (verdict.Start node) = codes "start " ++ node_text table node
verdict_text table (verdict.Failover node) = codes "failover " ++ node_text table node
verdict_text table (verdict.Halted node) = codes "halted " ++ node_text table node
verdict_text table (verdict.Move node) = codes "move " ++ node_text table node
verdict_text table (verdict.Takeover node) = codes "takeover " ++ node_text table node
verdict_text table (verdict.Kept node) = codes "kept " ++ node_text table node
verdict_text table verdict.Nobody = codes "nobody"

-- the first line of an application
abbrev pub standing_text : Table → AppId → Option Claim → Verdict → List ℕ
standing_text table app claim verdict =
    codes "app " ++ (name_text (app_name table app) ++ (codes " holder " ++ (holder_text table claim ++ (codes " verdict " ++ (verdict_text table verdict ++ codes "\n")))))

-- ---- lists of nodes

-- the word for a mark
abbrev pub mark_text : Mark → List ℕ
mark_text mark.Down = codes "down"
mark_text mark.Barred = codes "barred"
mark_text mark.Drained = codes "drained"
mark_text mark.Idle = codes "idle"
mark_text mark.Ok = codes "ok"

-- the mark of a node, from the marks of all nodes
abbrev pub mark_in : List Mark → NodeId → Mark
mark_in marks node = slice_index_or marks node.0 mark.Down

-- the label before a node's mark
abbrev pub label_text : Table → NodeId → List ℕ
label_text table node = codes " " ++ (name_text (node_name table node) ++ codes "=")

-- the labels of the nodes, by their numbers
abbrev pub labels_of : Table → List (List ℕ)
labels_of table = list_map (label_text table) (nodes_of table)

-- the group of each node in an application's list, by the nodes' numbers
abbrev pub groups_of : Table → AppId → List (Option ℕ)
groups_of table app = placed MAX_NODES None (list_map (group_of table app) (nodes_of table))

-- a label and the node's mark, if the node's group is this one
abbrev pub member_in : List ℕ → Option ℕ → List Mark → ℕ → NodeId → List ℕ
member_in label found marks group node = if option_map_or (λ other. other == group) found false then label ++ mark_text (mark_in marks node) else []

-- a node with its mark, if it is in this group of the application's list
abbrev pub member_text : Table → AppId → List Mark → ℕ → NodeId → List ℕ
member_text table app marks group node = member_in (label_text table node) (group_of table app node) marks group node

-- the nodes of a group in the order of their names, given the labels and the groups of all nodes
abbrev pub group_in : Table → List (List ℕ) → List (Option ℕ) → List Mark → ℕ → List ℕ
group_in table labels groups marks group =
    flat_map (λ node. member_in (slice_index_or labels node.0 []) (slice_index_or groups node.0 None) marks group node) (nodes_of table)

-- the nodes of one group of the application's list, in the order of their names
abbrev pub group_text : Table → AppId → List Mark → ℕ → List ℕ
group_text table app marks group = flat_map (member_text table app marks group) (nodes_of table)

-- the nodes of the application's list, group by group; there are at most as many groups as nodes
abbrev pub list_text : Table → AppId → List Mark → List ℕ
list_text table app marks =
    codes "list" ++ (flat_map (group_text table app marks) (range_with_len 0 MAX_NODES) ++ codes "\n")

-- ---- the page

abbrev pub counts_text : ℕ → ℕ → List ℕ
counts_text heard known = codes "heard " ++ (decimal heard ++ (codes " known " ++ (decimal known ++ codes "\n")))

-- the line of a node, from the lives of all nodes and whether each is drained
abbrev pub node_line : Table → List (Option Life) → List Bool → NodeId → List ℕ
node_line table lives drained node =
    life_text (node_name table node) (slice_index_or lives node.0 None) (slice_index_or drained node.0 false)

-- the two lines of an application
abbrev pub summary_text : Table → AppId → AppSummary → List ℕ
summary_text table app summary =
    standing_text table app summary.claim summary.verdict ++ list_text table app summary.marks

-- the lines of an application, from the summaries of all
unfoldable pub app_lines : Table → List AppSummary → AppId → List ℕ
app_lines table apps app = summary_text table app (slice_index_or apps app.0 no_app)

-- how much was heard, then each node by name, then each application in the order of the configuration file
abbrev pub page_text : Table → Summary → List ℕ
page_text table summary =
    counts_text summary.heard summary.known ++ (flat_map (node_line table summary.lives summary.drained) (nodes_of table) ++ flat_map (app_lines table summary.apps) (apps_of table))
