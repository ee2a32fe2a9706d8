-- The nodes of a list, group by group.
use Rattle.std.proofs.Common.{◌≡◌, ℕ, Bool, true, false, ◌+◌, ◌-◌, ◌<◌, ◌≤◌, ◌==◌, List, [], ◌++◌, Option, Some, None, get_or, cond, refl, sym, ap, ap₂, ◌∙◌, arith, append-nil}
use Rattle.dac_status.proofs.Common.{eq-eqb, MAX_NODES, NodeId, AppId, Table, group_of, node_count, Mark, label_text, labels_of, member_in, group_in, group_text, IsNext}
use Rattle.std.proofs.lemmas.Map.Views.{exact_unsigned_eq}
use Rattle.dac_status.specs.Texts.{mark_text, mark_in, member_text, groups_of}
use Rattle.dac_status.proofs.Places.{node_numbered, placed_at, listed_at}
use Rattle.dac_status.proofs.Lines.{texts, put_more, texts_end, same_texts}

member_none : (label : List ℕ) (found : Option ℕ) (marks : List Mark) (group : ℕ) (node : NodeId) → (found ≡ Some group → ⊥) → member_in label found marks group node ≡ []
member_none label None marks group node other = refl
member_none label (Some found) marks group node other = by (found == group) refl
  where
    by : (b : Bool) → found == group ≡ b → cond b (label ++ mark_text (mark_in marks node)) [] ≡ []
    by true e = absurd (other (ap (λ n. Some n) (exact_unsigned_eq found group e)))
    by false e = refl

member_there : (label : List ℕ) (found : Option ℕ) (marks : List Mark) (group : ℕ) (node : NodeId) → found ≡ Some group → member_in label found marks group node ≡ label ++ mark_text (mark_in marks node)
member_there label found marks group node at =
    ap (λ other. member_in label other marks group node) at ∙ ap (λ b. cond b (label ++ mark_text (mark_in marks node)) []) (eq-eqb group group refl)

module _ (labels : List (List ℕ)) (groups : List (Option ℕ)) (marks : List Mark) (group : ℕ) where
  abbrev member : NodeId → List ℕ
  member node = member_in (get_or labels node.0 []) (get_or groups node.0 None) marks group node

  -- nodes that aren't in the group have no text
  pub members_end : (from to : ℕ) → from ≤ to → ((n : ℕ) → from ≤ n → n < to → get_or groups n None ≡ Some group → ⊥) → texts node_numbered member to ≡ texts node_numbered member from
  members_end from to le none =
      let all : to ≡ from + (to - from) = omega (arith, le) in
      ap (texts node_numbered member) all
      ∙ texts_end node_numbered member from (to - from) (λ n low high. member_none (get_or labels n []) (get_or groups n None) marks group (node_numbered n) (none n low (omega (arith, low, high))))

  -- a node of the group is appended, and the nodes up to the next one have no text
  pub members_more : (count number next : ℕ) → get_or groups number None ≡ Some group → IsNext groups count group (number + 1) next → (start old new : List ℕ) → old ≡ start ++ texts node_numbered member number
      → new ≡ old ++ (get_or labels number [] ++ mark_text (mark_in marks (node_numbered number))) → new ≡ start ++ texts node_numbered member next
  members_more count number next at is start old new so_far one =
      one ∙ ap (λ text. old ++ text) (sym (member_there (get_or labels number []) (get_or groups number None) marks group (node_numbered number) at))
      ∙ put_more node_numbered member number start old so_far
      ∙ ap (λ text. start ++ text) (sym (members_end (number + 1) next is.past is.none))

  pub members_begin : (count next : ℕ) → IsNext groups count group 0 next → (start : List ℕ) → start ≡ start ++ texts node_numbered member next
  members_begin count next is start = sym (ap (λ text. start ++ text) (members_end 0 next is.past is.none) ∙ append-nil start)

-- a group that has no node has no text
group_none : (t : Table) (labels : List (List ℕ)) (groups : List (Option ℕ)) (marks : List Mark) (group : ℕ) → ((n : ℕ) → n < node_count t → get_or groups n None ≡ Some group → ⊥) → group_in t labels groups marks group ≡ []
group_none t labels groups marks group none = members_end labels groups marks group 0 (node_count t) (omega arith) (λ n low high. none n high)

group_is : (t : Table) (app : AppId) (marks : List Mark) (group : ℕ) → group_in t (labels_of t) (groups_of t app) marks group ≡ group_text t app marks group
group_is t app marks group =
    same_texts node_numbered (λ node. member_in (get_or (labels_of t) node.0 []) (get_or (groups_of t app) node.0 None) marks group node) (member_text t app marks group) (node_count t) (node_count t) (omega arith)
    (λ n lt. ap₂ (λ label found. member_in label found marks group (node_numbered n))
    (listed_at [] node_numbered (label_text t) (node_count t) n lt)
    (placed_at MAX_NODES None node_numbered (group_of t app) (node_count t) n lt))

-- groups after the last one that has a node have no text
pub list_is : (t : Table) (app : AppId) (marks : List Mark) (groups : List (Option ℕ)) (count : ℕ) → groups ≡ groups_of t app → count ≤ MAX_NODES
    → ((node group : ℕ) → node < node_count t → group < MAX_NODES → get_or groups node None ≡ Some group → group < count)
    → texts (λ n. n) (group_in t (labels_of t) groups marks) count ≡ texts (λ n. n) (group_text t app marks) MAX_NODES
list_is t app marks groups count are few has =
    let left = MAX_NODES - count in
    let labels = labels_of t in
    let all : count + left ≡ MAX_NODES = omega (arith, few) in
    sym (texts_end (λ n. n) (group_in t labels groups marks) count left (λ group le lt. group_none t labels groups marks group (λ n inside at. omega (arith, le, has n group inside (omega (arith, lt, few)) at))))
    ∙ ap (texts (λ n. n) (group_in t labels groups marks)) all
    ∙ ap (λ gs. texts (λ n. n) (group_in t labels gs marks) MAX_NODES) are
    ∙ same_texts (λ n. n) (group_in t labels (groups_of t app) marks) (group_text t app marks) MAX_NODES MAX_NODES (omega arith) (λ group lt. group_is t app marks group)
