-- The worked run: the node knows of its boot alone, so that the lists of its state have one item or none.
use Rattle.std.specs.Prelude.{◌≡◌, ℕ, zero, suc, ◌<◌, ◌^◌, Bool, true, false, cond, not, List, [], ◌∷◌, length, Option, None, Some, Result, Ok, refl}
use Rattle.std.proofs.Common.{sym, ap, subst, ◌∙◌, inl, arith}
use Rattle.dac_in_form.proofs.Common.{◌&&◌, nat_lt, Ordering, IsTotalOrder, AllByRecursion, slice_get, option_map, CmpEqualImpliesEq, NodeId, Dot, Dots, origin_cmp, in_order, origins_total, exact_origins, Row, rows_of, dots_in, dots_in_row, one_to, kept_are, Life, Key, key_cmp, keys_total, exact_keys, Write, writes_total, exact_writes, writes_of, AreStarts, dots_stored, starts_again, DotFlags, AreKeyedVotes, votes_of, votes_again, votes_stored, Operation, StateValue, meaning_of, heard_of, known_of, permits_of, starts_of, is_replaced, Position, Message, Ship, WorldEvent, UnknownNode, UpToDate, refusal_of, ModelNode, ModelRunning, joined, running_shown, shown, message_of, up, comes_up, step_by, ModelWorld, Run, start, happens, answered_by, ContextFits, VotesFit, StartsFit, StateFits, BodyFits, first_origin, second_origin, worked_table}
use Rattle.std.proofs.lemmas.Bool.{le-ltb}
use Rattle.std.specs.Option.{option_and_then}
use Rattle.std.specs.FinSet as set
use Rattle.std.specs.FinMap as map
use Rattle.dac_meaning.specs.Meaning.{standing_drains}
use Rattle.dac_meaning.specs.laws.StateLaws.{bottom-join}
use Rattle.dac_meaning.specs.laws.Joins.{meaning-state}
use Rattle.dac_peers.specs.Peers.{no_peers, acked_by, acked_at, kept_from, begins, has_all}
use Rattle.dac_messages.specs.declared.reply.Reply.{Reply}
use Rattle.dac_messages.specs.declared.reply.Reply.TheVariants.{Booted, Shipped}
use Rattle.dac_events.specs.declared.What.TheVariants.{Ship as Shipping}
use Rattle.dac_events.specs.declared.world_fault.WorldFault.{WorldFault}
use Rattle.dac_events.specs.declared.refusal.Refusal.{Refusal}
use Rattle.dac_events.specs.declared.refusal.Refusal.TheVariants.{OnSelf}
use Rattle.dac_commands.specs.Causes.{first}
use Rattle.dac_model_node.specs.NodeValue.{RunningValue}
use Rattle.dac_model_node.specs.Transitions.{body_from}
use Rattle.dac_model_world.specs.Histories.{off_after}
use Rattle.dac_model_world.specs.ModelWorld.{WorldStepped, Shows, numbered}
use Rattle.dac_model_world.specs.WorldValue.{WorldValue}
use Rattle.dac_in_form.specs.WorkedRun.{boot_and_ship, RunsCanFit}
use Rattle.dac_in_form.proofs.WorkedState.{plain, in_order_none}

-- ---- the state

abbrev the_boot : Operation
the_boot = up first_origin

abbrev booted_set : List Operation
booted_set = the_boot ∷ []

abbrev the_rows : List Row
the_rows = (record { origin = first_origin; upto = 1; further = [] }) ∷ []

rows_are : rows_of (dots_in the_rows) ≡ the_rows
rows_are = kept_are the_rows (record { each = ((plain first_origin 1, inl (omega arith)), tt); rising = refl })

dots_fit : ContextFits (dots_in the_rows)
dots_fit = record {
  origins = subst (λ (rows : List Row). length rows < 2 ^ 16) (sym rows_are) (omega arith);
  further = subst (AllByRecursion (λ (row : Row). length row.further < 2 ^ 32)) (sym rows_are) (omega arith, tt);
}

heard_are : dots_in the_rows ≡ heard_of booted_set
unfolding dots_in dots_in_row one_to
heard_are = refl

known_are : dots_in the_rows ≡ known_of booted_set
unfolding dots_in dots_in_row one_to
known_are = refl

module _ {K : Type 0} {R : K → K → Ordering} (total : IsTotalOrder R) (exact : CmpEqualImpliesEq R) where
  none_kept : AreKeyedVotes R []
  none_kept = record { in_order = tt; stores = λ k. tt }

  no_votes_fit : VotesFit R (votes_of R [])
  no_votes_fit = record {
    keys = subst (λ (m : List (K × DotFlags)). length m < 2 ^ 32) (sym (votes_again total exact [] none_kept)) (omega arith);
    dots = λ k. subst (λ (ps : DotFlags). length ps < 2 ^ 32) (votes_stored total exact [] none_kept k) (omega arith);
  }

permits_are : votes_of key_cmp [] ≡ permits_of booted_set
unfolding votes_of
permits_are = refl

drains_are : votes_of origin_cmp [] ≡ standing_drains booted_set
unfolding votes_of
drains_are = refl

none_started : AreStarts []
none_started = record { in_order = tt; stores = λ k. tt }

starts_are : writes_of [] ≡ starts_of booted_set
unfolding writes_of
starts_are = set.same_set writes_total exact_writes set.empty (starts_of booted_set) (λ w.
    set.contains-empty _ w
    ∙ sym (set.contains-retain set.empty (λ (v : Write). not (is_replaced v.dot booted_set)) w (λ x e. refl) ∙ ap (λ b. b && true) (set.contains-empty _ w)))

starts_fit : StartsFit (writes_of [])
starts_fit = record {
  keys = subst (λ (m : List (Key × Dots)). length m < 2 ^ 32) (sym (starts_again [] none_started)) (omega arith);
  dots = λ k. subst (λ (ds : Dots). length (in_order ds) < 2 ^ 32) (dots_stored [] tt k) (subst (λ (ds : List Dot). length ds < 2 ^ 32) (sym in_order_none) (omega arith));
}

meaning_fits : StateFits (meaning_of booted_set)
unfolding meaning_of
meaning_fits = record {
  heard = subst ContextFits heard_are dots_fit;
  known = subst ContextFits known_are dots_fit;
  permits = subst (VotesFit key_cmp) permits_are (no_votes_fit keys_total exact_keys);
  starts = subst StartsFit starts_are starts_fit;
  drains = subst (VotesFit origin_cmp) drains_are (no_votes_fit origins_total exact_origins);
}

abbrev booted : ModelRunning
booted = comes_up first_origin 0

state_fits : StateFits (joined booted.log)
state_fits = subst StateFits (sym (bottom-join (meaning_of booted_set) (meaning-state booted_set))) meaning_fits

-- ---- the ship

acked_none : (s : StateValue) (to : NodeId) → acked_at no_peers s to ≡ None
acked_none s to = by_life (map.get s.lives to)
  where
    by_life : (o : Option Life) → option_and_then (acked_by no_peers to) o ≡ None
    by_life None = refl
    by_life (Some life) = ap (option_map (λ (n : ℕ). record { inc = life.inc; number = n })) (map.get-empty origin_cmp (record { node = to; inc = life.inc }))

abbrev showing : RunningValue
showing = running_shown worked_table booted

-- the node has no position from which an interval can begin
begins_none : begins no_peers showing.state 0 second_origin.node ≡ None
begins_none = ap (kept_from 0) (acked_none showing.state second_origin.node)

abbrev booted_node : ModelNode
booted_node = record { last = 1; running = Some booted }

accepts : refusal_of worked_table (shown worked_table booted_node) (Ship second_origin.node) ≡ None
accepts = ap (λ (p : Option Position). first ((false, UnknownNode) ∷ (false, OnSelf) ∷ (has_all 1 p && not (set.contains no_peers.owed second_origin.node), UpToDate) ∷ [])) begins_none

abbrev sent : Message
sent = message_of showing second_origin.node

body_fits : BodyFits sent.body
body_fits = subst (λ (p : Option Position). BodyFits (body_from showing p)) (sym begins_none) state_fits

-- ---- the run

abbrev shipped_node : ModelNode
shipped_node = (step_by None worked_table first_origin.node booted_node (Ship second_origin.node)).node

abbrev booted_world : ModelWorld
booted_world = (answered_by (start worked_table) first_origin.node booted_node (Ok (Booted the_boot))).world

abbrev by_ship : WorldStepped
by_ship = answered_by booted_world first_origin.node shipped_node (Ok (Shipped sent))

abbrev the_ship : WorldEvent
the_ship = record { node = first_origin.node; what = Shipping second_origin.node }

ships : happens worked_table booted_world the_ship ≡ by_ship
ships = ap (λ (why : Option Refusal). answered_by booted_world first_origin.node (step_by why worked_table first_origin.node booted_node (Ship second_origin.node)).node (step_by why worked_table first_origin.node booted_node (Ship second_origin.node)).answer) accepts

abbrev answers : List (Result Reply WorldFault)
answers = Ok (Booted the_boot) ∷ Ok (Shipped sent) ∷ []

run : Run worked_table (start worked_table) boot_and_ship answers by_ship.world
run = ((inl refl, (inl (sym (ap (λ (by : WorldStepped). by.answer) ships)), tt)), sym (ap (λ (by : WorldStepped). by.world) ships))

abbrev world : WorldValue
world = record {
  nodes = shown worked_table shipped_node ∷ shown worked_table (off_after 0) ∷ [];
  operations = the_boot ∷ [];
  messages = sent ∷ [];
}

shows : Shows worked_table by_ship.world world
shows = record { count = refl; nodes = each; operations = refl; messages = refl }
  where
    each : (n : ℕ) → slice_get world.nodes n ≡ cond (nat_lt n 2) (Some (shown worked_table (by_ship.world.node (numbered n)))) None
    each zero = refl
    each (suc zero) = refl
    each (suc (suc n)) = sym (ap (λ (b : Bool). cond b (Some (shown worked_table (by_ship.world.node (numbered (suc (suc n)))))) None) (le-ltb (suc (suc n)) 2 (omega arith)))

pub runs_can_fit : RunsCanFit
runs_can_fit = record {
  answers = answers;
  world = world;
  ran = record { final = by_ship.world; run = run; shows = shows };
  state = joined booted.log;
  holds = record { node = shown worked_table shipped_node; there = refl; state = refl };
  state_fits = state_fits;
  message = sent;
  shipped = refl;
  body_fits = body_fits;
}
