-- The worked run with a loss: the world is ready after two nodes have noted the loss, and their round fails over.
use Rattle.std.proofs.Common.{◌≡◌, append-nil, ℕ, ◌+◌, ◌≤◌, Bool, true, false, not, cond, ◌||◌, ◌&&◌, List, [], ◌∷◌, ◌++◌, length, Option, Some, None, option_map, Ok, refl, sym, ap, subst, ◌∙◌, arith, inl, inr}
use Rattle.dac_settle.specs.laws.Common.{nat_lt, IsSome, option_map_or, option_and_then, true≢false, NodeId, MAX_COUNTER, Operation, StateValue, join, AreOperationsOf, meaning_of, meaning-same, starts-meaning, dot, write, DistinctDots-agree, app_count, is_up, key_at, Failover, up_is, is_due_by, noted_at, Note, IsLost, waits_of, Noted, kept_is, WorldEvent, Hand, Boot, Crash, HearOp, Booted, Issued, Refusal, DeclaredDown, MomentBack, DotsUsedUp, greatest_counter, terms_used_up, Sweep, sweep_of, sweep_from, claim_of, is_mine, is_mine_by, ModelNode, ModelRunning, joined, shown, base_after, refusal_of, meanings, step_by, off_after, ModelWorld, AnsweredAs, happens, answered_by, world_after, NodeSet, SetWorld, no_sets, set_run, Sound, sound_run, sound_start, members_of, AreRounds, EndsInRounds, first_node, second_node, IsEither, the_app, worked_table, first_of, up_of, both_go_round, lost_node, lost_claim}
use Rattle.std.specs.Prelude.{nat_eq, ◌==◌}
use Rattle.std.specs.Option.{is_some}
use Rattle.std.proofs.lemmas.Bool.{false_from_ne_true}
use Rattle.std.proofs.lemmas.List.{length-append}
use Rattle.dac_chains.specs.declared.claims.Claim.{Claim}
use Rattle.dac_decide.specs.FailoverWait.{is_over_at, lost_in, lost_if, since_of, is_same, noted_of}
use Rattle.dac_events.specs.declared.Command.TheVariants.{Start}
use Rattle.dac_events.specs.declared.What.TheVariants.{Boot as Booting, Crash as Crashing, Command as Telling, Tick as Ticking}
use Rattle.dac_messages.specs.declared.event.Event.TheVariants.{Command as Commanded, Tick}
use Rattle.dac_messages.specs.declared.reply.Reply.TheVariants.{Crashed, Ticked}
use Rattle.dac_commands.specs.Causes.{first}
use Rattle.dac_model_world.specs.ModelWorld.{Run}
use Rattle.dac_settle.specs.Settling.{IsReady}
use Rattle.dac_settle.specs.WorkedLoss.{losing, RunsCanFailOver}
use Rattle.dac_settle.specs.laws.WorldsSettle.{worlds_settle}
use Rattle.dac_settle.proofs.ComingUp.{CanClaim, start_at, started_op, booted, starts_on, begun, begun_log, begun_node, ticks_alone, sweep_alone}
use Rattle.dac_settle.proofs.Handed.{Answer, w0, pushed, known_there, run_of, waiting, with_op, base_with, hearing, few_by, longer, hears_op, wide}
use Rattle.dac_settle.proofs.Losing.{claiming, loss_set, loss_state, loss_note, is_live, only_live, late, claimed, is_lost, few, up_there, terms_left, mine, claims_it, verdict_is, the_claim, fails_over}
use Rattle.dac_settle.proofs.RoundOfTwo.{happens_so, is_ready, told, sweep, sweep_is, the_rounds}

-- ---- the events before operations are handed
abbrev w1 : ModelWorld
w1 = (answered_by w0 lost_node (booted lost_node) (Ok (Booted (up_of lost_node)))).world

run1 : Run worked_table w0 ((record { node = lost_node; what = Booting 0 }) ∷ []) (Ok (Booted (up_of lost_node)) ∷ []) w1
run1 = pushed w0 [] [] (record { node = lost_node; what = Booting 0 }) (booted lost_node) (Booted (up_of lost_node)) (tt, refl) (happens_so w0 lost_node (Booting 0) (Boot 0) refl refl refl)

abbrev w2 : ModelWorld
w2 = (answered_by w1 lost_node (begun_node lost_node (start_at lost_node)) (Ok (Issued (start_at lost_node)))).world

is2 : happens worked_table w1 (record { node = lost_node; what = Telling (Start the_app lost_node) }) ≡ answered_by w1 lost_node (begun_node lost_node (start_at lost_node)) (Ok (Issued (start_at lost_node)))
is2 =
    happens_so w1 lost_node (Telling (Start the_app lost_node)) (Commanded (Start the_app lost_node)) refl refl (starts_on lost_node refl refl)
    ∙ ap (λ (o : Operation). answered_by w1 lost_node (begun_node lost_node o) (Ok (Issued o))) (started_op lost_node)

lost_can : CanClaim lost_node
lost_can = record {
  there = omega arith;
  listed = refl;
  started = (dot (first_of lost_node) 2, starts-meaning (begun lost_node) (write (key_at the_app lost_node 1) (dot (first_of lost_node) 2)));
  agree = DistinctDots-agree (begun lost_node) (refl, (refl, tt));
}

abbrev d3 : ModelNode
d3 = (step_by None worked_table lost_node (begun_node lost_node (start_at lost_node)) (Tick 0)).node

abbrev w3 : ModelWorld
w3 = (answered_by w2 lost_node d3 (Ok (Ticked (claiming ∷ []) []))).world

is3 : happens worked_table w2 (record { node = lost_node; what = Ticking 0 }) ≡ answered_by w2 lost_node d3 (Ok (Ticked (claiming ∷ []) []))
is3 = happens_so w2 lost_node (Ticking 0) (Tick 0) refl refl (ticks_alone lost_node lost_can) ∙ ap (λ (u : Sweep). answered_by w2 lost_node d3 (Ok (Ticked u.ops u.passed))) (sweep_alone lost_node lost_can)

abbrev gone : ModelNode
gone = record { last = 1; running = None }

abbrev w4 : ModelWorld
w4 = (answered_by w3 lost_node gone (Ok Crashed)).world

is4 : happens worked_table w3 (record { node = lost_node; what = Crashing }) ≡ answered_by w3 lost_node gone (Ok Crashed)
is4 = happens_so w3 lost_node Crashing Crash refl refl refl

-- ---- each of the others boots and requests a start
abbrev w5 : ModelWorld
w5 = (answered_by w4 first_node (booted first_node) (Ok (Booted (up_of first_node)))).world

is5 : happens worked_table w4 (record { node = first_node; what = Booting 0 }) ≡ answered_by w4 first_node (booted first_node) (Ok (Booted (up_of first_node)))
is5 = happens_so w4 first_node (Booting 0) (Boot 0) refl refl refl

abbrev w6 : ModelWorld
w6 = (answered_by w5 first_node (begun_node first_node (start_at first_node)) (Ok (Issued (start_at first_node)))).world

is6 : happens worked_table w5 (record { node = first_node; what = Telling (Start the_app first_node) }) ≡ answered_by w5 first_node (begun_node first_node (start_at first_node)) (Ok (Issued (start_at first_node)))
is6 =
    happens_so w5 first_node (Telling (Start the_app first_node)) (Commanded (Start the_app first_node)) refl refl (starts_on first_node refl refl)
    ∙ ap (λ (o : Operation). answered_by w5 first_node (begun_node first_node o) (Ok (Issued o))) (started_op first_node)

abbrev w7 : ModelWorld
w7 = (answered_by w6 second_node (booted second_node) (Ok (Booted (up_of second_node)))).world

is7 : happens worked_table w6 (record { node = second_node; what = Booting 0 }) ≡ answered_by w6 second_node (booted second_node) (Ok (Booted (up_of second_node)))
is7 = happens_so w6 second_node (Booting 0) (Boot 0) refl refl refl

abbrev w8 : ModelWorld
w8 = (answered_by w7 second_node (begun_node second_node (start_at second_node)) (Ok (Issued (start_at second_node)))).world

is8 : happens worked_table w7 (record { node = second_node; what = Telling (Start the_app second_node) }) ≡ answered_by w7 second_node (begun_node second_node (start_at second_node)) (Ok (Issued (start_at second_node)))
is8 =
    happens_so w7 second_node (Telling (Start the_app second_node)) (Commanded (Start the_app second_node)) refl refl (starts_on second_node refl refl)
    ∙ ap (λ (o : Operation). answered_by w7 second_node (begun_node second_node o) (Ok (Issued o))) (started_op second_node)

-- ---- handed operations
-- each is handed the claim, and the operations of the other
abbrev other_of : NodeId → NodeId
other_of n = cond (nat_eq n.0 0) second_node first_node

abbrev log0 : NodeId → List StateValue
log0 n = begun_log n

abbrev log1 : NodeId → List StateValue
log1 n = with_op (log0 n) claiming

abbrev log2 : NodeId → List StateValue
log2 n = with_op (log1 n) (up_of (other_of n))

abbrev log3 : NodeId → List StateValue
log3 n = with_op (log2 n) (start_at (other_of n))

abbrev base0 : ℕ
base0 = base_after 0 2 0

abbrev base1 : NodeId → ℕ
base1 n = base_with base0 (log0 n) claiming

abbrev base2 : NodeId → ℕ
base2 n = base_with (base1 n) (log1 n) (up_of (other_of n))

abbrev base3 : NodeId → ℕ
base3 n = base_with (base2 n) (log2 n) (start_at (other_of n))

short1 : (n : NodeId) → length (log1 n) ≤ 3
short1 n = longer (log0 n) claiming

short2 : (n : NodeId) → length (log2 n) ≤ 4
short2 n = let l = longer (log1 n) (up_of (other_of n)) in let k = short1 n in omega arith

short3 : (n : NodeId) → length (log3 n) ≤ 5
short3 n = let l = longer (log2 n) (start_at (other_of n)) in let k = short2 n in omega arith

abbrev w9 : ModelWorld
w9 = (answered_by w8 first_node (waiting first_node (log1 first_node) (base1 first_node)) (Ok (hearing (log0 first_node) claiming))).world

is9 : happens worked_table w8 (record { node = first_node; what = Hand 3 }) ≡ answered_by w8 first_node (waiting first_node (log1 first_node) (base1 first_node)) (Ok (hearing (log0 first_node) claiming))
is9 = happens_so w8 first_node (Hand 3) (HearOp claiming) refl refl (hears_op first_node false [] (log0 first_node) base0 claiming (omega arith))

abbrev w10 : ModelWorld
w10 = (answered_by w9 first_node (waiting first_node (log2 first_node) (base2 first_node)) (Ok (hearing (log1 first_node) (up_of second_node)))).world

is10 : happens worked_table w9 (record { node = first_node; what = Hand 6 }) ≡ answered_by w9 first_node (waiting first_node (log2 first_node) (base2 first_node)) (Ok (hearing (log1 first_node) (up_of second_node)))
is10 = happens_so w9 first_node (Hand 6) (HearOp (up_of second_node)) refl refl (hears_op first_node false [] (log1 first_node) (base1 first_node) (up_of second_node) (wide (length (log1 first_node)) 3 (short1 first_node) (omega arith)))

abbrev w11 : ModelWorld
w11 = (answered_by w10 first_node (waiting first_node (log3 first_node) (base3 first_node)) (Ok (hearing (log2 first_node) (start_at second_node)))).world

is11 : happens worked_table w10 (record { node = first_node; what = Hand 7 }) ≡ answered_by w10 first_node (waiting first_node (log3 first_node) (base3 first_node)) (Ok (hearing (log2 first_node) (start_at second_node)))
is11 = happens_so w10 first_node (Hand 7) (HearOp (start_at second_node)) refl refl (hears_op first_node false [] (log2 first_node) (base2 first_node) (start_at second_node) (wide (length (log2 first_node)) 4 (short2 first_node) (omega arith)))

abbrev w12 : ModelWorld
w12 = (answered_by w11 second_node (waiting second_node (log1 second_node) (base1 second_node)) (Ok (hearing (log0 second_node) claiming))).world

is12 : happens worked_table w11 (record { node = second_node; what = Hand 3 }) ≡ answered_by w11 second_node (waiting second_node (log1 second_node) (base1 second_node)) (Ok (hearing (log0 second_node) claiming))
is12 = happens_so w11 second_node (Hand 3) (HearOp claiming) refl refl (hears_op second_node false [] (log0 second_node) base0 claiming (omega arith))

abbrev w13 : ModelWorld
w13 = (answered_by w12 second_node (waiting second_node (log2 second_node) (base2 second_node)) (Ok (hearing (log1 second_node) (up_of first_node)))).world

is13 : happens worked_table w12 (record { node = second_node; what = Hand 4 }) ≡ answered_by w12 second_node (waiting second_node (log2 second_node) (base2 second_node)) (Ok (hearing (log1 second_node) (up_of first_node)))
is13 = happens_so w12 second_node (Hand 4) (HearOp (up_of first_node)) refl refl (hears_op second_node false [] (log1 second_node) (base1 second_node) (up_of first_node) (wide (length (log1 second_node)) 3 (short1 second_node) (omega arith)))

abbrev w14 : ModelWorld
w14 = (answered_by w13 second_node (waiting second_node (log3 second_node) (base3 second_node)) (Ok (hearing (log2 second_node) (start_at first_node)))).world

is14 : happens worked_table w13 (record { node = second_node; what = Hand 5 }) ≡ answered_by w13 second_node (waiting second_node (log3 second_node) (base3 second_node)) (Ok (hearing (log2 second_node) (start_at first_node)))
is14 = happens_so w13 second_node (Hand 5) (HearOp (start_at first_node)) refl refl (hears_op second_node false [] (log2 second_node) (base2 second_node) (start_at first_node) (wide (length (log2 second_node)) 4 (short2 second_node) (omega arith)))

-- ---- the run so far
abbrev e1 : WorldEvent
e1 = record { node = lost_node; what = Booting 0 }

abbrev a1 : Answer
a1 = Ok (Booted (up_of lost_node))

abbrev e2 : WorldEvent
e2 = record { node = lost_node; what = Telling (Start the_app lost_node) }

abbrev a2 : Answer
a2 = Ok (Issued (start_at lost_node))

abbrev e3 : WorldEvent
e3 = record { node = lost_node; what = Ticking 0 }

abbrev a3 : Answer
a3 = Ok (Ticked (claiming ∷ []) [])

abbrev e4 : WorldEvent
e4 = record { node = lost_node; what = Crashing }

abbrev a4 : Answer
a4 = Ok Crashed

abbrev e5 : WorldEvent
e5 = record { node = first_node; what = Booting 0 }

abbrev a5 : Answer
a5 = Ok (Booted (up_of first_node))

abbrev e6 : WorldEvent
e6 = record { node = first_node; what = Telling (Start the_app first_node) }

abbrev a6 : Answer
a6 = Ok (Issued (start_at first_node))

abbrev e7 : WorldEvent
e7 = record { node = second_node; what = Booting 0 }

abbrev a7 : Answer
a7 = Ok (Booted (up_of second_node))

abbrev e8 : WorldEvent
e8 = record { node = second_node; what = Telling (Start the_app second_node) }

abbrev a8 : Answer
a8 = Ok (Issued (start_at second_node))

abbrev e9 : WorldEvent
e9 = record { node = first_node; what = Hand 3 }

abbrev a9 : Answer
a9 = Ok (hearing (log0 first_node) claiming)

abbrev e10 : WorldEvent
e10 = record { node = first_node; what = Hand 6 }

abbrev a10 : Answer
a10 = Ok (hearing (log1 first_node) (up_of second_node))

abbrev e11 : WorldEvent
e11 = record { node = first_node; what = Hand 7 }

abbrev a11 : Answer
a11 = Ok (hearing (log2 first_node) (start_at second_node))

abbrev e12 : WorldEvent
e12 = record { node = second_node; what = Hand 3 }

abbrev a12 : Answer
a12 = Ok (hearing (log0 second_node) claiming)

abbrev e13 : WorldEvent
e13 = record { node = second_node; what = Hand 4 }

abbrev a13 : Answer
a13 = Ok (hearing (log1 second_node) (up_of first_node))

abbrev e14 : WorldEvent
e14 = record { node = second_node; what = Hand 5 }

abbrev a14 : Answer
a14 = Ok (hearing (log2 second_node) (start_at first_node))

run2 : Run worked_table w0 (e1 ∷ e2 ∷ []) (a1 ∷ a2 ∷ []) w2
run2 = pushed w1 (e1 ∷ []) (a1 ∷ []) e2 (begun_node lost_node (start_at lost_node)) (Issued (start_at lost_node)) run1 is2

run3 : Run worked_table w0 (e1 ∷ e2 ∷ e3 ∷ []) (a1 ∷ a2 ∷ a3 ∷ []) w3
run3 = pushed w2 (e1 ∷ e2 ∷ []) (a1 ∷ a2 ∷ []) e3 d3 (Ticked (claiming ∷ []) []) run2 is3

run4 : Run worked_table w0 (e1 ∷ e2 ∷ e3 ∷ e4 ∷ []) (a1 ∷ a2 ∷ a3 ∷ a4 ∷ []) w4
run4 = pushed w3 (e1 ∷ e2 ∷ e3 ∷ []) (a1 ∷ a2 ∷ a3 ∷ []) e4 gone Crashed run3 is4

run5 : Run worked_table w0 (e1 ∷ e2 ∷ e3 ∷ e4 ∷ e5 ∷ []) (a1 ∷ a2 ∷ a3 ∷ a4 ∷ a5 ∷ []) w5
run5 = pushed w4 (e1 ∷ e2 ∷ e3 ∷ e4 ∷ []) (a1 ∷ a2 ∷ a3 ∷ a4 ∷ []) e5 (booted first_node) (Booted (up_of first_node)) run4 is5

run6 : Run worked_table w0 (e1 ∷ e2 ∷ e3 ∷ e4 ∷ e5 ∷ e6 ∷ []) (a1 ∷ a2 ∷ a3 ∷ a4 ∷ a5 ∷ a6 ∷ []) w6
run6 = pushed w5 (e1 ∷ e2 ∷ e3 ∷ e4 ∷ e5 ∷ []) (a1 ∷ a2 ∷ a3 ∷ a4 ∷ a5 ∷ []) e6 (begun_node first_node (start_at first_node)) (Issued (start_at first_node)) run5 is6

run7 : Run worked_table w0 (e1 ∷ e2 ∷ e3 ∷ e4 ∷ e5 ∷ e6 ∷ e7 ∷ []) (a1 ∷ a2 ∷ a3 ∷ a4 ∷ a5 ∷ a6 ∷ a7 ∷ []) w7
run7 = pushed w6 (e1 ∷ e2 ∷ e3 ∷ e4 ∷ e5 ∷ e6 ∷ []) (a1 ∷ a2 ∷ a3 ∷ a4 ∷ a5 ∷ a6 ∷ []) e7 (booted second_node) (Booted (up_of second_node)) run6 is7

run8 : Run worked_table w0 (e1 ∷ e2 ∷ e3 ∷ e4 ∷ e5 ∷ e6 ∷ e7 ∷ e8 ∷ []) (a1 ∷ a2 ∷ a3 ∷ a4 ∷ a5 ∷ a6 ∷ a7 ∷ a8 ∷ []) w8
run8 = pushed w7 (e1 ∷ e2 ∷ e3 ∷ e4 ∷ e5 ∷ e6 ∷ e7 ∷ []) (a1 ∷ a2 ∷ a3 ∷ a4 ∷ a5 ∷ a6 ∷ a7 ∷ []) e8 (begun_node second_node (start_at second_node)) (Issued (start_at second_node)) run7 is8

run9 : Run worked_table w0 (e1 ∷ e2 ∷ e3 ∷ e4 ∷ e5 ∷ e6 ∷ e7 ∷ e8 ∷ e9 ∷ []) (a1 ∷ a2 ∷ a3 ∷ a4 ∷ a5 ∷ a6 ∷ a7 ∷ a8 ∷ a9 ∷ []) w9
run9 = pushed w8 (e1 ∷ e2 ∷ e3 ∷ e4 ∷ e5 ∷ e6 ∷ e7 ∷ e8 ∷ []) (a1 ∷ a2 ∷ a3 ∷ a4 ∷ a5 ∷ a6 ∷ a7 ∷ a8 ∷ []) e9 (waiting first_node (log1 first_node) (base1 first_node)) (hearing (log0 first_node) claiming) run8 is9

run10 : Run worked_table w0 (e1 ∷ e2 ∷ e3 ∷ e4 ∷ e5 ∷ e6 ∷ e7 ∷ e8 ∷ e9 ∷ e10 ∷ []) (a1 ∷ a2 ∷ a3 ∷ a4 ∷ a5 ∷ a6 ∷ a7 ∷ a8 ∷ a9 ∷ a10 ∷ []) w10
run10 = pushed w9 (e1 ∷ e2 ∷ e3 ∷ e4 ∷ e5 ∷ e6 ∷ e7 ∷ e8 ∷ e9 ∷ []) (a1 ∷ a2 ∷ a3 ∷ a4 ∷ a5 ∷ a6 ∷ a7 ∷ a8 ∷ a9 ∷ []) e10 (waiting first_node (log2 first_node) (base2 first_node)) (hearing (log1 first_node) (up_of second_node)) run9 is10

run11 : Run worked_table w0 (e1 ∷ e2 ∷ e3 ∷ e4 ∷ e5 ∷ e6 ∷ e7 ∷ e8 ∷ e9 ∷ e10 ∷ e11 ∷ []) (a1 ∷ a2 ∷ a3 ∷ a4 ∷ a5 ∷ a6 ∷ a7 ∷ a8 ∷ a9 ∷ a10 ∷ a11 ∷ []) w11
run11 = pushed w10 (e1 ∷ e2 ∷ e3 ∷ e4 ∷ e5 ∷ e6 ∷ e7 ∷ e8 ∷ e9 ∷ e10 ∷ []) (a1 ∷ a2 ∷ a3 ∷ a4 ∷ a5 ∷ a6 ∷ a7 ∷ a8 ∷ a9 ∷ a10 ∷ []) e11 (waiting first_node (log3 first_node) (base3 first_node)) (hearing (log2 first_node) (start_at second_node)) run10 is11

run12 : Run worked_table w0 (e1 ∷ e2 ∷ e3 ∷ e4 ∷ e5 ∷ e6 ∷ e7 ∷ e8 ∷ e9 ∷ e10 ∷ e11 ∷ e12 ∷ []) (a1 ∷ a2 ∷ a3 ∷ a4 ∷ a5 ∷ a6 ∷ a7 ∷ a8 ∷ a9 ∷ a10 ∷ a11 ∷ a12 ∷ []) w12
run12 = pushed w11 (e1 ∷ e2 ∷ e3 ∷ e4 ∷ e5 ∷ e6 ∷ e7 ∷ e8 ∷ e9 ∷ e10 ∷ e11 ∷ []) (a1 ∷ a2 ∷ a3 ∷ a4 ∷ a5 ∷ a6 ∷ a7 ∷ a8 ∷ a9 ∷ a10 ∷ a11 ∷ []) e12 (waiting second_node (log1 second_node) (base1 second_node)) (hearing (log0 second_node) claiming) run11 is12

run13 : Run worked_table w0 (e1 ∷ e2 ∷ e3 ∷ e4 ∷ e5 ∷ e6 ∷ e7 ∷ e8 ∷ e9 ∷ e10 ∷ e11 ∷ e12 ∷ e13 ∷ []) (a1 ∷ a2 ∷ a3 ∷ a4 ∷ a5 ∷ a6 ∷ a7 ∷ a8 ∷ a9 ∷ a10 ∷ a11 ∷ a12 ∷ a13 ∷ []) w13
run13 = pushed w12 (e1 ∷ e2 ∷ e3 ∷ e4 ∷ e5 ∷ e6 ∷ e7 ∷ e8 ∷ e9 ∷ e10 ∷ e11 ∷ e12 ∷ []) (a1 ∷ a2 ∷ a3 ∷ a4 ∷ a5 ∷ a6 ∷ a7 ∷ a8 ∷ a9 ∷ a10 ∷ a11 ∷ a12 ∷ []) e13 (waiting second_node (log2 second_node) (base2 second_node)) (hearing (log1 second_node) (up_of first_node)) run12 is13

run14 : Run worked_table w0 (e1 ∷ e2 ∷ e3 ∷ e4 ∷ e5 ∷ e6 ∷ e7 ∷ e8 ∷ e9 ∷ e10 ∷ e11 ∷ e12 ∷ e13 ∷ e14 ∷ []) (a1 ∷ a2 ∷ a3 ∷ a4 ∷ a5 ∷ a6 ∷ a7 ∷ a8 ∷ a9 ∷ a10 ∷ a11 ∷ a12 ∷ a13 ∷ a14 ∷ []) w14
run14 = pushed w13 (e1 ∷ e2 ∷ e3 ∷ e4 ∷ e5 ∷ e6 ∷ e7 ∷ e8 ∷ e9 ∷ e10 ∷ e11 ∷ e12 ∷ e13 ∷ []) (a1 ∷ a2 ∷ a3 ∷ a4 ∷ a5 ∷ a6 ∷ a7 ∷ a8 ∷ a9 ∷ a10 ∷ a11 ∷ a12 ∷ a13 ∷ []) e14 (waiting second_node (log3 second_node) (base3 second_node)) (hearing (log2 second_node) (start_at first_node)) run13 is14

abbrev es14 : List WorldEvent
es14 = e1 ∷ e2 ∷ e3 ∷ e4 ∷ e5 ∷ e6 ∷ e7 ∷ e8 ∷ e9 ∷ e10 ∷ e11 ∷ e12 ∷ e13 ∷ e14 ∷ []

abbrev as14 : List Answer
as14 = a1 ∷ a2 ∷ a3 ∷ a4 ∷ a5 ∷ a6 ∷ a7 ∷ a8 ∷ a9 ∷ a10 ∷ a11 ∷ a12 ∷ a13 ∷ a14 ∷ []

-- ---- the states of both nodes then
abbrev s14 : SetWorld
s14 = set_run no_sets es14 as14

abbrev holding : NodeId → List Operation
holding n = up_of n ∷ start_at n ∷ claiming ∷ up_of (other_of n) ∷ start_at (other_of n) ∷ []

abbrev holding_set : NodeId → NodeSet
holding_set n = record { inc = 1; operations = holding n }

-- two nodes hold the same operations in these orders
same_five : (a b c d e : Operation) → AreOperationsOf (a ∷ b ∷ c ∷ d ∷ e ∷ []) (d ∷ e ∷ c ∷ a ∷ b ∷ [])
same_five a b c d e o (inl x) = inr (inr (inr (inl x)))
same_five a b c d e o (inr (inl x)) = inr (inr (inr (inr (inl x))))
same_five a b c d e o (inr (inr (inl x))) = inr (inr (inl x))
same_five a b c d e o (inr (inr (inr (inl x)))) = inl x
same_five a b c d e o (inr (inr (inr (inr (inl x))))) = inr (inl x)
same_five a b c d e o (inr (inr (inr (inr (inr none))))) = absurd none

in_loss : AreOperationsOf (holding first_node) loss_set
in_loss o (inl x) = inl x
in_loss o (inr (inl x)) = inr (inr (inl x))
in_loss o (inr (inr (inl x))) = inr (inr (inr (inr (inl x))))
in_loss o (inr (inr (inr (inl x)))) = inr (inl x)
in_loss o (inr (inr (inr (inr (inl x))))) = inr (inr (inr (inl x)))
in_loss o (inr (inr (inr (inr (inr none))))) = absurd none

all_loss : AreOperationsOf loss_set (holding first_node)
all_loss o (inl x) = inl x
all_loss o (inr (inl x)) = inr (inr (inr (inl x)))
all_loss o (inr (inr (inl x))) = inr (inl x)
all_loss o (inr (inr (inr (inl x)))) = inr (inr (inr (inr (inl x))))
all_loss o (inr (inr (inr (inr (inl x))))) = inr (inr (inl x))
all_loss o (inr (inr (inr (inr (inr none))))) = absurd none

first_second : AreOperationsOf (holding first_node) (holding second_node)
first_second = same_five (up_of first_node) (start_at first_node) claiming (up_of second_node) (start_at second_node)

second_first : AreOperationsOf (holding second_node) (holding first_node)
second_first = same_five (up_of second_node) (start_at second_node) claiming (up_of first_node) (start_at first_node)

alike : (m n : NodeId) → IsEither m → IsEither n → AreOperationsOf (holding m) (holding n)
alike m n (inl a) (inl b) = subst (λ (k : NodeId × NodeId). AreOperationsOf (holding k.0) (holding k.1)) (λ i. (sym a i, sym b i)) (λ o x. x)
alike m n (inl a) (inr b) = subst (λ (k : NodeId × NodeId). AreOperationsOf (holding k.0) (holding k.1)) (λ i. (sym a i, sym b i)) first_second
alike m n (inr a) (inl b) = subst (λ (k : NodeId × NodeId). AreOperationsOf (holding k.0) (holding k.1)) (λ i. (sym a i, sym b i)) second_first
alike m n (inr a) (inr b) = subst (λ (k : NodeId × NodeId). AreOperationsOf (holding k.0) (holding k.1)) (λ i. (sym a i, sym b i)) (λ o x. x)

means : (n : NodeId) → IsEither n → meaning_of (holding n) ≡ loss_state
means n either =
    meaning-same (holding n) loss_set (λ o x. in_loss o (alike n first_node either (inl refl) o x)) (λ o x. alike first_node n (inl refl) either o (all_loss o x))

abbrev run_at : NodeId → ModelRunning
run_at n = run_of n false [] (log3 n) (base3 n)

sound14 : Sound w14 s14
sound14 = sound_run worked_table w0 no_sets es14 as14 w14 (sound_start worked_table) run14

known_at : (n : NodeId) → IsEither n → joined (log3 n) ≡ loss_state
known_at n either = elim either [
  | inl a ↦ subst (λ (k : NodeId). joined (log3 k) ≡ loss_state) (sym a) (known_there w14 s14 first_node (run_at first_node) (holding_set first_node) sound14 refl refl ∙ means first_node (inl refl))
  | inr b ↦ subst (λ (k : NodeId). joined (log3 k) ≡ loss_state) (sym b) (known_there w14 s14 second_node (run_at second_node) (holding_set second_node) sound14 refl refl ∙ means second_node (inr refl))
]

-- ---- each notes the loss, whose wait isn't over
few3 : (n : NodeId) → nat_lt MAX_COUNTER (length (log3 n) + 1) ≡ false
few3 n = few_by (length (log3 n)) (wide (length (log3 n)) 5 (short3 n) (omega arith))

ticks_first : (n : NodeId) → IsEither n → refusal_of worked_table (shown worked_table (waiting n (log3 n) (base3 n))) (Tick 0) ≡ None
ticks_first n either =
    (λ i. refused (not (is_up (known_at n either i) (first_of n))) (nat_lt MAX_COUNTER (greatest_counter (first_of n) (known_at n either i).known + 1)) (few3 n i))
    ∙ (λ i. refused (not (up_there n either i)) (few n either i) false)
  where
    refused : Bool → Bool → Bool → Option Refusal
    refused down used many = first ((down, DeclaredDown) ∷ (false, MomentBack) ∷ (used || many, DotsUsedUp) ∷ [])

lost_down : is_up loss_state (first_of lost_node) ≡ false
lost_down = false_from_ne_true (is_up loss_state (first_of lost_node)) (λ t. is_lost.down ((up_is loss_state (first_of lost_node)).0 t))

lost_is : lost_in loss_state the_app ≡ Some lost_claim
lost_is = ap (option_and_then (lost_if loss_state)) claimed ∙ ap (λ b. cond b None (Some lost_claim)) lost_down

and_none : (b : Bool) → (b && false) ≡ false
and_none true = refl
and_none false = refl

not_due : is_due_by worked_table (noted_of the_app (loss_note ∷ [])) loss_state the_app 0 (Failover first_node) ≡ false
not_due =
    (λ i. option_map_or (λ (claim : Claim). claim.origin.node.0 == first_node.0) (claimed i) false || is_over_at 5000 0 (lost_is i) (option_map (since_of None 0) (lost_is i)))
    ∙ and_none (is_same lost_claim lost_claim)

abbrev own_waits : List (Option Noted)
own_waits = waits_of worked_table (loss_note ∷ [])

not_mine : (n : NodeId) → is_mine worked_table (first_of n) own_waits 0 loss_state the_app ≡ false
not_mine n =
    let due : is_due_by worked_table (noted_at own_waits the_app) loss_state the_app 0 (Failover first_node) ≡ false =
    ap (λ noted. is_due_by worked_table noted loss_state the_app 0 (Failover first_node)) (kept_is worked_table (loss_note ∷ []) the_app (omega arith)) ∙ not_due in
    ap (is_mine_by worked_table (first_of n) own_waits 0 loss_state the_app) verdict_is
    ∙ (λ i. (first_node.0 == n.0) && due i)
    ∙ and_none (first_node.0 == n.0)

own_sweep_by : NodeId → StateValue → Sweep
own_sweep_by n u = sweep_of worked_table (first_of n) (waits_of worked_table (record { state = u; moment = 0 } ∷ [])) 0 u

claims_so : NodeId → Sweep
claims_so n = let o = claim_of worked_table (first_of n) loss_state the_app in record { ops = o ∷ []; passed = []; state = join loss_state (meaning_of (o ∷ [])) }

abbrev passes : Sweep
passes = record { ops = []; passed = the_app ∷ []; state = loss_state }

own_sweep : (n : NodeId) → IsEither n → sweep_of worked_table (first_of n) (waits_of worked_table (record { state = joined (log3 n); moment = 0 } ∷ [])) 0 (joined (log3 n)) ≡ sweep_from loss_state
unfolding own_sweep_by claims_so
own_sweep n either = (λ i. own_sweep_by n (known_at n either i)) ∙ (λ i. cond (not_mine n i) (cond (terms_used_up loss_state the_app) passes (claims_so n)) (sweep_from loss_state))

abbrev noting : NodeId → StateValue → Sweep → ModelNode
noting n s u = record { last = 1; running = Some (run_of n true (record { state = s; moment = 0 } ∷ []) (log3 n ++ meanings u.ops) (base_after (base3 n) (length (log3 n ++ meanings u.ops)) 0)) }

abbrev noted_node : NodeId → ModelNode
noted_node n = noting n loss_state (sweep_from loss_state)

abbrev w15 : ModelWorld
w15 = (answered_by w14 first_node (noted_node first_node) (Ok (Ticked [] []))).world

is15 : happens worked_table w14 (record { node = first_node; what = Ticking 0 }) ≡ answered_by w14 first_node (noted_node first_node) (Ok (Ticked [] []))
is15 =
    happens_so w14 first_node (Ticking 0) (Tick 0) refl refl (ticks_first first_node (inl refl))
    ∙ (λ i. answered_by w14 first_node (noting first_node (known_at first_node (inl refl) i) (own_sweep first_node (inl refl) i)) (Ok (Ticked (own_sweep first_node (inl refl) i).ops (own_sweep first_node (inl refl) i).passed)))

abbrev w16 : ModelWorld
w16 = (answered_by w15 second_node (noted_node second_node) (Ok (Ticked [] []))).world

is16 : happens worked_table w15 (record { node = second_node; what = Ticking 0 }) ≡ answered_by w15 second_node (noted_node second_node) (Ok (Ticked [] []))
is16 =
    happens_so w15 second_node (Ticking 0) (Tick 0) refl refl (ticks_first second_node (inr refl))
    ∙ (λ i. answered_by w15 second_node (noting second_node (known_at second_node (inr refl) i) (own_sweep second_node (inr refl) i)) (Ok (Ticked (own_sweep second_node (inr refl) i).ops (own_sweep second_node (inr refl) i).passed)))

abbrev the_replies : List Answer
the_replies = as14 ++ Ok (Ticked [] []) ∷ Ok (Ticked [] []) ∷ []

run16 : Run worked_table w0 losing the_replies w16
run16 =
    pushed w15 (es14 ++ record { node = first_node; what = Ticking 0 } ∷ []) (as14 ++ Ok (Ticked [] []) ∷ []) (record { node = second_node; what = Ticking 0 }) (noted_node second_node) (Ticked [] [])
    (pushed w14 es14 as14 (record { node = first_node; what = Ticking 0 }) (noted_node first_node) (Ticked [] []) run14 is15) is16

abbrev s16 : SetWorld
s16 = set_run no_sets losing the_replies

-- ---- no other node runs
sets_none : (a b c : Bool) (x14 x13 x12 x11 x10 x9 x8 x7 x6 x5 x3 x2 x1 : Option NodeSet) → a ≡ false → b ≡ false
    → cond b x14 (cond b x13 (cond b x12 (cond a x11 (cond a x10 (cond a x9 (cond b x8 (cond b x7 (cond a x6 (cond a x5 (cond c None (cond c x3 (cond c x2 (cond c x1 None))))))))))))) ≡ None
sets_none true b c x14 x13 x12 x11 x10 x9 x8 x7 x6 x5 x3 x2 x1 e f = absurd (true≢false e)
sets_none false true c x14 x13 x12 x11 x10 x9 x8 x7 x6 x5 x3 x2 x1 e f = absurd (true≢false f)
sets_none false false true x14 x13 x12 x11 x10 x9 x8 x7 x6 x5 x3 x2 x1 e f = refl
sets_none false false false x14 x13 x12 x11 x10 x9 x8 x7 x6 x5 x3 x2 x1 e f = refl

nodes_none : (a b c : Bool) (x14 x13 x12 x11 x10 x9 x8 x7 x6 x5 x3 x2 x1 : ModelNode) → a ≡ false → b ≡ false
    → (cond b x14 (cond b x13 (cond b x12 (cond a x11 (cond a x10 (cond a x9 (cond b x8 (cond b x7 (cond a x6 (cond a x5 (cond c gone (cond c x3 (cond c x2 (cond c x1 (off_after 0))))))))))))))).running ≡ None
nodes_none true b c x14 x13 x12 x11 x10 x9 x8 x7 x6 x5 x3 x2 x1 e f = absurd (true≢false e)
nodes_none false true c x14 x13 x12 x11 x10 x9 x8 x7 x6 x5 x3 x2 x1 e f = absurd (true≢false f)
nodes_none false false true x14 x13 x12 x11 x10 x9 x8 x7 x6 x5 x3 x2 x1 e f = refl
nodes_none false false false x14 x13 x12 x11 x10 x9 x8 x7 x6 x5 x3 x2 x1 e f = refl

no_set : (n : NodeId) → nat_eq n.0 0 ≡ false → nat_eq n.0 1 ≡ false → s14.node n ≡ None
no_set n away apart = sets_none (nat_eq n.0 0) (nat_eq n.0 1) (nat_eq n.0 2) _ _ _ _ _ _ _ _ _ _ _ _ _ away apart

no_run : (n : NodeId) → nat_eq n.0 0 ≡ false → nat_eq n.0 1 ≡ false → (w14.node n).running ≡ None
no_run n away apart = nodes_none (nat_eq n.0 0) (nat_eq n.0 1) (nat_eq n.0 2) _ _ _ _ _ _ _ _ _ _ _ _ _ away apart

-- ---- both nodes know the loss
abbrev log4 : NodeId → List StateValue
log4 n = log3 n ++ []

abbrev base4 : NodeId → ℕ
base4 n = base_after (base3 n) (length (log4 n)) 0

short4 : (n : NodeId) → length (log4 n) ≤ 9
short4 n = let l = length-append (log3 n) [] in let k = short3 n in omega arith

known4 : (n : NodeId) → IsEither n → joined (log4 n) ≡ loss_state
known4 n either = ap joined (append-nil (log3 n)) ∙ known_at n either

-- both noted it at moment 0
abbrev own_notes : NodeId → List Note
own_notes n = loss_note ∷ []

abbrev are_open : NodeId → Bool
are_open n = true

world_is_ready : IsReady (members_of w16 s16)
world_is_ready = is_ready loss_state are_open own_notes is_live only_live few terms_left (λ n either. late) (λ n either app claim lost. lost) log4 base4 holding w16.operations w14.node s14.node s16.issued short4 known4 means alike no_run no_set

-- ---- the first tick fails over
abbrev sweep_of_node : NodeId → Sweep
sweep_of_node = sweep loss_state are_open own_notes is_live only_live few terms_left (λ n either. late) (λ n either app claim lost. lost) log4 base4 holding w16.operations w14.node s14.node s16.issued short4 known4 means alike no_run no_set

first_sweep : sweep_of_node first_node ≡ claims_it
first_sweep =
    sweep_is loss_state are_open own_notes is_live only_live few terms_left (λ n either. late) (λ n either app claim lost. lost) log4 base4 holding w16.operations w14.node s14.node s16.issued short4 known4 means alike no_run no_set first_node (inl refl)
    ∙ (λ i. cond (mine i) (cond (terms_used_up loss_state the_app) passes claims_it) (sweep_from loss_state))
    ∙ (λ i. cond (terms_left i) passes claims_it)

-- the results after the first tick
abbrev later_answers : List Answer
later_answers = Ok (Ticked (sweep_of_node second_node).ops (sweep_of_node second_node).passed) ∷ told loss_state are_open own_notes is_live only_live few terms_left (λ n either. late) (λ n either app claim lost. lost) log4 base4 holding w16.operations w14.node s14.node s16.issued short4 known4 means alike no_run no_set

-- the results of the round
abbrev all_answers : List Answer
all_answers = Ok (Ticked (the_claim ∷ []) []) ∷ later_answers

round_comes : AreRounds worked_table (app_count worked_table) w16 s16 both_go_round all_answers
round_comes = the_rounds loss_state are_open own_notes is_live only_live few terms_left (λ n either. late) (λ n either app claim lost. lost) log4 base4 holding w16.operations w14.node s14.node s16.issued short4 known4 means alike no_run no_set claims_it (sweep_of_node second_node) first_sweep refl

holds_at : (n : NodeId) → IsEither n → s16.node n ≡ Some (holding_set n)
holds_at n either = elim either [
  | inl a ↦ subst (λ (k : NodeId). s16.node k ≡ Some (holding_set k)) (sym a) refl
  | inr b ↦ subst (λ (k : NodeId). s16.node k ≡ Some (holding_set k)) (sym b) refl
]

ready_there : IsReady (members_of (world_after worked_table w0 losing the_replies) s16)
ready_there = subst (λ (w : ModelWorld). IsReady (members_of w s16)) run16.1 world_is_ready

rounds_there : AreRounds worked_table (app_count worked_table) (world_after worked_table w0 losing the_replies) s16 both_go_round all_answers
rounds_there = subst (λ (w : ModelWorld). AreRounds worked_table (app_count worked_table) w s16 both_go_round all_answers) run16.1 round_comes

before_round : AnsweredAs worked_table w0 losing the_replies
before_round = run16.0

in_rounds : EndsInRounds worked_table (losing ++ both_go_round) (the_replies ++ all_answers)
in_rounds = record {
  before = losing;
  rounds = both_go_round;
  replies = the_replies;
  more = all_answers;
  events_are = refl;
  answers_are = refl;
  answered = before_round;
  ready = ready_there;
  last = rounds_there;
}

both_run : (n : NodeId) → IsEither n → IsSome ((set_run no_sets (losing ++ both_go_round) (the_replies ++ all_answers)).node n)
both_run n either = elim either [
  | inl a ↦ ap (λ k. is_some ((set_run no_sets (losing ++ both_go_round) (the_replies ++ all_answers)).node k)) a
  | inr b ↦ ap (λ k. is_some ((set_run no_sets (losing ++ both_go_round) (the_replies ++ all_answers)).node k)) b
]

pub runs_can_fail_over : RunsCanFailOver
runs_can_fail_over = record {
  replies = the_replies;
  answered = run16.0;
  ready = ready_there;
  held = holding_set;
  holds = holds_at;
  lost = λ n either. subst (λ (s : StateValue). IsLost s the_app lost_claim) (sym (means n either)) is_lost;
  claim = the_claim;
  fails_over = fails_over;
  later = later_answers;
  kinds = tt;
  rounds = rounds_there;
  run = both_run;
  settled = λ v ran n state runs. (worlds_settle worked_table (losing ++ both_go_round) (the_replies ++ all_answers) v ran).each in_rounds n state runs the_app (omega arith);
}
