-- The worked run with a drain: the world is ready after both nodes have heard of the drain, and their round moves the
-- application.
use Rattle.std.proofs.Common.{◌≡◌, ◌⊎◌, ℕ, ◌+◌, ◌<◌, ◌≤◌, Bool, true, false, not, cond, ◌||◌, List, [], ◌∷◌, ◌++◌, length, Option, Some, None, option_map, Ok, refl, sym, ap, subst, ◌∙◌, arith, inl, inr}
use Rattle.dac_settle.specs.laws.Common.{nat_lt, nat_le, IsSome, All, unwrap_or, option_map_or, false≢true, true≢false, leb-true, le-ltb, NodeId, AppId, MAX_COUNTER, Dot, Origin, dot, Normal, IsGreatest, IsAtMost, claim_cmp, IsLive, live_is, keyed_write, write, same_dot_itself, Operation, operation, StateValue, join, IsOperationOf, AreOperationsOf, meaning_of, claim_said, names, replaces, SaysFor, In-append_right, In-append_cases, finds, meaning-same, known-meaning, starts-meaning, drains-meaning, app_count, is_up, IsDrainedAt, key_at, holder_of, verdict_of, Move, up_is, Note, IsLost, IsLostByNewest, waits_of, Noted, WorldEvent, Hand, Boot, HearOp, Booted, Issued, Refusal, DeclaredDown, DotsUsedUp, UnknownNode, NotLive, TooManyDots, greatest_counter, live_or_none, act_of, next_operation, not_live, too_many, used_up, terms_used_up, next-is, Sweep, sweep_from, claim_of, claimed_by, is_mine, is_mine_by, ModelNode, joined, shown, base_after, refusal_of, otherwise, meanings, off_after, WorldValue, ModelWorld, AnsweredAs, happens, answered_by, world_after, NodeSet, SetWorld, no_sets, set_run, RunsWith, DistinctDots-agree, Sound, sound_run, sound_start, IsLate, members_of, AreRounds, EndsInRounds, first_node, second_node, IsEither, the_app, worked_table, first_of, up_of, both_go_round, first_claim, draining, drained_set}
use Rattle.std.specs.Prelude.{nat_eq}
use Rattle.std.specs.Option.{is_some}
use Rattle.std.specs.FinMap as map
use Rattle.std.proofs.lemmas.Bool.{leb-false}
use Rattle.std.proofs.lemmas.List.{length-append}
use Rattle.dac_chains.specs.declared.claims.Claim.{Claim}
use Rattle.dac_wishes.specs.DrainsValue.{origin}
use Rattle.dac_operations.specs.declared.act.Act.TheVariants.{Claim as Claims, Drain as Drains}
use Rattle.dac_events.specs.declared.Command.TheVariants.{Start, Drain}
use Rattle.dac_events.specs.declared.What.TheVariants.{Boot as Booting, Command as Telling, Tick as Ticking}
use Rattle.dac_messages.specs.declared.event.Event.TheVariants.{Command as Commanded, Tick}
use Rattle.dac_messages.specs.declared.reply.Reply.TheVariants.{Ticked}
use Rattle.dac_commands.specs.Commands.{live, live_origin, standing_drains}
use Rattle.dac_commands.specs.Causes.{first}
use Rattle.dac_commands.specs.laws.Counters.{used_up_is}
use Rattle.dac_commands.specs.laws.Standing.{drains_at-has}
use Rattle.dac_model_world.specs.ModelWorld.{RanAs, Run, numbered}
use Rattle.dac_settle.specs.Settling.{IsReady}
use Rattle.dac_settle.specs.Worked.{begun}
use Rattle.dac_settle.specs.WorkedMove.{claiming}
use Rattle.dac_settle.specs.WorkedDrain.{drains_first, RunsCanMove}
use Rattle.dac_settle.specs.laws.AnyPlacement.{one}
use Rattle.dac_settle.specs.laws.OnlyClaims.{claim_greatest}
use Rattle.dac_settle.specs.laws.Started.{AreStarts, are_live}
use Rattle.dac_settle.specs.laws.BothTick.{no_row}
use Rattle.dac_settle.specs.laws.MovedRound.{drained_state, is_live, only_live, claimed, said_by, never_lost, is_drained, terms_left, to_move}
use Rattle.dac_settle.specs.laws.WorldsSettle.{held_shown, set_there, worlds_settle}
use Rattle.dac_settle.proofs.ComingUp.{CanClaim, none_some, none_claimed, named_in, bare_by, number_of, below, empty_if, start_at, started_op, booted, starts_on, begun as begun_alone, begun_log, begun_node, begun_is, ticks_alone, sweep_alone}
use Rattle.dac_settle.proofs.Handed.{Answer, w0, pushed, known_there, run_of, running_so, waiting, with_op, base_with, hearing, few_by, longer, hears_op, wide}
use Rattle.dac_settle.proofs.RoundOfTwo.{happens_so, is_ready, told, sweep, sweep_is, the_rounds, all_hold}

-- a property of both nodes holds of either
at_either : (P : NodeId → Type 0) → P first_node → P second_node → (n : NodeId) → IsEither n → P n
at_either P a b n either = elim either [ inl is ↦ subst P (sym is) a | inr is ↦ subst P (sym is) b ]

-- ---- the second node's state before its drain command
abbrev heard_up : List Operation
heard_up = up_of second_node ∷ start_at second_node ∷ up_of first_node ∷ []

abbrev heard_state : StateValue
heard_state = meaning_of heard_up

alone_starts : AreStarts (start_at second_node ∷ [])
alone_starts o i = elim i [ inl a ↦ (_, [], ap (λ (q : Operation). q.act) a) | inr none ↦ absurd none ]

both_up : heard_state ≡ meaning_of (begun (start_at second_node ∷ []))
both_up = meaning-same heard_up (begun (start_at second_node ∷ [])) there back
  where
    there : AreOperationsOf heard_up (begun (start_at second_node ∷ []))
    there o (inl a) = inr (inl a)
    there o (inr (inl a)) = inr (inr (inl a))
    there o (inr (inr (inl a))) = inl a
    there o (inr (inr (inr none))) = absurd none

    back : AreOperationsOf (begun (start_at second_node ∷ [])) heard_up
    back o (inl a) = inr (inr (inl a))
    back o (inr (inl a)) = inl a
    back o (inr (inr (inl a))) = inr (inl a)
    back o (inr (inr (inr none))) = absurd none

heard_live : (n : NodeId) → IsEither n → IsLive heard_state.lives n 1
heard_live n either = subst (λ (s : StateValue). IsLive s.lives n 1) (sym both_up) (are_live (start_at second_node ∷ []) alone_starts n either)

heard_bare : (o : Operation) → IsOperationOf o heard_up → (d : Dot) → replaces d o ≡ false
heard_bare o (inl a) d = bare_by o (up_of second_node) d a refl
heard_bare o (inr (inl a)) d = bare_by o (start_at second_node) d a refl
heard_bare o (inr (inr (inl a))) d = bare_by o (up_of first_node) d a refl
heard_bare o (inr (inr (inr none))) d = absurd none

abbrev its_dot : ℕ → Dot
its_dot k = dot (first_of second_node) k

heard_counter : greatest_counter (first_of second_node) heard_state.known + 1 ≡ 3
heard_counter = sym (ap (λ (d : Dot). d.n) (next-is heard_state.known (first_of second_node) (its_dot 3) (record {
  same_origin = refl;
  above = λ j t. let f = named_in heard_up heard_bare (its_dot j) t in at_most j f.0 f.1.0 f.1.1;
  tight = inr (known-meaning heard_up (its_dot 2) ∙ finds (names (its_dot 2)) heard_up (start_at second_node) (inr (inl refl)) (ap (λ b. b || replaces (its_dot 2) (start_at second_node)) (same_dot_itself (its_dot 2))));
  at_most = leb-true 3 MAX_COUNTER refl;
})))
  where
    at_most : (j : ℕ) (o : Operation) → IsOperationOf o heard_up → its_dot j ≡ o.dot → j < 3
    at_most j o (inl a) e = below j 1 3 (number_of (its_dot j) o (up_of second_node) e a) (omega arith)
    at_most j o (inr (inl a)) e = below j 2 3 (number_of (its_dot j) o (start_at second_node) e a) (omega arith)
    at_most j o (inr (inr (inl a))) e = below j 1 3 (number_of (its_dot j) o (up_of first_node) e a) (omega arith)
    at_most j o (inr (inr (inr none))) e = absurd none

first_lives : live heard_state first_node ≡ Some 1
first_lives = (live_is heard_state.lives first_node 1).1 (heard_live first_node (inl refl))

none_drained : (at : Origin) → standing_drains heard_state at ≡ []
none_drained at = empty_if (standing_drains heard_state at) (λ d. drains_at-has at heard_state.drains d ∙ ap is_some (drains-meaning heard_up (keyed_write at d)))

-- ---- the drain of the first node
says_drain : act_of worked_table heard_state (Drain first_node true) ≡ Drains first_node 1 true []
says_drain =
    let inc : live_or_none heard_state first_node ≡ 1 = ap (λ o. unwrap_or o 0) first_lives in
    (λ i. Drains first_node (inc i) true (standing_drains heard_state (origin first_node (inc i)))) ∙ ap (Drains first_node 1 true) (none_drained (origin first_node 1))

drained_op : (s : StateValue) → s ≡ heard_state → next_operation s (first_of second_node) (act_of worked_table s (Drain first_node true)) ≡ draining
drained_op s is =
    (λ i. next_operation (is i) (first_of second_node) (act_of worked_table (is i) (Drain first_node true)))
    ∙ (λ i. operation (dot (first_of second_node) (heard_counter i)) (says_drain i))

drains_on : (log : List StateValue) (base : ℕ) → length log ≤ 9 → joined log ≡ heard_state → refusal_of worked_table (shown worked_table (waiting second_node log base)) (Commanded (Drain first_node true)) ≡ None
drains_on log base short is =
    let s = heard_state in
    let up : is_up s (first_of second_node) ≡ true = (up_is s (first_of second_node)).1 (heard_live second_node (inr refl)) in
    let alive : not_live s first_node ≡ false = ap (λ o. not (is_some o)) first_lives in
    let few : too_many (length (standing_drains s (live_origin s first_node))) ≡ false = ap (λ (ds : List Dot). too_many (length ds)) (none_drained (live_origin s first_node)) in
    let left : used_up s (first_of second_node) ≡ false = is_left (greatest_counter (first_of second_node) s.known) heard_counter in
    (λ i. refused (not (is_up (is i) (first_of second_node))) (not_live (is i) first_node) (too_many (length (standing_drains (is i) (live_origin (is i) first_node)))) (used_up (is i) (first_of second_node)) (few_by (length log) short i))
    ∙ (λ i. refused (not (up i)) (alive i) (few i) (left i) false)
  where
    refused : Bool → Bool → Bool → Bool → Bool → Option Refusal
    refused down dead many used full =
        otherwise (first ((down, DeclaredDown) ∷ (false, UnknownNode) ∷ (dead, NotLive) ∷ (many, TooManyDots) ∷ (used, DotsUsedUp) ∷ [])) (first ((full, DotsUsedUp) ∷ []))

    is_two : (g : ℕ) → g + 1 ≡ 3 → g ≡ 2
    is_two g e = omega arith

    is_left : (g : ℕ) → g + 1 ≡ 3 → nat_le MAX_COUNTER g ≡ false
    is_left g e = ap (nat_le MAX_COUNTER) (is_two g e)

-- ---- the state of each node, event by event
first_can : CanClaim first_node
first_can = record {
  there = omega arith;
  listed = refl;
  started = (dot (first_of first_node) 2, starts-meaning (begun_alone first_node) (write (key_at the_app first_node 1) (dot (first_of first_node) 2)));
  agree = DistinctDots-agree (begun_alone first_node) (refl, (refl, tt));
}

abbrev base0 : ℕ
base0 = base_after 0 2 0

abbrev notes3 : List Note
notes3 = record { state = joined (begun_log first_node); moment = 0 } ∷ []

-- the first node after this effect of its tick
abbrev claimed_by_sweep : Sweep → ModelNode
claimed_by_sweep u = running_so first_node true notes3 (begun_log first_node ++ meanings u.ops) (base_after base0 (length (begun_log first_node ++ meanings u.ops)) 0)

abbrev log3 : List StateValue
log3 = begun_log first_node ++ meaning_of (claiming ∷ []) ∷ []

abbrev base3 : ℕ
base3 = base_after base0 (length log3) 0

abbrev log9 : List StateValue
log9 = with_op log3 (up_of second_node)

abbrev log10 : List StateValue
log10 = with_op log9 (start_at second_node)

abbrev log11 : List StateValue
log11 = with_op log10 draining

abbrev base9 : ℕ
base9 = base_with base3 log3 (up_of second_node)

abbrev base10 : ℕ
base10 = base_with base9 log9 (start_at second_node)

abbrev base11 : ℕ
base11 = base_with base10 log10 draining

abbrev log5 : List StateValue
log5 = begun_log second_node

abbrev log6 : List StateValue
log6 = with_op log5 (up_of first_node)

abbrev base6 : ℕ
base6 = base_with base0 log5 (up_of first_node)

-- the second node after it issued the operation
abbrev drained_node : Operation → ModelNode
drained_node o = waiting second_node (log6 ++ meaning_of (o ∷ []) ∷ []) (base_after base6 (length (log6 ++ meaning_of (o ∷ []) ∷ [])) 0)

abbrev log7 : List StateValue
log7 = log6 ++ meaning_of (draining ∷ []) ∷ []

abbrev base7 : ℕ
base7 = base_after base6 (length log7) 0

abbrev log8 : List StateValue
log8 = with_op log7 (start_at first_node)

abbrev base8 : ℕ
base8 = base_with base7 log7 (start_at first_node)

abbrev log12 : List StateValue
log12 = with_op log8 claiming

abbrev base12 : ℕ
base12 = base_with base8 log8 claiming

one_more : (l k m : ℕ) → l ≤ k + 1 → k ≤ m → l ≤ m + 1
one_more l k m a b = omega arith

short3 : length log3 ≤ 3
short3 = let l = length-append (begun_log first_node) (meaning_of (claiming ∷ []) ∷ []) in omega arith

short9 : length log9 ≤ 4
short9 = one_more (length log9) (length log3) 3 (longer log3 (up_of second_node)) short3

short10 : length log10 ≤ 5
short10 = one_more (length log10) (length log9) 4 (longer log9 (start_at second_node)) short9

short11 : length log11 ≤ 6
short11 = one_more (length log11) (length log10) 5 (longer log10 draining) short10

short6 : length log6 ≤ 3
short6 = longer log5 (up_of first_node)

short7 : length log7 ≤ 4
short7 = let l = length-append log6 (meaning_of (draining ∷ []) ∷ []) in let k = short6 in omega arith

short8 : length log8 ≤ 5
short8 = one_more (length log8) (length log7) 4 (longer log7 (start_at first_node)) short7

short12 : length log12 ≤ 6
short12 = one_more (length log12) (length log8) 5 (longer log8 claiming) short8

-- ---- the run
abbrev e1 : WorldEvent
e1 = record { node = first_node; what = Booting 0 }

abbrev a1 : Answer
a1 = Ok (Booted (up_of first_node))

abbrev w1 : ModelWorld
w1 = (answered_by w0 first_node (booted first_node) (Ok (Booted (up_of first_node)))).world

is1 : happens worked_table w0 e1 ≡ answered_by w0 first_node (booted first_node) (Ok (Booted (up_of first_node)))
is1 = happens_so w0 first_node (Booting 0) (Boot 0) refl refl refl

run1 : Run worked_table w0 (e1 ∷ []) (a1 ∷ []) w1
run1 = pushed w0 [] [] e1 (booted first_node) (Booted (up_of first_node)) (tt, refl) is1

abbrev e2 : WorldEvent
e2 = record { node = first_node; what = Telling (Start the_app first_node) }

abbrev a2 : Answer
a2 = Ok (Issued (start_at first_node))

abbrev w2 : ModelWorld
w2 = (answered_by w1 first_node (begun_node first_node (start_at first_node)) (Ok (Issued (start_at first_node)))).world

is2 : happens worked_table w1 e2 ≡ answered_by w1 first_node (begun_node first_node (start_at first_node)) (Ok (Issued (start_at first_node)))
is2 =
    happens_so w1 first_node (Telling (Start the_app first_node)) (Commanded (Start the_app first_node)) refl refl (starts_on first_node refl refl)
    ∙ ap (λ (o : Operation). answered_by w1 first_node (begun_node first_node o) (Ok (Issued o))) (started_op first_node)

run2 : Run worked_table w0 (e1 ∷ e2 ∷ []) (a1 ∷ a2 ∷ []) w2
run2 = pushed w1 (e1 ∷ []) (a1 ∷ []) e2 (begun_node first_node (start_at first_node)) (Issued (start_at first_node)) run1 is2

abbrev e3 : WorldEvent
e3 = record { node = first_node; what = Ticking 0 }

abbrev a3 : Answer
a3 = Ok (Ticked (claiming ∷ []) [])

abbrev w3 : ModelWorld
w3 = (answered_by w2 first_node (running_so first_node true notes3 log3 base3) (Ok (Ticked (claiming ∷ []) []))).world

is3 : happens worked_table w2 e3 ≡ answered_by w2 first_node (running_so first_node true notes3 log3 base3) (Ok (Ticked (claiming ∷ []) []))
is3 =
    happens_so w2 first_node (Ticking 0) (Tick 0) refl refl (ticks_alone first_node first_can)
    ∙ ap (λ (u : Sweep). answered_by w2 first_node (claimed_by_sweep u) (Ok (Ticked u.ops u.passed))) (sweep_alone first_node first_can)

run3 : Run worked_table w0 (e1 ∷ e2 ∷ e3 ∷ []) (a1 ∷ a2 ∷ a3 ∷ []) w3
run3 = pushed w2 (e1 ∷ e2 ∷ []) (a1 ∷ a2 ∷ []) e3 (running_so first_node true notes3 log3 base3) (Ticked (claiming ∷ []) []) run2 is3

abbrev e4 : WorldEvent
e4 = record { node = second_node; what = Booting 0 }

abbrev a4 : Answer
a4 = Ok (Booted (up_of second_node))

abbrev w4 : ModelWorld
w4 = (answered_by w3 second_node (booted second_node) (Ok (Booted (up_of second_node)))).world

is4 : happens worked_table w3 e4 ≡ answered_by w3 second_node (booted second_node) (Ok (Booted (up_of second_node)))
is4 = happens_so w3 second_node (Booting 0) (Boot 0) refl refl refl

run4 : Run worked_table w0 (e1 ∷ e2 ∷ e3 ∷ e4 ∷ []) (a1 ∷ a2 ∷ a3 ∷ a4 ∷ []) w4
run4 = pushed w3 (e1 ∷ e2 ∷ e3 ∷ []) (a1 ∷ a2 ∷ a3 ∷ []) e4 (booted second_node) (Booted (up_of second_node)) run3 is4

abbrev e5 : WorldEvent
e5 = record { node = second_node; what = Telling (Start the_app second_node) }

abbrev a5 : Answer
a5 = Ok (Issued (start_at second_node))

abbrev w5 : ModelWorld
w5 = (answered_by w4 second_node (begun_node second_node (start_at second_node)) (Ok (Issued (start_at second_node)))).world

is5 : happens worked_table w4 e5 ≡ answered_by w4 second_node (begun_node second_node (start_at second_node)) (Ok (Issued (start_at second_node)))
is5 =
    happens_so w4 second_node (Telling (Start the_app second_node)) (Commanded (Start the_app second_node)) refl refl (starts_on second_node refl refl)
    ∙ ap (λ (o : Operation). answered_by w4 second_node (begun_node second_node o) (Ok (Issued o))) (started_op second_node)

run5 : Run worked_table w0 (e1 ∷ e2 ∷ e3 ∷ e4 ∷ e5 ∷ []) (a1 ∷ a2 ∷ a3 ∷ a4 ∷ a5 ∷ []) w5
run5 = pushed w4 (e1 ∷ e2 ∷ e3 ∷ e4 ∷ []) (a1 ∷ a2 ∷ a3 ∷ a4 ∷ []) e5 (begun_node second_node (start_at second_node)) (Issued (start_at second_node)) run4 is5

abbrev e6 : WorldEvent
e6 = record { node = second_node; what = Hand 1 }

abbrev a6 : Answer
a6 = Ok (hearing log5 (up_of first_node))

abbrev w6 : ModelWorld
w6 = (answered_by w5 second_node (waiting second_node log6 base6) (Ok (hearing log5 (up_of first_node)))).world

is6 : happens worked_table w5 e6 ≡ answered_by w5 second_node (waiting second_node log6 base6) (Ok (hearing log5 (up_of first_node)))
is6 = happens_so w5 second_node (Hand 1) (HearOp (up_of first_node)) refl refl (hears_op second_node false [] log5 base0 (up_of first_node) (omega arith))

run6 : Run worked_table w0 (e1 ∷ e2 ∷ e3 ∷ e4 ∷ e5 ∷ e6 ∷ []) (a1 ∷ a2 ∷ a3 ∷ a4 ∷ a5 ∷ a6 ∷ []) w6
run6 = pushed w5 (e1 ∷ e2 ∷ e3 ∷ e4 ∷ e5 ∷ []) (a1 ∷ a2 ∷ a3 ∷ a4 ∷ a5 ∷ []) e6 (waiting second_node log6 base6) (hearing log5 (up_of first_node)) run5 is6

abbrev e7 : WorldEvent
e7 = record { node = second_node; what = Telling (Drain first_node true) }

abbrev a7 : Answer
a7 = Ok (Issued draining)

abbrev w7 : ModelWorld
w7 = (answered_by w6 second_node (drained_node draining) (Ok (Issued draining))).world

-- the second node knows both boots and its own start
abbrev s6 : SetWorld
s6 = set_run no_sets (e1 ∷ e2 ∷ e3 ∷ e4 ∷ e5 ∷ e6 ∷ []) (a1 ∷ a2 ∷ a3 ∷ a4 ∷ a5 ∷ a6 ∷ [])

known6 : joined log6 ≡ heard_state
known6 =
    known_there w6 s6 second_node (run_of second_node false [] log6 base6) (record { inc = 1; operations = heard_up }) (sound_run worked_table w0 no_sets (e1 ∷ e2 ∷ e3 ∷ e4 ∷ e5 ∷ e6 ∷ []) (a1 ∷ a2 ∷ a3 ∷ a4 ∷ a5 ∷ a6 ∷ []) w6 (sound_start worked_table) run6) refl refl

is7 : happens worked_table w6 e7 ≡ answered_by w6 second_node (drained_node draining) (Ok (Issued draining))
is7 =
    happens_so w6 second_node (Telling (Drain first_node true)) (Commanded (Drain first_node true)) refl refl (drains_on log6 base6 (wide (length log6) 3 short6 (omega arith)) known6)
    ∙ ap (λ (o : Operation). answered_by w6 second_node (drained_node o) (Ok (Issued o))) (drained_op (joined log6) known6)

run7 : Run worked_table w0 (e1 ∷ e2 ∷ e3 ∷ e4 ∷ e5 ∷ e6 ∷ e7 ∷ []) (a1 ∷ a2 ∷ a3 ∷ a4 ∷ a5 ∷ a6 ∷ a7 ∷ []) w7
run7 = pushed w6 (e1 ∷ e2 ∷ e3 ∷ e4 ∷ e5 ∷ e6 ∷ []) (a1 ∷ a2 ∷ a3 ∷ a4 ∷ a5 ∷ a6 ∷ []) e7 (drained_node draining) (Issued draining) run6 is7

abbrev e8 : WorldEvent
e8 = record { node = second_node; what = Hand 2 }

abbrev a8 : Answer
a8 = Ok (hearing log7 (start_at first_node))

abbrev w8 : ModelWorld
w8 = (answered_by w7 second_node (waiting second_node log8 base8) (Ok (hearing log7 (start_at first_node)))).world

is8 : happens worked_table w7 e8 ≡ answered_by w7 second_node (waiting second_node log8 base8) (Ok (hearing log7 (start_at first_node)))
is8 = happens_so w7 second_node (Hand 2) (HearOp (start_at first_node)) refl refl (hears_op second_node false [] log7 base7 (start_at first_node) (wide (length log7) 4 short7 (omega arith)))

run8 : Run worked_table w0 (e1 ∷ e2 ∷ e3 ∷ e4 ∷ e5 ∷ e6 ∷ e7 ∷ e8 ∷ []) (a1 ∷ a2 ∷ a3 ∷ a4 ∷ a5 ∷ a6 ∷ a7 ∷ a8 ∷ []) w8
run8 = pushed w7 (e1 ∷ e2 ∷ e3 ∷ e4 ∷ e5 ∷ e6 ∷ e7 ∷ []) (a1 ∷ a2 ∷ a3 ∷ a4 ∷ a5 ∷ a6 ∷ a7 ∷ []) e8 (waiting second_node log8 base8) (hearing log7 (start_at first_node)) run7 is8

abbrev e9 : WorldEvent
e9 = record { node = first_node; what = Hand 4 }

abbrev a9 : Answer
a9 = Ok (hearing log3 (up_of second_node))

abbrev w9 : ModelWorld
w9 = (answered_by w8 first_node (running_so first_node true notes3 log9 base9) (Ok (hearing log3 (up_of second_node)))).world

is9 : happens worked_table w8 e9 ≡ answered_by w8 first_node (running_so first_node true notes3 log9 base9) (Ok (hearing log3 (up_of second_node)))
is9 = happens_so w8 first_node (Hand 4) (HearOp (up_of second_node)) refl refl (hears_op first_node true notes3 log3 base3 (up_of second_node) (wide (length log3) 3 short3 (omega arith)))

run9 : Run worked_table w0 (e1 ∷ e2 ∷ e3 ∷ e4 ∷ e5 ∷ e6 ∷ e7 ∷ e8 ∷ e9 ∷ []) (a1 ∷ a2 ∷ a3 ∷ a4 ∷ a5 ∷ a6 ∷ a7 ∷ a8 ∷ a9 ∷ []) w9
run9 = pushed w8 (e1 ∷ e2 ∷ e3 ∷ e4 ∷ e5 ∷ e6 ∷ e7 ∷ e8 ∷ []) (a1 ∷ a2 ∷ a3 ∷ a4 ∷ a5 ∷ a6 ∷ a7 ∷ a8 ∷ []) e9 (running_so first_node true notes3 log9 base9) (hearing log3 (up_of second_node)) run8 is9

abbrev e10 : WorldEvent
e10 = record { node = first_node; what = Hand 5 }

abbrev a10 : Answer
a10 = Ok (hearing log9 (start_at second_node))

abbrev w10 : ModelWorld
w10 = (answered_by w9 first_node (running_so first_node true notes3 log10 base10) (Ok (hearing log9 (start_at second_node)))).world

is10 : happens worked_table w9 e10 ≡ answered_by w9 first_node (running_so first_node true notes3 log10 base10) (Ok (hearing log9 (start_at second_node)))
is10 = happens_so w9 first_node (Hand 5) (HearOp (start_at second_node)) refl refl (hears_op first_node true notes3 log9 base9 (start_at second_node) (wide (length log9) 4 short9 (omega arith)))

run10 : Run worked_table w0 (e1 ∷ e2 ∷ e3 ∷ e4 ∷ e5 ∷ e6 ∷ e7 ∷ e8 ∷ e9 ∷ e10 ∷ []) (a1 ∷ a2 ∷ a3 ∷ a4 ∷ a5 ∷ a6 ∷ a7 ∷ a8 ∷ a9 ∷ a10 ∷ []) w10
run10 = pushed w9 (e1 ∷ e2 ∷ e3 ∷ e4 ∷ e5 ∷ e6 ∷ e7 ∷ e8 ∷ e9 ∷ []) (a1 ∷ a2 ∷ a3 ∷ a4 ∷ a5 ∷ a6 ∷ a7 ∷ a8 ∷ a9 ∷ []) e10 (running_so first_node true notes3 log10 base10) (hearing log9 (start_at second_node)) run9 is10

abbrev e11 : WorldEvent
e11 = record { node = first_node; what = Hand 6 }

abbrev a11 : Answer
a11 = Ok (hearing log10 draining)

abbrev w11 : ModelWorld
w11 = (answered_by w10 first_node (running_so first_node true notes3 log11 base11) (Ok (hearing log10 draining))).world

is11 : happens worked_table w10 e11 ≡ answered_by w10 first_node (running_so first_node true notes3 log11 base11) (Ok (hearing log10 draining))
is11 = happens_so w10 first_node (Hand 6) (HearOp draining) refl refl (hears_op first_node true notes3 log10 base10 draining (wide (length log10) 5 short10 (omega arith)))

run11 : Run worked_table w0 (e1 ∷ e2 ∷ e3 ∷ e4 ∷ e5 ∷ e6 ∷ e7 ∷ e8 ∷ e9 ∷ e10 ∷ e11 ∷ []) (a1 ∷ a2 ∷ a3 ∷ a4 ∷ a5 ∷ a6 ∷ a7 ∷ a8 ∷ a9 ∷ a10 ∷ a11 ∷ []) w11
run11 = pushed w10 (e1 ∷ e2 ∷ e3 ∷ e4 ∷ e5 ∷ e6 ∷ e7 ∷ e8 ∷ e9 ∷ e10 ∷ []) (a1 ∷ a2 ∷ a3 ∷ a4 ∷ a5 ∷ a6 ∷ a7 ∷ a8 ∷ a9 ∷ a10 ∷ []) e11 (running_so first_node true notes3 log11 base11) (hearing log10 draining) run10 is11

abbrev e12 : WorldEvent
e12 = record { node = second_node; what = Hand 3 }

abbrev a12 : Answer
a12 = Ok (hearing log8 claiming)

abbrev w12 : ModelWorld
w12 = (answered_by w11 second_node (waiting second_node log12 base12) (Ok (hearing log8 claiming))).world

is12 : happens worked_table w11 e12 ≡ answered_by w11 second_node (waiting second_node log12 base12) (Ok (hearing log8 claiming))
is12 = happens_so w11 second_node (Hand 3) (HearOp claiming) refl refl (hears_op second_node false [] log8 base8 claiming (wide (length log8) 5 short8 (omega arith)))

run12 : Run worked_table w0 (e1 ∷ e2 ∷ e3 ∷ e4 ∷ e5 ∷ e6 ∷ e7 ∷ e8 ∷ e9 ∷ e10 ∷ e11 ∷ e12 ∷ []) (a1 ∷ a2 ∷ a3 ∷ a4 ∷ a5 ∷ a6 ∷ a7 ∷ a8 ∷ a9 ∷ a10 ∷ a11 ∷ a12 ∷ []) w12
run12 = pushed w11 (e1 ∷ e2 ∷ e3 ∷ e4 ∷ e5 ∷ e6 ∷ e7 ∷ e8 ∷ e9 ∷ e10 ∷ e11 ∷ []) (a1 ∷ a2 ∷ a3 ∷ a4 ∷ a5 ∷ a6 ∷ a7 ∷ a8 ∷ a9 ∷ a10 ∷ a11 ∷ []) e12 (waiting second_node log12 base12) (hearing log8 claiming) run11 is12

abbrev the_replies : List Answer
the_replies = a1 ∷ a2 ∷ a3 ∷ a4 ∷ a5 ∷ a6 ∷ a7 ∷ a8 ∷ a9 ∷ a10 ∷ a11 ∷ a12 ∷ []

abbrev s10 : SetWorld
s10 = set_run no_sets (e1 ∷ e2 ∷ e3 ∷ e4 ∷ e5 ∷ e6 ∷ e7 ∷ e8 ∷ e9 ∷ e10 ∷ []) (a1 ∷ a2 ∷ a3 ∷ a4 ∷ a5 ∷ a6 ∷ a7 ∷ a8 ∷ a9 ∷ a10 ∷ [])

abbrev s12 : SetWorld
s12 = set_run no_sets drains_first the_replies

sound12 : Sound w12 s12
sound12 = sound_run worked_table w0 no_sets drains_first the_replies w12 (sound_start worked_table) run12

-- ---- the sets of both nodes then
abbrev by_node : {X : Type 0} → X → X → NodeId → X
by_node a b n = cond (nat_eq n.0 0) a b

abbrev held_first : List Operation
held_first = up_of first_node ∷ start_at first_node ∷ claiming ∷ up_of second_node ∷ start_at second_node ∷ draining ∷ []

abbrev held_second : List Operation
held_second = up_of second_node ∷ start_at second_node ∷ up_of first_node ∷ draining ∷ start_at first_node ∷ claiming ∷ []

abbrev holding : NodeId → List Operation
holding = by_node held_first held_second

abbrev holding_set : NodeId → NodeSet
holding_set n = record { inc = 1; operations = holding n }

first_in : AreOperationsOf held_first drained_set
first_in o (inl a) = inl a
first_in o (inr (inl a)) = inr (inr (inl a))
first_in o (inr (inr (inl a))) = inr (inr (inr (inr (inl a))))
first_in o (inr (inr (inr (inl a)))) = inr (inl a)
first_in o (inr (inr (inr (inr (inl a))))) = inr (inr (inr (inl a)))
first_in o (inr (inr (inr (inr (inr (inl a)))))) = inr (inr (inr (inr (inr (inl a)))))
first_in o (inr (inr (inr (inr (inr (inr none)))))) = absurd none

in_first : AreOperationsOf drained_set held_first
in_first o (inl a) = inl a
in_first o (inr (inl a)) = inr (inr (inr (inl a)))
in_first o (inr (inr (inl a))) = inr (inl a)
in_first o (inr (inr (inr (inl a)))) = inr (inr (inr (inr (inl a))))
in_first o (inr (inr (inr (inr (inl a))))) = inr (inr (inl a))
in_first o (inr (inr (inr (inr (inr (inl a)))))) = inr (inr (inr (inr (inr (inl a)))))
in_first o (inr (inr (inr (inr (inr (inr none)))))) = absurd none

second_in : AreOperationsOf held_second drained_set
second_in o (inl a) = inr (inl a)
second_in o (inr (inl a)) = inr (inr (inr (inl a)))
second_in o (inr (inr (inl a))) = inl a
second_in o (inr (inr (inr (inl a)))) = inr (inr (inr (inr (inr (inl a)))))
second_in o (inr (inr (inr (inr (inl a))))) = inr (inr (inl a))
second_in o (inr (inr (inr (inr (inr (inl a)))))) = inr (inr (inr (inr (inl a))))
second_in o (inr (inr (inr (inr (inr (inr none)))))) = absurd none

in_second : AreOperationsOf drained_set held_second
in_second o (inl a) = inr (inr (inl a))
in_second o (inr (inl a)) = inl a
in_second o (inr (inr (inl a))) = inr (inr (inr (inr (inl a))))
in_second o (inr (inr (inr (inl a)))) = inr (inl a)
in_second o (inr (inr (inr (inr (inl a))))) = inr (inr (inr (inr (inr (inl a)))))
in_second o (inr (inr (inr (inr (inr (inl a)))))) = inr (inr (inr (inl a)))
in_second o (inr (inr (inr (inr (inr (inr none)))))) = absurd none

in_drained : (n : NodeId) → IsEither n → AreOperationsOf (holding n) drained_set
in_drained = at_either (λ n. AreOperationsOf (holding n) drained_set) first_in second_in

all_drained : (n : NodeId) → IsEither n → AreOperationsOf drained_set (holding n)
all_drained = at_either (λ n. AreOperationsOf drained_set (holding n)) in_first in_second

alike : (m n : NodeId) → IsEither m → IsEither n → AreOperationsOf (holding m) (holding n)
alike m n of_m of_n o i = all_drained n of_n o (in_drained m of_m o i)

means : (n : NodeId) → IsEither n → meaning_of (holding n) ≡ drained_state
means n either = meaning-same (holding n) drained_set (in_drained n either) (all_drained n either)

-- ---- the states of both nodes then
abbrev are_open : NodeId → Bool
are_open = by_node true false

abbrev notes : NodeId → List Note
notes = by_node notes3 []

abbrev log : NodeId → List StateValue
log = by_node log11 log12

abbrev base : NodeId → ℕ
base = by_node base11 base12

short : (n : NodeId) → length (log n) ≤ 9
short n = elim (nat_eq n.0 0) as (λ b. length (cond b log11 log12) ≤ 9) [
  | true ↦ wide (length log11) 6 short11 (omega arith)
  | false ↦ wide (length log12) 6 short12 (omega arith)
]

known : (n : NodeId) → IsEither n → joined (log n) ≡ drained_state
known = at_either (λ n. joined (log n) ≡ drained_state)
    (known_there w12 s12 first_node (run_of first_node true notes3 log11 base11) (holding_set first_node) sound12 refl refl ∙ means first_node (inl refl))
    (known_there w12 s12 second_node (run_of second_node false [] log12 base12) (holding_set second_node) sound12 refl refl ∙ means second_node (inr refl))

-- ---- counters
drained_bare : (o : Operation) → IsOperationOf o drained_set → (d : Dot) → replaces d o ≡ false
drained_bare o (inl a) d = bare_by o _ d a refl
drained_bare o (inr (inl a)) d = bare_by o _ d a refl
drained_bare o (inr (inr (inl a))) d = bare_by o _ d a refl
drained_bare o (inr (inr (inr (inl a)))) d = bare_by o _ d a refl
drained_bare o (inr (inr (inr (inr (inl a))))) d = bare_by o _ d a refl
drained_bare o (inr (inr (inr (inr (inr (inl a)))))) d = bare_by o _ d a refl
drained_bare o (inr (inr (inr (inr (inr (inr none)))))) d = absurd none

low_if : (o : Operation) (k : ℕ) → o.dot.n ≡ k → k ≤ 3 → o.dot.n ≤ 3
low_if o k is few = omega arith

number : (o p : Operation) → o ≡ p → o.dot.n ≡ p.dot.n
number o p same = ap (λ (q : Operation). q.dot.n) same

low : (o : Operation) → IsOperationOf o drained_set → o.dot.n ≤ 3
low o (inl a) = low_if o 1 (number o (up_of first_node) a) (omega arith)
low o (inr (inl a)) = low_if o 1 (number o (up_of second_node) a) (omega arith)
low o (inr (inr (inl a))) = low_if o 2 (number o (start_at first_node) a) (omega arith)
low o (inr (inr (inr (inl a)))) = low_if o 2 (number o (start_at second_node) a) (omega arith)
low o (inr (inr (inr (inr (inl a))))) = low_if o 3 (number o claiming a) (omega arith)
low o (inr (inr (inr (inr (inr (inl a)))))) = low_if o 3 (number o draining a) (omega arith)
low o (inr (inr (inr (inr (inr (inr none)))))) = absurd none

few : (n : NodeId) → IsEither n → nat_lt MAX_COUNTER (greatest_counter (first_of n) drained_state.known + 1) ≡ false
few n either = by_test (nat_le MAX_COUNTER (greatest_counter (first_of n) drained_state.known)) refl
  where
    too_high : (k l : ℕ) → MAX_COUNTER ≤ k → k ≡ l → l ≤ 3 → ⊥
    too_high k l high is small = let four = leb-true 4 MAX_COUNTER refl in omega (arith, four, high, is, small)

    by_test : (b : Bool) → nat_le MAX_COUNTER (greatest_counter (first_of n) drained_state.known) ≡ b → nat_lt MAX_COUNTER (greatest_counter (first_of n) drained_state.known + 1) ≡ false
    by_test true full =
        let used = (used_up_is drained_state.known (first_of n)).0 full in
        let f = named_in drained_set drained_bare (dot (first_of n) used.n) used.there in
        absurd (too_high used.n f.0.dot.n used.high (ap (λ (d : Dot). d.n) f.1.1) (low f.0 f.1.0))
    by_test false left =
        let less = leb-false MAX_COUNTER (greatest_counter (first_of n) drained_state.known) left in
        le-ltb MAX_COUNTER (greatest_counter (first_of n) drained_state.known + 1) (omega (arith, less))

-- ---- no loss was noted
never_late : (x : Note) → ((app : AppId) (claim : Claim) → IsLost x.state app claim → ⊥) → IsLate worked_table (x ∷ []) 5000
never_late x never app claim since noted = absurd (by_row noted.row noted.begin noted.before noted.parts noted.lost)
  where
    begin_is : (begin : Note) (before : List Note) → x ∷ [] ≡ begin ∷ before → x ≡ begin
    begin_is begin before e = cc

    rest_is : (y begin : Note) (row before : List Note) → x ∷ [] ≡ y ∷ (row ++ begin ∷ before) → [] ≡ row ++ begin ∷ before
    rest_is y begin row before e = cc

    by_row : (row : List Note) (begin : Note) (before : List Note) → x ∷ [] ≡ row ++ begin ∷ before → All (λ note. IsLost note.state app claim) (row ++ begin ∷ []) → ⊥
    by_row [] begin before parts lost =
        let at : IsLost begin.state app claim = lost 0 begin (omega arith) in
        never app claim (subst (λ (k : Note). IsLost k.state app claim) (sym (begin_is begin before parts)) at)
    by_row (y ∷ row) begin before parts lost = no_row row begin before (rest_is y begin row before parts)

never_noted : (app : AppId) (claim : Claim) → IsLost (joined (begun_log first_node)) app claim → ⊥
never_noted app claim lost = none_some (sym (ap (λ (s : StateValue). map.get s.claims app) (begun_is first_node first_can) ∙ none_claimed first_node app) ∙ lost.greatest)

late : (n : NodeId) → IsEither n → IsLate worked_table (notes n) 5000
late = at_either (λ n. IsLate worked_table (notes n) 5000)
    (never_late (record { state = joined (begun_log first_node); moment = 0 }) never_noted)
    (λ app claim since noted. absurd (no_row noted.row noted.begin noted.before noted.parts))

noted : (n : NodeId) → IsEither n → (app : AppId) (claim : Claim) → IsLost drained_state app claim → IsLostByNewest (notes n) app claim
noted n either app claim lost = absurd (never_lost app claim lost)

-- ---- no other node runs
sets_none : (a b : Bool) (x10 x9 x8 x7 x6 x5 x4 x3 x2 x1 : Option NodeSet) → a ≡ false → b ≡ false
    → cond a x10 (cond a x9 (cond b x8 (cond b x7 (cond b x6 (cond b x5 (cond b x4 (cond a x3 (cond a x2 (cond a x1 None))))))))) ≡ None
sets_none true b x10 x9 x8 x7 x6 x5 x4 x3 x2 x1 e f = absurd (true≢false e)
sets_none false true x10 x9 x8 x7 x6 x5 x4 x3 x2 x1 e f = absurd (true≢false f)
sets_none false false x10 x9 x8 x7 x6 x5 x4 x3 x2 x1 e f = refl

nodes_none : (a b : Bool) (x10 x9 x8 x7 x6 x5 x4 x3 x2 x1 : ModelNode) → a ≡ false → b ≡ false
    → (cond a x10 (cond a x9 (cond b x8 (cond b x7 (cond b x6 (cond b x5 (cond b x4 (cond a x3 (cond a x2 (cond a x1 (off_after 0))))))))))).running ≡ None
nodes_none true b x10 x9 x8 x7 x6 x5 x4 x3 x2 x1 e f = absurd (true≢false e)
nodes_none false true x10 x9 x8 x7 x6 x5 x4 x3 x2 x1 e f = absurd (true≢false f)
nodes_none false false x10 x9 x8 x7 x6 x5 x4 x3 x2 x1 e f = refl

no_set : (n : NodeId) → nat_eq n.0 0 ≡ false → nat_eq n.0 1 ≡ false → s10.node n ≡ None
no_set n away apart = sets_none (nat_eq n.0 0) (nat_eq n.0 1) _ _ _ _ _ _ _ _ _ _ away apart

no_run : (n : NodeId) → nat_eq n.0 0 ≡ false → nat_eq n.0 1 ≡ false → (w10.node n).running ≡ None
no_run n away apart = nodes_none (nat_eq n.0 0) (nat_eq n.0 1) _ _ _ _ _ _ _ _ _ _ away apart

-- ---- the round
world_is_ready : IsReady (members_of w12 s12)
world_is_ready = is_ready drained_state are_open notes is_live only_live few terms_left late noted log base holding w12.operations w10.node s10.node s12.issued short known means alike no_run no_set

abbrev the_waits : NodeId → List (Option Noted)
the_waits n = waits_of worked_table (record { state = drained_state; moment = 5000 } ∷ notes n)

not_mine : is_mine worked_table (first_of first_node) (the_waits first_node) 5000 drained_state the_app ≡ false
not_mine = ap (is_mine_by worked_table (first_of first_node) (the_waits first_node) 5000 drained_state the_app) to_move

mine : is_mine worked_table (first_of second_node) (the_waits second_node) 5000 drained_state the_app ≡ true
mine = ap (is_mine_by worked_table (first_of second_node) (the_waits second_node) 5000 drained_state the_app) to_move

abbrev passes : Sweep
passes = record { ops = []; passed = the_app ∷ []; state = drained_state }

abbrev claims_so : Operation → Sweep
claims_so o = record { ops = o ∷ []; passed = []; state = join drained_state (meaning_of (o ∷ [])) }

abbrev the_claim : Operation
the_claim = claim_of worked_table (first_of second_node) drained_state the_app

first_sweep : sweep drained_state are_open notes is_live only_live few terms_left late noted log base holding w12.operations w10.node s10.node s12.issued short known means alike no_run no_set first_node ≡ sweep_from drained_state
first_sweep =
    sweep_is drained_state are_open notes is_live only_live few terms_left late noted log base holding w12.operations w10.node s10.node s12.issued short known means alike no_run no_set first_node (inl refl)
    ∙ (λ i. cond (not_mine i) (cond (terms_used_up drained_state the_app) passes (claims_so (claim_of worked_table (first_of first_node) drained_state the_app))) (sweep_from drained_state))

second_sweep : sweep drained_state are_open notes is_live only_live few terms_left late noted log base holding w12.operations w10.node s10.node s12.issued short known means alike no_run no_set second_node ≡ claims_so the_claim
second_sweep =
    sweep_is drained_state are_open notes is_live only_live few terms_left late noted log base holding w12.operations w10.node s10.node s12.issued short known means alike no_run no_set second_node (inr refl)
    ∙ (λ i. cond (mine i) (cond (terms_used_up drained_state the_app) passes (claims_so the_claim)) (sweep_from drained_state))
    ∙ (λ i. cond (terms_left i) passes (claims_so the_claim))

-- the results after both ticks, and all results of the round
abbrev later_answers : List Answer
later_answers = told drained_state are_open notes is_live only_live few terms_left late noted log base holding w12.operations w10.node s10.node s12.issued short known means alike no_run no_set

abbrev all_answers : List Answer
all_answers = Ok (Ticked [] []) ∷ Ok (Ticked (the_claim ∷ []) []) ∷ later_answers

round_comes : AreRounds worked_table (app_count worked_table) w12 s12 both_go_round all_answers
round_comes = the_rounds drained_state are_open notes is_live only_live few terms_left late noted log base holding w12.operations w10.node s10.node s12.issued short known means alike no_run no_set (sweep_from drained_state) (claims_so the_claim) first_sweep second_sweep

takes : the_claim.act ≡ Claims the_app 2 Normal None
takes =
    ap (claimed_by drained_state the_app) to_move
    ∙ ap (λ (c : Option Claim). Claims the_app (option_map_or (λ (k : Claim). k.term) c 0 + 1) Normal None) claimed

-- ---- the holder at the end
abbrev second_claim : Claim
second_claim = record { term = 2; origin = first_of second_node; how = Normal; from = None }

abbrev all_held : List Operation
all_held = (held_first ++ []) ++ (held_second ++ the_claim ∷ [])

says_second : claim_said the_claim.dot the_claim.act ≡ Some (the_app, second_claim)
says_second = ap (claim_said the_claim.dot) takes

second_said : SaysFor claim_said all_held the_app second_claim
second_said = (the_claim, (In-append_right the_claim held_first (held_second ++ the_claim ∷ []) (In-append_right the_claim held_second (the_claim ∷ []) (inl refl)), says_second))

only_said : (c : Claim) → SaysFor claim_said all_held the_app c → (first_claim ≡ c) ⊎ (second_claim ≡ c)
only_said c says = elim (In-append_cases says.0 held_first (held_second ++ the_claim ∷ []) says.1.0) [
  | inl old ↦ inl (said_by the_app c (says.0, (first_in says.0 old, says.1.1))).1
  | inr more ↦ elim (In-append_cases says.0 held_second (the_claim ∷ []) more) [
    | inl old ↦ inl (said_by the_app c (says.0, (second_in says.0 old, says.1.1))).1
    | inr new ↦ elim new [ inl same ↦ inr (of_pair (sym says_second ∙ sym (ap (λ (q : Operation). claim_said q.dot q.act) same) ∙ says.1.1)) | inr none ↦ absurd none ]
  ]
]
  where
    of_pair : ◌≡◌ {A = Option (AppId × Claim)} (Some (the_app, second_claim)) (Some (the_app, c)) → second_claim ≡ c
    of_pair e = let pair : ◌≡◌ {A = AppId × Claim} (the_app, second_claim) (the_app, c) = one e in ap (λ (p : AppId × Claim). p.1) pair

taken : map.get (meaning_of all_held).claims the_app ≡ Some second_claim
taken = by_claim (map.get (meaning_of all_held).claims the_app) (claim_greatest all_held the_app)
  where
    above : IsAtMost claim_cmp second_claim first_claim → ⊥
    above h = false≢true h

    by_claim : (o : Option Claim) → IsGreatest claim_cmp (SaysFor claim_said all_held the_app) o → o ≡ Some second_claim
    by_claim None none = absurd (none second_claim second_said)
    by_claim (Some c) is = elim (only_said c is.0) [
      | inl old ↦ absurd (above (subst (λ k. IsAtMost claim_cmp second_claim k) (sym old) (is.1 second_claim second_said)))
      | inr new ↦ ap (λ k. Some k) (sym new)
    ]

-- ---- the whole run
ready_there : IsReady (members_of (world_after worked_table w0 drains_first the_replies) s12)
ready_there = subst (λ (w : ModelWorld). IsReady (members_of w s12)) run12.1 world_is_ready

rounds_there : AreRounds worked_table (app_count worked_table) (world_after worked_table w0 drains_first the_replies) s12 both_go_round all_answers
rounds_there = subst (λ (w : ModelWorld). AreRounds worked_table (app_count worked_table) w s12 both_go_round all_answers) run12.1 round_comes

before_round : AnsweredAs worked_table w0 drains_first the_replies
before_round = run12.0

in_rounds : EndsInRounds worked_table (drains_first ++ both_go_round) (the_replies ++ all_answers)
in_rounds = record {
  before = drains_first;
  rounds = both_go_round;
  replies = the_replies;
  more = all_answers;
  events_are = refl;
  answers_are = refl;
  answered = before_round;
  ready = ready_there;
  last = rounds_there;
}

held_then : (v : WorldValue) → RanAs worked_table (drains_first ++ both_go_round) (the_replies ++ all_answers) v → (n : ℕ) (state : StateValue) → RunsWith v n state → state ≡ meaning_of all_held
held_then v ran n state runs =
    let sets = set_run no_sets (drains_first ++ both_go_round) (the_replies ++ all_answers) in
    let sound = sound_run worked_table w0 no_sets (drains_first ++ both_go_round) (the_replies ++ all_answers) ran.final (sound_start worked_table) ran.run in
    let set = set_there (sets.node (numbered n)) state (held_shown worked_table ran.final sets v ran.shows sound n state runs) in
    let same = all_hold drained_state are_open notes is_live only_live few terms_left late noted log base holding w12.operations w10.node s10.node s12.issued short known means alike no_run no_set (sweep_from drained_state) (claims_so the_claim) first_sweep second_sweep (numbered n) set.0 set.1 in
    sym set.2 ∙ meaning-same set.0.operations all_held same.0 same.1

holds_at : (n : NodeId) → IsEither n → s12.node n ≡ Some (holding_set n)
holds_at = at_either (λ n. s12.node n ≡ Some (holding_set n)) refl refl

both_run : (n : NodeId) → IsEither n → IsSome ((set_run no_sets (drains_first ++ both_go_round) (the_replies ++ all_answers)).node n)
both_run = at_either (λ n. IsSome ((set_run no_sets (drains_first ++ both_go_round) (the_replies ++ all_answers)).node n)) refl refl

pub runs_can_move : RunsCanMove
runs_can_move = record {
  replies = the_replies;
  answered = run12.0;
  ready = ready_there;
  held = holding_set;
  holds = holds_at;
  drained = λ n either. subst (λ (s : StateValue). IsDrainedAt s first_node 1) (sym (means n either)) is_drained;
  moves = λ n either. subst (λ (s : StateValue). verdict_of worked_table s the_app ≡ Move second_node) (sym (means n either)) to_move;
  claim = the_claim;
  takes = takes;
  later = later_answers;
  kinds = tt;
  rounds = rounds_there;
  run = both_run;
  settled = λ v ran n state runs. (worlds_settle worked_table (drains_first ++ both_go_round) (the_replies ++ all_answers) v ran).each in_rounds n state runs the_app (omega arith);
  moved = λ v ran n state runs. ap (λ (s : StateValue). holder_of s the_app) (held_then v ran n state runs) ∙ ap (option_map (λ (c : Claim). c.origin)) taken;
}
