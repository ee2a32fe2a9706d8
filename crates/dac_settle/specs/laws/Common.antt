-- The names that several proofs cite, passed on from one place. Declares nothing.
pub use Rattle.std.proofs.lemmas.Bool.{true≢false, leb-true, and_from, le-ltb, false≢true, eqb-true, and_parts, eqb-false}
pub use Rattle.std.specs.Option.{option_map_or, option_and_then}
pub use Rattle.std.specs.Prelude.{nat_lt, nat_le, unwrap_or, IsSome, All}
pub use Rattle.std.specs.declared.cmp.Ordering.{Ordering}
pub use Rattle.dac_base.specs.declared.AppId.{AppId}
pub use Rattle.dac_base.specs.declared.NodeId.{NodeId}
pub use Rattle.dac_base.specs.declared.limits.TheConstants.{MAX_COUNTER}
pub use Rattle.dac_config.specs.Table.{group_of, app_count, Table}
pub use Rattle.dac_origins.specs.Dots.{dot, origin_cmp}
pub use Rattle.dac_origins.specs.declared.dot.Dot.{Dot}
pub use Rattle.dac_origins.specs.declared.dot.Origin.{Origin}
pub use Rattle.dac_lattice.specs.Chains.{IsAtMost}
pub use Rattle.dac_lattice.specs.laws.Chains.{chain_laws}
pub use Rattle.dac_chains.specs.Claims.{claim_cmp}
pub use Rattle.dac_chains.specs.Greatest.{IsGreatest, IsSaid}
pub use Rattle.dac_chains.specs.Lives.{IsLive, life_cmp, Lives, live_at}
pub use Rattle.dac_chains.specs.declared.claims.How.TheVariants.{Normal}
pub use Rattle.dac_chains.specs.declared.lives.Life.{Life}
pub use Rattle.dac_chains.specs.laws.Live.{live_is}
pub use Rattle.dac_wishes.specs.KeyedWrites.{keyed_write}
pub use Rattle.dac_wishes.specs.Writes.{write, same_dot}
pub use Rattle.dac_wishes.specs.declared.key.Key.{Key}
pub use Rattle.dac_wishes.specs.laws.KeyedWrites.{same_dot_is, same_dot_itself}
pub use Rattle.dac_operations.specs.Operations.{Operation, operation}
unfoldable pub use Rattle.dac_meaning.specs.Below.{is_below}
pub use Rattle.dac_meaning.specs.Chained.{SaysFor}
pub use Rattle.dac_meaning.specs.Meaning.{IsOperationOf, DotsDetermine, pairs, life_said, claim_said, lives_of, names, replaces, AreOperationsOf}
unfoldable pub use Rattle.dac_meaning.specs.Meaning.{meaning_of}
pub use Rattle.dac_meaning.specs.StateValue.{StateValue}
unfoldable pub use Rattle.dac_meaning.specs.StateValue.{join}
pub use Rattle.dac_meaning.specs.laws.Chained.{of_said, is_said}
pub use Rattle.dac_meaning.specs.laws.Joins.{join-meaning, meaning-same}
pub use Rattle.dac_meaning.specs.laws.Members.{found, finds, In-append_left, In-append_right, In-append_cases}
pub use Rattle.dac_meaning.specs.laws.Readers.{known-meaning, starts-meaning, permits-meaning, drains-meaning, lives-meaning, lives_are, claims-meaning, claims_are}
pub use Rattle.dac_placement.specs.Placement.{is_up, IsEligible, IsStartedAt, key_at, holder_of, IsVerdict, verdict_of, candidate_of, load_of, IsFirst, IsDrainedAt, is_eligible, IsEarlier, IsAllowedAt, HeldBy, apps_of}
pub use Rattle.dac_placement.specs.declared.verdicts.Verdict.{Verdict}
pub use Rattle.dac_placement.specs.declared.verdicts.Verdict.TheVariants.{Failover, Halted, Move, Takeover, Kept, Nobody}
pub use Rattle.dac_placement.specs.laws.Judged.{verdict_in_words}
pub use Rattle.dac_placement.specs.laws.Loads.{preferred_is}
pub use Rattle.dac_placement.specs.laws.Tests.{up_is}
pub use Rattle.dac_decide.specs.FailoverWait.{is_due_by, noted_at, waits_of, Note, IsLost, IsLostByNewest}
pub use Rattle.dac_decide.specs.declared.start_gate.Opening.{Opening}
pub use Rattle.dac_decide.specs.declared.start_gate.Opening.TheVariants.{Shut, Opened, GiveUp}
pub use Rattle.dac_decide.specs.declared.waits.Noted.{Noted}
pub use Rattle.dac_decide.specs.laws.Kept.{kept_is}
pub use Rattle.dac_events.specs.declared.What.{What}
pub use Rattle.dac_events.specs.declared.What.TheVariants.{Hand}
pub use Rattle.dac_events.specs.declared.WorldEvent.{WorldEvent}
pub use Rattle.dac_events.specs.declared.refusal.Refusal.{Refusal}
pub use Rattle.dac_events.specs.declared.refusal.Refusal.TheVariants.{DeclaredDown, MomentBack, DotsUsedUp, UnknownNode, NotLive, TooManyDots, OnSelf, UpToDate, NotForMe}
pub use Rattle.dac_events.specs.declared.world_fault.WorldFault.{WorldFault}
pub use Rattle.dac_events.specs.declared.world_fault.WorldFault.TheVariants.{NoSuchNode}
pub use Rattle.dac_messages.specs.declared.event.Event.TheVariants.{Boot, Crash, HearOp, Hear}
pub use Rattle.dac_messages.specs.declared.message.Body.TheVariants.{Whole}
pub use Rattle.dac_messages.specs.declared.message.Message.{Message}
pub use Rattle.dac_messages.specs.declared.reply.Reply.{Reply}
pub use Rattle.dac_messages.specs.declared.reply.Reply.TheVariants.{Booted, Issued, Heard}
pub use Rattle.dac_peers.specs.Peers.{no_peers, ack_for, has_all}
pub use Rattle.dac_peers.specs.declared.positions.Position.{Position}
pub use Rattle.dac_commands.specs.Causes.{no_node, not_live, too_many, used_up, terms_used_up}
pub use Rattle.dac_commands.specs.Commands.{greatest_counter, live_or_none, act_of, next_operation}
pub use Rattle.dac_commands.specs.laws.Counters.{next-is}
pub use Rattle.dac_ticks.specs.Ticks.{Sweep, sweep_of, sweep_from, claim_of, claimed_by, is_mine, is_mine_by}
pub use Rattle.dac_ticks.specs.laws.Claimed.{MayRunAlike, alike_back}
pub use Rattle.dac_ticks.specs.laws.Sweeping.{swept_by}
pub use Rattle.dac_ticks.specs.laws.Words.{if_own, own_if}
pub use Rattle.dac_model_world.specs.Convergence.{RunsWith}
pub use Rattle.dac_model_world.specs.EventRefusals.{refusal_of, otherwise}
pub use Rattle.dac_model_world.specs.Histories.{off_after}
pub use Rattle.dac_model_world.specs.ModelNode.{ModelNode, joined, shown, base_after, ModelRunning, running_shown}
pub use Rattle.dac_model_world.specs.ModelWorld.{ModelWorld, AnsweredAs, happens, answered_by, world_after, WorldStepped, start, event_of, happens_by}
pub use Rattle.dac_model_world.specs.SetWorld.{NodeSet, SetWorld, no_sets, set_run, copied_by, set_step}
pub use Rattle.dac_model_world.specs.Step.{step_by}
pub use Rattle.dac_model_world.specs.Transitions.{meanings, message_of, body_from, opening_at, note_of, ticks_by}
pub use Rattle.dac_model_world.specs.WorldValue.{WorldValue}
pub use Rattle.dac_model_world.specs.laws.Operations.{DistinctDots-agree}
pub use Rattle.dac_model_world.specs.laws.Sound.{Sound, sound_run, sound_start, held_at}
pub use Rattle.dac_settle.specs.Placed.{IsGood, here, placed}
pub use Rattle.dac_settle.specs.Rounds.{Held, IsApp, IsGrown, IsPlacement, SetsEvent, Sets, InCopies, with_held}
pub use Rattle.dac_settle.specs.Settling.{IsLate, Member, AllSame, IsSettled, with_member, own_of, ticked, IsTick, MemberEvent, Members}
pub use Rattle.dac_settle.specs.Worked.{the_app, worked_table, first_of, up_of, start_of, first_node, second_node, IsEither, both_go_round, member_with, both_hold}
pub use Rattle.dac_settle.specs.WorkedLoss.{lost_node, lost_claim}
pub use Rattle.dac_settle.specs.WorkedMove.{first_claim, draining, drained_set}
pub use Rattle.dac_settle.specs.WorldRounds.{members_of, AreRounds, EndsInRounds, member_by, InRound, AreInRound, IsWorldRound}
