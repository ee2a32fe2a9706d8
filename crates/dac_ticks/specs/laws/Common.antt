-- The names that several proofs cite, passed on from one place. Declares nothing.
pub use Rattle.std.proofs.lemmas.Bool.{false_from_ne_true, eqb-true, false≢true, and_parts, and_from, eq-eqb}
pub use Rattle.std.proofs.lemmas.Cmp.{tied_itself}
pub use Rattle.std.specs.Option.{option_map_or}
pub use Rattle.std.specs.Ordering.{eq_by_cmp, is_eq}
pub use Rattle.dac_base.specs.declared.AppId.{AppId}
pub use Rattle.dac_base.specs.declared.NodeId.{NodeId}
pub use Rattle.dac_base.specs.declared.limits.TheConstants.{MAX_COUNTER}
pub use Rattle.dac_config.specs.Table.{Table, node_count, app_count, default_permission}
pub use Rattle.dac_origins.specs.Dots.{dot, dot_cmp}
pub use Rattle.dac_origins.specs.Keys.{has_key}
pub use Rattle.dac_origins.specs.declared.dot.Dot.{Dot}
pub use Rattle.dac_origins.specs.declared.dot.Origin.{Origin}
pub use Rattle.dac_lattice.specs.declared.flags.Flag.{Flag}
pub use Rattle.dac_chains.specs.Lives.{IsLive, Lives}
pub use Rattle.dac_chains.specs.declared.claims.How.{How}
pub use Rattle.dac_wishes.specs.laws.KeyedWrites.{same_dot_itself}
pub use Rattle.dac_operations.specs.Operations.{Operation, over_list}
pub use Rattle.dac_operations.specs.declared.act.Act.{Act}
unfoldable pub use Rattle.dac_meaning.specs.Meaning.{meaning_of}
pub use Rattle.dac_meaning.specs.StateValue.{StateValue, permissions_of, IsState}
unfoldable pub use Rattle.dac_meaning.specs.StateValue.{join}
pub use Rattle.dac_placement.specs.Placement.{key_at, is_up, holder_of, apps_of, is_eligible, IsVerdict, verdict_of, candidate_of}
pub use Rattle.dac_placement.specs.declared.verdicts.Verdict.{Verdict}
pub use Rattle.dac_placement.specs.declared.verdicts.Verdict.TheVariants.{Failover, Halted, Move, Kept, Nobody}
pub use Rattle.dac_placement.specs.laws.Judged.{verdict_in_words}
pub use Rattle.dac_placement.specs.laws.Tests.{eligible_is}
pub use Rattle.dac_decide.specs.FailoverWait.{waits_of}
pub use Rattle.dac_decide.specs.declared.waits.Noted.{Noted}
pub use Rattle.dac_commands.specs.Causes.{terms_used_up}
pub use Rattle.dac_commands.specs.Commands.{KnowsOwnBoot, greatest_counter, next_operation, claim_act}
pub use Rattle.dac_commands.specs.laws.Counters.{counter-greatest}
pub use Rattle.dac_ticks.specs.SweepSoFar.{found_of}
pub use Rattle.dac_ticks.specs.Ticks.{Sweep, sweep_from, swept, sweep_over, sweep_of, claim_of, is_mine, claimed_by, passing, claiming}
