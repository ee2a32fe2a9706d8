-- The names that several proofs cite, passed on from one place. Declares nothing.
pub use Rattle.std.proofs.lemmas.Bool.{eq-eqb, false≢true, eqb-true}
pub use Rattle.std.proofs.lemmas.List.{map-append}
pub use Rattle.std.proofs.lemmas.List.FromFn.{map-range_with_len_more}
pub use Rattle.std.specs.Cmp.{both_ways}
pub use Rattle.std.specs.List.{range_with_len}
pub use Rattle.std.specs.Option.{option_map_or}
pub use Rattle.std.specs.Prelude.{codes}
pub use Rattle.dac_base.specs.declared.AppId.{AppId}
pub use Rattle.dac_base.specs.declared.NodeId.{NodeId}
pub use Rattle.dac_base.specs.declared.limits.TheConstants.{MAX_NODES, MAX_APPS}
pub use Rattle.dac_config.specs.Table.{Table, group_of, node_count, app_count}
pub use Rattle.dac_origins.specs.declared.dot.Origin.{Origin}
pub use Rattle.dac_chains.specs.Lives.{live_at}
pub use Rattle.dac_chains.specs.declared.claims.Claim.{Claim}
pub use Rattle.dac_chains.specs.declared.lives.Life.{Life}
pub use Rattle.dac_wishes.specs.Keys.{key_cmp}
pub use Rattle.dac_wishes.specs.PermissionsValue.{is_permitted_by}
pub use Rattle.dac_wishes.specs.laws.PermitsByKey.{are_permits}
pub use Rattle.dac_wishes.specs.laws.StartsByKey.{are_starts}
pub use Rattle.dac_meaning.specs.StateValue.{StateValue}
pub use Rattle.dac_placement.specs.Placement.{is_permitted_at, is_started_at, is_up, key_at, runner_of, standing_of}
pub use Rattle.dac_status.specs.Chains.{IsNext}
pub use Rattle.dac_status.specs.Kept.{is_ok, app_begun}
pub use Rattle.dac_status.specs.Summaries.{live_in, mark_at, mark_of, marks_of, lives_of, no_app, app_summary, drains_live}
unfoldable pub use Rattle.dac_status.specs.Summaries.{placed}
pub use Rattle.dac_status.specs.Texts.{label_text, labels_of, member_in, group_in, group_text, node_line}
unfoldable pub use Rattle.dac_status.specs.Texts.{app_lines}
pub use Rattle.dac_status.specs.Walks.{IsBefore, WalkValue, first_key}
pub use Rattle.dac_status.specs.declared.marks.Mark.{Mark}
pub use Rattle.dac_status.specs.declared.marks.Mark.TheVariants.{Down}
pub use Rattle.dac_status.specs.declared.summary.AppSummary.{AppSummary}
