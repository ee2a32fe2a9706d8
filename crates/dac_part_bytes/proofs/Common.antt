-- The names that several proofs cite, passed on from one place. Declares nothing.
pub use Rattle.std.proofs.lemmas.Bool.{false≢true, or_left, and_from}
pub use Rattle.std.proofs.lemmas.Map.Lookups.{CmpEqualImpliesEq}
pub use Rattle.std.proofs.lemmas.Result.{err_from_is_err_and}
pub use Rattle.std.specs.Cmp.{IsTotalOrder, tied_itself}
pub use Rattle.std.specs.FinMap.{find}
pub use Rattle.std.specs.Int.{w8, w32}
pub use Rattle.std.specs.List.{flat_map, AllByRecursion}
pub use Rattle.std.specs.Ordering.{is_eq}
pub use Rattle.std.specs.Prelude.{◌+◌, zero, suc, not}
pub use Rattle.std.specs.declared.cmp.Ordering.{Ordering}
pub use Rattle.dac_base.specs.Ids.{app_cmp, node_cmp}
pub use Rattle.dac_base.specs.declared.AppId.{AppId}
pub use Rattle.dac_base.specs.declared.NodeId.{NodeId}
pub use Rattle.dac_base.specs.laws.Ids.{nodes_total, apps_total, exact_nodes, exact_apps}
pub use Rattle.dac_config.specs.Table.{Table, node_count, app_count}
pub use Rattle.dac_origins.specs.Dots.{dot_cmp, Dots}
unfoldable pub use Rattle.dac_origins.specs.InOrder.{in_order}
pub use Rattle.dac_origins.specs.Keys.{IsRising}
pub use Rattle.dac_origins.specs.declared.dot.Dot.{Dot}
pub use Rattle.dac_origins.specs.declared.dot.Origin.{Origin}
pub use Rattle.dac_origins.specs.laws.Dots.{dots_total, exact_dots, origins_total}
pub use Rattle.dac_origins.specs.laws.InOrder.{in_order-one, in_order-same}
pub use Rattle.dac_lattice.specs.declared.flags.Flag.{Flag}
pub use Rattle.dac_lattice.specs.declared.flags.Flag.TheVariants.{Up, Down}
pub use Rattle.dac_store.specs.DotFuns.{is_empty_list}
pub use Rattle.dac_store.specs.DotSets.{is_empty_set}
pub use Rattle.dac_chains.specs.Greatest.{greater}
pub use Rattle.dac_chains.specs.declared.claims.Claim.{Claim}
pub use Rattle.dac_chains.specs.declared.lives.Life.{Life}
pub use Rattle.dac_wishes.specs.Keys.{key_cmp}
unfoldable pub use Rattle.dac_wishes.specs.StartsByKey.{starts_by_key}
pub use Rattle.dac_wishes.specs.StoredVotes.{DotFlags}
pub use Rattle.dac_wishes.specs.declared.key.Key.{Key}
pub use Rattle.dac_wishes.specs.laws.Keys.{keys_total}
pub use Rattle.dac_bytes.specs.Items.{with_front}
unfoldable pub use Rattle.dac_bytes.specs.Numbers.{u8_bytes, u16_bytes, u32_bytes}
pub use Rattle.dac_bytes.specs.Ranges.{IsOrigin}
pub use Rattle.dac_bytes.specs.Reading.{Rest, fault, ◌>>=◌, number_at, is_above, Field}
unfoldable pub use Rattle.dac_bytes.specs.Reading.{range_at, origin_at, counted_at, items_at}
unfoldable pub use Rattle.dac_bytes.specs.Spelling.{origin_bytes, dot_bytes}
pub use Rattle.dac_bytes.specs.Takes.{TakesAs, Again}
pub use Rattle.dac_bytes.specs.declared.fault.ReadFaultKind.TheVariants.{BadOrder}
pub use Rattle.dac_bytes.specs.declared.version.Version.{Version}
pub use Rattle.dac_bytes.specs.declared.version.Version.TheVariants.{Two}
pub use Rattle.dac_bytes.specs.laws.Ascending.{IsNext, Reaches, reaches_more}
pub use Rattle.dac_bytes.specs.laws.Calls.{found_call, again_call, exact_gives}
pub use Rattle.dac_bytes.specs.laws.Fields.{u8_in_takes, u8_in_again}
pub use Rattle.dac_bytes.specs.laws.Items.{ends, goes_on, is_done, Fails-from}
pub use Rattle.dac_bytes.specs.laws.Takes.{TakesAs-more, TakesAs-made, TakesAs-both, TakesAs-wanted, Again-made, Again-both, Again-wanted}
pub use Rattle.dac_part_bytes.specs.KeyedForm.{IsKey, IsKeyAbove, IsKnownDot, AreStartsInForm}
pub use Rattle.dac_part_bytes.specs.Reading.{some_at}
unfoldable pub use Rattle.dac_part_bytes.specs.Reading.{app_at, claim_at, life_at, all_lives_at, all_claims_at, key_above_at, known_dot_at, votes_of_key_at, keyed_dots_at, vote_at}
pub use Rattle.dac_part_bytes.specs.Spelling.{app_bytes}
unfoldable pub use Rattle.dac_part_bytes.specs.Spelling.{claim_bytes, life_bytes, lives_bytes, claims_bytes, key_bytes, votes_bytes, starts_bytes, keyed_dots_bytes, keyed_votes_bytes}
