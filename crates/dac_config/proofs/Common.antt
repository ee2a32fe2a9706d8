-- The names that most proofs here cite, passed on from one place. Declares nothing.
pub use Rattle.std.specs.List.{AllZip, Contains, list_any, AllByRecursion, dedup, dedup_from, position_from, prefix_len, list_all}
unfoldable pub use Rattle.std.specs.List.{IsDistinct}
pub use Rattle.std.proofs.Math.Bool.{or-true, or-false, and-true, and-or_distrib_right, or_assoc, or_comm, or_self}
pub use Rattle.std.proofs.lemmas.Bool.{and_parts, and_from, cond_both, or_cases, or_left, or_right, ltb-true, ltb-false, both_ways, false_from_ne_true, or_parts, lt-ltb, ne_eqb, eq-eqb, eqb-true, cond-true, cond-false, false≢true}
pub use Rattle.std.proofs.lemmas.List.{length-map, length-append, get_or-map, drop_more, map_push, at_drop_all, ext_get_or, at_drop_more}
pub use Rattle.std.proofs.lemmas.List.Elements.{All-head, All-tail, All-append, All-map, All-filter, All-weaker, All-from_recursion, recursion_from_All, All-contains, All-nil, All-cons, All-push}
pub use Rattle.std.specs.Global.{Vec}
pub use Rattle.std.proofs.lemmas.Result.{IfOk-weaker, err_from_is_err_and}
pub use Rattle.std.proofs.lemmas.Cmp.{nat_list_eq_equiv, eq_by_cmp_equiv, nat_cmp_total, nat_list_cmp_total}
pub use Rattle.dac_base.specs.declared.limits.TheConstants.{MAX_NODES}
pub use Rattle.dac_shapes.specs.Written.{App, Permission, Param, Distributed, Permissions, Mandatory, Optional, Timeout, Kernel, Written, name_of, put, put_all, unsaid, written, Section, spelled}
pub use Rattle.dac_shapes.specs.Limits.{is_among, is_named, with_name}
pub use Rattle.dac_shapes.specs.Grammar.{IsFile, IsTextOf, Parted, between, IsListOf, IsPair, IsNode, IsItem, IsMs, IsPermission, strict, IsTimeout, IsAppValue, IsWait, IsParam, IsSection}
pub use Rattle.dac_shapes.specs.Within.{joined, params_in, names_of_app, names_of_param, names_in, nodes_in, AreAppsWithin, IsValueWithin, AreWithinLimits, IsWithinLimits, firsts}
pub use Rattle.dac_shapes.specs.Views.{names_of, draft_of, app_of, apps_of, permissions_of, groups_of}
pub use Rattle.dac_config.specs.Table.{NodeRow, AppRow, Table, group_among, node_name, app_named}
pub use Rattle.dac_config.specs.Canonical.{canonical_text, separated_after, begins_small, is_bare, name_text, parted, list_text, pair_text, node_name_text, group_text, app_text, forbidden_text, wait_texts, param_texts}
pub use Rattle.dac_config.specs.Numbering.{name_cmp, numbers_from, numbered_node, numbered_nodes, permitted, numbered_app, numbered, in_byte_order}
pub use Rattle.dac_config.specs.Says.{IsGroup, IsDefaultPermission, IsApp, IsTableOf, IsConfigOf, IsSaid, By, IsUnmentioned, IsTable}
pub use Rattle.dac_config.specs.declared.config.Tables.{Tables}
pub use Rattle.dac_config.specs.ConfigView.{node_row, app_row, table_of, place_by, place_at, ArePlaces, IsPlaced, named_row, HasMembersBelow, groups_in, is_in}
