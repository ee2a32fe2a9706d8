use Rattle.std.proofs.Common.{length, ap, arith}
use Rattle.dac_config.proofs.Common.{length-map, Table, app_row}
use Rattle.dac_config.proofs.Tables.{entry_kept}
use Rattle.dac_config.proofs.Places.{place_kept}
use Rattle.dac_config.proofs.config.Config.entry.Goals as goal

pub unwrap-requires : goal.unwrap-requires
unwrap-requires c = c.get_index.ensures.found.1 (omega (arith, c.requires, ap (λ (t : Table). length t.apps) c.tables.ensures.view, length-map c.tables.result.now.apps.entries app_row))

pub returns-clause-row : goal.returns-clause-row
returns-clause-row c = rw c.deref.ensures.value (entry_kept c.tables.result.now c.args.self.now c.tables.ensures.view c.args.app.0 c.get_index.result c.unwrap.result c.get_index.ensures.entry c.unwrap.ensures)

pub returns-clause-places : goal.returns-clause-places
returns-clause-places c = place_kept c.tables.result.now c.args.app.0 c.get_index.result c.unwrap.result c.tables.ensures.kept.places c.get_index.ensures.entry c.unwrap.ensures
