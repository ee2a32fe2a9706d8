use Rattle.std.proofs.Common.{◌≡◌, ℕ, ◌≤◌, List, [], length, sym, subst}
use Rattle.dac_config.proofs.Common.{IfOk-weaker, canonical_text, IsConfigOf, IsSaid}
use Rattle.dac_config.proofs.Gaining.{finished}
use Rattle.dac_config.proofs.Again.{canonical_says}
use Rattle.dac_config.proofs.config.Config.canonical_text.Goals as goal

pub returns-clause-bytes : goal.returns-clause-bytes
returns-clause-bytes c = finished c.finish.result c.put.new.sink (canonical_text c.args.self.now) c.finish.ensures (c.put.ensures.held [] c.new-text.ensures)

pub returns-clause-read_again : goal.returns-clause-read_again
returns-clause-read_again c =
    let said = subst IsSaid c.tables.ensures.view c.tables.ensures.kept.table.said in
    IfOk-weaker c.finish.result (λ text. text.items ≡ canonical_text c.args.self.now) _ (λ text bytes. subst (λ (text : List ℕ). length text ≤ 65536 → IsConfigOf text c.args.self.now) (sym bytes) (canonical_says c.args.self.now said)) (returns-clause-bytes c)
