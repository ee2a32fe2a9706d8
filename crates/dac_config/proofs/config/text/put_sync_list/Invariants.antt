use Rattle.std.proofs.Common.{List, ℕ, map, drop, filter}
use Rattle.dac_config.proofs.Common.{NodeRow, parted, name_text, is_in}
use Rattle.dac_config.proofs.Gaining.{Goes}
use Rattle.dac_config.proofs.config.text.put_sync_list.Given as goal

abbrev pub invariant-loop-at : goal.invariant-loop-at
invariant-loop-at g l =
    let texts : List NodeRow → List (List ℕ) = λ rows. map (λ row. name_text row.name) (filter (is_in l.list) rows) in
    Goes g.S.Sink.holds l.initial.sink l.sink l.before (texts (drop l.at l.config.nodes)) (parted (texts l.config.nodes))
