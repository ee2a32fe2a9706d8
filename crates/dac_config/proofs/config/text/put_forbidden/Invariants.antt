use Rattle.std.proofs.Common.{not, List, ℕ, map, drop, filter}
use Rattle.dac_config.proofs.Common.{AppRow, parted, forbidden_text}
use Rattle.dac_config.proofs.Gaining.{Goes}
use Rattle.dac_config.proofs.config.text.put_forbidden.Given as goal

abbrev pub invariant-loop-at : goal.invariant-loop-at
invariant-loop-at g l =
    let texts : List AppRow → List (List ℕ) = λ rows. map (λ row. forbidden_text row.name) (filter (λ row. not row.permission) rows) in
    Goes g.S.Sink.holds l.initial.sink l.sink l.before (texts (drop l.at l.config.apps)) (parted (texts l.config.apps))
