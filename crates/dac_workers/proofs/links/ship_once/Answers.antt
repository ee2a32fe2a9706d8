use Rattle.std.proofs.Common.{subst, Ok}
use Rattle.dac_workers.specs.laws.Common.{Ship, CallAdded, IsLetterOf}
use Rattle.std.proofs.lemmas.Result.{on_ok_weaker}
use Rattle.dac_workers.proofs.Shipping.{ships_letter}
use Rattle.dac_workers.proofs.links.ship_once.Goals as goal

pub returns-in-Shipped-clause-ok : goal.returns-in-Shipped-clause-ok
returns-in-Shipped-clause-ok g c =
    on_ok_weaker _ (ships_letter c.args.config.now c.args.to c.in-Ok.receipt.place c.in-Shipped.message c.in_ok-letter-in-Shipped.letter _ _ _ _
    (subst (λ r. CallAdded c.args.seat.now.calls c.call.new.seat.calls c.in-Ok.receipt.place (Ship c.args.to) (Ok r)) c.in-Shipped.is c.in-Ok.ensures.ok.0)
    (subst (λ m. IsLetterOf c.args.config.now m c.in_ok-letter-in-Shipped.letter) c.in-Shipped.message-is c.in_ok-letter-in-Shipped.ensures.ok))
    c.put.ensures.ok
