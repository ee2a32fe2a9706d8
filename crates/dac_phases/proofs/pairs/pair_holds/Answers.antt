use Rattle.std.proofs.Common.{◌≡◌, ◌*◌, arith}
use Rattle.dac_phases.specs.laws.Common.{false≢true, shipper_seat, worker_seat}
use Rattle.dac_phases.proofs.Shipped.{linked, heard_of, ships_of}
use Rattle.dac_phases.proofs.pairs.pair_holds.Goals as goal

pub returns-then-not-are_heard : goal.returns-then-not-are_heard
returns-then-not-are_heard c =
    let f = c.args.from.0 in
    let t = c.args.to.0 in (
      λ e. absurd (false≢true e),
      λ l. c.if-not-are_heard.ensures.1 (heard_of c.args.phases c.args.to c.shipper_seat-shipper.result c.worker_seat-worker.result (shipper_seat f t) (worker_seat t f) c.args.sender.now c.args.receiver.now
          c.as_slice.result.now c.in_ok-sent.sent.items c.shipper_seat-shipper.ensures c.worker_seat-worker.ensures c.as_slice.ensures.value c.in_ok-sent.ensures l),
    )

pub returns : goal.returns
returns c =
    let f = c.args.from.0 in
    let t = c.args.to.0 in
    let many : c.args.phases * 5 ≡ 5 * c.args.phases = omega arith in (
      λ yes. linked c.args.phases (c.args.phases * 5) c.args.to c.shipper_seat-shipper.result c.worker_seat-worker.result (shipper_seat f t) (worker_seat t f) c.args.sender.now c.args.receiver.now
          c.as_slice.result.now c.in_ok-sent.sent.items many c.shipper_seat-shipper.ensures c.worker_seat-worker.ensures c.as_slice.ensures.value c.in_ok-sent.ensures (c.are_heard.ensures.0 c.if-not-are_heard.false) (c.are_ships.ensures.0 yes),
      λ l. c.are_ships.ensures.1 (ships_of c.args.phases (c.args.phases * 5) c.args.to c.shipper_seat-shipper.result (shipper_seat f t) (worker_seat t f) c.args.sender.now c.args.receiver.now many c.shipper_seat-shipper.ensures l),
    )
