use Rattle.std.proofs.Common.{◌≡◌, All, subst, take_all}
use Rattle.dac_sites.specs.laws.Common.{calls_of, DifferAt, SeatValue}
use Rattle.dac_sites.specs.laws.Apart.{seat_differs}
use Rattle.dac_sites.proofs.site.mismatch.Goals as goal

pub returns-in-Some : goal.returns-in-Some
returns-in-Some g c =
    let rs = c.args.records.now in
    let p = c.in-Some.place in
    let apart : DifferAt p (calls_of c.seat-item.result.number rs) c.seat-item.result.calls = subst (λ n. DifferAt p (calls_of n rs) c.seat-item.result.calls) c.number.ensures (subst (λ cs. DifferAt p (calls_of c.number.result rs) cs) c.calls.ensures c.in-Some.ensures) in
    seat_differs p _ rs _ c.seat-item.result c.loop-seat-test.true c.seat-item.is c.loop-seat.invariant apart

pub returns : goal.returns
returns g c = subst (All (λ (s : SeatValue). calls_of s.number c.args.records.now ≡ s.calls)) (take_all c.loop-seat.seat-index c.args.seats.now c.loop-seat-test.false) c.loop-seat.invariant
