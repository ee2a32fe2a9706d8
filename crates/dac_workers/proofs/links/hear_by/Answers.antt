use Rattle.std.proofs.Common.{◌++◌, ◌∷◌, [], refl, sym, ap, ◌∙◌}
use Rattle.dac_workers.specs.laws.Common.{view, packet_at}
use Rattle.dac_workers.proofs.Shipping.{hears_none, hears_more}
use Rattle.dac_workers.proofs.links.hear_by.Goals as goal

pub loop-init : goal.loop-init
loop-init g c = record { number = refl; same = refl; hears = hears_none _ _ _ }

pub loop-preserved : goal.loop-preserved
loop-preserved g c =
    let i = c.loop.invariant in
    let t = c.args.config.now in
    let bytes = c.in-Some-into_bytes.bytes.items in
    let message = c.in_ok-message-in-Some-into_bytes.message in
    let e = c.in-Ok.ensures.taken ∙ ap (λ p. (view c.loop.link.pass).taken ++ p ∷ []) (sym c.in-Some-into_bytes.ensures) in
    let r = ap (packet_at t) (sym c.deref.ensures.value) ∙ c.in_ok-message-in-Some-into_bytes.ensures.ok in
    record {
      number = c.in_ok-hear_once-in-Some-into_bytes.ensures.number ∙ i.number;
      same = c.take.ensures.link ∙ i.same;
      hears = hears_more t _ _ _ _ _ _ bytes message i.hears e r c.in_ok-hear_once-in-Some-into_bytes.ensures.ok;
    }
