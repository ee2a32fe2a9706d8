use Rattle.std.proofs.Common.{◌≡◌, ◌+◌, ◌<◌, length, refl, arith}
use Rattle.dac_weave.proofs.Mailed.{takes-at}
use Rattle.dac_weave.proofs.mail.Mail.take.Goals as goal

pub returns : goal.returns
returns c =
    let place = c.saturating_sub-place.result in
    let is : c.args.number ≡ place + 1 = omega arith in
    let inside : place < length c.args.self.now.shipped = omega arith in
    takes-at _ _ c.requires place c.label_at-label.result c.args.number is inside c.label_at-label.ensures refl c.unfile.ensures
