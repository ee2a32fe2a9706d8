use Rattle.std.proofs.Common.{◌≡◌, Some, slice_index_or, sym, ◌∙◌, true≢false}
use Rattle.dac_weave.specs.laws.Common.{slice_get, slice_get-get_or}
use Rattle.dac_weave.proofs.Mailed.{inside_bucket, first-found, more-seen, none-found, proper-first}
use Rattle.dac_weave.proofs.mail.Mail.next.Goals as goal

pub is_at-requires : goal.is_at-requires
is_at-requires c =
    let bucket = c.bucket-bucket.result.now in
    let p = slice_index_or bucket c.loop-i.i 0 in
    let at : slice_get bucket c.loop-i.i ≡ Some p = slice_get-get_or bucket c.loop-i.i 0 c.loop-i-test.true in
    inside_bucket c.args.self.now c.args.message.now c.requires c.label.result bucket c.label.ensures c.bucket-bucket.ensures c.loop-i.i p at

pub returns-then-is_at : goal.returns-then-is_at
returns-then-is_at c =
    let bucket = c.bucket-bucket.result.now in
    let p = slice_index_or bucket c.loop-i.i 0 in
    let at : slice_get bucket c.loop-i.i ≡ Some p = slice_get-get_or bucket c.loop-i.i 0 c.loop-i-test.true in
    proper-first c.args.self.now c.args.message.now p
    (first-found c.args.self.now c.args.message.now c.requires c.label.result bucket c.label.ensures c.bucket-bucket.ensures c.loop-i.i p c.loop-i.invariant at (c.is_at.ensures.at.0 c.if-is_at.true))

pub loop-i-preserved : goal.loop-i-preserved
loop-i-preserved c =
    let bucket = c.bucket-bucket.result.now in
    let p = slice_index_or bucket c.loop-i.i 0 in
    let at : slice_get bucket c.loop-i.i ≡ Some p = slice_get-get_or bucket c.loop-i.i 0 c.loop-i-test.true in
    more-seen c.args.self.now c.args.message.now c.requires c.label.result bucket c.label.ensures c.bucket-bucket.ensures c.loop-i.i p c.loop-i.invariant at
    (λ there. true≢false (sym (c.is_at.ensures.at.1 there) ∙ c.if-is_at.false))

pub returns : goal.returns
returns c =
    none-found c.args.self.now c.args.message.now c.requires c.label.result c.bucket-bucket.result.now c.label.ensures c.bucket-bucket.ensures c.loop-i.i c.loop-i-test.false c.loop-i.invariant
