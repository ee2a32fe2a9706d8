use Rattle.std.proofs.Common.{subst}
use Rattle.dac_weave.specs.Indexing.{Files}
use Rattle.dac_weave.proofs.Mailed.{posts}
use Rattle.dac_weave.proofs.mail.Mail.post.Goals as goal

pub returns : goal.returns
returns c =
    posts _ _ c.requires c.args.message.now c.len-place.result c.len-place.ensures c.in_ok-put.ensures
    (subst (λ l. Files c.args.self.now.waiting.lists.items l c.len-place.result c.file.new.self.lists.items) c.label.ensures c.in_ok-file.ensures.files)
