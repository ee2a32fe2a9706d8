use Rattle.std.proofs.Common.{◌≤◌, length, arith, le-ltb}
use Rattle.std.proofs.lemmas.Result.{IfOk-weaker}
use Rattle.dac_shapes.specs.laws.Common.{Gives, file_at, draft_at, draft_of, IsWithinLimits}
use Rattle.dac_shapes.proofs.Texts.{Tokenizes, whole, found_in, only_in, memory_in}
use Rattle.dac_shapes.proofs.Within.{text_within}
use Rattle.dac_shapes.proofs.reading.parse_draft.Goals as goal

pub returns : goal.returns
unfolding draft_at
returns c =
    let known : Tokenizes c.args.text.now c.new.result = record { read = c.new.ensures.read; end = c.new.ensures.end; spelled = c.new.ensures.spelled } in
    let read : Gives draft_of c.file.result (file_at (whole c.new.result)) = rw (c.new-2.ensures.items, c.new-3.ensures.items) at c.file.ensures in
    let short : length c.args.text.now ≤ 65536 = omega arith in
    let found = found_in c.args.text.now c.new.result c.file.result known short read in
    record {
      found = found;
      only = λ draft is. only_in c.args.text.now c.new.result c.file.result known read draft is;
      limits = IfOk-weaker _ _ (λ draft. IsWithinLimits (draft_of draft)) (λ draft is. text_within c.args.text.now (draft_of draft) is) found;
      exact = rw (le-ltb 65536 (length c.args.text.now) short) (rw c.new.ensures.read at read);
      memory = memory_in c.new.result c.file.result read;
    }
