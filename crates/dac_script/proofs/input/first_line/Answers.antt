use Rattle.std.proofs.Common.{◌<◌, ◌≤◌, length, arith}
use Rattle.dac_script.proofs.Parting.{first_more, first_whole, first_last, behind_of}
use Rattle.dac_script.proofs.input.first_line.Goals as goal

pub returns-in-empty-clause-last : goal.returns-in-empty-clause-last
returns-in-empty-clause-last c =
    let past : length c.args.text.now ≤ c.line_len.result = omega (arith, c.split_at.ensures.back_len, c.in-empty.len_below) in
    rw c.split_at.ensures.front (first_last c.args.text.now c.line_len.result c.line_len.ensures.length past)

pub returns-in-len1-up : goal.returns-in-len1-up
returns-in-len1-up c =
    let within : c.line_len.result < length c.args.text.now = omega (arith, c.split_at.ensures.back_len, c.in-len1-up.len_at_least) in
    let behind = behind_of c.args.text.now c.split_at.result.1.now c.line_len.result c.split_at.ensures.back in
    record {
      last = tt;
      whole = rw (c.split_at.ensures.front, behind) (first_whole c.args.text.now c.line_len.result c.line_len.ensures.length within);
      more = rw (c.split_at.ensures.front, behind) (first_more c.args.text.now c.line_len.result c.line_len.ensures.length within);
    }
