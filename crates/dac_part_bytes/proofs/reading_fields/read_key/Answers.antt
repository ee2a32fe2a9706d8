use Rattle.std.proofs.Common.{arith}
use Rattle.dac_part_bytes.proofs.Common.{exact_gives, found_call, again_call, IsKeyAbove, key_above_at, key_bytes}
use Rattle.dac_part_bytes.proofs.KeyFields.{key_takes, key_again}
use Rattle.dac_part_bytes.proofs.reading_fields.read_key.Goals as goal

pub returns-clause-found : goal.returns-clause-found
returns-clause-found c =
    let read = key_above_at c.args.version c.args.config.now c.args.before in
    found_call (λ x. x) read (key_bytes c.args.version) (IsKeyAbove c.args.version c.args.config.now c.args.before) (key_takes c.args.version c.args.config.now c.args.before) c.args.reader c.read_key_above.result
    (exact_gives c.read_key_above.result (read c.args.reader) c.read_key_above.ensures.exact c.read_key_above.ensures.real)

pub returns-clause-again : goal.returns-clause-again
returns-clause-again c =
    let read = key_above_at c.args.version c.args.config.now c.args.before in
    again_call (λ x. x) read (key_bytes c.args.version) (IsKeyAbove c.args.version c.args.config.now c.args.before)
    (key_again c.args.version c.args.config.now (omega (arith, c.nodes-nodes.ensures.count, c.nodes-nodes.type_inv)) (omega (arith, c.apps-apps.ensures.count, c.apps-apps.type_inv)) c.args.before) c.args.reader c.read_key_above.result
    (exact_gives c.read_key_above.result (read c.args.reader) c.read_key_above.ensures.exact c.read_key_above.ensures.real)
