use Rattle.std.proofs.Common.{◌<◌, ◌∙◌, length, ap, arith}
use Rattle.dac_status.proofs.Common.{node_count, label_text}
use Rattle.dac_status.proofs.Places.{node_numbered, length_listed}
use Rattle.dac_status.proofs.Groups.{members_begin, members_more}
use Rattle.dac_status.proofs.apps.put_group.Goals as goal

pub loop-number-init : goal.loop-number-init
loop-number-init c =
    let begins = c.requires.chains.begins c.args.group c.requires.place in
    record {
      text = members_begin c.args.labels.now c.args.groups.now c.args.marks.now c.args.group (node_count c.args.config.now) _ begins c.args.text.now.items;
      within = begins.within;
      there = begins.there;
    }

pub at-requires : goal.at-requires
at-requires c =
    let nodes = ap length c.requires.labels ∙ length_listed node_numbered (label_text c.args.config.now) (node_count c.args.config.now) in
    let number = c.loop-number-test.true in
    let count = c.nodes.ensures.count in
    omega (arith, nodes, number, count)

pub loop-number-preserved : goal.loop-number-preserved
loop-number-preserved c =
    let count = c.nodes.ensures.count in
    let test = c.loop-number-test.true in
    let inside : c.loop-number.number < node_count c.args.config.now = omega (arith, test, count) in
    let at = c.loop-number.invariant.there inside in
    let next = c.requires.chains.goes_on c.args.group c.loop-number.number c.requires.place (omega arith) inside at in
    record {
      text = members_more c.args.labels.now c.args.groups.now c.args.marks.now c.args.group (node_count c.args.config.now) c.loop-number.number _ at next c.args.text.now.items c.loop-number.text.items c.put_marked.new.text.items c.loop-number.invariant.text
          (rw c.at.ensures at c.in_ok-put_marked.ensures);
      within = next.within;
      there = next.there;
    }
