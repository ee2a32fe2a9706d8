use Rattle.std.proofs.Common.{◌≡◌, ◌≤◌, ◌↔◌, false, List, length, refl, sym, subst, ◌∙◌}
use Rattle.dac_live_play.proofs.Common.{IsTrue, canonical_text, MAX_TEXT, ScriptLine, run_lines}
use Rattle.dac_live_play.proofs.Sayings.{same_head, other_head, unparted, parted_once, unsaid, says_by, unsaid_by}
use Rattle.dac_live_play.proofs.saying.is_said.Goals as goal

pub returns-in_default : goal.returns-in_default
returns-in_default c = unsaid c.args.config.now c.args.text.now c.args.events.now false refl (λ run. unparted c.args.text.now (canonical_text c.args.config.now) run.script c.in_default.ensures run.parted)

pub returns-then-ne : goal.returns-then-ne
returns-then-ne c =
    let text = c.args.text.now in
    let head = c.in-Some.head.now in
    unsaid c.args.config.now text c.args.events.now false refl
    (λ run. other_head head c.args.canonical.now c.ne.result c.ne.ensures c.if-ne.true
    ((parted_once text head c.in-Some.script.now (canonical_text c.args.config.now) run.script c.in-Some.ensures run.parted).0 ∙ sym c.requires.canonical))

pub returns-in-Ok : goal.returns-in-Ok
returns-in-Ok c =
    let table = c.args.config.now in
    let head = c.in-Some.head.now in
    says_by table c.args.text.now c.args.events.now head c.in-Some.script.now c.in-Ok.lines.items c.say_run.result c.accepted_lines_in_words.ensures.lines c.requires.taken
    (subst (λ (t : List _). length t ≤ MAX_TEXT) c.requires.canonical c.requires.few) c.in-Some.ensures
    (same_head head c.args.canonical.now c.ne.result c.ne.ensures c.if-ne.false ∙ c.requires.canonical) c.in-Ok.ensures.ok
    (subst (λ (lines : List ScriptLine). IsTrue c.say_run.result ↔ (lines ≡ run_lines table c.args.events.now)) c.deref.ensures.value c.say_run.ensures)

pub returns-in-Err : goal.returns-in-Err
returns-in-Err c = unsaid_by c.args.config.now c.args.text.now c.args.events.now c.in-Some.head.now c.in-Some.script.now c.in-Err.failure c.unread.result c.in-Some.ensures c.in-Err.ensures.fault c.unread.ensures
