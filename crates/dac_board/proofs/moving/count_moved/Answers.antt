use Rattle.std.proofs.Common.{rules, ◌≡◌, ℕ, length, refl, sym, ap, ◌∙◌, arith}
use Rattle.std.proofs.lemmas.Bool.{false≢true}
use Rattle.dac_board.proofs.Stays.{marked_more, beyond_marked}
use Rattle.dac_board.proofs.moving.count_moved.Goals as goal

pub returns-then-place-lt-MAX_APPS-clause-before : goal.returns-then-place-lt-MAX_APPS-clause-before
returns-then-place-lt-MAX_APPS-clause-before c = λ k e.
    let long : length c.args.moved.now ≡ 64 = search rules in
    let below = c.if-place-lt-MAX_APPS.true in
    (marked_more c.args.moved.now c.args.key.app.0 c.args.key.node.0 _ k (omega (arith, long, below)) refl e).0

pub returns-then-place-lt-MAX_APPS-clause-own : goal.returns-then-place-lt-MAX_APPS-clause-own
returns-then-place-lt-MAX_APPS-clause-own c = λ k e at.
    let long : length c.args.moved.now ≡ 64 = search rules in
    let below = c.if-place-lt-MAX_APPS.true in
    (marked_more c.args.moved.now c.args.key.app.0 c.args.key.node.0 _ k (omega (arith, long, below)) refl e).1 at

pub returns-else-place-lt-MAX_APPS-clause-own : goal.returns-else-place-lt-MAX_APPS-clause-own
returns-else-place-lt-MAX_APPS-clause-own c = λ k e at.
    let long = c.if-place-lt-MAX_APPS.array_long in
    let past = c.if-place-lt-MAX_APPS.false in
    let same = ap (λ (p : ℕ × ℕ). p.0) at in
    false≢true (sym e ∙ beyond_marked c.args.moved.now k (omega (arith, long, past, same)))
