use Rattle.std.proofs.Common.{ℕ, sym, ap, ◌∙◌}
use Rattle.std.specs.FinMap.{find}
use Rattle.dac_wishes.specs.Keys.{key_cmp}
use Rattle.dac_wishes.specs.laws.Keys.{keys_total, exact_keys}
use Rattle.dac_wishes.specs.PermissionsValue.{PermissionsValue}
use Rattle.dac_wishes.specs.PermitsByKey.{permits_by_key}
use Rattle.dac_wishes.specs.WishesValue.{WishesValue}
use Rattle.dac_wishes.specs.StartsByKey.{starts_by_key}
use Rattle.dac_board.proofs.Walks.{same_votes_at, same_starts_at}
use Rattle.dac_board.proofs.moving.moved_by.Goals as goal

pub returns : goal.returns
returns c = λ app node lt unmarked.
    let k : ℕ × ℕ = (app.0, node.0) in
    let first = c.mark-2.ensures.before k unmarked in
    let old = c.args.old.now in
    let new = c.args.new.now in
    record {
      permits = λ key at there.
          same_votes_at keys_total exact_keys old.permits new.permits key
          (sym (ap (find key_cmp key) (c.entries.ensures ∙ ap (λ (p : PermissionsValue). permits_by_key p.standing) c.permissions.ensures))
          ∙ c.mark.ensures.same k first key (λ i. ((at i).0, (there i).0))
          ∙ ap (find key_cmp key) (c.entries-2.ensures ∙ ap (λ (p : PermissionsValue). permits_by_key p.standing) c.permissions-2.ensures));
      starts = λ key at there.
          same_starts_at old.starts new.starts key
          (sym (ap (find key_cmp key) (c.entries-3.ensures ∙ ap (λ (v : WishesValue). starts_by_key v.standing) c.wishes.ensures))
          ∙ c.mark-2.ensures.same k unmarked key (λ i. ((at i).0, (there i).0))
          ∙ ap (find key_cmp key) (c.entries-4.ensures ∙ ap (λ (v : WishesValue). starts_by_key v.standing) c.wishes-2.ensures));
    }
