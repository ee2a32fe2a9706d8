use Rattle.std.proofs.Common.{◌≡◌, Some, ap, sym, ◌∙◌}
use Rattle.dac_peers.specs.laws.Common.{same_Some, Numbers, greater, Position}
use Rattle.std.specs.FinMap as map
use Rattle.dac_peers.proofs.Latest.{of_node, raised_at, stay_latest}
use Rattle.dac_peers.proofs.acked.Acked.raise.Goals as goal

pub invariant_of-self-2 : goal.invariant_of-self-2
invariant_of-self-2 c =
    let origin = c.args.origin in
    let acked = c.self.inside.numbers in
    let after = c.raise.new.self in
    let noted : Position = record { inc = origin.inc; number = c.greater-greatest.result } in
    let number : of_node after origin.node origin.inc ≡ Some c.greater-greatest.result =
    ap (λ (m : Numbers). map.get m origin) c.in_ok-raise.ensures.ok
    ∙ (raised_at acked origin c.args.number ∙ ap (λ n. Some n) (sym (c.greater-greatest.ensures ∙ ap (λ before. greater before c.args.number) (c.get.ensures ∙ ap (λ (m : Numbers). map.get m origin) (sym c.self.view_is))))) in
    let fits : (p : Position) → Some noted ≡ Some p → of_node after origin.node p.inc ≡ Some p.number = λ p is.
    let same = same_Some noted p is in
    ap (λ (l : Position). of_node after origin.node l.inc) (sym same) ∙ (number ∙ ap (λ (l : Position). Some l.number) same) in
    stay_latest acked after origin c.args.number c.self.inside.latest.items c.note.new.latest.items (Some noted) c.self.invariant c.in_ok-raise.ensures.ok c.note.ensures fits
