use Rattle.std.proofs.Common.{◌≡◌, ◌∙◌, ap, sym}
use Rattle.dac_wishes.specs.PermissionsValue.{PermissionsValue}
use Rattle.dac_wishes.specs.WishesValue.{WishesValue}
use Rattle.dac_wishes.specs.DrainsValue.{DrainsValue}
use Rattle.dac_wishes.specs.StandingValue.{standing_of}
use Rattle.dac_wishes.specs.Keys.{key_cmp}
use Rattle.dac_origins.specs.Dots.{origin_cmp}
use Rattle.dac_wishes.proofs.VoteStoring.{votes_with}
use Rattle.dac_wishes.proofs.standing.StandingWrites.of.Goals as goal

pub invariant_of-result : goal.invariant_of-result
invariant_of-result c =
    let permits = c.into_causal.result in
    let starts = c.into_causal-2.result in
    let drains = c.into_causal-3.result in
    let known : starts.context ≡ c.args.wishes.known = ap (λ (v : WishesValue). v.known) c.into_causal-2.ensures.value in
    let alike : permits.context ≡ starts.context = ap (λ (v : PermissionsValue). v.known) c.into_causal.ensures.value ∙ c.requires.alike ∙ sym known in
    let drained : drains.context ≡ starts.context = ap (λ (v : DrainsValue). v.known) c.into_causal-3.ensures.value ∙ c.requires.drained ∙ sym known in
    rw (c.into_parts-permits.ensures, c.into_parts-starts.ensures, c.into_parts-drains.ensures) (record {
      permits = votes_with key_cmp permits starts.context c.into_causal.ensures.stored alike;
      starts = c.into_causal-2.ensures.stored;
      drains = votes_with origin_cmp drains starts.context c.into_causal-3.ensures.stored drained;
    })

pub returns : goal.returns
returns c =
    rw (c.into_parts-permits.ensures, c.into_parts-starts.ensures, c.into_parts-drains.ensures)
    (λ i. standing_of (c.into_causal.ensures.value i) (c.into_causal-2.ensures.value i) (c.into_causal-3.ensures.value i))
