-- The part of an operation that each piece of a state depends on.
use Rattle.std.specs.Prelude.{not, List, filter, if◌then◌else◌}
use Rattle.dac_origins.specs.declared.dot.Dot.{Dot}
use Rattle.dac_wishes.specs.declared.wish_act.WishAct.{WishAct}
use Rattle.dac_wishes.specs.declared.wish_act.WishAct.TheVariants.{Start as SeenStart, Other as NoWish}
use Rattle.dac_wishes.specs.declared.permit_act.PermitAct.{PermitAct}
use Rattle.dac_wishes.specs.declared.permit_act.PermitAct.TheVariants.{Permit as SeenPermit, Other as NoPermit}
use Rattle.dac_wishes.specs.declared.drain_act.DrainAct.{DrainAct}
use Rattle.dac_wishes.specs.declared.drain_act.DrainAct.TheVariants.{Drain as SeenDrain, Other as NoDrain}
use Rattle.dac_wishes.specs.DrainsValue.{origin}
use Rattle.dac_wishes.specs.Writes.{same_dot}
use Rattle.dac_chains.specs.declared.lives.LifeAct.{LifeAct}
use Rattle.dac_chains.specs.declared.lives.LifeAct.TheVariants.{Up as SeenUp, Down as SeenDown, Other as NoLife}
use Rattle.dac_chains.specs.declared.claims.ClaimAct.{ClaimAct}
use Rattle.dac_chains.specs.declared.claims.ClaimAct.TheVariants.{Claim as SeenClaim, Other as NoClaim}
use Rattle.dac_operations.specs.declared.act.Act.{Act}
use Rattle.dac_operations.specs.declared.act.Act.TheVariants.{Up, Down, Permit, Start, Drain, Claim}
use Rattle.dac_operations.specs.Operations.{over_list, replaces_itself}

-- the part for start wishes, of an act that doesn't replace its own dot
abbrev pub wish_in : Act → WishAct
wish_in (Start key over) = SeenStart key over
wish_in a = NoWish (over_list a)

-- the part for permissions, of an act that doesn't replace its own dot
abbrev pub permit_in : Act → PermitAct
permit_in (Permit key value over) = SeenPermit key value over
permit_in a = NoPermit (over_list a)

-- the part for drains, of an act that doesn't replace its own dot
abbrev pub drain_in : Act → DrainAct
drain_in (Drain node inc value over) = SeenDrain (origin node inc) value over
drain_in a = NoDrain (over_list a)

-- the list without the dot
abbrev pub without : Dot → List Dot → List Dot
without d over = filter (λ (x : Dot). not (same_dot d x)) over

-- The part of an act with its dot, where `sees` is the part of an act that doesn't replace its own dot. No operation
-- replaces itself; one that did would only replace its other dots.
abbrev pub seen_by : {A : Type 0} → (List Dot → A) → (Act → A) → Dot → Act → A
seen_by nothing sees d a = if replaces_itself d a then nothing (without d (over_list a)) else sees a

-- the part of an act with its dot for start wishes
abbrev pub seen_wish : Dot → Act → WishAct
seen_wish = seen_by NoWish wish_in

-- the part of an act with its dot for permissions
abbrev pub seen_permit : Dot → Act → PermitAct
seen_permit = seen_by NoPermit permit_in

-- the part of an act with its dot for drains
abbrev pub seen_drain : Dot → Act → DrainAct
seen_drain = seen_by NoDrain drain_in

-- the part of an act for lives
abbrev pub seen_life : Act → LifeAct
seen_life Up = SeenUp
seen_life (Down node inc) = SeenDown node inc
seen_life _ = NoLife

-- the part of an act for claims
abbrev pub seen_claim : Act → ClaimAct
seen_claim (Claim app term how from) = SeenClaim app term how from
seen_claim _ = NoClaim
