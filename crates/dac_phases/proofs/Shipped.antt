-- The events of a link's two seats, as the program compares them.
use Rattle.std.proofs.Common.{◌≡◌, ℕ, ◌*◌, List, [], ◌∷◌, map, Bor, refl, sym, ap, subst, ◌∙◌}
use Rattle.dac_phases.specs.laws.Common.{Record, Linked, found, event_one}
use Rattle.dac_base.specs.declared.NodeId.{NodeId}
use Rattle.dac_messages.specs.declared.event.Event.TheVariants.{Hear}
use Rattle.dac_messages.specs.declared.message.Message.{Message}
use Rattle.dac_crews.specs.Compared.{sent_one}
use Rattle.dac_workers.specs.Links.{ships_to}

heard_all : (ms : List (Bor Message)) → map (λ (m : Bor Message). Hear m.now) ms ≡ map Hear (map (λ (m : Bor Message). m.now) ms)
heard_all [] = refl
heard_all (m ∷ ms) = ap (λ l. Hear m.now ∷ l) (heard_all ms)

pub linked : (phases wanted : ℕ) (to : NodeId) (s w shipper worker : ℕ) (sender receiver : List Record) (sent items : List (Bor Message)) → wanted ≡ 5 * phases → s ≡ shipper → w ≡ worker → sent ≡ items
    → map (λ (m : Bor Message). m.now) items ≡ found (sent_one s) sender → found (event_one w) receiver ≡ map (λ (m : Bor Message). Hear m.now) sent → found (event_one s) sender ≡ ships_to to wanted → Linked phases to shipper worker sender receiver
linked phases wanted to s w shipper worker sender receiver sent items many at on same by heard ships =
    subst (λ (x : ℕ). Linked phases to x worker sender receiver) at (subst (λ (y : ℕ). Linked phases to s y sender receiver) on (record {
      same = heard ∙ heard_all sent ∙ ap (map Hear) (ap (map (λ (m : Bor Message). m.now)) same ∙ by);
      ships = ships ∙ ap (ships_to to) many;
    }))

-- if the link matches, the comparison succeeds
pub heard_of : (phases : ℕ) (to : NodeId) (s w shipper worker : ℕ) (sender receiver : List Record) (sent items : List (Bor Message)) → s ≡ shipper → w ≡ worker → sent ≡ items → map (λ (m : Bor Message). m.now) items ≡ found (sent_one s) sender
    → Linked phases to shipper worker sender receiver → found (event_one w) receiver ≡ map (λ (m : Bor Message). Hear m.now) sent
heard_of phases to s w shipper worker sender receiver sent items at on same by l =
    ap (λ (k : ℕ). found (event_one k) receiver) on ∙ l.same ∙ ap (λ (k : ℕ). map Hear (found (sent_one k) sender)) (sym at) ∙ sym (heard_all sent ∙ ap (map Hear) (ap (map (λ (m : Bor Message). m.now)) same ∙ by))

pub ships_of : (phases wanted : ℕ) (to : NodeId) (s shipper worker : ℕ) (sender receiver : List Record) → wanted ≡ 5 * phases → s ≡ shipper → Linked phases to shipper worker sender receiver → found (event_one s) sender ≡ ships_to to wanted
ships_of phases wanted to s shipper worker sender receiver many at l = ap (λ (k : ℕ). found (event_one k) sender) at ∙ l.ships ∙ ap (ships_to to) (sym many)
