-- The links of a run match, because they match in each phase.
use Rattle.std.proofs.Common.{◌≡◌, ◌≢◌, ℕ, zero, suc, ◌+◌, ◌*◌, ◌<◌, List, [], ◌∷◌, ◌++◌, length, map, refl, sym, ap, ◌∙◌, subst, arith}
use Rattle.dac_live.proofs.Common.{Record, Phase, found, records_at}
use Rattle.std.proofs.lemmas.List.{length-map, get_or-map, map-append}
use Rattle.dac_base.specs.declared.NodeId.{NodeId}
use Rattle.dac_messages.specs.declared.event.Event.TheVariants.{Ship, Hear}
use Rattle.dac_workers.specs.Links.{ships_to}
use Rattle.dac_workers.specs.laws.Found.{found_append}
use Rattle.dac_crews.specs.Compared.{Linked, sent_one, event_one}
use Rattle.dac_crews.specs.Journals.{JournalValue}
use Rattle.dac_phases.specs.Pairs.{shipper_seat, worker_seat, LinksHold}
use Rattle.dac_phases.specs.Phases.{part_at, AreParted, ArePhased, FallIntoPhases}

-- ---- one link
ships_append : (to : NodeId) (m n : ℕ) → ships_to to m ++ ships_to to n ≡ ships_to to (m + n)
ships_append to zero n = let all : n ≡ 0 + n = omega arith in ap (ships_to to) all
ships_append to (suc m) n = let all : suc (m + n) ≡ suc m + n = omega arith in ap (λ l. Ship to ∷ l) (ships_append to m n) ∙ ap (ships_to to) all

linked_append : (n : ℕ) (to : NodeId) (s w : ℕ) (sent sent_on heard heard_on : List Record) → Linked 1 to s w sent heard → Linked n to s w sent_on heard_on → Linked (suc n) to s w (sent ++ sent_on) (heard ++ heard_on)
linked_append n to s w sent sent_on heard heard_on one others =
    let many : 5 * 1 + 5 * n ≡ 5 * suc n = omega arith in
    record {
      same =
          found_append (event_one w) heard heard_on ∙ (λ i. one.same i ++ others.same i)
          ∙ sym (ap (map Hear) (found_append (sent_one s) sent sent_on) ∙ map-append Hear (found (sent_one s) sent) (found (sent_one s) sent_on));
      ships = found_append (event_one s) sent sent_on ∙ (λ i. one.ships i ++ others.ships i) ∙ ships_append to (5 * 1) (5 * n) ∙ ap (ships_to to) many;
    }

-- ---- all journals
-- each node's records are those of its part and of its rest
parted_at : (js ps rs : List (List Record)) (i : ℕ) → AreParted js ps rs → i < length js → part_at js i ≡ part_at ps i ++ part_at rs i
parted_at [] ps rs i all within = absurd (omega (arith, within))
parted_at (j ∷ js) [] [] i all within = absurd all
parted_at (j ∷ js) [] (r ∷ rs) i all within = absurd all
parted_at (j ∷ js) (p ∷ ps) [] i all within = absurd all
parted_at (j ∷ js) (p ∷ ps) (r ∷ rs) zero all within = all.0
parted_at (j ∷ js) (p ∷ ps) (r ∷ rs) (suc i) all within = let less : i < length js = omega (arith, within) in parted_at js ps rs i all.1 less

-- there are as many parts and rests as journals
parted_long : (js ps rs : List (List Record)) → AreParted js ps rs → (length ps ≡ length js) × (length rs ≡ length js)
parted_long [] [] [] all = (refl, refl)
parted_long [] [] (r ∷ rs) all = absurd all
parted_long [] (p ∷ ps) [] all = absurd all
parted_long [] (p ∷ ps) (r ∷ rs) all = absurd all
parted_long (j ∷ js) [] [] all = absurd all
parted_long (j ∷ js) [] (r ∷ rs) all = absurd all
parted_long (j ∷ js) (p ∷ ps) [] all = absurd all
parted_long (j ∷ js) (p ∷ ps) (r ∷ rs) all = let on = parted_long js ps rs all.1 in (ap suc on.0, ap suc on.1)

-- the records of these nodes match at the link from f to t, over this many phases
abbrev Matches : ℕ → ℕ → ℕ → List Record → List Record → Type 0
Matches n f t sender receiver = Linked n (record { 0 = t }) (shipper_seat f t) (worker_seat t f) sender receiver

joined : (phases : List Phase) (journals : List (List Record)) (f t : ℕ) → ArePhased phases journals → f < length journals → t < length journals → t ≢ f → Matches (length phases) f t (part_at journals f) (part_at journals t)
joined [] journals f t none from to other =
    let sender : List Record → Type 0 = λ l. Matches 0 f t l (part_at journals t) in
    let receiver : List Record → Type 0 = λ l. Matches 0 f t [] l in
    subst sender (sym (none f [] from)) (subst receiver (sym (none t [] to)) (record { same = refl; ships = refl }))
joined (phase ∷ phases) journals f t begun from to other =
    let ps = begun.parts in let rs = begun.rests in
    let long = parted_long journals ps rs begun.parted in
    let part_from : f < length ps = omega (arith, from, long.0) in
    let part_to : t < length ps = omega (arith, to, long.0) in
    let rest_from : f < length rs = omega (arith, from, long.1) in
    let rest_to : t < length rs = omega (arith, to, long.1) in
    let n = length phases in
    let sender : List Record → Type 0 = λ l. Matches (suc n) f t l (part_at journals t) in
    let receiver : List Record → Type 0 = λ l. Matches (suc n) f t (part_at ps f ++ part_at rs f) l in
    subst sender (sym (parted_at journals ps rs f begun.parted from)) (subst receiver (sym (parted_at journals ps rs t begun.parted to))
    (linked_append n _ _ _ (part_at ps f) (part_at rs f) (part_at ps t) (part_at rs t) (begun.holds.links f part_from t part_to other) (joined phases rs f t begun.others rest_from rest_to other)))

-- the records of one journal of all
one_of : (closed : List JournalValue) (i : ℕ) → i < length closed → part_at (map (λ (j : JournalValue). j.records) closed) i ≡ records_at closed i
one_of closed i within = get_or-map (λ (j : JournalValue). j.records) closed i _ [] within

-- journals that consist of the phases match at both ends of all links
pub links_hold : (phases : List Phase) (closed : List JournalValue) → FallIntoPhases phases closed → LinksHold (length phases) closed
links_hold phases closed falls f from t to other =
    let own = λ (j : JournalValue). j.records in
    let many : length (map own closed) ≡ length closed = length-map closed own in
    let first : f < length (map own closed) = omega (arith, from, many) in
    let second : t < length (map own closed) = omega (arith, to, many) in
    let sender : List Record → Type 0 = λ l. Matches (length phases) f t l (records_at closed t) in
    let receiver : List Record → Type 0 = λ l. Matches (length phases) f t (part_at (map own closed) f) l in
    subst sender (one_of closed f from) (subst receiver (one_of closed t to) (joined phases (map own closed) f t falls first second other))
