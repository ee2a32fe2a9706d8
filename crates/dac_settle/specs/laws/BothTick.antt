-- The round of the worked cases: two nodes with the same set tick, ship all to each other, and hold the same set again.
use Rattle.std.proofs.Common.{◌≡◌, ◌⊎◌, Bool, true, false, cond, List, [], ◌∷◌, ◌++◌, Option, Some, None, refl, sym, ap, subst, ◌∙◌, inl, inr}
use Rattle.dac_settle.specs.laws.Common.{IsSome, true≢false, NodeId, Operation, IsOperationOf, AreOperationsOf, DotsDetermine, meaning_of, In-append_left, In-append_right, In-append_cases, Note, waits_of, terms_used_up, sweep_from, swept_by, Member, with_member, own_of, ticked, IsTick, MemberEvent, AllSame, first_node, second_node, IsEither, the_app, worked_table, member_with, both_hold}
use Rattle.std.specs.Prelude.{nat_eq}
use Rattle.std.specs.Option.{is_some}
use Rattle.dac_ticks.specs.Again.{noting}
use Rattle.dac_settle.specs.Settling.{sweep_at, holding, Run, IsRound}
use Rattle.dac_settle.specs.Settling.MemberEvent.{Tick, Ship, Deliver}
use Rattle.dac_settle.specs.laws.AnyPlacement.{same_node, one, some_is}

none_some : {X : Type 0} {v : X} {Y : Type 0} → ◌≡◌ {A = Option X} None (Some v) → Y
none_some e = cc

pub no_row : (row : List Note) (begin : Note) (before : List Note) → [] ≡ row ++ begin ∷ before → ⊥
no_row [] begin before e = cc
no_row (note ∷ row) begin before e = cc

module _ (held : List Operation) where
  -- ---- the running nodes
  pub is_member : (m : NodeId) (d : Member) → both_hold held m ≡ Some d → (member_with held ≡ d) × IsEither m
  is_member m d e = by_tests (nat_eq m.0 0) (nat_eq m.0 1) refl refl e
    where
      by_tests : (a b : Bool) → nat_eq m.0 0 ≡ a → nat_eq m.0 1 ≡ b → cond a (Some (member_with held)) (cond b (Some (member_with held)) None) ≡ Some d → (member_with held ≡ d) × IsEither m
      by_tests true b at other e = (one e, inl (same_node at))
      by_tests false true other at e = (one e, inr (same_node at))
      by_tests false false other another e = none_some e

  pub runs : (m : NodeId) → IsEither m → both_hold held m ≡ Some (member_with held)
  runs m either = elim either [ inl first ↦ ap (both_hold held) first | inr second ↦ ap (both_hold held) second ]

  module _ (agree : DotsDetermine held) (left : terms_used_up (meaning_of held) the_app ≡ false) where
    -- ---- the ticks
    ticks_well : (n : NodeId) → IsTick worked_table n (member_with held) 0
    ticks_well n = record {
      agree = agree;
      late = λ app claim since noted. absurd (no_row noted.row noted.begin noted.before noted.parts);
      passed =
          swept_by worked_table (own_of n (member_with held)) (waits_of worked_table (noting (meaning_of held) 0 [])) 0 (λ sweep. sweep.passed ≡ []) (sweep_from (meaning_of held)) the_app
          (λ none. refl) (λ mine used. absurd (true≢false (sym used ∙ left))) (λ mine left. refl);
    }

    -- ---- the round
    abbrev made : NodeId → List Operation
    made n = (sweep_at worked_table n (member_with held) 0).ops

    -- a node after its tick, and after it has heard the other's claims
    abbrev after_tick : NodeId → Member
    after_tick n = ticked (member_with held) 0 (made n)

    abbrev after_round : NodeId → NodeId → Member
    after_round n other = holding (after_tick n) (after_tick other).held

    abbrev both_ticked : NodeId → Option Member
    both_ticked = with_member (with_member (both_hold held) first_node (after_tick first_node)) second_node (after_tick second_node)

    abbrev pub after_all : NodeId → Option Member
    after_all = with_member (with_member both_ticked first_node (after_round first_node second_node)) second_node (after_round second_node first_node)

    abbrev the_events : List MemberEvent
    the_events = Tick first_node 0 ∷ Tick second_node 0 ∷ Ship first_node ∷ Ship second_node ∷ Deliver first_node ∷ Deliver second_node ∷ []

    abbrev the_copies : List (List Operation)
    the_copies = (after_tick first_node).held ∷ (after_tick second_node).held ∷ []

    the_run : Run worked_table (record { node = both_hold held; copies = [] }) the_events (record { node = after_all; copies = the_copies })
    the_run = (
      record { node = with_member (both_hold held) first_node (after_tick first_node); copies = [] },
      (member_with held, refl, ticks_well first_node, refl),
      (
        record { node = both_ticked; copies = [] },
        (member_with held, refl, ticks_well second_node, refl),
        (
          record { node = both_ticked; copies = (after_tick first_node).held ∷ [] },
          (after_tick first_node, refl, refl),
          (
            record { node = both_ticked; copies = the_copies },
            (after_tick second_node, refl, refl),
            (
              record { node = with_member both_ticked first_node (after_round first_node second_node); copies = the_copies },
              (after_tick first_node, (after_tick second_node).held, refl, inr (inl refl), refl),
              (
                record { node = after_all; copies = the_copies },
                (after_tick second_node, (after_tick first_node).held, refl, inl refl, refl),
                refl,
              ),
            ),
          ),
        ),
      ),
    )

    is_after : (m : NodeId) (d : Member) → after_all m ≡ Some d → (after_round first_node second_node ≡ d) ⊎ (after_round second_node first_node ≡ d)
    is_after m d e = by_tests (nat_eq m.0 1) (nat_eq m.0 0) e
      where
        by_tests : (b a : Bool)
            → cond b (Some (after_round second_node first_node)) (cond a (Some (after_round first_node second_node)) (cond b (Some (after_tick second_node)) (cond a (Some (after_tick first_node)) (cond a (Some (member_with held)) (cond b (Some (member_with held)) None))))) ≡ Some d
            → (after_round first_node second_node ≡ d) ⊎ (after_round second_node first_node ≡ d)
        by_tests true a e = inr (one e)
        by_tests false true e = inl (one e)
        by_tests false false e = none_some e

    turned_round : (xs ys : List Operation) → AreOperationsOf (xs ++ ys) (ys ++ xs)
    turned_round xs ys o i = elim (In-append_cases o xs ys i) [ inl x ↦ In-append_right o ys xs x | inr y ↦ In-append_left o ys xs y ]

    within : {a b c f : Member} → a ≡ c → b ≡ f → AreOperationsOf a.held b.held → AreOperationsOf c.held f.held
    within p q w o = subst (λ (k : Member × Member). IsOperationOf o k.0.held → IsOperationOf o k.1.held) (λ i. (p i, q i)) (w o)

    all_same : AllSame after_all
    all_same m n d e of_m of_n = elim (is_after m d of_m) [
      | inl first ↦ elim (is_after n e of_n) [
        | inl again ↦ within first again (λ o i. i)
        | inr second ↦ within first second (turned_round (after_tick first_node).held (after_tick second_node).held)
      ]
      | inr second ↦ elim (is_after n e of_n) [
        | inl first ↦ within second first (turned_round (after_tick second_node).held (after_tick first_node).held)
        | inr again ↦ within second again (λ o i. i)
      ]
    ]

    pub the_round : IsRound worked_table (both_hold held) after_all
    the_round = record {
      events = the_events;
      copies = the_copies;
      run = the_run;
      ticks = λ n is.
          let d = some_is (both_hold held n) is in
          elim (is_member n d.0 d.1).1 [ inl first ↦ inl (0, ap (λ k. Tick k 0) first) | inr second ↦ inr (inl (0, ap (λ k. Tick k 0) second)) ];
      same = all_same;
    }

    pub both_run : (n : NodeId) → IsEither n → IsSome (after_all n)
    both_run n either = elim either [ inl first ↦ ap (λ k. is_some (after_all k)) first | inr second ↦ ap (λ k. is_some (after_all k)) second ]
