-- The worked run with a share: both nodes boot, one hears of the other, and each ships its whole set to the other.
use Rattle.std.proofs.Common.{◌≡◌, append-nil, ◌⊎◌, ℕ, ◌+◌, ◌≤◌, Bool, true, false, not, cond, ◌&&◌, List, [], ◌∷◌, ◌++◌, length, Option, Some, None, option_map, Ok, refl, sym, ap, subst, ◌∙◌, arith, inl, inr}
use Rattle.dac_settle.specs.laws.Common.{nat_lt, NodeId, MAX_COUNTER, Life, IsLive, Operation, StateValue, IsOperationOf, AreOperationsOf, meaning_of, life_said, is_below, meaning-same, WorldEvent, Hand, Message, Whole, Boot, Hear, HearOp, Booted, Heard, Refusal, DotsUsedUp, UnknownNode, OnSelf, UpToDate, NotForMe, no_node, Position, no_peers, ack_for, has_all, ModelNode, joined, shown, running_shown, refusal_of, message_of, body_from, step_by, ModelWorld, answered_by, NodeSet, SetWorld, no_sets, set_run, first_node, second_node, IsEither, worked_table, first_of, up_of}
use Rattle.std.specs.Prelude.{nat_eq}
use Rattle.std.specs.FinMap as map
use Rattle.std.specs.FinSet as set
use Rattle.dac_events.specs.declared.What.TheVariants.{Boot as Booting, Ship as Shipping, Deliver}
use Rattle.dac_messages.specs.declared.event.Event.TheVariants.{Ship}
use Rattle.dac_messages.specs.declared.reply.Reply.TheVariants.{Shipped}
use Rattle.dac_commands.specs.Causes.{first}
use Rattle.dac_model_world.specs.ModelWorld.{Run}
use Rattle.dac_model_world.specs.Fits.{RunsIn}
use Rattle.dac_model_world.specs.Shares.{TellsAll, IsShare, KnowPresent}
use Rattle.dac_model_world.specs.laws.Numbering.{life_says}
use Rattle.dac_model_world.specs.laws.SharesInRuns.{shares_run}
use Rattle.dac_settle.specs.Worked.{begun}
use Rattle.dac_settle.specs.WorkedShare.{coming, telling, SharesCanBe}
use Rattle.dac_settle.specs.laws.AnyPlacement.{same_node, one}
use Rattle.dac_settle.specs.laws.Started.{are_live}
use Rattle.dac_settle.proofs.ComingUp.{none_some, booted}
use Rattle.dac_settle.proofs.Handed.{Answer, w0, pushed, run_of, waiting, with_op, base_with, hearing, few_by, longer, hears_op}
use Rattle.dac_settle.proofs.RoundOfTwo.{begins_none, and_none, happens_so}

-- ---- a node that ships its whole state, and hears another's

module _ (n : NodeId) (log : List StateValue) (base : ℕ) (to : NodeId) where
  abbrev body_by : Option Position → Message
  body_by p = record { from = first_of n; to = to; only = option_map (λ (p : Position). p.inc) p; up_to = length log; body = body_from (running_shown worked_table (run_of n false [] log base)) p; ack = ack_for no_peers to }

  abbrev the_message : Message
  the_message = record { from = first_of n; to = to; only = None; up_to = length log; body = Whole (joined log); ack = ack_for no_peers to }

  message_is : message_of (running_shown worked_table (run_of n false [] log base)) to ≡ the_message
  message_is = ap body_by (begins_none (joined log) base to)

  ships_on : no_node worked_table to ≡ false → nat_eq to.0 n.0 ≡ false → refusal_of worked_table (shown worked_table (waiting n log base)) (Ship to) ≡ None
  ships_on there other = λ i. refused (there i) (other i) (has_all (length log) (begins_none (joined log) base to i) && not (set.contains no_peers.owed to))
    where
      refused : Bool → Bool → Bool → Option Refusal
      refused none self up = first ((none, UnknownNode) ∷ (self, OnSelf) ∷ (up, UpToDate) ∷ [])

  -- the node after the ship
  abbrev shipping : ModelNode
  shipping = (step_by None worked_table n (waiting n log base) (Ship to)).node

  -- the node hears this message from the other, which has this log
  module _ (theirs : List StateValue) (m : Message) where
    few : length log ≤ 9 → nat_lt MAX_COUNTER (length (log ++ []) + 1) ≡ false
    few short = ap (λ (l : List StateValue). nat_lt MAX_COUNTER (length l + 1)) (append-nil log) ∙ few_by (length log) short

hears_on : (n from : NodeId) (log theirs : List StateValue) (base more : ℕ) → length log ≤ 9 → nat_eq from.0 n.0 ≡ false → nat_eq n.0 n.0 ≡ true
    → refusal_of worked_table (shown worked_table (shipping n log base from)) (Hear (the_message from theirs more n)) ≡ None
hears_on n from log theirs base more short other own =
    let fresh = not (is_below (joined theirs) (joined (log ++ []))) in
    (λ i. refused (other i) (own i) (fresh && few n log base from theirs (the_message from theirs more n) short i))
    ∙ ap (refused false true) (and_none fresh)
  where
    refused : Bool → Bool → Bool → Option Refusal
    refused self mine many = first ((self, OnSelf) ∷ (not (mine && true), NotForMe) ∷ (many, DotsUsedUp) ∷ [])

-- ---- the run

abbrev log1 : List StateValue
log1 = meaning_of (up_of first_node ∷ []) ∷ []

abbrev log2 : List StateValue
log2 = meaning_of (up_of second_node ∷ []) ∷ []

abbrev log3 : List StateValue
log3 = with_op log2 (up_of first_node)

abbrev base3 : ℕ
base3 = base_with 0 log2 (up_of first_node)

short3 : length log3 ≤ 9
short3 = let l = longer log2 (up_of first_node) in omega (arith, l)

abbrev e1 : WorldEvent
e1 = record { node = first_node; what = Booting 0 }

abbrev e2 : WorldEvent
e2 = record { node = second_node; what = Booting 0 }

abbrev e3 : WorldEvent
e3 = record { node = second_node; what = Hand 1 }

abbrev e4 : WorldEvent
e4 = record { node = first_node; what = Shipping second_node }

abbrev e5 : WorldEvent
e5 = record { node = second_node; what = Shipping first_node }

abbrev e6 : WorldEvent
e6 = record { node = second_node; what = Deliver 1 }

abbrev e7 : WorldEvent
e7 = record { node = first_node; what = Deliver 2 }

abbrev m1 : Message
m1 = the_message first_node log1 0 second_node

abbrev m2 : Message
m2 = the_message second_node log3 base3 first_node

abbrev a1 : Answer
a1 = Ok (Booted (up_of first_node))

abbrev a2 : Answer
a2 = Ok (Booted (up_of second_node))

abbrev a3 : Answer
a3 = Ok (hearing log2 (up_of first_node))

abbrev a4 : Answer
a4 = Ok (Shipped m1)

abbrev a5 : Answer
a5 = Ok (Shipped m2)

abbrev a6 : Answer
a6 = Ok (Heard (not (is_below (joined log1) (joined (log3 ++ [])))))

abbrev a7 : Answer
a7 = Ok (Heard (not (is_below (joined log3) (joined (log1 ++ [])))))

abbrev w1 : ModelWorld
w1 = (answered_by w0 first_node (booted first_node) (Ok (Booted (up_of first_node)))).world

run1 : Run worked_table w0 (e1 ∷ []) (a1 ∷ []) w1
run1 = pushed w0 [] [] e1 (booted first_node) (Booted (up_of first_node)) (tt, refl) (happens_so w0 first_node (Booting 0) (Boot 0) refl refl refl)

abbrev w2 : ModelWorld
w2 = (answered_by w1 second_node (booted second_node) (Ok (Booted (up_of second_node)))).world

run2 : Run worked_table w0 (e1 ∷ e2 ∷ []) (a1 ∷ a2 ∷ []) w2
run2 = pushed w1 (e1 ∷ []) (a1 ∷ []) e2 (booted second_node) (Booted (up_of second_node)) run1 (happens_so w1 second_node (Booting 0) (Boot 0) refl refl refl)

abbrev w3 : ModelWorld
w3 = (answered_by w2 second_node (waiting second_node log3 base3) (Ok (hearing log2 (up_of first_node)))).world

run3 : Run worked_table w0 (e1 ∷ e2 ∷ e3 ∷ []) (a1 ∷ a2 ∷ a3 ∷ []) w3
run3 =
    pushed w2 (e1 ∷ e2 ∷ []) (a1 ∷ a2 ∷ []) e3 (waiting second_node log3 base3) (hearing log2 (up_of first_node)) run2
    (happens_so w2 second_node (Hand 1) (HearOp (up_of first_node)) refl refl (hears_op second_node false [] log2 0 (up_of first_node) (omega arith)))

abbrev d4 : ModelNode
d4 = shipping first_node log1 0 second_node

abbrev w4 : ModelWorld
w4 = (answered_by w3 first_node d4 (Ok (Shipped m1))).world

run4 : Run worked_table w0 (e1 ∷ e2 ∷ e3 ∷ e4 ∷ []) (a1 ∷ a2 ∷ a3 ∷ a4 ∷ []) w4
run4 =
    pushed w3 (e1 ∷ e2 ∷ e3 ∷ []) (a1 ∷ a2 ∷ a3 ∷ []) e4 d4 (Shipped m1) run3
    (happens_so w3 first_node (Shipping second_node) (Ship second_node) refl refl (ships_on first_node log1 0 second_node refl refl)
    ∙ ap (λ (m : Message). answered_by w3 first_node d4 (Ok (Shipped m))) (message_is first_node log1 0 second_node))

abbrev d5 : ModelNode
d5 = shipping second_node log3 base3 first_node

abbrev w5 : ModelWorld
w5 = (answered_by w4 second_node d5 (Ok (Shipped m2))).world

run5 : Run worked_table w0 (e1 ∷ e2 ∷ e3 ∷ e4 ∷ e5 ∷ []) (a1 ∷ a2 ∷ a3 ∷ a4 ∷ a5 ∷ []) w5
run5 =
    pushed w4 (e1 ∷ e2 ∷ e3 ∷ e4 ∷ []) (a1 ∷ a2 ∷ a3 ∷ a4 ∷ []) e5 d5 (Shipped m2) run4
    (happens_so w4 second_node (Shipping first_node) (Ship first_node) refl refl (ships_on second_node log3 base3 first_node refl refl)
    ∙ ap (λ (m : Message). answered_by w4 second_node d5 (Ok (Shipped m))) (message_is second_node log3 base3 first_node))

abbrev d6 : ModelNode
d6 = (step_by None worked_table second_node d5 (Hear m1)).node

abbrev w6 : ModelWorld
w6 = (answered_by w5 second_node d6 (Ok (Heard (not (is_below (joined log1) (joined (log3 ++ []))))))).world

run6 : Run worked_table w0 (e1 ∷ e2 ∷ e3 ∷ e4 ∷ e5 ∷ e6 ∷ []) (a1 ∷ a2 ∷ a3 ∷ a4 ∷ a5 ∷ a6 ∷ []) w6
run6 =
    pushed w5 (e1 ∷ e2 ∷ e3 ∷ e4 ∷ e5 ∷ []) (a1 ∷ a2 ∷ a3 ∷ a4 ∷ a5 ∷ []) e6 d6 (Heard (not (is_below (joined log1) (joined (log3 ++ []))))) run5
    (happens_so w5 second_node (Deliver 1) (Hear m1) refl refl (hears_on second_node first_node log3 log1 base3 0 short3 refl refl))

abbrev d7 : ModelNode
d7 = (step_by None worked_table first_node d4 (Hear m2)).node

abbrev w7 : ModelWorld
w7 = (answered_by w6 first_node d7 (Ok (Heard (not (is_below (joined log3) (joined (log1 ++ []))))))).world

run7 : Run worked_table w0 (e1 ∷ e2 ∷ e3 ∷ e4 ∷ e5 ∷ e6 ∷ e7 ∷ []) (a1 ∷ a2 ∷ a3 ∷ a4 ∷ a5 ∷ a6 ∷ a7 ∷ []) w7
run7 =
    pushed w6 (e1 ∷ e2 ∷ e3 ∷ e4 ∷ e5 ∷ e6 ∷ []) (a1 ∷ a2 ∷ a3 ∷ a4 ∷ a5 ∷ a6 ∷ []) e7 d7 (Heard (not (is_below (joined log3) (joined (log1 ++ []))))) run6
    (happens_so w6 first_node (Deliver 2) (Hear m2) refl refl (hears_on first_node second_node log1 log3 0 base3 (omega arith) refl refl))

-- ---- the sets before the share

abbrev replies : List Answer
replies = a1 ∷ a2 ∷ a3 ∷ []

abbrev answers : List Answer
answers = a4 ∷ a5 ∷ a6 ∷ a7 ∷ []

abbrev s3 : SetWorld
s3 = set_run no_sets coming replies

abbrev first_set : NodeSet
first_set = record { inc = 1; operations = up_of first_node ∷ [] }

abbrev second_set : NodeSet
second_set = record { inc = 1; operations = up_of second_node ∷ up_of first_node ∷ [] }

abbrev alone_set : NodeSet
alone_set = record { inc = 1; operations = up_of second_node ∷ [] }

holds_one : (m : NodeId) (held : NodeSet) → s3.node m ≡ Some held → ((m ≡ first_node) × (first_set ≡ held)) ⊎ ((m ≡ second_node) × (second_set ≡ held))
holds_one m held e = by_tests (nat_eq m.0 0) (nat_eq m.0 1) refl refl e
  where
    by_tests : (a b : Bool) → nat_eq m.0 0 ≡ a → nat_eq m.0 1 ≡ b → cond b (Some second_set) (cond b (Some alone_set) (cond a (Some first_set) None)) ≡ Some held
        → ((m ≡ first_node) × (first_set ≡ held)) ⊎ ((m ≡ second_node) × (second_set ≡ held))
    by_tests a true other at e = inr (same_node at, one e)
    by_tests true false at other e = inl (same_node at, one e)
    by_tests false false away apart e = none_some e

-- ---- each knows the present incarnation of the other, or nothing of its life

of_up : (k m : NodeId) (life : Life) (o : Operation) → o ≡ up_of k → life_said o.dot o.act ≡ Some (m, life) → life.inc ≡ 1
of_up k m life o is says = sym (ap (λ (p : NodeId × Life). p.1.inc) (one (sym (ap (λ (q : Operation). life_said q.dot q.act) is) ∙ says)))

lives_one : (m : NodeId) (held : NodeSet) (life : Life) → (first_set ≡ held) ⊎ (second_set ≡ held) → map.get (meaning_of held.operations).lives m ≡ Some life → life.inc ≡ 1
lives_one m held life is e =
    let said = life_says held.operations m life e in
    by_ups said.0 (all_ups said.0 is said.1.0) said.1.1
  where
    all_ups : (o : Operation) → (first_set ≡ held) ⊎ (second_set ≡ held) → IsOperationOf o held.operations → (o ≡ up_of first_node) ⊎ (o ≡ up_of second_node)
    all_ups o (inl same) i = elim (subst (λ (h : NodeSet). IsOperationOf o h.operations) (sym same) i) [ inl a ↦ inl a | inr none ↦ absurd none ]
    all_ups o (inr same) i = elim (subst (λ (h : NodeSet). IsOperationOf o h.operations) (sym same) i) [ inl a ↦ inr a | inr more ↦ elim more [ inl b ↦ inl b | inr none ↦ absurd none ] ]

    by_ups : (o : Operation) → (o ≡ up_of first_node) ⊎ (o ≡ up_of second_node) → life_said o.dot o.act ≡ Some (m, life) → life.inc ≡ 1
    by_ups o (inl a) says = of_up first_node m life o a says
    by_ups o (inr b) says = of_up second_node m life o b says

set_of : (m : NodeId) (held : NodeSet) → s3.node m ≡ Some held → (first_set ≡ held) ⊎ (second_set ≡ held)
set_of m held e = elim (holds_one m held e) [ inl a ↦ inl a.1 | inr b ↦ inr b.1 ]

inc_one : (held : NodeSet) → (first_set ≡ held) ⊎ (second_set ≡ held) → held.inc ≡ 1
inc_one held (inl same) = sym (ap (λ (h : NodeSet). h.inc) same)
inc_one held (inr same) = sym (ap (λ (h : NodeSet). h.inc) same)

present : KnowPresent s3
present n m mine theirs other on at life e = lives_one m mine life (set_of n mine on) e ∙ sym (inc_one theirs (set_of m theirs at))

both_up : meaning_of (begun []) ≡ meaning_of second_set.operations
both_up = meaning-same (begun []) second_set.operations there back
  where
    there : AreOperationsOf (begun []) second_set.operations
    there o (inl a) = inr (inl a)
    there o (inr (inl a)) = inl a
    there o (inr (inr none)) = absurd none

    back : AreOperationsOf second_set.operations (begun [])
    back o (inl a) = inr (inl a)
    back o (inr (inl a)) = inl a
    back o (inr (inr none)) = absurd none

-- ---- the share

runs_one : (n : NodeId) → RunsIn s3 n → IsEither n
runs_one n on = elim (holds_one n on.0 on.1) [ inl a ↦ inl a.0 | inr b ↦ inr b.0 ]

tells : (from to : NodeId) → IsEither from → IsEither to → ¬ (from ≡ to) → TellsAll s3 from to telling answers
tells from to (inl f) (inl g) other = absurd (other (f ∙ sym g))
tells from to (inr f) (inr g) other = absurd (other (f ∙ sym g))
tells from to (inl f) (inr g) other = subst (λ (p : NodeId × NodeId). TellsAll s3 p.0 p.1 telling answers) (λ i. (sym f i, sym g i)) (inl (refl, inr (inl (refl, (_, refl)))))
tells from to (inr f) (inl g) other = subst (λ (p : NodeId × NodeId). TellsAll s3 p.0 p.1 telling answers) (λ i. (sym f i, sym g i)) (inr (inl (refl, inr (inl (refl, (_, refl))))))

is_share : IsShare s3 telling answers
is_share = record {
  fits = (tt, (tt, (omega arith, (omega arith, tt))));
  tells = λ from to on at other. tells from to (runs_one from on) (runs_one to at) other;
}

pub shares_can_be : SharesCanBe
shares_can_be = record {
  replies = replies;
  answers = answers;
  answered = run7.0;
  run = λ n either. elim either [
    | inl a ↦ subst (RunsIn s3) (sym a) (first_set, refl)
    | inr b ↦ subst (RunsIn s3) (sym b) (second_set, refl)
  ];
  held = second_set;
  holds = refl;
  knows = subst (λ (s : StateValue). IsLive s.lives first_node 1) both_up (are_live [] (λ o i. absurd i) first_node (inl refl));
  present = present;
  share = is_share;
  united = shares_run worked_table (e1 ∷ e2 ∷ e3 ∷ e4 ∷ e5 ∷ e6 ∷ e7 ∷ []) (a1 ∷ a2 ∷ a3 ∷ a4 ∷ a5 ∷ a6 ∷ a7 ∷ []) w7 run7 3 4 present is_share;
}
