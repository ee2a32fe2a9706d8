-- After as many rounds as there are applications, begun in a ready world, each of them is settled.
use Rattle.std.proofs.Common.{◌≡◌, ℕ, ◌<◌, ◌≤◌, ◌+◌, Bool, true, false, cond, List, [], ◌∷◌, ◌++◌, length, Option, Some, None, option_map, zero, suc, refl, sym, ap, subst, ◌∙◌, arith, inl, inr}
use Rattle.dac_settle.specs.laws.Common.{false≢true, eqb-true, eqb-false, NodeId, AppId, Lives, IsLive, Operation, AreOperationsOf, meaning_of, In-append_left, Table, app_count, Verdict, Failover, Halted, Move, Takeover, Kept, Nobody, apps_of, verdict_of, candidate_of, Note, IsLost, IsLostByNewest, Held, IsApp, IsGrown, SetsEvent, Sets, InCopies, with_held, Member, Members, with_member, ticked, MemberEvent, IsSettled, placed}
use Rattle.std.specs.Prelude.{nat_eq}
use Rattle.std.specs.Option.{is_some}
use Rattle.std.proofs.lemmas.List.FromFn.{length-map-range_with_len}
use Rattle.dac_chains.specs.declared.claims.Claim.{Claim}
use Rattle.dac_placement.specs.declared.verdicts.Verdict.TheVariants.{Start}
use Rattle.dac_ticks.specs.laws.Sweeping.{numbered, apps_from}
use Rattle.dac_ticks.specs.Again.{noting}
use Rattle.dac_settle.specs.Rounds.{Happens as SetsHappen, Run as SetsRun, IsTickOf as IsSetsTick, Ticks as SetsTick, IsReady as AreReady, IsRound as IsRoundOfSets, Rounds as RoundsOfSets}
use Rattle.dac_settle.specs.Rounds.SetsEvent.{Tick as Ticked, Ship as Shipped, Deliver as Delivered}
use Rattle.dac_settle.specs.Settling.{sweep_at, holding, Happens, Run, Ticks, IsReady, IsRound, Rounds, RoundsSettleBy}
use Rattle.dac_settle.specs.Settling.MemberEvent.{Tick, Ship, Deliver}
use Rattle.dac_settle.specs.laws.AnyPlacement.{in_copies, same_node, one, some_is, grown_united, tick_grown, any_settle}
use Rattle.dac_settle.specs.laws.Placed.{one_inc, grown_alike, is_placement}
use Rattle.dac_settle.specs.laws.Sweeps.{lost_back, IsMemberOf, tick_claims}

-- ---- members and their sets

abbrev set_of : Option Member → Option (List Operation)
set_of o = option_map (λ (d : Member). d.held) o

abbrev held_of : (NodeId → Option Member) → Held
held_of node n = set_of (node n)

abbrev sets_of : Members → Sets
sets_of w = record { held = held_of w.node; copies = w.copies }

held_is : (o : Option Member) (x : List Operation) → set_of o ≡ Some x → (d : Member) × (o ≡ Some d) × (d.held ≡ x)
held_is None x e = absurd (false≢true (ap is_some e))
held_is (Some d) x e = (d, refl, one e)

holds_if : (o : Option Member) → is_some (set_of o) ≡ is_some o
holds_if None = refl
holds_if (Some d) = refl

-- replacing a member replaces its set
put_by : (b : Bool) (d : Member) (o : Option Member) → set_of (cond b (Some d) o) ≡ cond b (Some d.held) (set_of o)
put_by true d o = refl
put_by false d o = refl

put_sets : (node : NodeId → Option Member) (copies : List (List Operation)) (n : NodeId) (d : Member) → sets_of (record { node = with_member node n d; copies = copies }) ≡ record { held = with_held (held_of node) n d.held; copies = copies }
put_sets node copies n d = λ i. record { held = λ m. put_by (nat_eq m.0 n.0) d (node m) i; copies = copies }

module _ (t : Table) where
  -- ---- one event

  -- a tick of a member is a tick of its node's set
  abbrev StaysTick : MemberEvent → SetsEvent → Type 0
  StaysTick e f = (n : NodeId) (now : ℕ) → Tick n now ≡ e → IsSetsTick n f

  module _ (s : List Operation) where
    -- each node and each copy is of a round that began with s
    pub record IsOk (w : Members) : Type 0 where
      pub nodes : (n : NodeId) (d : Member) → w.node n ≡ Some d → IsMemberOf t s n d
      pub copies : (y : List Operation) → InCopies y w.copies → IsGrown (placed t) s y

    put_member : (w : Members) (n : NodeId) (d : Member) → IsOk w → IsMemberOf t s n d → IsOk (record { node = with_member w.node n d; copies = w.copies })
    put_member w n d ok member = record { nodes = λ m e is. by_test m e (nat_eq m.0 n.0) refl is; copies = ok.copies }
      where
        by_test : (m : NodeId) (e : Member) (b : Bool) → nat_eq m.0 n.0 ≡ b → cond b (Some d) (w.node m) ≡ Some e → IsMemberOf t s m e
        by_test m e true at is = subst (IsMemberOf t s m) (one is) (subst (λ k. IsMemberOf t s k d) (sym (same_node at)) member)
        by_test m e false at is = ok.nodes m e is

    -- a member with more operations and one more note is still one
    member_more : (n : NodeId) (d : Member) (more : List Operation) (notes : List Note) → IsMemberOf t s n d → IsGrown (placed t) s (d.held ++ more)
        → ((app : AppId) (claim : Claim) → IsLost (meaning_of d.held) app claim → IsLostByNewest notes app claim)
        → IsMemberOf t s n (record { inc = d.inc; held = d.held ++ more; notes = notes })
    member_more n d more notes m g noted = record {
      grown = g;
      live = m.live;
      noted = λ app claim lost. noted app claim (lost_back t s d.held (d.held ++ more) m.grown g (λ o i. In-append_left o d.held more i) app claim lost);
    }

    abbrev Goes : Members → MemberEvent → Members → Type 0
    Goes w e next = IsOk next × ((f : SetsEvent) × SetsHappen (placed t) (sets_of w) f (sets_of next) × StaysTick e f)

    no_tick_ship : (n m : NodeId) (now : ℕ) → Tick n now ≡ Ship m → ⊥
    no_tick_ship n m now e = cc

    no_tick_deliver : (n m : NodeId) (now : ℕ) → Tick n now ≡ Deliver m → ⊥
    no_tick_deliver n m now e = cc

    node_of_tick : {m n : NodeId} {a b : ℕ} → Tick m a ≡ Tick n b → n ≡ m
    node_of_tick e = cc

    goes : (w next : Members) (e : MemberEvent) → IsOk w → Happens t w e next → Goes w e next
    goes w next (Tick n now) ok h =
        let d = h.0 in
        let m = ok.nodes n d h.1 in
        let made = (sweep_at t n d now).ops in
        let claims = tick_claims t s n d now m h.2 in
        let grown = tick_grown (placed t) (is_placement t) s n (placed t).apps d.held made (λ app i. i) m.grown claims in
        let after = ticked d now made in
        subst (Goes w (Tick n now)) (sym h.3) (
          put_member w n after ok (member_more n d made (noting (meaning_of d.held) now d.notes) m grown (λ app claim lost. lost)),
          (Ticked n made, (d.held, ap set_of h.1, claims, put_sets w.node w.copies n after), λ k moment e. (made, ap (λ a. Ticked a made) (sym (node_of_tick e)))),
        )
    goes w next (Ship n) ok h = subst (Goes w (Ship n)) (sym h.2) (
      record {
        nodes = ok.nodes;
        copies = λ y i. elim (in_copies y w.copies h.0.held i) [
          | inl old ↦ ok.copies y old
          | inr same ↦ subst (IsGrown (placed t) s) (sym same) (ok.nodes n h.0 h.1).grown
        ];
      },
      (Shipped n, (h.0.held, ap set_of h.1, refl), λ k moment e. absurd (no_tick_ship k n moment e)),
    )
    goes w next (Deliver n) ok h =
        let d = h.0 in
        let y = h.1 in
        let m = ok.nodes n d h.2 in
        subst (Goes w (Deliver n)) (sym h.4) (
          put_member w n (holding d y) ok (member_more n d y d.notes m (grown_united (placed t) s d.held y m.grown (ok.copies y h.3)) m.noted),
          (Delivered n, (d.held, y, ap set_of h.2, h.3, put_sets w.node w.copies n (holding d y)), λ k moment e. absurd (no_tick_deliver k n moment e)),
        )

    -- ---- a run

    abbrev RunsAs : Members → List MemberEvent → Members → Type 0
    RunsAs w es final = IsOk final × ((fs : List SetsEvent) × SetsRun (placed t) (sets_of w) fs (sets_of final) × ((n : NodeId) → Ticks n es → SetsTick n fs))

    runs_as : (es : List MemberEvent) (w final : Members) → IsOk w → Run t w es final → RunsAs w es final
    runs_as [] w final ok r = (subst IsOk (sym r) ok, ([], ap sets_of r, λ n i. absurd i))
    runs_as (e ∷ es) w final ok r =
        let first = goes w r.0 e ok r.1 in
        let rest = runs_as es r.0 final first.0 r.2 in (
          rest.0,
          (
            first.1.0 ∷ rest.1.0,
            (sets_of r.0, first.1.1, rest.1.1),
            λ n i. elim i [ inl now ↦ inl (first.1.2 n now.0 now.1) | inr later ↦ inr (rest.1.2 n later) ],
          ),
        )

  -- ---- the running nodes

  put_same : (node : NodeId → Option Member) (n m : NodeId) (d : Member) → is_some (node n) ≡ true → is_some (with_member node n d m) ≡ is_some (node m)
  put_same node n m d there = by_test (nat_eq m.0 n.0) refl
    where
      by_test : (b : Bool) → nat_eq m.0 n.0 ≡ b → is_some (cond b (Some d) (node m)) ≡ is_some (node m)
      by_test true e = sym (ap (λ k. is_some (node k)) (same_node e) ∙ there)
      by_test false e = refl

  same_run : (w next : Members) (e : MemberEvent) (m : NodeId) → Happens t w e next → is_some (next.node m) ≡ is_some (w.node m)
  same_run w next (Tick n now) m h = ap (λ (v : Members). is_some (v.node m)) h.3 ∙ put_same w.node n m _ (ap is_some h.1)
  same_run w next (Ship n) m h = ap (λ (v : Members). is_some (v.node m)) h.2
  same_run w next (Deliver n) m h = ap (λ (v : Members). is_some (v.node m)) h.4 ∙ put_same w.node n m _ (ap is_some h.2)

  same_runs : (es : List MemberEvent) (w final : Members) (m : NodeId) → Run t w es final → is_some (final.node m) ≡ is_some (w.node m)
  same_runs [] w final m r = ap (λ (v : Members). is_some (v.node m)) r
  same_runs (e ∷ es) w final m r = same_runs es r.0 final m r.2 ∙ same_run w r.0 e m r.1

  round_same : (node later : NodeId → Option Member) (m : NodeId) → IsRound t node later → is_some (later m) ≡ is_some (node m)
  round_same node later m round = same_runs round.events (record { node = node; copies = [] }) (record { node = later; copies = round.copies }) m round.run

  rounds_same : (k : ℕ) (node final : NodeId → Option Member) (m : NodeId) → Rounds t k node final → is_some (final m) ≡ is_some (node m)
  rounds_same zero node final m r = ap (λ (f : NodeId → Option Member). is_some (f m)) r
  rounds_same (suc k) node final m r = rounds_same k r.0 final m r.2 ∙ round_same node r.0 m r.1

  -- ---- a round

  -- the sets of members are contained in each other if the members' are
  same_sets : (node : NodeId → Option Member) → ((m n : NodeId) (d e : Member) → node m ≡ Some d → node n ≡ Some e → AreOperationsOf d.held e.held)
      → (m n : NodeId) (x y : List Operation) → held_of node m ≡ Some x → held_of node n ≡ Some y → AreOperationsOf x y
  same_sets node same m n x y of_m of_n =
      let d = held_is (node m) x of_m in
      let e = held_is (node n) y of_n in
      subst (λ z. AreOperationsOf x z) e.2 (subst (λ z. AreOperationsOf z e.0.held) d.2 (same m n d.0 e.0 d.1 e.1))

  sets_ready : (node : NodeId → Option Member) → IsReady node → AreReady (placed t) (held_of node)
  sets_ready node ready = record {
    same = same_sets node ready.same;
    runs = λ m n x of_m alive.
        let d = held_is (node m) x of_m in
        let e = ready.runs m d.0 d.1 n alive.0 (subst (λ z. IsLive (meaning_of z).lives n alive.0) (sym d.2) alive.1) in
        holds_if (node n) ∙ ap is_some e.1;
  }

  module _ (node later : NodeId → Option Member) (ready : IsReady node) (round : IsRound t node later) (m : NodeId) (d : Member) (of_m : node m ≡ Some d) where
    abbrev begun : Members
    begun = record { node = node; copies = [] }

    abbrev ended : Members
    ended = record { node = later; copies = round.copies }

    at_start : IsOk d.held begun
    at_start = record {
      nodes = λ n e of_n. record {
        grown = record { keeps = ready.same m n d e of_m of_n; new = λ o i. inl (ready.same n m e d of_n of_m o i) };
        live = ready.live m n d e of_m of_n;
        noted = ready.noted n e of_n;
      };
      copies = λ y i. absurd i;
    }

    ran : RunsAs d.held begun round.events ended
    ran = runs_as d.held round.events begun ended at_start round.run

    round_of_sets : IsRoundOfSets (placed t) (held_of node) (held_of later)
    round_of_sets = record {
      events = ran.1.0;
      copies = round.copies;
      run = ran.1.1;
      ticks = λ n runs. ran.1.2 n (round.ticks n (sym (holds_if (node n)) ∙ runs));
      same = same_sets later round.same;
    }

    lives_as_before : (p : NodeId) (e : Member) → later p ≡ Some e → (meaning_of e.held).lives ≡ (meaning_of d.held).lives
    lives_as_before p e of_p = (grown_alike t d.held e.held (ran.0.nodes p e of_p).grown).lives

    -- the world is ready again, for the next round
    ready_again : IsReady later
    ready_again = record {
      same = round.same;
      runs = λ p e of_p n inc alive.
          let before = subst (λ (l : Lives). IsLive l n inc) (lives_as_before p e of_p) alive in
          let was = ready.runs m d of_m n inc before in
          let now = some_is (later n) (round_same node later n round ∙ ap is_some was.1) in
          (now.0, now.1, one_inc (meaning_of d.held).lives n now.0.inc inc (ran.0.nodes n now.0 now.1).live before);
      live = λ p n e f of_p of_n. subst (λ (l : Lives). IsLive l n f.inc) (sym (lives_as_before p e of_p)) (ran.0.nodes n f of_n).live;
      noted = λ p e of_p. (ran.0.nodes p e of_p).noted;
    }

  rounds_of_sets : (k : ℕ) (node final : NodeId → Option Member) → IsReady node → Rounds t k node final → (m : NodeId) (d : Member) → node m ≡ Some d → RoundsOfSets (placed t) k (held_of node) (held_of final)
  rounds_of_sets zero node final ready r m d of_m = ap held_of r
  rounds_of_sets (suc k) node final ready r m d of_m =
      let next = some_is (r.0 m) (round_same node r.0 m r.1 ∙ ap is_some of_m) in
      (held_of r.0, round_of_sets node r.0 ready r.1 m d of_m, rounds_of_sets k r.0 final (ready_again node r.0 ready r.1 m d of_m) r.2 m next.0 next.1)

-- ---- the verdict

some_none : {X : Type 0} {v : X} {Y : Type 0} → ◌≡◌ {A = Option X} (Some v) None → Y
some_none e = cc

settled : (v : Verdict) → candidate_of v ≡ None → IsSettled v
settled (Start n) e = some_none e
settled (Failover n) e = some_none e
settled (Halted n) e = tt
settled (Move n) e = some_none e
settled (Takeover n) e = some_none e
settled (Kept n) e = tt
settled Nobody e = tt

-- the applications of a range
in_range : (a n k : ℕ) → a ≤ k → k < a + n → IsApp (numbered k) (apps_from a n)
in_range a zero k le lt = absurd (omega arith)
in_range a (suc n) k le lt = elim (nat_eq k a) as (λ b. nat_eq k a ≡ b → IsApp (numbered k) (apps_from a (suc n))) [
  | true ↦ λ e. inl (ap numbered (eqb-true k a e))
  | false ↦ λ e. let other : ¬ (k ≡ a) = eqb-false k a e in inr (in_range (a + 1) n k (omega arith) (omega arith))
] refl

pub all_settle : RoundsSettleBy verdict_of
all_settle t node final ready rounds m d of_m app lt =
    let count : length (apps_of t) ≡ app_count t = length-map-range_with_len numbered 0 (app_count t) in
    let begun = some_is (node m) (sym (rounds_same t (app_count t) node final m rounds) ∙ ap is_some of_m) in
    let sets = rounds_of_sets t (app_count t) node final ready rounds m begun.0 begun.1 in
    settled (verdict_of t (meaning_of d.held) app)
    (any_settle (placed t) (is_placement t) (held_of node) (held_of final) (sets_ready t node ready)
    (subst (λ k. RoundsOfSets (placed t) k (held_of node) (held_of final)) (sym count) sets) m d.held (ap set_of of_m) app (in_range 0 (app_count t) app.0 (omega arith) (omega arith)))
