-- A share leaves the union of their sets to all running nodes: an accepted ship carries the sender's whole set, and a
-- ship refused as up to date is to a node that has it. Each set only ever contains whole sets of running nodes.
use Rattle.std.proofs.Common.{◌≡◌, ◌⊎◌, ◌<◌, ℕ, zero, suc, ◌+◌, ◌-◌, Bool, true, false, cond, List, [], ◌∷◌, ◌++◌, length, Option, Some, None, Ok, Err, inl, inr, nat_eq, refl, sym, ap, subst, ◌∙◌, arith, true≢false, eq-eqb}
use Rattle.dac_model_world.specs.laws.Common.{slice_get, false_from_ne_true, exact_unsigned_eq, NodeId, flag_cmp, Life, IsGreatest, IsSaid, life_cmp, Operation, meaning_of, IsOperationOf, AreOperationsOf, pairs, life_said, of_said, In-append_left, In-append_right, In-append_cases, lives-meaning, lives_are, WorldEvent, What, Deliver, Message, Reply, Shipped, Heard, SetWorld, NodeSet, Copy, united, and_more, brought_to, set_step, set_run, IsPut, Unites, AllUnite, HasAll, TellsUpToDate, TellUpToDate, some_same}
use Rattle.std.specs.FinMap as map
use Rattle.dac_lattice.specs.laws.Chains.{chain_laws}
use Rattle.dac_lattice.specs.laws.Flags.{flags_exact}
use Rattle.dac_chains.specs.laws.Lives.{lives_total, exact_lives}
use Rattle.dac_meaning.specs.Meaning.{lives_of}
use Rattle.dac_meaning.specs.laws.Chained.{is_said}
use Rattle.dac_events.specs.declared.What.TheVariants.{Ship as Ships}
use Rattle.dac_model_world.specs.ModelWorld.{counted}
use Rattle.dac_model_world.specs.Uniting.{IsUnited}
use Rattle.dac_model_world.specs.Shares.{IsHeardAt, Reaches, TellsAll, IsSince, InShare, AreInShare, IsShare, HaveUnion}
use Rattle.dac_model_world.specs.laws.Carried.{none_some}
use Rattle.dac_model_world.specs.laws.Numbering.{life_says}
use Rattle.dac_model_world.specs.laws.Sound.{Answer, put_elsewhere}

-- ---- numbered lists
slice_last : {X : Type 0} (xs : List X) (y : X) → slice_get (xs ++ y ∷ []) (length xs) ≡ Some y
slice_last [] y = refl
slice_last (x ∷ xs) y = slice_last xs y

slice_keep : {X : Type 0} (xs ys : List X) (k : ℕ) (x : X) → slice_get xs k ≡ Some x → slice_get (xs ++ ys) k ≡ Some x
slice_keep [] ys k x e = none_some e
slice_keep (z ∷ xs) ys zero x e = e
slice_keep (z ∷ xs) ys (suc k) x e = slice_keep xs ys k x e

slice_either : {X : Type 0} (xs : List X) (y : X) (k : ℕ) (x : X) → slice_get (xs ++ y ∷ []) k ≡ Some x → (slice_get xs k ≡ Some x) ⊎ (y ≡ x)
slice_either [] y zero x e = inr (some_same y x e)
slice_either [] y (suc k) x e = none_some e
slice_either (z ∷ xs) y zero x e = inl e
slice_either (z ∷ xs) y (suc k) x e = slice_either xs y k x e

slice_short : {X : Type 0} (xs : List X) (k : ℕ) (x : X) → slice_get xs k ≡ Some x → k < length xs
slice_short [] k x e = none_some e
slice_short (z ∷ xs) zero x e = positive (length xs)
  where
    positive : (l : ℕ) → 0 < suc l
    positive l = omega arith
slice_short (z ∷ xs) (suc k) x e = both k (length xs) (slice_short xs k x e)
  where
    both : (k l : ℕ) → k < l → suc k < suc l
    both k l h = omega arith

pub counted_last : {X : Type 0} (xs : List X) (y : X) → counted (xs ++ y ∷ []) (length xs + 1) ≡ Some y
counted_last xs y =
    let one : nat_eq (length xs + 1) 0 ≡ false = false_from_ne_true (nat_eq (length xs + 1) 0) (λ t. no_zero (length xs) (exact_unsigned_eq (length xs + 1) 0 t)) in
    (λ i. cond (one i) None (slice_get (xs ++ y ∷ []) (less (length xs) i))) ∙ slice_last xs y
  where
    no_zero : (l : ℕ) → l + 1 ≡ 0 → ⊥
    no_zero l e = omega arith

    less : (l : ℕ) → l + 1 - 1 ≡ l
    less l = omega arith

counted_keep : {X : Type 0} (xs ys : List X) (k : ℕ) (x : X) → counted xs k ≡ Some x → counted (xs ++ ys) k ≡ Some x
counted_keep xs ys k x e = elim (nat_eq k 0) as (λ b. cond b None (slice_get xs (k - 1)) ≡ Some x → cond b None (slice_get (xs ++ ys) (k - 1)) ≡ Some x) [
  | true ↦ λ p. none_some p
  | false ↦ λ p. slice_keep xs ys (k - 1) x p
] e

counted_either : {X : Type 0} (xs : List X) (y : X) (k : ℕ) (x : X) → counted (xs ++ y ∷ []) k ≡ Some x → (counted xs k ≡ Some x) ⊎ (y ≡ x)
counted_either xs y k x e = elim (nat_eq k 0) as (λ b. cond b None (slice_get (xs ++ y ∷ []) (k - 1)) ≡ Some x → (cond b None (slice_get xs (k - 1)) ≡ Some x) ⊎ (y ≡ x)) [
  | true ↦ λ p. none_some p
  | false ↦ λ p. slice_either xs y (k - 1) x p
] e

counted_short : {X : Type 0} (xs : List X) (k : ℕ) (x : X) → counted xs k ≡ Some x → length xs < k → ⊥
counted_short xs k x e = elim (nat_eq k 0) as (λ b. cond b None (slice_get xs (k - 1)) ≡ Some x → length xs < k → ⊥) [
  | true ↦ λ p _. none_some p
  | false ↦ λ p lt. too_far k (length xs) (slice_short xs (k - 1) x p) lt
] e
  where
    too_far : (k l : ℕ) → k - 1 < l → l < k → ⊥
    too_far k l a b = omega arith

-- ---- lives
-- a smaller set means the same life of a node if one of its operations says it
life_stays : (os ps : List Operation) (m : NodeId) (life : Life) → AreOperationsOf ps os → map.get (meaning_of os).lives m ≡ Some life → IsSaid life_said (pairs ps) m life → map.get (meaning_of ps).lives m ≡ Some life
life_stays os ps m life inside e said = ap (λ lives. map.get lives m) (lives-meaning ps) ∙ by_life (map.get (lives_of ps) m) (lives_are ps m)
  where
    is : IsGreatest life_cmp (IsSaid life_said (pairs os) m) (Some life)
    is = subst (IsGreatest life_cmp (IsSaid life_said (pairs os) m)) (ap (λ lives. map.get lives m) (sym (lives-meaning os)) ∙ e) (lives_are os m)

    said_more : (l : Life) → IsSaid life_said (pairs ps) m l → IsSaid life_said (pairs os) m l
    said_more l h = let o = of_said life_said ps m l h in is_said life_said os m l (o.0, (inside o.0 o.1.0, o.1.1))

    by_life : (x : Option Life) → IsGreatest life_cmp (IsSaid life_said (pairs ps) m) x → x ≡ Some life
    by_life None none = absurd (none life said)
    by_life (Some l) g = ap (λ z. Some z) ((chain_laws lives_total (exact_lives flag_cmp flags_exact)).antisymm l life tt tt (is.1 l (said_more l g.0)) (g.1 life said))

-- ---- invariants of a share
-- the node runs on as the same incarnation with at least as much
pub record Grows (held : NodeSet) (after : Option NodeSet) : Type 0 where
  pub now : NodeSet
  pub on : after ≡ Some now
  pub same : now.inc ≡ held.inc
  pub within : AreOperationsOf held.operations now.operations

grows_same : (held : NodeSet) (after : Option NodeSet) → after ≡ Some held → Grows held after
grows_same held after on = record { now = held; on = on; same = refl; within = λ o i. i }

grows_more : (held : NodeSet) (ps : List Operation) (after : Option NodeSet) → after ≡ Some (and_more held ps) → Grows held after
grows_more held ps after on = record { now = and_more held ps; on = on; same = refl; within = λ o i. In-append_left o held.operations ps i }

-- the world of sets goes on from s to next: running nodes run on, and copies stay
pub record Onward (s next : SetWorld) : Type 0 where
  pub sets : (n : NodeId) (held : NodeSet) → s.node n ≡ Some held → Grows held (next.node n)
  pub copies : (k : ℕ) (c : Copy) → counted s.copies k ≡ Some c → counted next.copies k ≡ Some c

onward_same : (s : SetWorld) → Onward s s
onward_same s = record { sets = λ n held on. grows_same held (s.node n) on; copies = λ k c e. e }

onward_on : (s mid next : SetWorld) → Onward s mid → Onward mid next → Onward s next
onward_on s mid next a b = record {
  sets = λ n held on.
      let x = a.sets n held on in
      let y = b.sets n x.now x.on in
      record { now = y.now; on = y.on; same = y.same ∙ x.same; within = λ o i. y.within o (x.within o i) };
  copies = λ k c e. b.copies k c (a.copies k c e);
}

same_node : (m n : NodeId) → nat_eq m.0 n.0 ≡ true → m ≡ n
same_node m n e = ap (λ k. record { 0 = k }) (exact_unsigned_eq m.0 n.0 e)

other_node : (m n : NodeId) → nat_eq m.0 n.0 ≡ false → m ≡ n → ⊥
other_node m n f e = true≢false (sym (eq-eqb m.0 n.0 (ap (λ (k : NodeId). k.0) e)) ∙ f)

-- ---- a share from this world of sets, in which each running node knows the others' present incarnations, or nothing
-- of their lives
module _ (first : SetWorld) (present : (n m : NodeId) (mine theirs : NodeSet) → first.node n ≡ Some mine → first.node m ≡ Some theirs → (life : Life) → map.get (meaning_of mine.operations).lives m ≡ Some life → life.inc ≡ theirs.inc) where
  -- the set contains the operation with all that a running node had
  pub record From (os : List Operation) (o : Operation) : Type 0 where
    pub node : NodeId
    pub held : NodeSet
    pub on : first.node node ≡ Some held
    pub there : IsOperationOf o held.operations
    pub all : AreOperationsOf held.operations os

  abbrev pub AreFrom : List Operation → Type 0
  AreFrom os = (o : Operation) → IsOperationOf o os → From os o

  from_more : (os ps : List Operation) (o : Operation) → AreOperationsOf os ps → From os o → From ps o
  from_more os ps o inside f = record { node = f.node; held = f.held; on = f.on; there = f.there; all = λ q i. inside q (f.all q i) }

  from_both : (os ps : List Operation) → AreFrom os → AreFrom ps → AreFrom (os ++ ps)
  from_both os ps f g o i = elim (In-append_cases o os ps i) [
    | inl a ↦ from_more os (os ++ ps) o (λ q j. In-append_left q os ps j) (f o a)
    | inr b ↦ from_more ps (os ++ ps) o (λ q j. In-append_right q os ps j) (g o b)
  ]

  -- such a set knows only the present incarnation of a node that ran
  pub knows_present : (os : List Operation) → AreFrom os → (m : NodeId) (theirs : NodeSet) → first.node m ≡ Some theirs → (life : Life) → map.get (meaning_of os).lives m ≡ Some life → life.inc ≡ theirs.inc
  knows_present os from m theirs on life e =
      let said = life_says os m life e in
      let f = from said.0 said.1.0 in
      present f.node m f.held theirs f.on on life (life_stays os f.held.operations m life f.all e (is_said life_said f.held.operations m life (said.0, (f.there, said.1.1))))

  -- ---- the invariant at each moment of the share
  -- the node runs on, and its set contains whole sets
  pub record Kept (held : NodeSet) (after : Option NodeSet) : Type 0 where
    pub grows : Grows held after
    pub from : AreFrom grows.now.operations

  pub record Shared (s : SetWorld) : Type 0 where
    pub runs : (n : NodeId) (held : NodeSet) → first.node n ≡ Some held → Kept held (s.node n)
    pub off : (n : NodeId) → first.node n ≡ None → s.node n ≡ None
    pub copies : (k : ℕ) (c : Copy) → length first.copies < k → counted s.copies k ≡ Some c → AreFrom c.operations

  pub shared_first : Shared first
  shared_first = record {
    runs = λ n held on. record { grows = record { now = held; on = on; same = refl; within = λ o i. i }; from = λ o i. record { node = n; held = held; on = on; there = i; all = λ q j. j } };
    off = λ n e. e;
    copies = λ k c lt e. absurd (counted_short first.copies k c e lt);
  }

  -- running nodes have sets of whole sets
  pub from_now : (s : SetWorld) → Shared s → (n : NodeId) (held : NodeSet) → s.node n ≡ Some held → AreFrom held.operations
  from_now s h n held on = by_first (first.node n) refl
    where
      by_first : (x : Option NodeSet) → first.node n ≡ x → AreFrom held.operations
      by_first None e = none_some (sym (h.off n e) ∙ on)
      by_first (Some then) e = let k = h.runs n then e in subst (λ (x : NodeSet). AreFrom x.operations) (some_same k.grows.now held (sym k.grows.on ∙ on)) k.from

  -- ---- one event of the share
  pub record Next (s next : SetWorld) : Type 0 where
    pub shared : Shared next
    pub onward : Onward s next

  next_same : (s : SetWorld) → Shared s → Next s s
  next_same s h = record { shared = h; onward = onward_same s }

  module _ (s : SetWorld) (h : Shared s) (n : NodeId) where
    next_ship : (what : What) (m : Message) → IsPut s n m (set_step s n what (Ok (Shipped m))) → Next s (set_step s n what (Ok (Shipped m)))
    next_ship what m put =
        let copy : Copy = record { from = n; to = m.to; only = m.only; operations = put.held.operations } in
        record {
          shared = record {
            runs = h.runs;
            off = h.off;
            copies = λ k c lt e. elim (counted_either s.copies copy k c (ap (λ cs. counted cs k) (sym put.after) ∙ e)) [
              | inl old ↦ h.copies k c lt old
              | inr new ↦ subst (λ (x : Copy). AreFrom x.operations) new (from_now s h n put.held put.on)
            ];
          };
          onward = record {
            sets = λ q held on. grows_same held (s.node q) on;
            copies = λ k c e. ap (λ cs. counted cs k) put.after ∙ counted_keep s.copies (copy ∷ []) k c e;
          };
        }

    module _ (k : ℕ) (fresh : Bool) (lt : length first.copies < k) (u : IsUnited s n k (set_step s n (Deliver k) (Ok (Heard fresh)))) where
      abbrev heard_world : SetWorld
      heard_world = set_step s n (Deliver k) (Ok (Heard fresh))

      -- a node that ran has its set, or that with the copy's operations
      left_at : (m : NodeId) (held : NodeSet) → s.node m ≡ Some held → (heard_world.node m ≡ Some held) ⊎ (heard_world.node m ≡ Some (and_more held u.copy.operations))
      left_at m held on = elim (nat_eq m.0 n.0) as (λ b. nat_eq m.0 n.0 ≡ b → (heard_world.node m ≡ Some held) ⊎ (heard_world.node m ≡ Some (and_more held u.copy.operations))) [
        | true ↦ λ t.
            let same = same_node m n t in
            let mine : u.held ≡ held = some_same u.held held (sym u.on ∙ ap s.node (sym same) ∙ on) in
            inr (ap heard_world.node same ∙ u.after ∙ ap (λ (x : NodeSet). Some (and_more x u.copy.operations)) mine)
        | false ↦ λ f. inl (put_elsewhere s.node n (united (s.node n) (brought_to s n (Deliver k))) m (other_node m n f) ∙ on)
      ] refl

      off_at : (m : NodeId) → s.node m ≡ None → heard_world.node m ≡ None
      off_at m off = elim (nat_eq m.0 n.0) as (λ b. nat_eq m.0 n.0 ≡ b → heard_world.node m ≡ None) [
        | true ↦ λ t. none_some (sym off ∙ ap s.node (same_node m n t) ∙ u.on)
        | false ↦ λ f. put_elsewhere s.node n (united (s.node n) (brought_to s n (Deliver k))) m (other_node m n f) ∙ off
      ] refl

      kept_at : (m : NodeId) (then : NodeSet) → Kept then (s.node m) → Kept then (heard_world.node m)
      kept_at m then kept = elim (left_at m kept.grows.now kept.grows.on) [
        | inl on ↦ record { grows = record { now = kept.grows.now; on = on; same = kept.grows.same; within = kept.grows.within }; from = kept.from }
        | inr on ↦ record {
          grows = record { now = and_more kept.grows.now u.copy.operations; on = on; same = kept.grows.same; within = λ o i. In-append_left o kept.grows.now.operations u.copy.operations (kept.grows.within o i) };
          from = from_both kept.grows.now.operations u.copy.operations kept.from (h.copies k u.copy lt u.there);
        }
      ]

      next_hear : Next s heard_world
      next_hear = record {
        shared = record { runs = λ m then on. kept_at m then (h.runs m then on); off = λ m e. off_at m (h.off m e); copies = h.copies };
        onward = record {
          sets = λ m held on. elim (left_at m held on) [ inl e ↦ grows_same held (heard_world.node m) e | inr e ↦ grows_more held u.copy.operations (heard_world.node m) e ];
          copies = λ k c e. e;
        };
      }

    next_heard : (what : What) (fresh : Bool) → IsSince (length first.copies) what → Unites s n what (Ok (Heard fresh)) → Next s (set_step s n what (Ok (Heard fresh)))
    next_heard (Deliver k) fresh lt u = next_hear k fresh lt u
    next_heard _ fresh lt u = absurd lt

    pub next_event : (what : What) (a : Answer) → InShare (length first.copies) what a → Unites s n what a → Next s (set_step s n what a)
    next_event what (Err fault) fits u = next_same s h
    next_event what (Ok (Shipped m)) fits u = next_ship what m u
    next_event what (Ok (Heard fresh)) fits u = next_heard what fresh fits u
    next_event what (Ok _) fits u = absurd fits

  -- ---- the events of the share
  next_events : (s : SetWorld) (es : List WorldEvent) (answers : List Answer) → Shared s → AreInShare (length first.copies) es answers → AllUnite s es answers → Next s (set_run s es answers)
  next_events s [] answers h fits u = next_same s h
  next_events s (e ∷ es) [] h fits u = next_same s h
  next_events s (e ∷ es) (a ∷ answers) h fits u =
      let mid = set_step s e.node e.what a in
      let one = next_event s h e.node e.what a fits.0 u.0 in
      let rest = next_events mid es answers one.shared fits.1 u.1 in
      record { shared = rest.shared; onward = onward_on s mid (set_run mid es answers) one.onward rest.onward }

  -- the node runs at the end and has these operations
  record HasThem (os : List Operation) (after : Option NodeSet) : Type 0 where
    set : NodeSet
    on : after ≡ Some set
    within : AreOperationsOf os set.operations

  has_on : (os : List Operation) (n : NodeId) (held : NodeSet) (s next : SetWorld) → Onward s next → s.node n ≡ Some held → AreOperationsOf os held.operations → HasThem os (next.node n)
  has_on os n held s next on at inside = let g = on.sets n held at in record { set = g.now; on = g.on; within = λ o i. g.within o (inside o i) }

  -- a copy shipped and heard later
  heard_later : (s : SetWorld) (es : List WorldEvent) (answers : List Answer) (n : NodeId) (k : ℕ) (c : Copy) → Shared s → AreInShare (length first.copies) es answers → AllUnite s es answers →
      counted s.copies k ≡ Some c → IsHeardAt n k es answers → HasThem c.operations ((set_run s es answers).node n)
  heard_later s [] answers n k c h fits u there at = absurd at
  heard_later s (e ∷ es) [] n k c h fits u there at = absurd at
  heard_later s (e ∷ es) (a ∷ answers) n k c h fits u there at =
      let mid = set_step s e.node e.what a in
      let one = next_event s h e.node e.what a fits.0 u.0 in
      let rest = next_events mid es answers one.shared fits.1 u.1 in
      elim at [
        | inl here ↦
            let heard : ◌≡◌ {A = WorldEvent × Answer} (e, a) (record { node = n; what = Deliver k }, Ok (Heard here.1.0)) = λ i. (here.0 i, here.1.1 i) in
            let v : IsUnited s n k (set_step s n (Deliver k) (Ok (Heard here.1.0))) = subst (λ (p : WorldEvent × Answer). Unites s p.0.node p.0.what p.1) heard u.0 in
            let same : v.copy ≡ c = some_same v.copy c (sym v.there ∙ there) in
            let on : mid.node n ≡ Some (and_more v.held v.copy.operations) = ap (λ (p : WorldEvent × Answer). (set_step s p.0.node p.0.what p.1).node n) heard ∙ v.after in
            has_on c.operations n (and_more v.held v.copy.operations) mid (set_run mid es answers) rest.onward on (λ o i. In-append_right o v.held.operations v.copy.operations (subst (λ (x : Copy). IsOperationOf o x.operations) (sym same) i))
        | inr later ↦ heard_later mid es answers n k c one.shared fits.1 u.1 (one.onward.copies k c there) later
      ]

  -- the copy of an accepted ship
  record IsOnItsWay (s : SetWorld) (n : NodeId) (next : SetWorld) : Type 0 where
    held : NodeSet
    on : s.node n ≡ Some held
    copy : Copy
    there : counted next.copies (length s.copies + 1) ≡ Some copy
    whole : copy.operations ≡ held.operations

  on_its_way : (s : SetWorld) (n to : NodeId) (reply : Reply) → InShare (length first.copies) (Ships to) (Ok reply) → Unites s n (Ships to) (Ok reply) → IsOnItsWay s n (set_step s n (Ships to) (Ok reply))
  on_its_way s n to (Shipped m) fits put =
      let copy : Copy = record { from = n; to = m.to; only = m.only; operations = put.held.operations } in
      record { held = put.held; on = put.on; copy = copy; there = ap (λ cs. counted cs (length s.copies + 1)) put.after ∙ counted_last s.copies copy; whole = refl }
  on_its_way s n to (Heard fresh) fits u = absurd fits
  on_its_way s n to _ fits u = absurd fits

  module _ (n to : NodeId) (mine theirs : NodeSet) (from : first.node n ≡ Some mine) (goes : first.node to ≡ Some theirs) where
    -- a ship that reaches the other node gives it the whole set
    reached : (s : SetWorld) (a : Answer) (es : List WorldEvent) (answers : List Answer) → Shared s → InShare (length first.copies) (Ships to) a → Unites s n (Ships to) a → TellsUpToDate s (record { node = n; what = Ships to }) a →
        let mid = set_step s n (Ships to) a in
        AreInShare (length first.copies) es answers → AllUnite mid es answers → Reaches to (length s.copies + 1) a es answers → HasThem mine.operations ((set_run mid es answers).node to)
    reached s (Err fault) es answers h fit u tells fits more is =
        let all : HasAll s n to = tells (ap (λ f. Err f) is) to refl in
        let own = h.runs n mine from in
        let other = h.runs to theirs goes in
        let same : own.grows.now ≡ all.mine = some_same own.grows.now all.mine (sym own.grows.on ∙ all.on) in
        let life : all.life.inc ≡ theirs.inc = knows_present all.mine.operations (from_now s h n all.mine all.on) to theirs goes all.life all.known in
        let has = all.has other.grows.now other.grows.on (other.grows.same ∙ sym life) in
        has_on mine.operations to other.grows.now s (set_run s es answers) (next_events s es answers h fits more).onward other.grows.on (λ o i. has o (subst (λ (x : NodeSet). IsOperationOf o x.operations) same (own.grows.within o i)))
    reached s (Ok reply) es answers h fit u tells fits more is =
        let mid = set_step s n (Ships to) (Ok reply) in
        let one = next_event s h n (Ships to) (Ok reply) fit u in
        let way = on_its_way s n to reply fit u in
        let own = h.runs n mine from in
        let same : own.grows.now ≡ way.held = some_same own.grows.now way.held (sym own.grows.on ∙ way.on) in
        let there = heard_later mid es answers to (length s.copies + 1) way.copy one.shared fits more way.there is in
        record { set = there.set; on = there.on; within = λ o i. there.within o (subst (λ os. IsOperationOf o os) (ap (λ (x : NodeSet). x.operations) same ∙ sym way.whole) (own.grows.within o i)) }

    told : (s : SetWorld) (es : List WorldEvent) (answers : List Answer) → Shared s → AreInShare (length first.copies) es answers → AllUnite s es answers → TellUpToDate s es answers → TellsAll s n to es answers → HasThem mine.operations ((set_run s es answers).node to)
    told s [] answers h fits u tells at = absurd at
    told s (e ∷ es) [] h fits u tells at = absurd at
    told s (e ∷ es) (a ∷ answers) h fits u tells at = elim at [
      | inl here ↦
          let ship : WorldEvent = record { node = n; what = Ships to } in
          subst (λ (x : WorldEvent). HasThem mine.operations ((set_run (set_step s x.node x.what a) es answers).node to)) (sym here.0)
          (reached s a es answers h (subst (λ (x : WorldEvent). InShare (length first.copies) x.what a) here.0 fits.0) (subst (λ (x : WorldEvent). Unites s x.node x.what a) here.0 u.0) (subst (λ (x : WorldEvent). TellsUpToDate s x a) here.0 tells.0)
          fits.1 (subst (λ (x : WorldEvent). AllUnite (set_step s x.node x.what a) es answers) here.0 u.1) here.1)
      | inr later ↦ told (set_step s e.node e.what a) es answers (next_event s h e.node e.what a fits.0 u.0).shared fits.1 u.1 tells.1 later
    ]

  -- the set of a running node is at each node that ran
  reaches_all : (es : List WorldEvent) (answers : List Answer) → IsShare first es answers → AllUnite first es answers → TellUpToDate first es answers → (n m : NodeId) (mine theirs : NodeSet) → first.node n ≡ Some mine → first.node m ≡ Some theirs →
      HasThem mine.operations ((set_run first es answers).node m)
  reaches_all es answers share u tells n m mine theirs from goes = elim (nat_eq n.0 m.0) as (λ b. nat_eq n.0 m.0 ≡ b → HasThem mine.operations ((set_run first es answers).node m)) [
    | true ↦ λ t.
        let same : mine ≡ theirs = some_same mine theirs (sym from ∙ ap first.node (same_node n m t) ∙ goes) in
        has_on mine.operations m theirs first (set_run first es answers) (next_events first es answers shared_first share.fits u).onward goes (λ o i. subst (λ (x : NodeSet). IsOperationOf o x.operations) same i)
    | false ↦ λ f. told n m mine theirs from goes first es answers shared_first share.fits u tells (share.tells n m (mine, from) (theirs, goes) (other_node n m f))
  ] refl

  pub share_unites : (es : List WorldEvent) (answers : List Answer) → IsShare first es answers → AllUnite first es answers → TellUpToDate first es answers → HaveUnion first (set_run first es answers)
  share_unites es answers share u tells =
      let last = (next_events first es answers shared_first share.fits u).shared in
      record {
        runs = λ n held on.
            let kept = last.runs n held on in
            let set = kept.grows.now in
            record {
              set = set;
              on = kept.grows.on;
              same = kept.grows.same;
              all = λ o. (
                λ i. let f = kept.from o i in record { node = f.node; held = f.held; on = f.on; there = f.there },
                λ is.
                    let has = reaches_all es answers share u tells is.node n is.held held is.on on in
                    subst (λ (x : NodeSet). IsOperationOf o x.operations) (some_same has.set set (sym has.on ∙ kept.grows.on)) (has.within o is.there),
              );
            };
        off = last.off;
      }
