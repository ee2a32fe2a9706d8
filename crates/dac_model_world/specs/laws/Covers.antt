-- The part of a node's log that another node has. A node is seen with its last incarnation, its set if it runs, and the
-- sets that the states of its log mean, oldest first.
use Rattle.std.proofs.Common.{◌≡◌, ℕ, ◌<◌, ◌≤◌, ◌⊎◌, true, false, inl, inr, List, [], ◌++◌, length, take, max, Option, Some, refl, sym, ap, subst, ◌∙◌, append-nil, le_trans, le_refl, arith, leb, leb-true, leb-false}
use Rattle.dac_model_world.specs.laws.Common.{length-append, Operation, IsOperationOf, AreOperationsOf, some_same, NodeSet}
use Rattle.std.proofs.lemmas.List.{take-append-le}
use Rattle.dac_model_world.specs.laws.Gathered.{Entries, gathered}

pub record Seen : Type 0 where
  pub last : ℕ
  pub on : Option NodeSet
  pub entries : Entries

-- the earlier value of a node still in its incarnation: a part of this set, and a prefix of this log
pub record Extends (x y : Seen) (now : NodeSet) : Type 0 where
  pub then : NodeSet
  pub was : x.on ≡ Some then
  pub within : AreOperationsOf then.operations now.operations
  pub more : Entries
  pub entries : y.entries ≡ x.entries ++ more

-- y is a later moment of x's node
pub record Later (x y : Seen) : Type 0 where
  pub last : x.last ≤ y.last
  pub same : x.last ≡ y.last → (now : NodeSet) → y.on ≡ Some now → Extends x y now

pub Later-self : (x : Seen) → Later x x
Later-self x = record {
  last = le_refl x.last;
  same = λ _ now e. record { then = now; was = e; within = λ o i. i; more = []; entries = sym (append-nil x.entries) };
}

-- a node's set and log grow in its incarnation
pub later_more : (x : Seen) (then now : NodeSet) (last : ℕ) (es more : Entries) → x.last ≡ last → x.on ≡ Some then → x.entries ≡ es → AreOperationsOf then.operations now.operations → Later x (record { last = last; on = Some now; entries = es ++ more })
later_more x then now last es more l on e inside = record {
  last = subst (λ k. x.last ≤ k) l (le_refl x.last);
  same = λ _ k p. record {
    then = then;
    was = on;
    within = λ o i. subst (λ (y : NodeSet). IsOperationOf o y.operations) (some_same now k p) (inside o i);
    more = more;
    entries = ap (λ (f : Entries). f ++ more) (sym e);
  };
}

-- the node has the operation as long as it runs incarnation i
pub record Has (x : Seen) (i : ℕ) (o : Operation) : Type 0 where
  pub old : i ≤ x.last
  pub has : (now : NodeSet) → x.on ≡ Some now → x.last ≡ i → IsOperationOf o now.operations

between : (i a b : ℕ) → i ≤ a → a ≤ b → b ≡ i → a ≡ b
between i a b h k e = omega arith

between_first : (i a b : ℕ) → i ≤ a → a ≤ b → b ≡ i → a ≡ i
between_first i a b h k e = omega arith

pub Has-later : (x y : Seen) (i : ℕ) (o : Operation) → Has x i o → Later x y → Has y i o
Has-later x y i o h l = record {
  old = le_trans h.old l.last;
  has = λ now on is.
      let g = l.same (between i x.last y.last h.old l.last is) now on in
      g.within o (h.has g.then g.was (between_first i x.last y.last h.old l.last is));
}

longer : (b : ℕ) (es more fs : Entries) → b ≤ length es → fs ≡ es ++ more → b ≤ length fs
longer b es more fs short is = let all = length-append es more in subst (λ (l : Entries). b ≤ length l) (sym is) (omega arith)

-- the first sets stay when more are added
first_sets : (b : ℕ) (es more fs : Entries) → b ≤ length es → fs ≡ es ++ more → take b fs ≡ take b es
first_sets b es more fs short is = ap (take b) is ∙ take-append-le b es more short

-- While node x runs incarnation j, its log has at least b states. Node y has the operations of the first b as long as
-- it runs incarnation i.
pub record Covered (x y : Seen) (j b i : ℕ) : Type 0 where
  pub old : j ≤ x.last
  pub short : (now : NodeSet) → x.on ≡ Some now → x.last ≡ j → b ≤ length x.entries
  pub has : (now : NodeSet) → x.on ≡ Some now → x.last ≡ j → (o : Operation) → IsOperationOf o (gathered (take b x.entries)) → Has y i o

pub Covered-later : (x x' y y' : Seen) (j b i : ℕ) → Covered x y j b i → Later x x' → Later y y' → Covered x' y' j b i
Covered-later x x' y y' j b i c lx ly = record {
  old = le_trans c.old lx.last;
  short = λ now on is.
      let g = lx.same (between j x.last x'.last c.old lx.last is) now on in
      longer b x.entries g.more x'.entries (c.short g.then g.was (between_first j x.last x'.last c.old lx.last is)) g.entries;
  has = λ now on is o at.
      let g = lx.same (between j x.last x'.last c.old lx.last is) now on in
      let first = between_first j x.last x'.last c.old lx.last is in
      let short = c.short g.then g.was first in
      Has-later y y' i o (c.has g.then g.was first o (subst (λ es. IsOperationOf o (gathered es)) (first_sets b x.entries g.more x'.entries short g.entries) at)) ly;
}

-- a log covered up to two numbers is covered up to the greater
pub Covered-max : (x y : Seen) (j a b i : ℕ) → Covered x y j a i → Covered x y j b i → Covered x y j (max a b) i
Covered-max x y j a b i c d = elim (greater_is a b) [
  | inl e ↦ subst (λ n. Covered x y j n i) (sym e) c
  | inr e ↦ subst (λ n. Covered x y j n i) (sym e) d
]
  where
    greater_is : (a b : ℕ) → (max a b ≡ a) ⊎ (max a b ≡ b)
    greater_is a b = elim (leb a b) as (λ t. leb a b ≡ t → (max a b ≡ a) ⊎ (max a b ≡ b)) [
      | true ↦ λ t. inr (second (leb-true a b t))
      | false ↦ λ f. inl (other (leb-false a b f))
    ] refl
      where
        second : a ≤ b → max a b ≡ b
        second h = omega arith

        other : b < a → max a b ≡ a
        other h = omega arith

-- A message from incarnation j of x: its log had this number of states, and the copy has the operations of all of them.
pub record Sent (x : Seen) (j number : ℕ) (operations : List Operation) : Type 0 where
  pub old : j ≤ x.last
  pub short : (now : NodeSet) → x.on ≡ Some now → x.last ≡ j → number ≤ length x.entries
  pub has : (now : NodeSet) → x.on ≡ Some now → x.last ≡ j → AreOperationsOf (gathered (take number x.entries)) operations

pub Sent-later : (x x' : Seen) (j number : ℕ) (operations : List Operation) → Sent x j number operations → Later x x' → Sent x' j number operations
Sent-later x x' j b os c lx = record {
  old = le_trans c.old lx.last;
  short = λ now on is.
      let g = lx.same (between j x.last x'.last c.old lx.last is) now on in
      longer b x.entries g.more x'.entries (c.short g.then g.was (between_first j x.last x'.last c.old lx.last is)) g.entries;
  has = λ now on is o at.
      let g = lx.same (between j x.last x'.last c.old lx.last is) now on in
      let first = between_first j x.last x'.last c.old lx.last is in
      let short = c.short g.then g.was first in
      c.has g.then g.was first o (subst (λ es. IsOperationOf o (gathered es)) (first_sets b x.entries g.more x'.entries short g.entries) at);
}

-- a node that unites such a copy has the log that the sender had
pub Sent-covers : (x y : Seen) (j number : ℕ) (operations : List Operation) → Sent x j number operations → (now : NodeSet) → y.on ≡ Some now → AreOperationsOf operations now.operations → Covered x y j number y.last
Sent-covers x y j b os c now on inside = record {
  old = c.old;
  short = c.short;
  has = λ k there is o at. record {
    old = le_refl y.last;
    has = λ l here _. subst (λ (h : NodeSet). IsOperationOf o h.operations) (some_same now l (sym on ∙ here)) (inside o (c.has k there is o at));
  };
}
