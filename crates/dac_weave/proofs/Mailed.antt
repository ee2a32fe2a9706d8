-- The messages that wait for a delivery.
use Rattle.std.proofs.Common.{◌≡◌, ◌≢◌, ℕ, zero, suc, ◌+◌, ◌-◌, ◌<◌, ◌≤◌, ◌%◌, true, false, cond, inl, inr, ◌⊎◌, List, [], ◌∷◌, ◌++◌, Option, Some, None, length, eqb, refl, sym, ap, subst, ◌∙◌, eq-eqb, arith, below_more}
use Rattle.dac_weave.specs.laws.Common.{slice_get, slice_get_within, cases_eq, MatchOption, Message, counted, At}
use Rattle.std.specs.Prelude.{not, Result, Ok, Err, IfSome, OnOk}
use Rattle.std.proofs.lemmas.Bool.{ne_eqb, cases_lt}
use Rattle.std.proofs.lemmas.List.{length-append}
use Rattle.dac_weave.specs.declared.mail.Mail.{Mail}
use Rattle.dac_weave.specs.Indexing.{bucket_of, IsFiledIn, Files, without, Unfiles}
use Rattle.dac_weave.specs.Labels.{message_label}
use Rattle.dac_weave.specs.Mails.{IsRising, IsMail, IsNoMail, IsWaiting, IsFirstWaiting, NoneWaits, IsProperNumber, Posts, PostsAll, Takes}
use Rattle.dac_weave.specs.laws.Members.{counted-get}
use Rattle.dac_weave.proofs.Finding.{push-cases, get-counted}

-- ---- numbers in rising order
below_next : (i j : ℕ) → i < j → suc i < suc j
below_next i j h = omega (arith, h)

rising-tail : (n : ℕ) (ns : List ℕ) → IsRising (n ∷ ns) → IsRising ns
rising-tail n ns up i j a b first second lt = up (suc i) (suc j) a b first second (below_next i j lt)

first_is : {X : Type 0} (a b : X) → Some a ≡ Some b → a ≡ b
first_is a b e = cc

-- an item of a list without n is one of the list
without-from : (n : ℕ) (ns : List ℕ) (i k : ℕ) → At (without n ns) i k → (j : ℕ) × (At ns j k × (i ≤ j))
without-from n [] i k = λ at. cc
without-from n (m ∷ ns) i k = elim (eqb m n) as (λ b. At (cond (not b) (m ∷ without n ns) (without n ns)) i k → (j : ℕ) × (At (m ∷ ns) j k × (i ≤ j))) [
  | true ↦ λ at. let r = without-from n ns i k at in (suc r.0, (r.1.0, omega (arith, r.1.1)))
  | false ↦ elim i as (λ p. At (m ∷ without n ns) p k → (j : ℕ) × (At (m ∷ ns) j k × (p ≤ j))) [
    | zero ↦ λ at. (0, (at, omega arith))
    | suc p ↦ λ at. let r = without-from n ns p k at in (suc r.0, (r.1.0, omega (arith, r.1.1)))
  ]
]

-- each other item of the list is one of the list without n
without-keeps : (n : ℕ) (ns : List ℕ) (j k : ℕ) → At ns j k → k ≢ n → (i : ℕ) × At (without n ns) i k
without-keeps n [] j k at ne = cc
without-keeps n (m ∷ ns) zero k at ne =
    let other : m ≢ n = λ e. ne (sym (first_is m k at) ∙ e) in
    (0, subst (λ b. At (cond (not b) (m ∷ without n ns) (without n ns)) 0 k) (sym (ne_eqb m n other)) at)
without-keeps n (m ∷ ns) (suc j) k at ne =
    let rest = without-keeps n ns j k at ne in
    elim (eqb m n) as (λ b. (i : ℕ) × At (cond (not b) (m ∷ without n ns) (without n ns)) i k) [
      | true ↦ rest
      | false ↦ (suc rest.0, rest.1)
    ]

without-gone : (n : ℕ) (ns : List ℕ) (i : ℕ) → At (without n ns) i n → ⊥
without-gone n [] i at = cc
without-gone n (m ∷ ns) i at = elim (cases_eq m n) [
  | inl e ↦ without-gone n ns i (subst (λ b. At (cond (not b) (m ∷ without n ns) (without n ns)) i n) (eq-eqb m n e) at)
  | inr other ↦
      elim i as (λ p. At (m ∷ without n ns) p n → ⊥) [
        | zero ↦ λ here. other (first_is m n here)
        | suc p ↦ λ here. without-gone n ns p here
      ] (subst (λ b. At (cond (not b) (m ∷ without n ns) (without n ns)) i n) (ne_eqb m n other) at)
]

rising-cons : (m : ℕ) (ns : List ℕ) → IsRising ns → ((j b : ℕ) → At ns j b → m < b) → IsRising (m ∷ ns)
rising-cons m ns up above zero zero a b first second lt = absurd (omega (arith, lt))
rising-cons m ns up above zero (suc j) a b first second lt = subst (λ n. n < b) (first_is m a first) (above j b second)
rising-cons m ns up above (suc i) zero a b first second lt = absurd (omega (arith, lt))
rising-cons m ns up above (suc i) (suc j) a b first second lt = up i j a b first second (omega (arith, lt))

without-rising : (n : ℕ) (ns : List ℕ) → IsRising ns → IsRising (without n ns)
without-rising n [] up = up
without-rising n (m ∷ ns) up =
    let rest = without-rising n ns (rising-tail m ns up) in
    elim (eqb m n) as (λ b. IsRising (cond (not b) (m ∷ without n ns) (without n ns))) [
      | true ↦ rest
      | false ↦ rising-cons m (without n ns) rest (λ j b at. let r = without-from n ns j b at in up 0 (suc r.0) m b refl r.1.0 (omega arith))
    ]

rising-push : (ns : List ℕ) (n : ℕ) → IsRising ns → ((i k : ℕ) → At ns i k → k < n) → IsRising (ns ++ n ∷ [])
rising-push ns n up below i j a b first second lt = elim (push-cases ns n i a first) [
  | inl old ↦ elim (push-cases ns n j b second) [
    | inl older ↦ up i j a b old older lt
    | inr new ↦ subst (λ k. a < k) new.1 (below i a old)
  ]
  | inr new ↦ elim (push-cases ns n j b second) [
    | inl old ↦ let inside = slice_get_within ns j b old in absurd (omega (arith, inside, new.0, lt))
    | inr newer ↦ absurd (omega (arith, new.0, newer.0, lt))
  ]
]

-- ---- the table
item_at : {X : Type 0} (xs : List X) (p : ℕ) → p < length xs → (x : X) × At xs p x
item_at [] p lt = absurd (omega (arith, lt))
item_at (x ∷ xs) zero lt = (x, refl)
item_at (x ∷ xs) (suc p) lt = item_at xs p (omega (arith, lt))

pub is-no-mail : (mail : Mail) → IsNoMail mail → IsMail mail
is-no-mail mail none = record { within = λ q p filed. absurd (none.waiting q p filed); rising = λ q i j a b first second lt. absurd (none.waiting q a (i, first)) }

module _ (old new : Mail) (mail : IsMail old) where
  same_place : (m x : Message) (p : ℕ) → At old.shipped p m → At old.shipped p x → m ≡ x
  same_place m x p first second = same_some m x (sym first ∙ second)
    where
      same_some : (a b : Message) → Some a ≡ Some b → a ≡ b
      same_some a b e = cc

  -- the message at place p doesn't wait any more
  pub takes : (m : Message) (p number : ℕ) → number ≡ p + 1 → At old.shipped p m → new.shipped ≡ old.shipped → Unfiles old.waiting.lists.items (message_label m) p new.waiting.lists.items → Takes old number new
  takes m p number is at shipped less = record {
    shipped = shipped;
    mail = record { within = λ q k filed. subst (λ (ms : List Message). k < length ms) (sym shipped) (mail.within q k (before q k filed)); rising = λ q. rises q };
    waits = λ k x there. (λ now. (before (message_label x) k now, other k x there now), λ both. still (message_label x) k (λ e. both.1 (ap (λ n. n + 1) e ∙ sym is)) both.0);
  }
    where
      before : (q k : ℕ) → IsFiledIn new.waiting.lists.items q k → IsFiledIn old.waiting.lists.items q k
      before q k filed = elim (cases_eq (q % length old.waiting.lists.items) (message_label m % length old.waiting.lists.items)) [
        | inl e ↦ let r = without-from p (bucket_of old.waiting.lists.items q) filed.0 k (subst (λ ns. At ns filed.0 k) (less.here q e) filed.1) in (r.0, r.1.0)
        | inr ne ↦ (filed.0, subst (λ ns. At ns filed.0 k) (less.apart q ne) filed.1)
      ]

      still : (q k : ℕ) → k ≢ p → IsFiledIn old.waiting.lists.items q k → IsFiledIn new.waiting.lists.items q k
      still q k other filed = elim (cases_eq (q % length old.waiting.lists.items) (message_label m % length old.waiting.lists.items)) [
        | inl e ↦ let r = without-keeps p (bucket_of old.waiting.lists.items q) filed.0 k filed.1 other in (r.0, subst (λ ns. At ns r.0 k) (sym (less.here q e)) r.1)
        | inr ne ↦ (filed.0, subst (λ ns. At ns filed.0 k) (sym (less.apart q ne)) filed.1)
      ]

      rises : (q : ℕ) → IsRising (bucket_of new.waiting.lists.items q)
      rises q = elim (cases_eq (q % length old.waiting.lists.items) (message_label m % length old.waiting.lists.items)) [
        | inl e ↦ subst IsRising (sym (less.here q e)) (without-rising p (bucket_of old.waiting.lists.items q) (mail.rising q))
        | inr ne ↦ subst IsRising (sym (less.apart q ne)) (mail.rising q)
      ]

      other : (k : ℕ) (x : Message) → At old.shipped k x → IsWaiting new x k → k + 1 ≢ number
      other k x there now e =
          let here : k ≡ p = omega (arith, e, is) in
          let own : m ≡ x = same_place m x p at (subst (λ n. At old.shipped n x) here there) in
          let place : message_label x % length old.waiting.lists.items ≡ message_label m % length old.waiting.lists.items = ap (λ (y : Message). message_label y % length old.waiting.lists.items) (sym own) in
          without-gone p (bucket_of old.waiting.lists.items (message_label x)) now.0
          (subst (λ n. At (without p (bucket_of old.waiting.lists.items (message_label x))) now.0 n) here (subst (λ ns. At ns now.0 k) (less.here (message_label x) place) now.1))

  pub takes-at : (place label number : ℕ) → number ≡ place + 1 → place < length old.shipped → ((x : Message) → At old.shipped place x → label ≡ message_label x) → new.shipped ≡ old.shipped → Unfiles old.waiting.lists.items label place new.waiting.lists.items → Takes old number new
  takes-at place label number is inside labelled shipped less =
      let m = item_at old.shipped place inside in
      takes m.0 place number is m.1 shipped (subst (λ l. Unfiles old.waiting.lists.items l place new.waiting.lists.items) (labelled m.0 m.1) less)

  -- one more message
  pub posts : (m : Message) (place : ℕ) → place ≡ length old.shipped → new.shipped ≡ old.shipped ++ m ∷ [] → Files old.waiting.lists.items (message_label m) place new.waiting.lists.items → Posts old m new
  posts m place is shipped filed = record {
    shipped = shipped;
    mail = record { within = λ q k now. subst (λ (ms : List Message). k < length ms) (sym shipped) (inside q k now); rising = λ q. rises q };
    waits = λ k x there. (λ now. was k x now, λ either. is_now k x there either);
  }
    where
      longer : length (old.shipped ++ m ∷ []) ≡ length old.shipped + 1
      longer = length-append old.shipped (m ∷ [])

      inside : (q k : ℕ) → IsFiledIn new.waiting.lists.items q k → k < length (old.shipped ++ m ∷ [])
      inside q k now = elim (filed.only q k now) [
        | inl before ↦ let lt = mail.within q k before in omega (arith, lt, longer)
        | inr own ↦ omega (arith, own, is, longer)
      ]

      rises : (q : ℕ) → IsRising (bucket_of new.waiting.lists.items q)
      rises q = elim (cases_eq (q % length old.waiting.lists.items) (message_label m % length old.waiting.lists.items)) [
        | inl e ↦ subst IsRising (sym (filed.last q e)) (rising-push (bucket_of old.waiting.lists.items q) place (mail.rising q) (λ i k at. subst (λ n. k < n) (sym is) (mail.within q k (i, at))))
        | inr ne ↦ subst IsRising (sym (filed.apart q ne)) (mail.rising q)
      ]

      was : (k : ℕ) (x : Message) → IsWaiting new x k → IsWaiting old x k ⊎ (k ≡ length old.shipped)
      was k x now = elim (filed.only (message_label x) k now) [
        | inl before ↦ inl before
        | inr own ↦ inr (own ∙ is)
      ]

      is_now : (k : ℕ) (x : Message) → At new.shipped k x → IsWaiting old x k ⊎ (k ≡ length old.shipped) → IsWaiting new x k
      is_now k x there either = elim either [
        | inl before ↦ filed.kept (message_label x) k before
        | inr own ↦
            let at : At (old.shipped ++ m ∷ []) k x = subst (λ (ms : List Message). At ms k x) shipped there in
            elim (push-cases old.shipped m k x at) [
              | inl early ↦ let lt = slice_get_within old.shipped k x early in absurd (omega (arith, lt, own))
              | inr last ↦ subst (λ n. IsFiledIn new.waiting.lists.items (message_label x) n) (is ∙ sym own) (subst (λ (y : Message). IsFiledIn new.waiting.lists.items (message_label y) place) last.1 filed.here)
            ]
      ]

-- ---- the search in a bucket
module _ (mail : Mail) (m : Message) (good : IsMail mail) (label : ℕ) (bucket : List ℕ) (label_is : label ≡ message_label m) (bucket_is : bucket ≡ bucket_of mail.waiting.lists.items label) where
  -- the bucket holds the places where the message waits
  filed_at : (p : ℕ) → IsWaiting mail m p → (i : ℕ) × At bucket i p
  filed_at p waits = (waits.0, subst (λ ns. At ns waits.0 p) (sym (bucket_is ∙ ap (bucket_of mail.waiting.lists.items) label_is)) waits.1)

  pub inside_bucket : (i p : ℕ) → At bucket i p → p < length mail.shipped
  inside_bucket i p at = good.within label p (i, subst (λ ns. At ns i p) bucket_is at)

  abbrev pub NoneBefore : ℕ → Type 0
  NoneBefore n = (i : ℕ) → i < n → (p : ℕ) → At bucket i p → At mail.shipped p m → ⊥

  pub first-found : (n p : ℕ) → NoneBefore n → At bucket n p → At mail.shipped p m → IsFirstWaiting mail m p
  first-found n p none at there = record {
    there = there;
    waits = (n, subst (λ ns. At ns n p) (bucket_is ∙ ap (bucket_of mail.waiting.lists.items) label_is) at);
    before = λ k lt early waits.
        let f = filed_at k waits in
        elim (order f.0 n) [
          | inl less ↦ none f.0 less k f.1 early
          | inr more ↦ elim (cases_eq f.0 n) [
            | inl same ↦ let e = same_some k p (sym f.1 ∙ (ap (slice_get bucket) same ∙ at)) in absurd (omega (arith, e, lt))
            | inr other ↦ let up = good.rising label n f.0 p k (subst (λ ns. At ns n p) bucket_is at) (subst (λ ns. At ns f.0 k) bucket_is f.1) (above f.0 n more other) in absurd (omega (arith, up, lt))
          ]
        ];
  }
    where
      same_some : (a b : ℕ) → Some a ≡ Some b → a ≡ b
      same_some a b e = cc

      order : (a b : ℕ) → (a < b) ⊎ (b ≤ a)
      order a b = elim (cases_lt a b) [ inl less ↦ inl less | inr more ↦ inr more ]

      above : (a b : ℕ) → b ≤ a → (a ≡ b → ⊥) → b < a
      above a b le ne = omega (arith, le)

  pub none-found : (n : ℕ) → length bucket ≤ n → NoneBefore n → NoneWaits mail m
  none-found n long none p there waits =
      let f = filed_at p waits in
      let lt = slice_get_within bucket f.0 p f.1 in
      none f.0 (omega (arith, lt, long)) p f.1 there

  -- the search goes on past a message that differs
  pub more-seen : (n p : ℕ) → NoneBefore n → At bucket n p → (At mail.shipped p m → ⊥) → NoneBefore (n + 1)
  more-seen n p none at not_m = below_more (λ i. (q : ℕ) → At bucket i q → At mail.shipped q m → ⊥) n none
      (λ q here there. not_m (subst (λ k. At mail.shipped k m) (first_is q p (sym here ∙ at)) there))

-- ---- numbers
-- the number of the first equal message that waits
pub proper-first : (mail : Mail) (m : Message) (p : ℕ) → IsFirstWaiting mail m p → (counted mail.shipped (p + 1) ≡ Some m) × IsProperNumber mail (p + 1)
proper-first mail m p first = (
  counted-get m mail.shipped p first.there,
  λ q x is at.
      let same : p ≡ q = omega (arith, is) in
      let own : m ≡ x = first_is m x (sym first.there ∙ (ap (slice_get mail.shipped) same ∙ at)) in
      inl (subst (λ y. IsFirstWaiting mail y q) own (subst (IsFirstWaiting mail m) same first)),
)

-- the number of a message of which no copy waits
pub proper-again : (mail : Mail) (m : Message) (k : ℕ) → NoneWaits mail m → counted mail.shipped k ≡ Some m → IsProperNumber mail k
proper-again mail m k none found q x is at =
    let there : slice_get mail.shipped (k - 1) ≡ Some m = get-counted m mail.shipped k found in
    let same : k - 1 ≡ q = omega (arith, is) in
    inr (subst (NoneWaits mail) (first_is m x (sym there ∙ (ap (slice_get mail.shipped) same ∙ at))) none)

pub some-proper : (mail : Mail) (m : Message) (found : Option ℕ) → NoneWaits mail m → MatchOption found ((k : ℕ) → counted mail.shipped k ≡ Some m → ⊥) (λ k. counted mail.shipped k ≡ Some m) → IfSome found (IsProperNumber mail)
some-proper mail m None none is = tt
some-proper mail m (Some k) none is = proper-again mail m k none is

-- ---- messages that are shipped
pub posts-one : {A E : Type 0} (r : Result A E) (old new : Mail) (m : Message) (ms : List Message) → ms ≡ m ∷ [] → OnOk r (Posts old m new) → OnOk r (PostsAll old ms new)
posts-one (Ok x) old new m ms is posts = subst (λ (all : List Message). PostsAll old all new) (sym is) (new, (posts, refl))
posts-one (Err e) old new m ms is posts = tt
