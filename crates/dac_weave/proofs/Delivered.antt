-- The deliveries of the merge name copies in order.
use Rattle.std.proofs.Common.{◌≡◌, ℕ, ◌+◌, ◌-◌, ◌<◌, ◌≤◌, true, false, cond, inl, inr, ◌⊎◌, List, [], ◌∷◌, ◌++◌, Option, Some, None, Ok, length, take, nat_eq, refl, sym, ap, subst, ◌∙◌, true≢false, eq-eqb, arith}
use Rattle.dac_weave.specs.laws.Common.{slice_get, slice_get_within, cases_eq, Table, NodeId, WorldEvent, What, Message, Operation, Event, start, counted, run_from, event_of, At}
use Rattle.std.proofs.lemmas.List.{length-append, take-append-le, take_all}
use Rattle.dac_events.specs.declared.What.TheVariants as what
use Rattle.dac_journal.specs.ModelWorld.{heard_by}
use Rattle.dac_weave.specs.declared.mail.Mail.{Mail}
use Rattle.dac_weave.specs.Copies.{IsDelivered, IsFirstLeft, NoneIsLeft, NamesCopies}
use Rattle.dac_weave.specs.Mails.{IsNoMail, IsWaiting, IsProperNumber, IsProper, Posts, Notes, PostsAll, Moves, WaitsFor, Delivers}
use Rattle.dac_weave.proofs.Finding.{at-left, at-last, push-cases}
use Rattle.dac_weave.proofs.Mailed.{is-no-mail}

-- the place of a number
counted_place : {X : Type 0} (xs : List X) (k : ℕ) (x : X) → counted xs k ≡ Some x → (p : ℕ) × ((k ≡ p + 1) × At xs p x)
counted_place {X} xs k x = elim (nat_eq k 0) as (λ b. nat_eq k 0 ≡ b → cond b None (slice_get xs (k - 1)) ≡ Some x → (p : ℕ) × ((k ≡ p + 1) × At xs p x)) [
  | true ↦ λ zeroth at. cc
  | false ↦ λ later at. (k - 1, (above (λ e. true≢false (sym (eq-eqb k 0 e) ∙ later)), at))
] refl
  where
    above : (k ≡ 0 → ⊥) → k ≡ (k - 1) + 1
    above ne = omega (arith, ne)

-- ---- deliveries
abbrev pub event_at : NodeId → What → WorldEvent
event_at n e = record { node = n; what = e }

abbrev pub delivery : NodeId → ℕ → WorldEvent
delivery n k = event_at n (what.Deliver k)

delivered-more : (es : List WorldEvent) (e : WorldEvent) (k : ℕ) → IsDelivered es k → IsDelivered (es ++ e ∷ []) k
delivered-more es e k d = (d.0, (d.1.0, at-left es (e ∷ []) d.0 (delivery d.1.0 k) d.1.1))

delivered-last : (es : List WorldEvent) (n : NodeId) (k : ℕ) → IsDelivered (es ++ delivery n k ∷ []) k
delivered-last es n k = (length es, (n, at-last es (delivery n k)))

delivered-cases : (es : List WorldEvent) (e : WorldEvent) (k : ℕ) → IsDelivered (es ++ e ∷ []) k → IsDelivered es k ⊎ (e.what ≡ what.Deliver k)
delivered-cases es e k d = elim (push-cases es e d.0 (delivery d.1.0 k) d.1.1) [
  | inl old ↦ inl (d.0, (d.1.0, old))
  | inr both ↦ inr (ap (λ (x : WorldEvent). x.what) both.1)
]

number_is : (a b : ℕ) → what.Deliver a ≡ what.Deliver b → a ≡ b
number_is a b e = cc

-- ---- the copies named
abbrev pub IsNext : List Message → List WorldEvent → Message → ℕ → Type 0
IsNext ms es m k = IsFirstLeft ms es m k ⊎ NoneIsLeft ms es m

abbrev pub messages_of : Table → List WorldEvent → List Message
messages_of t es = (run_from t (start t) es).messages

names-push : (t : Table) (es : List WorldEvent) (e : WorldEvent) → NamesCopies t es → ((k : ℕ) (m : Message) → e.what ≡ what.Deliver k → counted (messages_of t es) k ≡ Some m → IsNext (messages_of t es) es m k) → NamesCopies t (es ++ e ∷ [])
names-push t es e so_far next i k n m at shipped = elim (push-cases es e i (delivery n k) at) [
  | inl old ↦
      let lt = slice_get_within es i (delivery n k) old in
      let front : take i (es ++ e ∷ []) ≡ take i es = take-append-le i es (e ∷ []) (omega (arith, lt)) in
      subst (λ (xs : List WorldEvent). IsNext (messages_of t xs) xs m k) (sym front) (so_far i k n m old (subst (λ (xs : List WorldEvent). counted (messages_of t xs) k ≡ Some m) front shipped))
  | inr last ↦
      let front : take i (es ++ e ∷ []) ≡ es = take-append-le i es (e ∷ []) (omega (arith, last.0)) ∙ take_all i es (omega (arith, last.0)) in
      subst (λ (xs : List WorldEvent). IsNext (messages_of t xs) xs m k) (sym front) (next k m (ap (λ (x : WorldEvent). x.what) last.1) (subst (λ (xs : List WorldEvent). counted (messages_of t xs) k ≡ Some m) front shipped))
]

next_copy : (mail : Mail) (es : List WorldEvent) (k : ℕ) (m : Message) → WaitsFor mail es → IsProperNumber mail k → counted mail.shipped k ≡ Some m → IsNext mail.shipped es m k
next_copy mail es k m w proper at =
    let p = counted_place mail.shipped k m at in
    elim (proper p.0 m p.1.0 p.1.1) [
      | inl first ↦ inl (record {
        left = λ d. w.once p.0 m first.there first.waits (subst (IsDelivered es) p.1.0 d);
        before = λ i lt early.
            let q = counted_place mail.shipped i m early in
            let less : q.0 < p.0 = omega (arith, q.1.0, p.1.0, lt) in
            delivered q.0 i q.1.0 q.1.1 (first.before q.0 less q.1.1);
      })
      | inr none ↦ inr (λ i early.
          let q = counted_place mail.shipped i m early in
          delivered q.0 i q.1.0 q.1.1 (none q.0 q.1.1))
    ]
  where
    delivered : (q i : ℕ) → i ≡ q + 1 → At mail.shipped q m → (IsWaiting mail m q → ⊥) → IsDelivered es i
    delivered q i is there not = elim (w.either q m there) [
      | inl waits ↦ absurd (not waits)
      | inr d ↦ subst (IsDelivered es) (sym is) d
    ]

-- ---- one event
-- the number of a message that is heard is none after the last
within : (ms : List Message) (os : List Operation) (k : ℕ) (event : Event) → event_of os ms (what.Deliver k) ≡ Ok event → k ≤ length ms
within ms os k event is =
    let m = heard (counted ms k) event is in
    let p = counted_place ms k m.0 m.1 in
    let lt = slice_get_within ms p.0 m.0 p.1.1 in
    omega (arith, p.1.0, lt)
  where
    heard : (o : Option Message) (x : Event) → heard_by o ≡ Ok x → (m : Message) × (o ≡ Some m)
    heard None x e = cc
    heard (Some m) x e = (m, refl)

module _ (mail noted : Mail) (es : List WorldEvent) (os : List Operation) (event : Event) (n : NodeId) (w : WaitsFor mail es) where
  unchanged : (e : What) → ((k : ℕ) → e ≡ what.Deliver k → ⊥) → noted ≡ mail → WaitsFor noted (es ++ event_at n e ∷ [])
  unchanged e not same = subst (λ (m : Mail). WaitsFor m (es ++ event_at n e ∷ [])) (sym same) (record {
    good = w.good;
    either = λ p m at. elim (w.either p m at) [
      | inl waits ↦ inl waits
      | inr d ↦ inr (delivered-more es (event_at n e) (p + 1) d)
    ];
    once = λ p m at waits d. elim (delivered-cases es (event_at n e) (p + 1) d) [
      | inl old ↦ w.once p m at waits old
      | inr is ↦ not (p + 1) is
    ];
    few = λ k d. elim (delivered-cases es (event_at n e) k d) [
      | inl old ↦ w.few k old
      | inr is ↦ absurd (not k is)
    ];
  })

  waits-noted : (e : What) → event_of os mail.shipped e ≡ Ok event → Notes mail e noted → WaitsFor noted (es ++ event_at n e ∷ [])
  waits-noted (what.Boot now) is notes = unchanged (what.Boot now) (λ k e. cc) notes
  waits-noted what.Crash is notes = unchanged what.Crash (λ k e. cc) notes
  waits-noted (what.Command command) is notes = unchanged (what.Command command) (λ k e. cc) notes
  waits-noted (what.Tick now) is notes = unchanged (what.Tick now) (λ k e. cc) notes
  waits-noted (what.Ship to) is notes = unchanged (what.Ship to) (λ k e. cc) notes
  waits-noted (what.Hand k) is notes = unchanged (what.Hand k) (λ k e. cc) notes
  waits-noted (what.Deliver k) is notes = record {
    good = notes.mail;
    either = λ p m there. elim (w.either p m (before p m there)) [
      | inl waits ↦ elim (cases_eq (p + 1) k) [
        | inl same ↦ inr (subst (IsDelivered (es ++ delivery n k ∷ [])) (sym same) (delivered-last es n k))
        | inr other ↦ inl ((notes.waits p m (before p m there)).1 (waits, other))
      ]
      | inr d ↦ inr (delivered-more es (delivery n k) (p + 1) d)
    ];
    once = λ p m there waits d.
        let both = (notes.waits p m (before p m there)).0 waits in
        elim (delivered-cases es (delivery n k) (p + 1) d) [
          | inl old ↦ w.once p m (before p m there) both.0 old
          | inr own ↦ both.1 (sym (number_is k (p + 1) own))
        ];
    few = λ i d. subst (λ (ms : List Message). i ≤ length ms) (sym notes.shipped) (elim (delivered-cases es (delivery n k) i d) [
      | inl old ↦ w.few i old
      | inr own ↦ subst (λ j. j ≤ length mail.shipped) (number_is k i own) (within mail.shipped os k event is)
    ]);
  }
    where
      before : (p : ℕ) (m : Message) → At noted.shipped p m → At mail.shipped p m
      before p m there = subst (λ (ms : List Message). At ms p m) notes.shipped there

waits-one : (old new : Mail) (es : List WorldEvent) (m : Message) → WaitsFor old es → Posts old m new → WaitsFor new es
waits-one old new es m w posts = record {
  good = posts.mail;
  either = λ p x there. elim (place p x there) [
    | inl early ↦ elim (w.either p x early) [
      | inl waits ↦ inl ((posts.waits p x there).1 (inl waits))
      | inr d ↦ inr d
    ]
    | inr last ↦ inl ((posts.waits p x there).1 (inr last.0))
  ];
  once = λ p x there waits d. elim (place p x there) [
    | inl early ↦ elim ((posts.waits p x there).0 waits) [
      | inl before ↦ w.once p x early before d
      | inr last ↦ let lt = slice_get_within old.shipped p x early in omega (arith, lt, last)
    ]
    | inr last ↦ let le = w.few (p + 1) d in omega (arith, le, last.0)
  ];
  few = λ k d. subst (λ (xs : List Message). k ≤ length xs) (sym posts.shipped) (let le = w.few k d in omega (arith, le, longer));
}
  where
    longer : length (old.shipped ++ m ∷ []) ≡ length old.shipped + 1
    longer = length-append old.shipped (m ∷ [])

    place : (p : ℕ) (x : Message) → At new.shipped p x → At old.shipped p x ⊎ ((p ≡ length old.shipped) × (m ≡ x))
    place p x there = push-cases old.shipped m p x (subst (λ (xs : List Message). At xs p x) posts.shipped there)

waits-posted : (old new : Mail) (es : List WorldEvent) (ms : List Message) → WaitsFor old es → PostsAll old ms new → WaitsFor new es
waits-posted old new es [] w same = subst (λ (m : Mail). WaitsFor m es) (sym same) w
waits-posted old new es (m ∷ ms) w posts = waits-posted posts.0 new es ms (waits-one old posts.0 es m w posts.1.0) posts.1.1

-- the mail after one more event
pub delivers-place : (t : Table) (es : List WorldEvent) (n : NodeId) (e : What) (old new : Mail) (os : List Operation) (event : Event) → Delivers t old es → old.shipped ≡ messages_of t es → event_of os old.shipped e ≡ Ok event → IsProper old e → Moves old e new → Delivers t new (es ++ event_at n e ∷ [])
delivers-place t es n e old new os event d messages is proper moves = record {
  waits = waits-posted moves.noted new (es ++ event_at n e ∷ []) moves.messages (waits-noted old moves.noted es os event n d.waits e is moves.notes) moves.posts;
  copies = names-push t es (event_at n e) d.copies (λ k m own shipped.
      subst (λ (xs : List Message). IsNext xs es m k) messages
      (next_copy old es k m d.waits (subst (IsProper old) own proper) (subst (λ (xs : List Message). counted xs k ≡ Some m) (sym messages) shipped)));
}

-- the mail before any event
pub delivers-none : (t : Table) (es : List WorldEvent) (mail : Mail) → IsNoMail mail → es ≡ [] → Delivers t mail es
delivers-none t es mail none is = subst (Delivers t mail) (sym is) (record {
  waits = record {
    good = is-no-mail mail none;
    either = λ p m at. absurd (nothing p m (subst (λ (ms : List Message). At ms p m) none.shipped at));
    once = λ p m at. absurd (nothing p m (subst (λ (ms : List Message). At ms p m) none.shipped at));
    few = λ k d. absurd (nothing d.0 (delivery d.1.0 k) d.1.1);
  };
  copies = λ i k n m at. absurd (nothing i (delivery n k) at);
})
  where
    nothing : {X : Type 0} (p : ℕ) (x : X) → At [] p x → ⊥
    nothing p x at = cc
