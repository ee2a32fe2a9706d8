-- A dot stands in the meaning of a set if one of the operations has it, and none replaces it.
use Rattle.std.proofs.Common.{◌≡◌, ◌⊎◌, Bool, true, false, not, cond, inl, inr, List, Option, None, refl, sym, ap, subst, ◌∙◌}
use Rattle.dac_model_world.specs.laws.Common.{list_any, eq_by_cmp, is_eq, tied_itself, false≢true, and_parts, Dot, Origin, dot_cmp, origin_cmp, origins_total, exact_origins, Key, same_dot_is, same_dot_itself, same_dot, Act, Permit, Start, Stop, Drain, Operation, meaning_of, IsOperationOf, has_dot, is_replaced, found, finds, starts-meaning, permits-meaning, drains-meaning, PermitStands, StartStands, DrainStands, IsPermitOf, IsStartOf, IsDrainOf, EndsStart}
use Rattle.std.specs.Prelude.{is_some, ◌↔◌}
use Rattle.std.specs.declared.cmp.Ordering.{Ordering}
use Rattle.std.proofs.lemmas.Bool.{and_from}
use Rattle.dac_origins.specs.Keys.{has_key}
use Rattle.dac_lattice.specs.declared.flags.Flag.{Flag}
use Rattle.dac_wishes.specs.Keys.{key_cmp, same_key}
use Rattle.dac_wishes.specs.laws.Keys.{same_key_is, same_key_itself}
use Rattle.dac_wishes.specs.KeyedWrites.{keyed_write}
use Rattle.dac_wishes.specs.laws.KeyedWrites.{tied_is}
use Rattle.dac_wishes.specs.DrainsValue.{origin}
use Rattle.dac_wishes.specs.Writes.{Write, write}
use Rattle.dac_operations.specs.Operations.{over_list}
use Rattle.dac_meaning.specs.Meaning.{is_same, vote_says, is_vote, vote_flag, vote_at, permit_vote, drain_vote, says, flag_written, wishes, is_start}
use Rattle.dac_model_world.specs.laws.Replacing.{Replaces}

-- one of the operations is such a write and has the dot, and none replaces the dot
pub record StandsAs (Writes : Act → Type 0) (os : List Operation) (d : Dot) : Type 0 where
  pub operation : Operation
  pub there : IsOperationOf operation os
  pub writes : Writes operation.act
  pub is : operation.dot ≡ d
  pub stays : is_replaced d os ≡ false

dot_tested : (d : Dot) (o : Operation) → o.dot ≡ d → has_dot d o ≡ true
dot_tested d o e = ap (same_dot d) e ∙ same_dot_itself d

swept : (a : Bool) → not a ≡ true → a ≡ false
swept true h = absurd (false≢true h)
swept false h = refl

-- ---- start wishes
wish_is : (key : Key) (act : Act) → wishes key act ≡ true → IsStartOf key act
wish_is key (Start k over) h = sym (same_key_is key k h)
wish_is key _ h = false≢true h

is_wish : (key : Key) (act : Act) → IsStartOf key act → wishes key act ≡ true
is_wish key (Start k over) e = ap (same_key key) e ∙ same_key_itself key
is_wish key _ e = absurd e

pub starts_stand : (os : List Operation) (key : Key) (d : Dot) → StartStands (meaning_of os) key d ↔ StandsAs (IsStartOf key) os d
starts_stand os key d = (
  λ h.
      let w : Write = write key d in
      let parts = and_parts (list_any (is_start w) os) (not (is_replaced d os)) (sym (starts-meaning os w) ∙ h) in
      let o = found (is_start w) os parts.0 in
      let both = and_parts (wishes key o.0.act) (has_dot d o.0) o.1.1 in
      record { operation = o.0; there = o.1.0; writes = wish_is key o.0.act both.0; is = sym (same_dot_is d o.0.dot both.1); stays = swept (is_replaced d os) parts.1 },
  λ x.
      let w : Write = write key d in
      let o = x.operation in
      starts-meaning os w
      ∙ and_from (list_any (is_start w) os) (not (is_replaced d os))
      (finds (is_start w) os o x.there (and_from (wishes key o.act) (has_dot d o) (is_wish key o.act x.writes) (dot_tested d o x.is)))
      (ap not x.stays),
)

-- ---- permits
permit_is : (key : Key) (v : Bool) (act : Act) → says key v act ≡ true → IsPermitOf key act
permit_is key v (Permit k value over) h = sym (same_key_is key k (and_parts (same_key key k) (is_same value v) h).0)
permit_is key v _ h = false≢true h

is_same_itself : (v : Bool) → is_same v v ≡ true
is_same_itself true = refl
is_same_itself false = refl

is_said : (key : Key) (act : Act) → IsPermitOf key act → (v : Bool) × (says key v act ≡ true)
is_said key (Permit k value over) e = (value, and_from (same_key key k) (is_same value value) (ap (same_key key) e ∙ same_key_itself key) (is_same_itself value))
is_said key _ e = absurd e

-- ---- votes

either_said : (a b : Bool) → is_some (flag_written a b) ≡ true → (a ≡ true) ⊎ (b ≡ true)
either_said true b h = inl refl
either_said false true h = inr refl
either_said false false h = absurd (false≢true h)

said_either : (a b : Bool) → (a ≡ true) ⊎ (b ≡ true) → is_some (flag_written a b) ≡ true
said_either true b h = refl
said_either false true h = refl
said_either false false (inl h) = absurd (false≢true h)
said_either false false (inr h) = absurd (false≢true h)

-- the value said is `down`, or the other one
one_value : (down v : Bool) (any : Bool → Bool) → any v ≡ true → (any down ≡ true) ⊎ (any (not down) ≡ true)
one_value true true any h = inl h
one_value true false any h = inr h
one_value false true any h = inr h
one_value false false any h = inl h

given : (b : Bool) (x : Option Flag) → is_some (cond b None x) ≡ true → (b ≡ false) × (is_some x ≡ true)
given true x h = absurd (false≢true h)
given false x h = (refl, h)

module _ {K : Type 0} (R : K → K → Ordering) (vote : Act → Option (K × Bool)) (down : Bool) (Writes : K → Act → Type 0)
    (writes_is : (key : K) (v : Bool) (act : Act) → vote_says R key v (vote act) ≡ true → Writes key act)
    (is_told : (key : K) (act : Act) → Writes key act → (v : Bool) × (vote_says R key v (vote act) ≡ true)) where
  vote_found : (os : List Operation) (key : K) (d : Dot) (v : Bool) → list_any (is_vote R vote (keyed_write key d) v) os ≡ true → (o : Operation) × (IsOperationOf o os × (Writes key o.act × (o.dot ≡ d)))
  vote_found os key d v h =
      let o = found (is_vote R vote (keyed_write key d) v) os h in
      let both = and_parts (vote_says R key v (vote o.0.act)) (has_dot d o.0) o.1.1 in
      (o.0, (o.1.0, (writes_is key v o.0.act both.0, sym (same_dot_is d o.0.dot both.1))))

  said_found : (os : List Operation) (key : K) (d : Dot) → is_some (vote_flag R vote down (keyed_write key d) os) ≡ true → (o : Operation) × (IsOperationOf o os × (Writes key o.act × (o.dot ≡ d)))
  said_found os key d h = elim (either_said (list_any (is_vote R vote (keyed_write key d) down) os) (list_any (is_vote R vote (keyed_write key d) (not down)) os) h) [
    | inl t ↦ vote_found os key d down t
    | inr t ↦ vote_found os key d (not down) t
  ]

  found_said : (os : List Operation) (key : K) (d : Dot) (v : Bool) → list_any (is_vote R vote (keyed_write key d) v) os ≡ true → is_some (vote_flag R vote down (keyed_write key d) os) ≡ true
  found_said os key d v h =
      said_either (list_any (is_vote R vote (keyed_write key d) down) os) (list_any (is_vote R vote (keyed_write key d) (not down)) os)
      (one_value down v (λ v. list_any (is_vote R vote (keyed_write key d) v) os) h)

  -- a vote stands if and only if one of the operations is such a write and none replaces it
  votes_stand : (os : List Operation) (key : K) (d : Dot) → (is_some (vote_at R vote down os (keyed_write key d)) ≡ true) ↔ StandsAs (Writes key) os d
  votes_stand os key d = (
    λ h.
        let parts = given (is_replaced d os) (vote_flag R vote down (keyed_write key d) os) h in
        let p = said_found os key d parts.1 in
        record { operation = p.0; there = p.1.0; writes = p.1.1.0; is = p.1.1.1; stays = parts.0 },
    λ x.
        let o = x.operation in
        let v = is_told key o.act x.writes in
        ap (λ b. is_some (cond b None (vote_flag R vote down (keyed_write key d) os))) x.stays
        ∙ found_said os key d v.0 (finds (is_vote R vote (keyed_write key d) v.0) os o x.there (and_from (vote_says R key v.0 (vote o.act)) (has_dot d o) v.1 (dot_tested d o x.is))),
  )

pub permits_stand : (os : List Operation) (key : Key) (d : Dot) → PermitStands (meaning_of os) key d ↔ StandsAs (IsPermitOf key) os d
permits_stand os key d =
    let stand = votes_stand key_cmp permit_vote false IsPermitOf permit_is is_said os key d in
    (λ h. stand.0 (ap is_some (sym (permits-meaning os (write key d))) ∙ h), λ x. ap is_some (permits-meaning os (write key d)) ∙ stand.1 x)

-- ---- drains
drain_is : (at : Origin) (v : Bool) (act : Act) → vote_says origin_cmp at v (drain_vote act) ≡ true → IsDrainOf at act
drain_is at v (Drain n i value over) h = sym (tied_is exact_origins at (origin n i) (and_parts (eq_by_cmp origin_cmp at (origin n i)) (is_same value v) h).0)
drain_is at v _ h = false≢true h

is_drain : (at : Origin) (act : Act) → IsDrainOf at act → (v : Bool) × (vote_says origin_cmp at v (drain_vote act) ≡ true)
is_drain at (Drain n i value over) e = (value, and_from (eq_by_cmp origin_cmp at (origin n i)) (is_same value value) (ap (eq_by_cmp origin_cmp at) e ∙ ap is_eq (tied_itself origins_total at)) (is_same_itself value))
is_drain at _ e = absurd e

pub drains_stand : (os : List Operation) (at : Origin) (d : Dot) → DrainStands (meaning_of os) at d ↔ StandsAs (IsDrainOf at) os d
drains_stand os at d =
    let stand = votes_stand origin_cmp drain_vote true IsDrainOf drain_is is_drain os at d in
    (λ h. stand.0 (ap is_some (sym (drains-meaning os (keyed_write at d))) ∙ h), λ x. ap is_some (drains-meaning os (keyed_write at d)) ∙ stand.1 x)

-- ---- which acts replace which
-- an act replaces only dots of acts of its kind and key
abbrev pub IsReplacedBy : Act → Act → Type 0
IsReplacedBy p (Permit key value over) = IsPermitOf key p
IsReplacedBy p (Start key over) = IsStartOf key p
IsReplacedBy p (Stop key over) = IsStartOf key p
IsReplacedBy p (Drain n i value over) = IsDrainOf (origin n i) p
IsReplacedBy p _ = ⊥

-- one of the operations has the dot that an act replaces
pub record Replaced (os : List Operation) (act : Act) (d : Dot) : Type 0 where
  pub operation : Operation
  pub there : IsOperationOf operation os
  pub is : operation.dot ≡ d
  pub by : IsReplacedBy operation.act act

pub replaced_there : (os : List Operation) (act : Act) (d : Dot) → Replaces (meaning_of os) act → has_key dot_cmp (over_list act) d ≡ true → Replaced os act d
replaced_there os (Permit key value over) d r h = let x = (permits_stand os key d).0 ((r d).0 h) in record { operation = x.operation; there = x.there; is = x.is; by = x.writes }
replaced_there os (Start key over) d r h = let x = (starts_stand os key d).0 ((r d).0 h) in record { operation = x.operation; there = x.there; is = x.is; by = x.writes }
replaced_there os (Stop key over) d r h = let x = (starts_stand os key d).0 ((r d).0 h) in record { operation = x.operation; there = x.there; is = x.is; by = x.writes }
replaced_there os (Drain n i value over) d r h = let x = (drains_stand os (origin n i) d).0 ((r d).0 h) in record { operation = x.operation; there = x.there; is = x.is; by = x.writes }
replaced_there os _ d r h = absurd (false≢true h)

-- a permit replaces each permit of its key that stands
pub permit_takes : (key : Key) (os : List Operation) (act : Act) (d : Dot) → Replaces (meaning_of os) act → IsPermitOf key act → StandsAs (IsPermitOf key) os d → has_key dot_cmp (over_list act) d ≡ true
permit_takes key os (Permit k value over) d r e x = (r d).1 ((permits_stand os k d).1 (subst (λ q. StandsAs (IsPermitOf q) os d) (sym e) x))
permit_takes key os _ d r e x = absurd e

-- a start or a stop replaces each start of its key that stands
pub start_takes : (key : Key) (os : List Operation) (act : Act) (d : Dot) → Replaces (meaning_of os) act → EndsStart key act → StandsAs (IsStartOf key) os d → has_key dot_cmp (over_list act) d ≡ true
start_takes key os (Start k over) d r (inl e) x = (r d).1 ((starts_stand os k d).1 (subst (λ q. StandsAs (IsStartOf q) os d) (sym e) x))
start_takes key os (Start k over) d r (inr e) x = absurd e
start_takes key os (Stop k over) d r (inl e) x = absurd e
start_takes key os (Stop k over) d r (inr e) x = (r d).1 ((starts_stand os k d).1 (subst (λ q. StandsAs (IsStartOf q) os d) (sym e) x))
start_takes key os _ d r (inl e) x = absurd e
start_takes key os _ d r (inr e) x = absurd e

-- a drain replaces each drain of its incarnation that stands
pub drain_takes : (at : Origin) (os : List Operation) (act : Act) (d : Dot) → Replaces (meaning_of os) act → IsDrainOf at act → StandsAs (IsDrainOf at) os d → has_key dot_cmp (over_list act) d ≡ true
drain_takes at os (Drain n i value over) d r e x = (r d).1 ((drains_stand os (origin n i) d).1 (subst (λ q. StandsAs (IsDrainOf q) os d) (sym e) x))
drain_takes at os _ d r e x = absurd e

-- an act has one kind and one key
one_permit : (k key : Key) (p : Act) → IsPermitOf k p → IsPermitOf key p → k ≡ key
one_permit k key (Permit q value over) a b = sym a ∙ b
one_permit k key _ a b = absurd a

one_start : (k key : Key) (p : Act) → IsStartOf k p → IsStartOf key p → k ≡ key
one_start k key (Start q over) a b = sym a ∙ b
one_start k key _ a b = absurd a

not_both : (k key : Key) (p : Act) → IsStartOf k p → IsPermitOf key p → ⊥
not_both k key (Start q over) a b = b
not_both k key _ a b = a

one_drain : (k at : Origin) (p : Act) → IsDrainOf k p → IsDrainOf at p → k ≡ at
one_drain k at (Drain n i value over) a b = sym a ∙ b
one_drain k at _ a b = absurd a

no_permit_drains : (key : Key) (at : Origin) (p : Act) → IsPermitOf key p → IsDrainOf at p → ⊥
no_permit_drains key at (Permit k value over) a b = b
no_permit_drains key at _ a b = a

no_start_drains : (key : Key) (at : Origin) (p : Act) → IsStartOf key p → IsDrainOf at p → ⊥
no_start_drains key at (Start k over) a b = b
no_start_drains key at _ a b = a

-- an act that replaces a permit of a key is one
pub permit_ends : (key : Key) (p o : Act) → IsReplacedBy p o → IsPermitOf key p → IsPermitOf key o
permit_ends key p (Permit k value over) a b = one_permit k key p a b
permit_ends key p (Start k over) a b = not_both k key p a b
permit_ends key p (Stop k over) a b = not_both k key p a b
permit_ends key p (Drain n i value over) a b = no_permit_drains key (origin n i) p b a
permit_ends key p _ a b = a

-- an act that replaces a start of a key is a start or a stop of it
pub start_ends : (key : Key) (p o : Act) → IsReplacedBy p o → IsStartOf key p → EndsStart key o
start_ends key p (Permit k value over) a b = absurd (not_both key k p b a)
start_ends key p (Start k over) a b = inl (one_start k key p a b)
start_ends key p (Stop k over) a b = inr (one_start k key p a b)
start_ends key p (Drain n i value over) a b = absurd (no_start_drains key (origin n i) p b a)
start_ends key p _ a b = absurd a

-- an act that replaces a drain of an incarnation is one
pub drain_ends : (at : Origin) (p o : Act) → IsReplacedBy p o → IsDrainOf at p → IsDrainOf at o
drain_ends at p (Permit k value over) a b = no_permit_drains k at p a b
drain_ends at p (Start k over) a b = no_start_drains k at p a b
drain_ends at p (Stop k over) a b = no_start_drains k at p a b
drain_ends at p (Drain n i value over) a b = one_drain (origin n i) at p a b
drain_ends at p _ a b = a
