-- The codec of operations.
use Rattle.std.specs.Prelude.{◌≡◌, ℕ, ◌≤◌, ◌^◌, List, ◌++◌, None, Some, is_none, Ok, refl, ◌+◌, ◌<◌}
use Rattle.std.specs.Int.{w16}
use Rattle.std.proofs.Common.{sym, ap, subst, arith, append_assoc}
use Rattle.dac_wire.specs.laws.Common.{Bool, true, Option, w8, NodeId, MAX_COUNTER, Dot, Origin, Table, node_count, ReadFault, FieldCodecs, codec_same, codec_wanted, codec_both, codec_pair, u8_bytes, u64_bytes, IsOrigin, Rest, range_at, origin_at, dot_above_at, dot_bytes, origin_bytes, IsCodec, Passes, Takes, TakesAs, Again, Takes-none, TakesAs-made, Again-made, ok_is, PartCodecs, IsKindIn, value_code, value_of_code, IsOperation, act_kind_at, operation_at, operation_bytes, ActKind, Up, Down, Permit, Start, Stop, Claim, Drain, Version}
use Rattle.dac_chains.specs.declared.claims.How.{How}
use Rattle.dac_origins.specs.Dots.{dot_cmp}
use Rattle.dac_origins.specs.laws.Dots.{dots_total}
use Rattle.dac_origins.specs.Keys.{IsRising}
use Rattle.dac_wishes.specs.declared.key.Key.{Key}
use Rattle.dac_config.specs.Table.{app_count}
use Rattle.dac_bytes.specs.declared.fault.ReadFaultKind.TheVariants.{BadNumber, NotInList}
use Rattle.dac_bytes.specs.laws.Ascending.{AreCounted, counted_codec}
use Rattle.dac_bytes.specs.Numbers.{u16_bytes}
use Rattle.dac_bytes.specs.Ranges.{IsDot}
use Rattle.dac_bytes.specs.Reading.{number_at, counter_at, dot_at}
use Rattle.dac_part_bytes.specs.ChainForm.{IsConsistentOrigin}
use Rattle.dac_part_bytes.specs.KeyedForm.{IsKey, IsKeyAbove}
use Rattle.dac_part_bytes.specs.Reading.{app_at, key_above_at, manner_at, is_listed}
use Rattle.dac_part_bytes.specs.Spelling.{app_bytes, key_bytes, manner_bytes}
use Rattle.std.proofs.lemmas.List.{map-id}
use Rattle.dac_operations.specs.declared.act.Act.{Act}
use Rattle.dac_operations.specs.declared.act.Act.TheVariants.{Up as UpAct, Down as DownAct, Permit as PermitAct, Start as StartAct, Stop as StopAct, Drain as DrainAct, Claim as ClaimAct}
use Rattle.dac_operations.specs.Operations.{Operation, operation, fault_of}
use Rattle.dac_wire.specs.Codes.{kind_of_act}
use Rattle.dac_wire.specs.Form.{AreOver, IsClaimInForm, IsAct}
use Rattle.dac_wire.specs.Reading.{ClaimFields, over_at, keyed_over_at, valued_over_at, permit_fields_at, drain_fields_at, term_and_manner_at, claim_fields_at, listed_claim_at, act_fields_at, act_at, dot_and_act_at}
use Rattle.dac_wire.specs.Spelling.{over_bytes, act_fields_bytes, act_bytes}
use Rattle.dac_wire.specs.laws.CodeLaws.{act_kind_bytes, act_kind_codec, value_number, value_fits, value_back}

-- ---- the dots that an act replaces

module _ (version : Version) (nodes : ℕ) (fields : FieldCodecs version nodes) where
  abbrev itself : Dot → Dot
  itself d = d

  abbrev IsCount : ℕ → Type 0
  IsCount n = n < 2 ^ 16

  abbrev AreDots : List Dot → Type 0
  AreDots = AreCounted dots_total itself (IsDot version nodes) (dot_above_at version nodes) (number_at w16) u16_bytes (dot_bytes version) IsCount

  over_is : (over : List Dot) → AreDots over → AreOver version nodes over
  over_is over is = record { each = is.1; rising = subst (IsRising dot_cmp) (map-id over) is.2; count = is.0 }

  dots_are : (over : List Dot) → AreOver version nodes over → AreDots over
  dots_are over is = (is.count, is.each, subst (IsRising dot_cmp) (sym (map-id over)) is.rising)

  pub over_codec : IsCodec (over_at version nodes) (over_bytes version) (AreOver version nodes)
  unfolding over_at over_bytes
  over_codec =
      codec_same (over_at version nodes) (over_bytes version) AreDots
      (counted_codec dots_total itself (IsDot version nodes) (dot_above_at version nodes) (number_at w16) u16_bytes (dot_bytes version) IsCount fields.u16 fields.dot_above)
      (AreOver version nodes) over_is dots_are

  -- ---- the value of a permit

  abbrev value_bytes : Bool → List ℕ
  value_bytes value = u8_bytes (value_code value)

  abbrev Valued : Type 0
  Valued = Bool × List Dot

  abbrev valued_bytes : Valued → List ℕ
  valued_bytes v = value_bytes v.0 ++ over_bytes version v.1

  abbrev IsValued : Valued → Type 0
  IsValued v = AreOver version nodes v.1

  valued_over_codec : IsCodec (valued_over_at version nodes) valued_bytes IsValued
  unfolding valued_over_at
  valued_over_codec =
      codec_both (range_at w8 0 1) u8_bytes (λ n. (0 ≤ n) × (n ≤ 1)) (fields.u8_in 0 1 (omega arith)) (λ _ r. over_at version nodes r) (λ _. over_bytes version) (λ _. AreOver version nodes) (λ _ _. over_codec)
      (λ n over. (value_of_code n, over)) valued_bytes IsValued
      (λ n over is so. (ap (λ n. u8_bytes n ++ over_bytes version over) (value_number n is.1), so)) (λ v is. (value_code v.0, v.1, value_fits v.0, is, (λ i. (value_back v.0 i, v.1))))

  -- ---- a term, and how an application came to its node

  abbrev TermAndManner : Type 0
  TermAndManner = ℕ × (How × Option NodeId)

  abbrev term_and_manner_bytes : TermAndManner → List ℕ
  term_and_manner_bytes c = u64_bytes c.0 ++ manner_bytes c.1.0 c.1.1

  abbrev IsTermAndManner : TermAndManner → Type 0
  IsTermAndManner c = ((1 ≤ c.0) × (c.0 ≤ MAX_COUNTER)) × IsConsistentOrigin nodes c.1.0 c.1.1

regroup : (a b c : List ℕ) → a ++ (b ++ c) ≡ (a ++ b) ++ c
regroup a b c = sym (append_assoc a b c)

is_none_from : {X : Type 0} (o : Option X) → is_none o ≡ true → o ≡ None
is_none_from None e = refl
is_none_from (Some x) e = absurd cc

module _ (version : Version) (t : Table) (parts : PartCodecs version t) where
  abbrev nodes : ℕ
  nodes = node_count t

  abbrev fields : FieldCodecs version nodes
  fields = parts.fields

  -- a key without a previous one
  key_codec : IsCodec (key_above_at version t None) (key_bytes version) (IsKey version t)
  key_codec = codec_same (key_above_at version t None) (key_bytes version) (IsKeyAbove version t None) (parts.key None) (IsKey version t) (λ key is. is.0) (λ key is. (is, refl))

  -- ---- keys with dots

  abbrev keyed_bytes : Key × List Dot → List ℕ
  keyed_bytes k = key_bytes version k.0 ++ over_bytes version k.1

  abbrev IsKeyed : Key × List Dot → Type 0
  IsKeyed k = IsKey version t k.0 × AreOver version nodes k.1

  keyed_over_codec : IsCodec (keyed_over_at version t) keyed_bytes IsKeyed
  unfolding keyed_over_at
  keyed_over_codec = codec_pair (key_above_at version t None) (key_bytes version) (IsKey version t) key_codec (λ _ r. over_at version nodes r) (λ _. over_bytes version) (λ _. AreOver version nodes) (λ _ _. over_codec version nodes fields)

  abbrev permit_bytes : Key × (Bool × List Dot) → List ℕ
  permit_bytes p = key_bytes version p.0 ++ valued_bytes version nodes fields p.1

  abbrev IsPermit : Key × (Bool × List Dot) → Type 0
  IsPermit p = IsKey version t p.0 × AreOver version nodes p.1.1

  permit_fields_codec : IsCodec (permit_fields_at version t) permit_bytes IsPermit
  unfolding permit_fields_at
  permit_fields_codec =
      codec_pair (key_above_at version t None) (key_bytes version) (IsKey version t) key_codec (λ _ r. valued_over_at version nodes r) (λ _. valued_bytes version nodes fields) (λ _. IsValued version nodes fields) (λ _ _. valued_over_codec version nodes fields)

  -- ---- drains

  abbrev drain_bytes : Origin × (Bool × List Dot) → List ℕ
  drain_bytes d = origin_bytes version d.0 ++ valued_bytes version nodes fields d.1

  abbrev IsDrain : Origin × (Bool × List Dot) → Type 0
  IsDrain d = IsOrigin version nodes d.0 × AreOver version nodes d.1.1

  drain_fields_codec : IsCodec (drain_fields_at version t) drain_bytes IsDrain
  unfolding drain_fields_at
  drain_fields_codec =
      codec_pair (origin_at version nodes) (origin_bytes version) (IsOrigin version nodes) fields.origin (λ _ r. valued_over_at version nodes r) (λ _. valued_bytes version nodes fields) (λ _. IsValued version nodes fields) (λ _ _. valued_over_codec version nodes fields)

  -- ---- claims

  term_and_manner_codec : IsCodec (term_and_manner_at nodes) (term_and_manner_bytes version nodes fields) (IsTermAndManner version nodes fields)
  unfolding term_and_manner_at
  term_and_manner_codec =
      codec_pair counter_at u64_bytes (λ n. (1 ≤ n) × (n ≤ MAX_COUNTER)) fields.counter
      (λ _ r. manner_at nodes r) (λ _ (m : How × Option NodeId). manner_bytes m.0 m.1) (λ _ m. IsConsistentOrigin nodes m.0 m.1) (λ _ _. parts.manner)

  abbrev claim_bytes : ClaimFields → List ℕ
  claim_bytes c = app_bytes c.0 ++ term_and_manner_bytes version nodes fields c.1

  abbrev AreFields : ClaimFields → Type 0
  AreFields c = (c.0.0 < app_count t) × IsTermAndManner version nodes fields c.1

  claim_fields_codec : IsCodec (claim_fields_at t) claim_bytes AreFields
  unfolding claim_fields_at
  claim_fields_codec =
      codec_pair (app_at (app_count t)) app_bytes (λ app. app.0 < app_count t) parts.app
      (λ _ r. term_and_manner_at nodes r) (λ _. term_and_manner_bytes version nodes fields) (λ _. IsTermAndManner version nodes fields) (λ _ _. term_and_manner_codec)

  module _ (issuer : NodeId) where
    abbrev is_issuer_listed : ClaimFields → Bool
    is_issuer_listed c = is_listed t c.0 issuer

    listed_claim_codec : IsCodec (listed_claim_at t issuer) claim_bytes (Passes AreFields is_issuer_listed)
    unfolding listed_claim_at
    listed_claim_codec =
        let wrong : Rest → ClaimFields × Rest → ReadFault = λ r _. record { kind = NotInList; at = r.at } in
        codec_wanted (claim_fields_at t) claim_bytes AreFields claim_fields_codec is_issuer_listed wrong

    claim_is : (c : ClaimFields) → Passes AreFields is_issuer_listed c → IsClaimInForm t issuer c.0 c.1.0 c.1.1.0 c.1.1.1
    claim_is c is = record { app = is.0.0; first = is.0.1.0.0; last = is.0.1.0.1; listed = is.1; from = is.0.1.1 }

    claim_has : (c : ClaimFields) → IsClaimInForm t issuer c.0 c.1.0 c.1.1.0 c.1.1.1 → Passes AreFields is_issuer_listed c
    claim_has c is = ((is.app, ((is.first, is.last), is.from)), is.listed)

    -- ---- acts

    abbrev IsActOf : ActKind → Act → Type 0
    IsActOf kind a = (kind_of_act a ≡ kind) × IsAct version t issuer a

    fields_takes : (kind : ActKind) → TakesAs (act_fields_at version t issuer kind) (act_fields_bytes version) (IsActOf kind)
    unfolding act_fields_at act_fields_bytes origin_bytes
    fields_takes Up = λ r x fits e. subst (λ (x : Act × Rest). Takes r (act_fields_bytes version x.0) x.1 × IsActOf Up x.0) (ok_is (UpAct, r) x e) (Takes-none r fits, (refl, tt))
    fields_takes Down =
        TakesAs-made (origin_at version nodes) (origin_bytes version) (IsOrigin version nodes) (λ (o : Origin). DownAct o.node o.inc) (act_fields_bytes version) (IsActOf Down) fields.origin.takes (λ o is. (refl, (refl, (is.node, is.inc))))
    fields_takes Permit =
        TakesAs-made (permit_fields_at version t) permit_bytes IsPermit (λ p. PermitAct p.0 p.1.0 p.1.1) (act_fields_bytes version) (IsActOf Permit) permit_fields_codec.takes
        (λ p is. (regroup (key_bytes version p.0) (u8_bytes (value_code p.1.0)) (over_bytes version p.1.1), (refl, is)))
    fields_takes Start = TakesAs-made (keyed_over_at version t) keyed_bytes IsKeyed (λ k. StartAct k.0 k.1) (act_fields_bytes version) (IsActOf Start) keyed_over_codec.takes (λ k is. (refl, (refl, is)))
    fields_takes Stop = TakesAs-made (keyed_over_at version t) keyed_bytes IsKeyed (λ k. StopAct k.0 k.1) (act_fields_bytes version) (IsActOf Stop) keyed_over_codec.takes (λ k is. (refl, (refl, is)))
    fields_takes Drain =
        TakesAs-made (drain_fields_at version t) drain_bytes IsDrain (λ d. DrainAct d.0.node d.0.inc d.1.0 d.1.1) (act_fields_bytes version) (IsActOf Drain) drain_fields_codec.takes
        (λ d is. (regroup (origin_bytes version d.0) (u8_bytes (value_code d.1.0)) (over_bytes version d.1.1), (refl, is)))
    fields_takes Claim =
        TakesAs-made (listed_claim_at t issuer) claim_bytes (Passes AreFields is_issuer_listed) (λ c. ClaimAct c.0 c.1.0 c.1.1.0 c.1.1.1) (act_fields_bytes version) (IsActOf Claim) listed_claim_codec.takes
        (λ c is. (regroup (app_bytes c.0) (u64_bytes c.1.0) (manner_bytes c.1.1.0 c.1.1.1), (refl, claim_is c is)))

    fields_again : (a : Act) → IsAct version t issuer a → Again (act_fields_at version t issuer (kind_of_act a)) (act_fields_bytes version a) a
    unfolding act_fields_at act_fields_bytes origin_bytes
    fields_again UpAct is = λ at rest. let none : at ≡ at + 0 = omega arith in ap (λ (n : ℕ). Ok (UpAct, record { at = n; bytes = rest })) none
    fields_again (DownAct node inc) is =
        let o : Origin = record { node = node; inc = inc } in
        Again-made (origin_at version nodes) (λ (o : Origin). DownAct o.node o.inc) (origin_bytes version o) o (fields.origin.again o (record { node = is.0; inc = is.1 }))
    fields_again (PermitAct key value over) is =
        subst (λ (text : List ℕ). Again (act_fields_at version t issuer Permit) text (PermitAct key value over)) (regroup (key_bytes version key) (u8_bytes (value_code value)) (over_bytes version over))
        (Again-made (permit_fields_at version t) (λ p. PermitAct p.0 p.1.0 p.1.1) (permit_bytes (key, (value, over))) (key, (value, over)) (permit_fields_codec.again (key, (value, over)) is))
    fields_again (StartAct key over) is = Again-made (keyed_over_at version t) (λ k. StartAct k.0 k.1) (keyed_bytes (key, over)) (key, over) (keyed_over_codec.again (key, over) is)
    fields_again (StopAct key over) is = Again-made (keyed_over_at version t) (λ k. StopAct k.0 k.1) (keyed_bytes (key, over)) (key, over) (keyed_over_codec.again (key, over) is)
    fields_again (DrainAct node inc value over) is =
        let at : Origin = record { node = node; inc = inc } in
        subst (λ (text : List ℕ). Again (act_fields_at version t issuer Drain) text (DrainAct node inc value over)) (regroup (origin_bytes version at) (u8_bytes (value_code value)) (over_bytes version over))
        (Again-made (drain_fields_at version t) (λ d. DrainAct d.0.node d.0.inc d.1.0 d.1.1) (drain_bytes (at, (value, over))) (at, (value, over)) (drain_fields_codec.again (at, (value, over)) is))
    fields_again (ClaimAct app term how from) is =
        let c : ClaimFields = (app, (term, (how, from))) in
        subst (λ (text : List ℕ). Again (act_fields_at version t issuer Claim) text (ClaimAct app term how from)) (regroup (app_bytes app) (u64_bytes term) (manner_bytes how from))
        (Again-made (listed_claim_at t issuer) (λ c. ClaimAct c.0 c.1.0 c.1.1.0 c.1.1.1) (claim_bytes c) c (listed_claim_codec.again c (claim_has c is)))

    fields_codec : (kind : ActKind) → IsKindIn version kind → IsCodec (act_fields_at version t issuer kind) (act_fields_bytes version) (IsActOf kind)
    fields_codec kind any = record { takes = fields_takes kind; again = λ a is. subst (λ k. Again (act_fields_at version t issuer k) (act_fields_bytes version a) a) is.0 (fields_again a is.1) }

    abbrev IsActIn : Act → Type 0
    IsActIn a = IsKindIn version (kind_of_act a) × IsAct version t issuer a

    act_codec : IsCodec (act_at version t issuer) (act_bytes version) IsActIn
    unfolding act_at act_bytes
    act_codec =
        codec_both (act_kind_at version) act_kind_bytes (IsKindIn version) (act_kind_codec version nodes fields) (λ kind r. act_fields_at version t issuer kind r) (λ _. act_fields_bytes version) IsActOf fields_codec
        (λ _ a. a) (act_bytes version) IsActIn
        (λ kind a held is. (ap (λ k. act_kind_bytes k ++ act_fields_bytes version a) (sym is.0), (subst (IsKindIn version) (sym is.0) held, is.1))) (λ a is. (kind_of_act a, a, is.0, (refl, is.1), refl))

  -- ---- operations

  abbrev IsDotAndAct : Operation → Type 0
  IsDotAndAct o = IsDot version nodes o.dot × IsActIn o.dot.origin.node o.act

  dot_and_act_codec : IsCodec (dot_and_act_at version t) (operation_bytes version) IsDotAndAct
  unfolding dot_and_act_at operation_bytes
  dot_and_act_codec =
      codec_both (dot_at version nodes) (dot_bytes version) (IsDot version nodes) fields.dot (λ dot r. act_at version t dot.origin.node r) (λ _. act_bytes version) (λ (dot : Dot). IsActIn dot.origin.node) (λ dot _. act_codec dot.origin.node)
      operation (operation_bytes version) IsDotAndAct (λ dot act is so. (refl, (is, so))) (λ o is. (o.dot, o.act, is.0, is.1, refl))

  abbrev is_sound : Operation → Bool
  is_sound o = is_none (fault_of o.dot o.act)

  -- An operation that is read is well-formed, with these bytes as its spelling, and each well-formed one is read from
  -- its spelling.
  pub operation_codec : IsCodec (operation_at version t) (operation_bytes version) (IsOperation version t)
  unfolding operation_at
  operation_codec =
      let wrong : Rest → Operation × Rest → ReadFault = λ r _. record { kind = BadNumber; at = r.at } in
      codec_same (operation_at version t) (operation_bytes version) (Passes IsDotAndAct is_sound) (codec_wanted (dot_and_act_at version t) (operation_bytes version) IsDotAndAct dot_and_act_codec is_sound wrong) (IsOperation version t)
      (λ o is. record { dot = is.0.0; kind = is.0.1.0; act = is.0.1.1; sound = is_none_from (fault_of o.dot o.act) is.1 }) (λ o is. ((is.dot, (is.kind, is.act)), ap is_none is.sound))
