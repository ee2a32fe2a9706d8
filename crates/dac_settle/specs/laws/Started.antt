-- Sets in which two nodes boot their first incarnations and applications are started. The laws say who is live by them,
-- and that nothing is claimed or permitted.
use Rattle.std.proofs.Common.{◌≡◌, ℕ, List, Option, Some, None, refl, sym, ap, subst, ◌∙◌, inl, inr}
use Rattle.dac_settle.specs.laws.Common.{NodeId, AppId, Dot, Life, IsGreatest, IsSaid, IsLive, life_cmp, claim_cmp, Key, Operation, IsOperationOf, meaning_of, pairs, life_said, claim_said, lives_of, SaysFor, of_said, is_said, lives-meaning, lives_are, claims-meaning, claims_are, IsEither, first_node, second_node, up_of}
use Rattle.std.specs.FinMap as map
use Rattle.dac_lattice.specs.declared.flags.Flag.TheVariants.{Up as IsUp}
use Rattle.dac_chains.specs.declared.claims.Claim.{Claim}
use Rattle.dac_operations.specs.declared.act.Act.TheVariants.{Start}
use Rattle.dac_meaning.specs.Meaning.{claims_of}
use Rattle.dac_settle.specs.Worked.{begun}

-- ---- what operations say

-- the operation is a start
abbrev pub IsStart : Operation → Type 0
IsStart o = (key : Key) × (over : List Dot) × (o.act ≡ Start key over)

abbrev pub AreStarts : List Operation → Type 0
AreStarts os = (o : Operation) → IsOperationOf o os → IsStart o

none_some : {X : Type 0} {v : X} {Y : Type 0} → ◌≡◌ {A = Option X} None (Some v) → Y
none_some e = cc

pair_of : {X Y : Type 0} {a c : X} {b d : Y} → ◌≡◌ {A = Option (X × Y)} (Some (a, b)) (Some (c, d)) → (a ≡ c) × (b ≡ d)
pair_of {X = X} {Y = Y} {a = a} {c = c} {b = b} {d = d} e = let pair : ◌≡◌ {A = X × Y} (a, b) (c, d) = one e in (ap (λ (p : X × Y). p.0) pair, ap (λ (p : X × Y). p.1) pair)
  where
    one : {Z : Type 0} {x y : Z} → ◌≡◌ {A = Option Z} (Some x) (Some y) → x ≡ y
    one e = cc

-- the first incarnation is up
abbrev pub up_life : Life
up_life = record { inc = 1; flag = IsUp }

-- the operations say nothing of lives
abbrev pub SayNoLives : List Operation → Type 0
SayNoLives os = (o : Operation) → IsOperationOf o os → life_said o.dot o.act ≡ None

pub starts_say_none : (starts : List Operation) → AreStarts starts → SayNoLives starts
starts_say_none starts are o i = ap (life_said o.dot) (are o i).2

-- ---- lives
module _ (rest : List Operation) (silent : SayNoLives rest) where
  abbrev s : List Operation
  s = begun rest

  up_says : (m : NodeId) (o : Operation) → o ≡ up_of m → (n : NodeId) (l : Life) → life_said o.dot o.act ≡ Some (n, l) → (m ≡ n) × (up_life ≡ l)
  up_says m o is n l says = pair_of (sym (ap (λ (q : Operation). life_said q.dot q.act) is) ∙ says)

  -- each life that the operations say is that of the first incarnation of one of the nodes, up
  life_report : (n : NodeId) (l : Life) → SaysFor life_said s n l → IsEither n × (up_life ≡ l)
  life_report n l says = elim says.1.0 [
    | inl one ↦ let is = up_says first_node says.0 one n l says.1.1 in (inl (sym is.0), is.1)
    | inr more ↦ elim more [
      | inl two ↦ let is = up_says second_node says.0 two n l says.1.1 in (inr (sym is.0), is.1)
      | inr more ↦ none_some (sym (silent says.0 more) ∙ says.1.1)
    ]
  ]

  up_said : (n : NodeId) → IsEither n → SaysFor life_said s n up_life
  up_said n either = elim either [
    | inl one ↦ (up_of first_node, (inl refl, ap (λ m. Some (m, up_life)) (sym one)))
    | inr two ↦ (up_of second_node, (inr (inl refl), ap (λ m. Some (m, up_life)) (sym two)))
  ]

  -- both nodes are live
  pub up_live : (n : NodeId) → IsEither n → IsLive (meaning_of s).lives n 1
  up_live n either = ap (λ lives. map.get lives n) (lives-meaning s) ∙ by_life (map.get (lives_of s) n) (lives_are s n)
    where
      by_life : (o : Option Life) → IsGreatest life_cmp (IsSaid life_said (pairs s) n) o → o ≡ Some up_life
      by_life None none = absurd (none up_life (is_said life_said s n up_life (up_said n either)))
      by_life (Some l) is = ap (λ k. Some k) (sym (life_report n l (of_said life_said s n l is.0)).1)

  -- only the two nodes are live
  pub only_up_live : (n : NodeId) (inc : ℕ) → IsLive (meaning_of s).lives n inc → IsEither n × (1 ≡ inc)
  only_up_live n inc alive =
      let there : map.get (lives_of s) n ≡ Some (record { inc = inc; flag = IsUp }) = sym (ap (λ lives. map.get lives n) (lives-meaning s)) ∙ alive in
      let is : IsGreatest life_cmp (IsSaid life_said (pairs s) n) (Some (record { inc = inc; flag = IsUp })) = subst (IsGreatest life_cmp (IsSaid life_said (pairs s) n)) there (lives_are s n) in
      let said = life_report n (record { inc = inc; flag = IsUp }) (of_said life_said s n (record { inc = inc; flag = IsUp }) is.0) in
      (said.0, ap (λ (l : Life). l.inc) said.1)

-- ---- starts
module _ (starts : List Operation) (are : AreStarts starts) where
  pub are_live : (n : NodeId) → IsEither n → IsLive (meaning_of (begun starts)).lives n 1
  are_live = up_live starts (starts_say_none starts are)

  pub live_only : (n : NodeId) (inc : ℕ) → IsLive (meaning_of (begun starts)).lives n inc → IsEither n × (1 ≡ inc)
  live_only = only_up_live starts (starts_say_none starts are)

  pub no_claim_said : (app : AppId) (c : Claim) → SaysFor claim_said (begun starts) app c → ⊥
  no_claim_said app c says = elim says.1.0 [
    | inl one ↦ none_some (sym (ap (λ (q : Operation). claim_said q.dot q.act) one) ∙ says.1.1)
    | inr more ↦ elim more [
      | inl two ↦ none_some (sym (ap (λ (q : Operation). claim_said q.dot q.act) two) ∙ says.1.1)
      | inr start ↦ none_some (sym (ap (claim_said says.0.dot) (are says.0 start).2) ∙ says.1.1)
    ]
  ]

  pub none_claimed : (app : AppId) → map.get (meaning_of (begun starts)).claims app ≡ None
  none_claimed app = ap (λ claims. map.get claims app) (claims-meaning (begun starts)) ∙ by_claim (map.get (claims_of (begun starts)) app) (claims_are (begun starts) app)
    where
      by_claim : (o : Option Claim) → IsGreatest claim_cmp (IsSaid claim_said (pairs (begun starts)) app) o → o ≡ None
      by_claim None none = refl
      by_claim (Some c) is = absurd (no_claim_said app c (of_said claim_said (begun starts) app c is.0))
