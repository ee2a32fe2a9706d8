-- The wished and permitted keys of a meaning, in terms of the operations.
use Rattle.std.proofs.Common.{◌≡◌, Bool, true, false, List, Option, None, Some, is_some, refl, sym, ap, subst, ◌∙◌, inl, inr}
use Rattle.std.specs.FinMap as map
use Rattle.std.proofs.lemmas.Bool.{false≢true}
use Rattle.dac_origins.specs.declared.dot.Dot.{Dot}
use Rattle.dac_lattice.specs.declared.flags.Flag.{Flag}
use Rattle.dac_lattice.specs.declared.flags.Flag.TheVariants.{Up as IsUp, Down as IsDown}
use Rattle.dac_wishes.specs.declared.key.Key.{Key}
use Rattle.dac_wishes.specs.KeyedWrites.{keyed_write}
use Rattle.dac_wishes.specs.DrainsValue.{origin}
use Rattle.dac_wishes.specs.Writes.{write}
use Rattle.dac_wishes.specs.PermissionsValue.{is_permitting, NoneStands, SomePermitStands, AllSayTrue}
use Rattle.dac_operations.specs.Operations.{Operation}
use Rattle.dac_meaning.specs.StateValue.{permissions_of}
use Rattle.dac_meaning.specs.Meaning.{meaning_of, DotsDetermine, Stands}
use Rattle.dac_meaning.specs.MeaningLaws.{WishedHaveStarts, StandingPermit, PermittedAreSaid, DrainedAreSaid}
use Rattle.dac_meaning.proofs.Membership.{starts_are_unreplaced, permits_are_unreplaced, drains_are_unreplaced}

pub wished_have_starts : WishedHaveStarts
wished_have_starts os key = (
  λ s.
      let p = (starts_are_unreplaced os (write key s.0)).0 s.1 in
      (p.0.0, (p.0.1.0, (p.0.1.1.1, subst (λ d. Stands d os) (sym p.0.1.1.0) p.1))),
  λ f. (f.0.dot, (starts_are_unreplaced os (write key f.0.dot)).1 ((f.0, (f.1.0, (refl, f.1.1.0))), f.1.1.1)),
)

module _ (os : List Operation) (agree : DotsDetermine os) (key : Key) where
  -- a standing permit was written by an operation that stands
  standing_says : (d : Dot) (f : Flag) → map.get (meaning_of os).permits (write key d) ≡ Some f → StandingPermit key (is_permitting f) os
  standing_says d f h =
      let p = (permits_are_unreplaced os agree (write key d) f).0 h in
      (p.0.0, (p.0.1.0, (p.0.1.1.1, subst (λ d. Stands d os) (sym p.0.1.1.0) p.1)))

  -- the permit of an operation that stands is a standing permit
  says_standing : (f : Flag) (s : StandingPermit key (is_permitting f) os) → map.get (meaning_of os).permits (write key s.0.dot) ≡ Some f
  says_standing f s = (permits_are_unreplaced os agree (write key s.0.dot) f).1 ((s.0, (s.1.0, (refl, s.1.1.0))), s.1.1.1)

  none_says : NoneStands key (permissions_of (meaning_of os)) → (value : Bool) → ¬ (StandingPermit key value os)
  none_says none true s = absurd (false≢true (ap is_some (sym (none s.0.dot) ∙ says_standing IsUp s)))
  none_says none false s = absurd (false≢true (ap is_some (sym (none s.0.dot) ∙ says_standing IsDown s)))

  none_stands : ((value : Bool) → ¬ (StandingPermit key value os)) → NoneStands key (permissions_of (meaning_of os))
  none_stands none d = nothing (map.get (meaning_of os).permits (write key d)) (λ f h. none (is_permitting f) (standing_says d f h))
    where
      nothing : (v : Option Flag) → ((f : Flag) → ¬ (v ≡ Some f)) → v ≡ None
      nothing None h = refl
      nothing (Some f) h = absurd (h f refl)

  all_say : SomePermitStands key (permissions_of (meaning_of os)) × AllSayTrue key (permissions_of (meaning_of os)) → StandingPermit key true os × ¬ (StandingPermit key false os)
  all_say p = (
    subst (λ f. StandingPermit key (is_permitting f) os) (p.1 p.0.0.0 p.0.0.1 p.0.1) (standing_says p.0.0.0 p.0.0.1 p.0.1),
    λ s. false≢true (ap is_permitting (p.1 s.0.dot IsDown (says_standing IsDown s))),
  )

  say_all : StandingPermit key true os × ¬ (StandingPermit key false os) → SomePermitStands key (permissions_of (meaning_of os)) × AllSayTrue key (permissions_of (meaning_of os))
  say_all p = (((p.0.0.dot, IsUp), says_standing IsUp p.0), true_alone)
    where
      true_alone : AllSayTrue key (permissions_of (meaning_of os))
      true_alone d IsUp h = refl
      true_alone d IsDown h = absurd (p.1 (standing_says d IsDown h))

pub permitted_are_said : PermittedAreSaid
permitted_are_said os agree key default = (
  λ p. elim p [
    | inl none ↦ inl (none_says os agree key none.0, none.1)
    | inr some ↦ inr (all_say os agree key some)
  ],
  λ p. elim p [
    | inl none ↦ inl (none_stands os agree key none.0, none.1)
    | inr some ↦ inr (say_all os agree key some)
  ],
)

pub drained_are_said : DrainedAreSaid
drained_are_said os agree n i = (
  λ s.
      let p = (drains_are_unreplaced os agree (keyed_write (origin n i) s.0) IsDown).0 s.1 in
      (p.0.0, (p.0.1.0, (p.0.1.1.1, subst (λ d. Stands d os) (sym p.0.1.1.0) p.1))),
  λ f. (f.0.dot, (drains_are_unreplaced os agree (keyed_write (origin n i) f.0.dot) IsDown).1 ((f.0, (f.1.0, (refl, f.1.1.0))), f.1.1.1)),
)
