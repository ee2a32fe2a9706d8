-- The timer of an application starts with the unbroken run of newest notes that found one claim lost.
use Rattle.std.proofs.Common.{◌≡◌, ℕ, true, false, cond, List, [], ◌∷◌, ◌++◌, Option, Some, None, refl, sym, ap, ap₂, subst, ◌∙◌, arith}
use Rattle.std.specs.Option.{is_some}
use Rattle.std.specs.List.{All}
use Rattle.std.proofs.lemmas.Bool.{true≢false, false≢true}
use Rattle.std.proofs.lemmas.List.Elements.{All-cons, All-tail}
use Rattle.dac_base.specs.declared.AppId.{AppId}
use Rattle.dac_chains.specs.declared.claims.Claim.{Claim}
use Rattle.dac_decide.specs.declared.waits.Noted.{Noted}
use Rattle.dac_decide.specs.FailoverWait.{Note, IsLost, IsLostByNewest, IsNotedSince, lost_in, is_same, since_of, noted_next, noted_of}
use Rattle.dac_decide.specs.laws.Lost.{same_to, same_itself, lost_to, to_lost}

abbrev pub noted : Claim → ℕ → Noted
noted claim since = record { claim = claim; since = since }

module _ (app : AppId) where
  one : {a b : Noted} → ◌≡◌ {A = Option Noted} (Some a) (Some b) → a ≡ b
  one e = cc

  -- the next timer is for the lost claim
  since_claim : (before : Option Noted) (now : ℕ) (claim : Claim) → (since_of before now claim).claim ≡ claim
  since_claim None now claim = refl
  since_claim (Some b) now claim = elim (is_same b.claim claim) as (λ t. is_same b.claim claim ≡ t → (cond t b (noted claim now)).claim ≡ claim) [
    | true ↦ λ e. same_to b.claim claim e
    | false ↦ λ e. refl
  ] refl

  next_claim : (before : Option Noted) (lost : Option Claim) (now : ℕ) (n : Noted) → noted_next before lost now ≡ Some n → lost ≡ Some n.claim
  next_claim before None now n e = absurd (false≢true (ap is_some e))
  next_claim before (Some claim) now n e = ap (λ c. Some c) (sym (since_claim before now claim) ∙ ap (λ (x : Noted). x.claim) (one e))

  -- the timer's claim is lost by the newest note, and a claim lost by that has a timer
  pub newest_lost : (notes : List Note) (n : Noted) → noted_of app notes ≡ Some n → IsLostByNewest notes app n.claim
  newest_lost [] n e = false≢true (ap is_some e)
  newest_lost (note ∷ older) n e = lost_to note.state app n.claim (next_claim (noted_of app older) (lost_in note.state app) note.moment n e)

  pub lost_newest : (notes : List Note) (claim : Claim) → IsLostByNewest notes app claim → (n : Noted) × (noted_of app notes ≡ Some n) × (n.claim ≡ claim)
  lost_newest [] claim h = absurd h
  lost_newest (note ∷ older) claim h =
      let n = since_of (noted_of app older) note.moment claim in
      (n, ap (λ lost. noted_next (noted_of app older) lost note.moment) (to_lost note.state app claim h), since_claim (noted_of app older) note.moment claim)

  -- ---- from the timer to the run

  abbrev Since : List Note → Noted → Type 0
  Since notes n = IsNotedSince notes app n.claim n.since

  -- a run of one note
  begun : (note : Note) (older : List Note) (claim : Claim) → IsLost note.state app claim → ¬ IsLostByNewest older app claim → Since (note ∷ older) (noted claim note.moment)
  begun note older claim lost begins = record {
    row = [];
    begin = note;
    before = older;
    parts = refl;
    lost = All-cons (λ (x : Note). IsLost x.state app claim) note [] lost (λ k d lt. absurd (omega arith));
    begins = begins;
    moment = refl;
  }

  -- a run with one more note
  goes_on : (note : Note) (older : List Note) (claim : Claim) (since : ℕ) → IsLost note.state app claim → IsNotedSince older app claim since → IsNotedSince (note ∷ older) app claim since
  goes_on note older claim since lost is = record {
    row = note ∷ is.row;
    begin = is.begin;
    before = is.before;
    parts = ap (λ ns. note ∷ ns) is.parts;
    lost = All-cons (λ (x : Note). IsLost x.state app claim) note (is.row ++ is.begin ∷ []) lost is.lost;
    begins = is.begins;
    moment = is.moment;
  }

  none_before : (older : List Note) (claim : Claim) → noted_of app older ≡ None → ¬ IsLostByNewest older app claim
  none_before older claim e lost = let n = lost_newest older claim lost in false≢true (ap is_some (sym e ∙ n.1))

  other_before : (older : List Note) (claim : Claim) (b : Noted) → noted_of app older ≡ Some b → is_same b.claim claim ≡ false → ¬ IsLostByNewest older app claim
  other_before older claim b e other lost =
      let n = lost_newest older claim lost in
      let same : n.0 ≡ b = one (sym n.1 ∙ e) in
      true≢false (sym (same_itself claim) ∙ ap (λ c. is_same c claim) (sym n.2 ∙ ap (λ (x : Noted). x.claim) same) ∙ other)

  next_since : (note : Note) (older : List Note) (claim : Claim) → IsLost note.state app claim → ((n : Noted) → noted_of app older ≡ Some n → Since older n)
      → (before : Option Noted) → noted_of app older ≡ before → Since (note ∷ older) (since_of before note.moment claim)
  next_since note older claim lost row None e = begun note older claim lost (none_before older claim e)
  next_since note older claim lost row (Some b) e = elim (is_same b.claim claim) as (λ t. is_same b.claim claim ≡ t → Since (note ∷ older) (cond t b (noted claim note.moment))) [
    | true ↦ λ same. goes_on note older b.claim b.since (subst (IsLost note.state app) (sym (same_to b.claim claim same)) lost) (row b e)
    | false ↦ λ other. begun note older claim lost (other_before older claim b e other)
  ] refl

  pub noted_to : (notes : List Note) (n : Noted) → noted_of app notes ≡ Some n → Since notes n
  noted_to [] n e = absurd (false≢true (ap is_some e))
  noted_to (note ∷ older) n e =
      let claim = n.claim in
      let found = next_claim (noted_of app older) (lost_in note.state app) note.moment n e in
      let next : since_of (noted_of app older) note.moment n.claim ≡ n = one (sym (ap (λ lost. noted_next (noted_of app older) lost note.moment) found) ∙ e) in
      subst (Since (note ∷ older)) next (next_since note older n.claim (lost_to note.state app n.claim found) (noted_to older) (noted_of app older) refl)

  -- ---- from the run to the timer

  -- a claim that the note before didn't find lost begins a run
  begins_at : (claim : Claim) (now : ℕ) (before : Option Noted) (older : List Note) → noted_of app older ≡ before → ¬ IsLostByNewest older app claim → since_of before now claim ≡ noted claim now
  begins_at claim now None older e begins = refl
  begins_at claim now (Some b) older e begins = elim (is_same b.claim claim) as (λ t. is_same b.claim claim ≡ t → cond t b (noted claim now) ≡ noted claim now) [
    | true ↦ λ same. absurd (begins (subst (IsLostByNewest older app) (same_to b.claim claim same) (newest_lost older b e)))
    | false ↦ λ other. refl
  ] refl

  row_noted : (claim : Claim) (row : List Note) (begin : Note) (before : List Note) → All (λ (x : Note). IsLost x.state app claim) (row ++ begin ∷ []) → ¬ IsLostByNewest before app claim
      → noted_of app (row ++ begin ∷ before) ≡ Some (noted claim begin.moment)
  row_noted claim [] begin before lost begins =
      ap (λ found. noted_next (noted_of app before) found begin.moment) (to_lost begin.state app claim (lost 0 begin (omega arith)))
      ∙ ap (λ n. Some n) (begins_at claim begin.moment (noted_of app before) before refl begins)
  row_noted claim (note ∷ row) begin before lost begins =
      let rest = row_noted claim row begin before (All-tail (λ (x : Note). IsLost x.state app claim) note (row ++ begin ∷ []) lost) begins in
      ap₂ (λ had found. noted_next had found note.moment) rest (to_lost note.state app claim (lost 0 note (omega arith)))
      ∙ ap (λ t. Some (cond t (noted claim begin.moment) (noted claim note.moment))) (same_itself claim)

  pub to_noted : (notes : List Note) (claim : Claim) (since : ℕ) → IsNotedSince notes app claim since → noted_of app notes ≡ Some (noted claim since)
  to_noted notes claim since is = ap (noted_of app) is.parts ∙ row_noted claim is.row is.begin is.before is.lost is.begins ∙ ap (λ m. Some (noted claim m)) is.moment
