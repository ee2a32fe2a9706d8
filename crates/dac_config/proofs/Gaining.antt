-- Texts that are written in pieces.
use Rattle.std.proofs.Common.{◌≡◌, ℕ, List, [], ◌∷◌, ◌++◌, sym, subst, append_assoc, append-nil, Result, IfOk}
use Rattle.dac_config.proofs.Common.{Vec, IfOk-weaker, separated_after}
use Rattle.dac_base.specs.declared.NoMemory.{NoMemory}
use Rattle.dac_config.specs.declared.sink.Text.{Text}
use Rattle.dac_config.specs.Sinks.{Gains, IsWritten, HasText}

-- writing these texts, the first after `before`, completes the total
pub record Goes {S : Type 0} (H : S → List ℕ → Type 0) (start now : S) (before : List ℕ) (left : List (List ℕ)) (total : List ℕ) : Type 0 where
  pub on : (end : S) → Gains H now end (separated_after before left) → Gains H start end total

module _ {S : Type 0} {H : S → List ℕ → Type 0} where
  -- one text followed by another
  pub then : {a b c : S} {xs ys : List ℕ} → Gains H a b xs → Gains H b c ys → Gains H a c (xs ++ ys)
  then {c = c} {xs = xs} {ys = ys} p q = record { held = λ text h. subst (H c) (append_assoc text xs ys) (q.held (text ++ xs) (p.held text h)) }

  pub as_text : {a b : S} {xs ys : List ℕ} → Gains H a b xs → xs ≡ ys → Gains H a b ys
  as_text {a} {b} p is = subst (Gains H a b) is p

  pub nothing_more : {a : S} → Gains H a a []
  nothing_more {a} = record { held = λ text h. subst (H a) (sym (append-nil text)) h }

  pub one_more : {start a b c : S} {before text total behind : List ℕ} {left rest : List (List ℕ)} → Goes H start a before left total → left ≡ text ∷ rest → Gains H a b before → Gains H b c text → behind ≡ 44 ∷ [] → Goes H start c behind rest total
  one_more {a = a} {c = c} {before = before} {left = left} {rest = rest} so_far is p q comma = record {
    on = λ end h. so_far.on end (subst (λ (l : List (List ℕ)). Gains H a end (separated_after before l)) (sym is) (then p (then q (subst (λ (b : List ℕ). Gains H c end (separated_after b rest)) comma h))));
  }

  pub all_taken : {start now : S} {before total : List ℕ} {left : List (List ℕ)} → Goes H start now before left total → left ≡ [] → Gains H start now total
  all_taken {now = now} {before = before} so_far is = so_far.on now (subst (λ (l : List (List ℕ)). Gains H now now (separated_after before l)) (sym is) nothing_more)

  -- the remaining texts can be replaced by equal ones
  pub same_left : {start now : S} {before total : List ℕ} {left rest : List (List ℕ)} → Goes H start now before left total → left ≡ rest → Goes H start now before rest total
  same_left {start} {now} {before} {total} so_far is = subst (λ (l : List (List ℕ)). Goes H start now before l total) is so_far

-- the finished text is the one that was written
pub finished : (result : Result (Vec ℕ) NoMemory) (written : Text) (text : List ℕ) → IfOk result (HasText written) → IsWritten written text → IfOk result (λ bytes. bytes.items ≡ text)
finished result written text has is = IfOk-weaker result (HasText written) (λ bytes. bytes.items ≡ text) (λ bytes h. h text is) has
