-- If the law admits a fault of a text, reading has it.
use Rattle.std.proofs.Common.{◌≡◌, ℕ, ◌≤◌, Bool, true, false, cond, ltb, List, length, Result, Ok, Err, refl, sym, ap, subst, arith}
use Rattle.dac_shapes.specs.laws.Common.{◌↔◌, IfOk, ltb-false, ConfigFault, TooLong, Located, Stream, tokens_of, stopped, AreTokensOf, StopAt, Section, Written, nothing, steps, with_section, MaySections, AreWithinLimits, nodes_in, fails, file_at, draft_at, at}
use Rattle.dac_tokens.specs.Stream.{end_at as end_of, ended as ended_by}
use Rattle.dac_first_fault.specs.FirstFault.{IsFaultOf}
use Rattle.dac_first_fault.proofs.Files.{whole_read, listed_read, text_fault}
use Rattle.dac_first_fault.proofs.Alone.{Cause, TooFar, Brought, Final, Stopped, NoFile, Empty, cause_of, not_final, one_fault}

module _ (order : (sections : List Section) → (MaySections sections ↔ AreWithinLimits sections)) (nodes : (sections : List Section) → (steps with_section nothing sections).met ≡ nodes_in sections) (text : List ℕ) (s : Stream) (read : s ≡ tokens_of (length text) 0 text) (end : IfOk s.last (λ t. t ≡ end_of (length text)))
    (spelled : (ts : List Located) → (AreTokensOf text ts ↔ (s ≡ ended_by (length text) ts))) (stops : (ts : List Located) (e : ConfigFault) → (StopAt 0 0 text ts e ↔ (s ≡ stopped ts e))) where
  -- tokens that are read to the end contain no cause of a fault
  no_cause : length text ≤ 65536 → (w : Written) → file_at (at s.last s.tokens nothing) ≡ Ok w → (e : ConfigFault) → Cause text s spelled stops e → ⊥
  no_cause short w h e (TooFar far is) = absurd (omega (arith, far, short))
  no_cause short w h e (Brought le b) = not_final text s spelled stops e b (whole_read order nodes text s end spelled stops short w h).1
  no_cause short w h e (Final le well (Stopped is)) = (whole_read order nodes text s end spelled stops short w h).0 e (ap (λ (q : Stream). q.last) is)
  no_cause short w h e (Final le well (NoFile ended none is)) = let d = (whole_read order nodes text s end spelled stops short w h).2 in none d.0 d.1
  no_cause short w h e (Final le well (Empty ended within none is)) = listed_read order nodes text s end spelled stops short within (none within) (ap (λ (q : Stream). q.last) ended) w h

  -- a text that is read has no fault
  not_read : (w : Written) → draft_at text ≡ Ok w → (e : ConfigFault) → IsFaultOf text e → ⊥
  unfolding draft_at
  not_read w h e is = by (ltb 65536 (length text)) refl h
    where
      by : (c : Bool) → ltb 65536 (length text) ≡ c → cond c (fails TooLong 65536) (file_at (record { left = tokens_of (length text) 0 text; seen = nothing })) ≡ Ok w → ⊥
      by true far h = absurd cc
      by false fits h = no_cause (ltb-false 65536 (length text) fits) w (subst (λ (q : Stream). file_at (record { left = q; seen = nothing }) ≡ Ok w) (sym read) h) e (cause_of text s spelled stops e is)

  pub read_fault : (e : ConfigFault) → IsFaultOf text e → draft_at text ≡ Err e
  read_fault e is = by (draft_at text) refl
    where
      by : (r : Result Written ConfigFault) → draft_at text ≡ r → r ≡ Err e
      by (Ok w) h = absurd (not_read w h e is)
      by (Err f) h = ap (λ (e : ConfigFault). Err e) (one_fault text s spelled stops f e (text_fault order nodes text s read end spelled stops f h) is)

  pub fault_law : (e : ConfigFault) → ((draft_at text ≡ Err e) ↔ IsFaultOf text e)
  fault_law e = (text_fault order nodes text s read end spelled stops e, read_fault e)
