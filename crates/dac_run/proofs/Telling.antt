-- Which fault is reported, one outcome after another.
use Rattle.std.proofs.Common.{◌≡◌, ◌⊎◌, Bool, true, false, List, [], ◌∷◌, ◌++◌, length, map, Option, Some, None, Result, Ok, Err, IfSome, refl, sym, ap, subst, ◌∙◌, inl, inr, append_assoc, append-nil}
use Rattle.std.proofs.lemmas.Bool.{true≢false}
use Rattle.std.proofs.lemmas.List.{map_push}
use Rattle.dac_run.specs.Told.{HasFault, IsTold}

module _ {W F : Type 0} (is_cause : F → Bool) where
  -- the report after these outcomes: none if each is a worker
  abbrev pub Tells : List (Result W F) → List W → Option F → Type 0
  Tells seen workers None = map Ok workers ≡ seen
  Tells seen workers (Some fault) = IsTold is_cause seen fault

  -- the report after the outcomes already seen; the others are left
  pub record IsTelling (all left : List (Result W F)) (workers : List W) (told : Option F) : Type 0 where
    pub seen : List (Result W F)
    pub parts : seen ++ left ≡ all
    pub tells : Tells seen workers told

  -- ---- one outcome more

  -- a fault of the outcomes seen is one of all
  before : (seen : List (Result W F)) (x : Result W F) (fault : F) → HasFault seen fault → HasFault (seen ++ x ∷ []) fault
  before [] x fault has = elim has [ ]
  before (o ∷ os) x fault (inl here) = inl here
  before (o ∷ os) x fault (inr there) = inr (before os x fault there)

  -- the last outcome's fault is one of all
  newest : (seen : List (Result W F)) (fault : F) → HasFault (seen ++ Err fault ∷ []) fault
  newest [] fault = inl refl
  newest (o ∷ os) fault = inr (newest os fault)

  -- a fault of all is the last outcome's, or one of those before it
  either : (seen : List (Result W F)) (x : Result W F) (fault : F) → HasFault (seen ++ x ∷ []) fault → HasFault seen fault ⊎ (x ≡ Err fault)
  either [] x fault (inl last) = inr last
  either [] x fault (inr has) = elim has [ ]
  either (o ∷ os) x fault (inl here) = inl (inl here)
  either (o ∷ os) x fault (inr there) = by (either os x fault there)
    where
      by : HasFault os fault ⊎ (x ≡ Err fault) → HasFault (o ∷ os) fault ⊎ (x ≡ Err fault)
      by (inl h) = inl (inr h)
      by (inr h) = inr h

  ok_is_no_fault : {X : Type 0} (worker : W) (fault : F) → ◌≡◌ {A = Result W F} (Ok worker) (Err fault) → X
  ok_is_no_fault worker fault e = cc

  same_fault : (a b : F) → ◌≡◌ {A = Result W F} (Err a) (Err b) → a ≡ b
  same_fault a b e = cc

  -- workers have no fault
  no_fault : (workers : List W) (fault : F) → ¬ HasFault (map Ok workers) fault
  no_fault [] fault has = elim has [ ]
  no_fault (w ∷ ws) fault (inl e) = ok_is_no_fault w fault e
  no_fault (w ∷ ws) fault (inr there) = no_fault ws fault there

  -- one more worker
  pub a_worker : (seen : List (Result W F)) (workers more : List W) (told : Option F) (worker : W) → more ≡ workers ++ worker ∷ [] → Tells seen workers told → Tells (seen ++ Ok worker ∷ []) more told
  a_worker seen workers more None worker is tells = ap (map Ok) is ∙ map_push Ok workers worker ∙ ap (λ os. os ++ Ok worker ∷ []) tells
  a_worker seen workers more (Some fault) worker is tells = record {
    one = before seen (Ok worker) fault tells.one;
    cause = λ none other has. by other (either seen (Ok worker) other has) none;
  }
    where
      by : (other : F) → HasFault seen other ⊎ (◌≡◌ {A = Result W F} (Ok worker) (Err other)) → is_cause fault ≡ false → is_cause other ≡ false
      by other (inl has) none = tells.cause none other has
      by other (inr e) none = ok_is_no_fault worker other e

  -- one more fault, of which `louder` is reported
  pub a_fault : (seen : List (Result W F)) (workers : List W) (told : Option F) (fault louder : F) → (is_cause fault ≡ true → louder ≡ fault) → (is_cause fault ≡ false → IfSome told (λ f. louder ≡ f)) → (told ≡ None → louder ≡ fault)
      → Tells seen workers told → IsTold is_cause (seen ++ Err fault ∷ []) louder
  a_fault seen workers told fault louder cause kept alone tells = by told refl (is_cause fault) refl
    where
      told_now : louder ≡ fault → ((other : F) → HasFault seen other → is_cause fault ≡ false → is_cause other ≡ false) → IsTold is_cause (seen ++ Err fault ∷ []) louder
      told_now same rest = record {
        one = subst (HasFault (seen ++ Err fault ∷ [])) (sym same) (newest seen fault);
        cause = λ none other has. of_all other (either seen (Err fault) other has) (sym (ap is_cause same) ∙ none);
      }
        where
          of_all : (other : F) → HasFault seen other ⊎ (◌≡◌ {A = Result W F} (Err fault) (Err other)) → is_cause fault ≡ false → is_cause other ≡ false
          of_all other (inl has) none = rest other has none
          of_all other (inr e) none = sym (ap is_cause (same_fault fault other e)) ∙ none

      by : (t : Option F) → told ≡ t → (b : Bool) → is_cause fault ≡ b → IsTold is_cause (seen ++ Err fault ∷ []) louder
      by t is true e = told_now (cause e) (λ other has none. absurd (true≢false (sym e ∙ none)))
      by None is false e = told_now (alone is) (λ other has none. absurd (no_fault workers other (subst (λ os. HasFault os other) (sym (subst (Tells seen workers) is tells)) has)))
      by (Some f) is false e =
          let was : IsTold is_cause seen f = subst (Tells seen workers) is tells in
          let same : louder ≡ f = subst (λ o. IfSome o (λ g. louder ≡ g)) is (kept e) in
          record {
            one = subst (HasFault (seen ++ Err fault ∷ [])) (sym same) (before seen (Err fault) f was.one);
            cause = λ none other has. later other (either seen (Err fault) other has) (sym (ap is_cause same) ∙ none) was;
          }
        where
          later : (other : F) → HasFault seen other ⊎ (◌≡◌ {A = Result W F} (Err fault) (Err other)) → is_cause f ≡ false → IsTold is_cause seen f → is_cause other ≡ false
          later other (inl has) none was = was.cause none other has
          later other (inr same) none was = sym (ap is_cause (same_fault fault other same)) ∙ e

  -- one outcome moves from those left to those seen
  pub one_more : (all left rest : List (Result W F)) (workers more : List W) (told next : Option F) (x : Result W F) (is : IsTelling all left workers told) → left ≡ x ∷ rest → Tells (is.seen ++ x ∷ []) more next → IsTelling all rest more next
  one_more all left rest workers more told next x is first tells = record {
    seen = is.seen ++ x ∷ [];
    parts = append_assoc is.seen (x ∷ []) rest ∙ (ap (λ l. is.seen ++ l) (sym first) ∙ is.parts);
    tells = tells;
  }

  none_left : (l : List (Result W F)) → length l ≡ 0 → l ≡ []
  none_left [] e = refl
  none_left (x ∷ xs) e = cc

  -- no outcome is left
  pub whole : (all left : List (Result W F)) (workers : List W) (told : Option F) → IsTelling all left workers told → length left ≡ 0 → Tells all workers told
  whole all left workers told is none = subst (λ seen. Tells seen workers told) (sym (append-nil is.seen) ∙ (ap (λ l. is.seen ++ l) (sym (none_left left none)) ∙ is.parts)) is.tells
