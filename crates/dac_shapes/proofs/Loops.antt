-- Loops of the parser: faults that are passed on, elements separated by commas, terms that are skipped, names by their
-- bytes.
use Rattle.std.proofs.Common.{◌≡◌, ℕ, Result, Ok, Err, sym, ap, ◌∙◌, zero, suc, ◌<◌, ◌≤◌, Bool, true, false, cond, List, [], ◌∷◌, ◌++◌, length, refl, arith, ◌||◌, map, bytes_eq, IsErrAnd, IfErr}
use Rattle.dac_shapes.specs.laws.Common.{list_any, length-map, FaultKind, BadToken, Unsupported, NoMemory, BadShape, ConfigFault, ◌>>=◌, OrMemory, Fails, Reads, Gives, Stream, taken, Symbol, Located, Word, End, is_end, Comma, State, token, more_at, comma_list, fails, is_symbol, is_text, terms_at, terms_in, texts_at, term_by, term_at, IsEnough, Reading, app_of, apps_of, param_of, params_of, section_of, sections_of, ParamName, is_among, is_named, has_param, is_kernel, has_kernel, name_of}
use Rattle.dac_tokens.specs.Faults.{IsTokenFault}
use Rattle.dac_shapes.specs.declared.draft.DraftApp.{DraftApp}
use Rattle.dac_shapes.specs.declared.param.Param.{Param}
use Rattle.dac_shapes.specs.declared.param.Section.{Section}

or_memory : (k : FaultKind) (at : ℕ) (P Q : Type 0) → (P → Q) → OrMemory k at P → OrMemory k at Q
or_memory NoMemory at P Q f h = h
or_memory _ at P Q f h = f h

-- if one reading fails, another fails with the same fault
pub fails_too : {A B : Type 0} (e : ConfigFault) (r : Result A ConfigFault) (q : Result B ConfigFault) → (r ≡ Err e → q ≡ Err e) → Fails e r → Fails e q
fails_too e r q f h = or_memory e.kind e.at _ _ f h

-- if the first of two steps fails, both fail
pub fails_then : {A B : Type 0} (e : ConfigFault) (r : Result A ConfigFault) (f : A → Result B ConfigFault) (total : Result B ConfigFault) → (r >>= f) ≡ total → Fails e r → Fails e total
fails_then e r f total whole h = fails_too e r total (λ q. sym whole ∙ ap (λ x. x >>= f) q) h

-- if the first step succeeds, the second remains
pub then_is : {A B : Type 0} (r : Result A ConfigFault) (f : A → Result B ConfigFault) (x : A) (total : Result B ConfigFault) → (r >>= f) ≡ total → r ≡ Ok x → f x ≡ total
then_is r f x total whole is = sym (ap (λ q. q >>= f) is) ∙ whole

-- `NoMemory` has offset 0
pub at_start : (k : FaultKind) (at : ℕ) (P : Type 0) → k ≡ NoMemory → OrMemory k at P → at ≡ 0
at_start NoMemory at P e h = h
at_start _ at P e h = absurd cc

-- a failing `?` returns this fault
pub failed : {X : Type 0} (e : ConfigFault) (r : Result X ConfigFault) → IsErrAnd r (λ y. y ≡ e) → r ≡ Err e
failed e (Ok x) is = absurd is
failed e (Err y) is = ap (λ (z : ConfigFault). Err z) is

-- a token's own fault isn't `NoMemory`
of_token : (k : FaultKind) (at : ℕ) (P : Type 0) → IsTokenFault k → P → OrMemory k at P
of_token BadToken at P is h = h
of_token Unsupported at P is h = h
of_token _ at P is h = absurd is

-- the next token, as the stream of tokens returns it
pub token_gives : {X : Type 0} (view : X → Located) (r : Result X ConfigFault) (s : State) (left : Stream) → Reads (λ x. (view x, left)) r (taken s.left) → IfErr r (λ e. IsTokenFault e.kind) → Gives (λ x. (view x, record s { left = left })) r (token s)
token_gives view (Ok x) s left h fault = ap (λ r. r >>= λ t. Ok (t.0, record s { left = t.1 })) h
token_gives view (Err e) s left h fault = of_token e.kind e.at _ fault (ap (λ r. r >>= λ t. Ok (t.0, record s { left = t.1 })) h)

module _ {A : Type 0} (read : Reading A) (close : Symbol) where
  -- the rest of a list from a token, from a comma or the closing symbol, and from the end of an element
  abbrev pub rest_from_token : ℕ → List A → Located × State → Result (List A × State) ConfigFault
  rest_from_token n done next = comma_list read close n done next.0 next.1

  abbrev pub rest_from_mark : ℕ → List A → Bool × State → Result (List A × State) ConfigFault
  rest_from_mark n done more = cond more.0 (token more.1 >>= rest_from_token n done) (Ok (done, more.1))

  abbrev pub rest_from_element : ℕ → List A → A × State → Result (List A × State) ConfigFault
  rest_from_element n done one = more_at close one.1 >>= rest_from_mark n (done ++ one.0 ∷ [])

  -- the result of reading the rest of the list is the whole result
  pub record Goes (total : Result (List A × State) ConfigFault) (done : List A) (t : Located) (s : State) : Type 0 where
    pub n : ℕ
    pub enough : length s.left.tokens < n
    pub same : comma_list read close n done t s ≡ total

  -- the next element, with the bound for the elements after it
  element_step : (total : Result (List A × State) ConfigFault) (n : ℕ) (done : List A) (t : Located) (s : State) → length s.left.tokens < n → comma_list read close n done t s ≡ total → (m : ℕ) × (length s.left.tokens ≤ m) × ((read done t s >>= rest_from_element m done) ≡ total)
  unfolding comma_list
  element_step total zero done t s lt same = absurd (omega arith)
  element_step total (suc n) done t s lt same = (n, omega arith, same)

  module _ {total : Result (List A × State) ConfigFault} {done : List A} {t : Located} {s : State} (g : Goes total done t s) where
    element : (n : ℕ) × (length s.left.tokens ≤ n) × ((read done t s >>= rest_from_element n done) ≡ total)
    element = element_step total g.n done t s g.enough g.same

    pub fails_reading : (e : ConfigFault) → Fails e (read done t s) → Fails e total
    fails_reading e h = fails_then e (read done t s) (rest_from_element element.0 done) total element.2 h

    module _ {one : A × State} (is : read done t s ≡ Ok one) where
      mark : (more_at close one.1 >>= rest_from_mark element.0 (done ++ one.0 ∷ [])) ≡ total
      mark = then_is (read done t s) (rest_from_element element.0 done) one total element.2 is

      pub fails_after : (e : ConfigFault) → Fails e (more_at close one.1) → Fails e total
      fails_after e h = fails_then e (more_at close one.1) (rest_from_mark element.0 (done ++ one.0 ∷ [])) total mark h

      -- after the comma or the closing symbol
      behind_mark : (more : Bool) (u : State) → more_at close one.1 ≡ Ok (more, u) → rest_from_mark element.0 (done ++ one.0 ∷ []) (more, u) ≡ total
      behind_mark more u at = then_is (more_at close one.1) (rest_from_mark element.0 (done ++ one.0 ∷ [])) (more, u) total mark at

      pub ends : {u : State} → more_at close one.1 ≡ Ok (false, u) → total ≡ Ok (done ++ one.0 ∷ [], u)
      ends {u} at = sym (behind_mark false u at)

      pub fails_at_token : {u : State} (e : ConfigFault) → more_at close one.1 ≡ Ok (true, u) → Fails e (token u) → Fails e total
      fails_at_token {u} e at h = fails_then e (token u) (rest_from_token element.0 (done ++ one.0 ∷ [])) total (behind_mark true u at) h

      pub goes_on : {u : State} {next : Located × State} → more_at close one.1 ≡ Ok (true, u) → token u ≡ Ok next → length next.1.left.tokens < length s.left.tokens → Goes total (done ++ one.0 ∷ []) next.0 next.1
      goes_on {u} {next} at k less =
          let room = element.1 in
          record { n = element.0; enough = omega (arith, room, less); same = then_is (token u) (rest_from_token element.0 (done ++ one.0 ∷ [])) next total (behind_mark true u at) k }

-- the value of a condition whose test is known
when_true : {A : Type 0} (b : Bool) (x y z : A) → cond b x y ≡ z → b ≡ true → x ≡ z
when_true true x y z e is = e
when_true false x y z e is = absurd cc

when_false : {A : Type 0} (b : Bool) (x y z : A) → cond b x y ≡ z → b ≡ false → y ≡ z
when_false true x y z e is = absurd cc
when_false false x y z e is = e

-- ---- strings in a row

-- the strings skipped from a token
abbrev texts_from : ℕ → Located × State → Result (Located × State) ConfigFault
texts_from n t = cond (is_text t.0.word) (texts_at n t.1) (Ok t)

-- the result of skipping the remaining strings is the whole result
pub record GoesTexts (total : Result (Located × State) ConfigFault) (s : State) : Type 0 where
  pub n : ℕ
  pub enough : length s.left.tokens < n
  pub same : texts_at n s ≡ total

pub text_no_end : (w : Word) → is_text w ≡ true → is_end w ≡ false
text_no_end End e = absurd cc
text_no_end _ e = refl

-- one step, with the bound for those after it
text_step : (total : Result (Located × State) ConfigFault) (n : ℕ) (s : State) → length s.left.tokens < n → texts_at n s ≡ total → (m : ℕ) × (length s.left.tokens ≤ m) × ((token s >>= texts_from m) ≡ total)
unfolding texts_at
text_step total zero s lt same = absurd (omega arith)
text_step total (suc n) s lt same = (n, omega arith, same)

module _ {total : Result (Located × State) ConfigFault} {s : State} (g : GoesTexts total s) where
  text : (n : ℕ) × (length s.left.tokens ≤ n) × ((token s >>= texts_from n) ≡ total)
  text = text_step total g.n s g.enough g.same

  pub texts_fail : (e : ConfigFault) → Fails e (token s) → Fails e total
  texts_fail e h = fails_then e (token s) (texts_from text.0) total text.2 h

  module _ {t : Located} {u : State} (e : token s ≡ Ok (t, u)) where
    begun : texts_from text.0 (t, u) ≡ total
    begun = then_is (token s) (texts_from text.0) (t, u) total text.2 e

    -- a token other than a string follows the strings
    pub texts_end : is_text t.word ≡ false → total ≡ Ok (t, u)
    texts_end is = sym (when_false _ _ _ _ begun is)

    pub texts_go : is_text t.word ≡ true → length u.left.tokens < length s.left.tokens → GoesTexts total u
    texts_go is less =
        let room = text.1 in
        record { n = text.0; enough = omega (arith, room, less); same = when_true _ _ _ _ begun is }

-- ---- terms between brackets

pub comma_no_end : (w : Word) → is_symbol Comma w ≡ true → is_end w ≡ false
comma_no_end End e = absurd cc
comma_no_end _ e = refl

module _ (pass : Located → State → Result (Located × State) ConfigFault) (close : Symbol) where
  -- the result of skipping the remaining terms is the whole result
  pub record GoesTerms (total : Result (Located × State) ConfigFault) (t : Located) (s : State) : Type 0 where
    pub n : ℕ
    pub enough : length s.left.tokens < n
    pub same : terms_at pass close n t s ≡ total

  -- the terms skipped from a term's first token, from the end of a term, and from the opening symbol
  abbrev from_token : ℕ → Located × State → Result (Located × State) ConfigFault
  from_token n t = terms_at pass close n t.0 t.1

  abbrev from_behind : ℕ → Located × State → Result (Located × State) ConfigFault
  from_behind n b = cond (is_symbol close b.0.word) (token b.1) (cond (is_symbol Comma b.0.word) (token b.1 >>= from_token n) (fails BadShape b.0.at))

  abbrev from_mark : ℕ → Located × State → Result (Located × State) ConfigFault
  from_mark n t = cond (is_symbol close t.0.word) (token t.1) (from_token n t)

  pub in_fail : (e : ConfigFault) (n : ℕ) (s : State) → Fails e (token s) → Fails e (terms_in pass close n s)
  unfolding terms_in
  in_fail e n s h = fails_then e (token s) (from_mark n) (terms_in pass close n s) refl h

  module _ (n : ℕ) (s : State) {t : Located} {u : State} (e : token s ≡ Ok (t, u)) where
    first_is : from_mark n (t, u) ≡ terms_in pass close n s
    unfolding terms_in
    first_is = then_is (token s) (from_mark n) (t, u) (terms_in pass close n s) refl e

    pub in_empty : is_symbol close t.word ≡ true → terms_in pass close n s ≡ token u
    in_empty is = sym (when_true _ _ _ _ first_is is)

    pub in_begin : is_symbol close t.word ≡ false → length u.left.tokens < n → GoesTerms (terms_in pass close n s) t u
    in_begin is lt = record { n = n; enough = lt; same = when_false _ _ _ _ first_is is }

  -- the first step, with the bound for those after it
  first_step : (total : Result (Located × State) ConfigFault) (n : ℕ) (t : Located) (s : State) → length s.left.tokens < n → terms_at pass close n t s ≡ total → (m : ℕ) × (length s.left.tokens ≤ m) × ((pass t s >>= from_behind m) ≡ total)
  unfolding terms_at
  first_step total zero t s lt same = absurd (omega arith)
  first_step total (suc n) t s lt same = (n, omega arith, same)

  module _ {total : Result (Located × State) ConfigFault} {t : Located} {s : State} (g : GoesTerms total t s) where
    term : (n : ℕ) × (length s.left.tokens ≤ n) × ((pass t s >>= from_behind n) ≡ total)
    term = first_step total g.n t s g.enough g.same

    pub terms_fail : (e : ConfigFault) → Fails e (pass t s) → Fails e total
    terms_fail e h = fails_then e (pass t s) (from_behind term.0) total term.2 h

    module _ {b : Located} {u : State} (e : pass t s ≡ Ok (b, u)) where
      behind : from_behind term.0 (b, u) ≡ total
      behind = then_is (pass t s) (from_behind term.0) (b, u) total term.2 e

      pub terms_end : is_symbol close b.word ≡ true → total ≡ token u
      terms_end is = sym (when_true _ _ _ _ behind is)

      module _ (is : is_symbol close b.word ≡ false) where
        more : cond (is_symbol Comma b.word) (token u >>= from_token term.0) (fails BadShape b.at) ≡ total
        more = when_false _ _ _ _ behind is

        pub terms_bad : is_symbol Comma b.word ≡ false → total ≡ fails BadShape b.at
        terms_bad comma = sym (when_false _ _ _ _ more comma)

        module _ (comma : is_symbol Comma b.word ≡ true) where
          after : (token u >>= from_token term.0) ≡ total
          after = when_true _ _ _ _ more comma

          pub terms_fail_more : (e : ConfigFault) → Fails e (token u) → Fails e total
          terms_fail_more e h = fails_then e (token u) (from_token term.0) total after h

          pub terms_go : {next : Located} {v : State} → token u ≡ Ok (next, v) → length v.left.tokens < length s.left.tokens → GoesTerms total next v
          terms_go {next} {v} k less =
              let room = term.1 in
              record { n = term.0; enough = omega (arith, room, less); same = then_is (token u) (from_token term.0) (next, v) total after k }

-- ---- one term

pub is_enough : {t : Located} {s : State} (left n : ℕ) → left < n → length s.left.tokens ≤ left → (is_end t.word ≡ false → length s.left.tokens < left) → IsEnough t s n
is_enough left n lt le fewer = record { end = omega arith; token = λ no_end. (let less = fewer no_end in omega arith) }

pub opens : (n : ℕ) (t : Located) (s : State) → IsEnough t s n → (m : ℕ) × (is_end t.word ≡ false → length s.left.tokens < m) × (term_at n t s ≡ term_by (term_at m) m t s)
unfolding term_at
opens zero t s enough = absurd (let lt = enough.end in omega arith)
opens (suc m) t s enough = (m, λ no_end. (let lt = enough.token no_end in omega arith), refl)

-- ---- membership, wherever names are in memory

pub any_map : {A B : Type 0} (p : B → Bool) (f : A → B) (xs : List A) → list_any p (map f xs) ≡ list_any (λ x. p (f x)) xs
any_map p f [] = refl
any_map p f (x ∷ xs) = ap (λ b. p (f x) || b) (any_map p f xs)

pub among_apps : (name : List ℕ) (apps : List DraftApp) → is_among name (map (λ app. app.name) (apps_of apps)) ≡ list_any (λ app. bytes_eq app.name.now name) apps
among_apps name apps = any_map (λ other. bytes_eq other name) (λ app. app.name) (apps_of apps) ∙ any_map (λ app. bytes_eq app.name name) app_of apps

pub length_apps : (apps : List DraftApp) → length (apps_of apps) ≡ length apps
length_apps apps = length-map apps app_of

pub ruleset apps = (among_apps, length_apps)

pub has_params : (name : ParamName) (params : List Param) → has_param name (params_of params) ≡ list_any (λ param. is_named name (name_of (param_of param))) params
has_params name params = any_map (λ param. is_named name (name_of param)) param_of params

pub has_kernels : (sections : List Section) → has_kernel (sections_of sections) ≡ list_any (λ section. is_kernel (section_of section)) sections
has_kernels sections = any_map is_kernel section_of sections
