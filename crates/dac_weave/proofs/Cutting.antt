-- Journals up to the ends of phases, and the merge between phases.
use Rattle.std.proofs.Common.{◌≡◌, ℕ, zero, suc, ◌+◌, ◌<◌, ◌≤◌, List, [], ◌∷◌, ◌++◌, length, take, drop, get_or, min, map, refl, sym, ap, subst, ◌∙◌, arith}
use Rattle.dac_weave.specs.laws.Common.{slice_get, slice_get_within, slice_get_read, take_more, length-map, AllZip, Vec, NodeId, Table, WorldEvent, ModelNode, off_after, Record, JournalValue, Seen, seen_in, as_seen, journal_seen, At, Gives, Begins, Weaves, node_step, replayed, AreAnswered, run_from, start, IsRecorded}
use Rattle.std.proofs.lemmas.List.{take_all, take_min, length-take, length-append, drop_more, drop_all, get_or-map}
use Rattle.std.specs.List.{take-map}
use Rattle.dac_weave.specs.declared.cursor.Cursor.{Cursor}
use Rattle.dac_weave.specs.declared.merge.Merge.{Merge}
use Rattle.dac_weave.specs.Copies.{NamesCopies}
use Rattle.dac_weave.specs.Cut.{cut_at, cut, no_ends, lengths_of, RiseTo, AreEnds, rows_of}
use Rattle.dac_weave.specs.Faults.{IsTrueFault, IsRefusal}
use Rattle.dac_weave.specs.Phased.{GivesUpTo, GivesPhases, IsPhaseFault}
use Rattle.dac_weave.specs.Placing.{IsCursor, AllWhole, IsBegun, valids_of, Continues, Rests, PrecedesRow}
use Rattle.dac_weave.specs.Replay.{IsLongest}
use Rattle.dac_weave.specs.Seats.{seats_at, seats_of, HaveSeats}
use Rattle.dac_weave.specs.Woven.{HasNone, IsUnwoven}
use Rattle.dac_weave.specs.declared.fault.WeaveFault.{WeaveFault}
use Rattle.dac_weave.specs.declared.fault.WeaveFault.TheVariants.{Unwoven, NoMemory}
use Rattle.dac_weave.proofs.Delivered.{delivers-none}
use Rattle.dac_weave.proofs.Placed.{AllZip-length, AllZip-at, there_too, both_push, given_whole, seats_whole}

-- ---- fronts of lists
take_take : {X : Type 0} (k n : ℕ) (xs : List X) → k ≤ n → take k (take n xs) ≡ take k xs
take_take zero n xs le = refl
take_take (suc k) zero xs le = absurd (omega arith)
take_take (suc k) (suc n) [] le = refl
take_take (suc k) (suc n) (x ∷ xs) le = ap (λ ys. x ∷ ys) (take_take k n xs (omega arith))

get-take : {X : Type 0} (k n : ℕ) (xs : List X) → k < n → slice_get (take n xs) k ≡ slice_get xs k
get-take k zero xs lt = absurd (omega arith)
get-take k (suc n) [] lt = refl
get-take zero (suc n) (x ∷ xs) lt = refl
get-take (suc k) (suc n) (x ∷ xs) lt = get-take k n xs (omega arith)

take-front : {X : Type 0} (n : ℕ) (xs ys : List X) → n ≤ length xs → take n (xs ++ ys) ≡ take n xs
take-front zero xs ys le = refl
take-front (suc n) [] ys le = absurd (omega arith)
take-front (suc n) (x ∷ xs) ys le = ap (λ zs. x ∷ zs) (take-front n xs ys (omega arith))

-- ---- one journal
-- the i-th journal of those that are cut
pub record IsPart (js : List JournalValue) (row : List ℕ) (i : ℕ) (j : JournalValue) : Type 0 where
  pub whole : JournalValue
  pub end : ℕ
  pub at : At js i whole
  pub end_at : At row i end
  pub is : j ≡ cut_at whole end

pub part_at : (js : List JournalValue) (row : List ℕ) (i : ℕ) (j : JournalValue) → At (cut js row) i j → IsPart js row i j
part_at [] row i j at = cc
part_at (b ∷ js) [] i j at = cc
part_at (b ∷ js) (n ∷ row) zero j at = record { whole = b; end = n; at = refl; end_at = refl; is = cc }
part_at (b ∷ js) (n ∷ row) (suc i) j at =
    let p = part_at js row i j at in
    record { whole = p.whole; end = p.end; at = p.at; end_at = p.end_at; is = p.is }

pub at_part : (js : List JournalValue) (row : List ℕ) (i : ℕ) (j : JournalValue) (n : ℕ) → At js i j → At row i n → At (cut js row) i (cut_at j n)
at_part [] row i j n at end = cc
at_part (b ∷ js) [] i j n at end = cc
at_part (b ∷ js) (m ∷ row) zero j n at end = cc
at_part (b ∷ js) (m ∷ row) (suc i) j n at end = at_part js row i j n at end

pub length-cut : (js : List JournalValue) (row : List ℕ) → length row ≡ length js → length (cut js row) ≡ length js
length-cut [] row e = refl
length-cut (j ∷ js) [] e = absurd (omega arith)
length-cut (j ∷ js) (n ∷ row) e = ap suc (length-cut js row (less e))
  where
    less : suc (length row) ≡ suc (length js) → length row ≡ length js
    less e = omega arith

cut-push : (js : List JournalValue) (row : List ℕ) (j : JournalValue) (n : ℕ) → length row ≡ length js → cut (js ++ j ∷ []) (row ++ n ∷ []) ≡ cut js row ++ cut_at j n ∷ []
cut-push [] [] j n e = refl
cut-push [] (m ∷ row) j n e = absurd (omega arith)
cut-push (b ∷ js) [] j n e = absurd (omega arith)
cut-push (b ∷ js) (m ∷ row) j n e = ap (λ (ks : List JournalValue). cut_at b m ∷ ks) (cut-push js row j n (less e))
  where
    less : suc (length row) ≡ suc (length js) → length row ≡ length js
    less e = omega arith

-- one more journal
pub cut_more : (js : List JournalValue) (row : List ℕ) (i : ℕ) (j : JournalValue) (parts more : List JournalValue) (part : JournalValue) → length row ≡ length js → i < length js → j ≡ get_or js i j → part ≡ cut_at j (get_or row i 0) → parts ≡ cut (take i js) (take i row) → more ≡ parts ++ part ∷ []
    → more ≡ cut (take (i + 1) js) (take (i + 1) row)
cut_more js row i j parts more part long lt at is so_far pushed =
    let in_row : i < length row = omega arith in
    let same : length (take i row) ≡ length (take i js) = (let a = length-take i row in let b = length-take i js in omega arith) in
    pushed ∙ ap (λ (ks : List JournalValue). ks ++ part ∷ []) so_far ∙ ap (λ (k : JournalValue). cut (take i js) (take i row) ++ k ∷ []) is
    ∙ sym (cut-push (take i js) (take i row) j (get_or row i 0) same)
    ∙ (λ k. cut (sym (take_more js i j lt ∙ ap (λ (x : JournalValue). take i js ++ x ∷ []) (sym at)) k) (sym (take_more row i 0 in_row) k))

-- up to its length a journal is whole
pub cut-whole : (js : List JournalValue) → cut js (lengths_of js) ≡ js
cut-whole [] = refl
cut-whole (j ∷ js) =
    let whole : take (length j.records) j.records ≡ j.records = take_all (length j.records) j.records (omega arith) in
    (λ k. (record { beginning = j.beginning; records = whole k }) ∷ cut-whole js k)

none-cut : (js : List JournalValue) (row : List ℕ) (n : NodeId) → HasNone js n → HasNone (cut js row) n
none-cut js row n none i j at =
    let p = part_at js row i j at in
    λ e. none i p.whole p.at (sym (ap (λ (x : JournalValue). x.beginning.node) p.is) ∙ e)

-- ---- the valid prefix of a journal that is cut
answered-front : (t : Table) (n : NodeId) (d : ModelNode) (xs : List Seen) (k v : ℕ) → k ≤ v → AreAnswered t n d (take v xs) → AreAnswered t n d (take k xs)
answered-front t n d [] zero v le h = tt
answered-front t n d [] (suc k) v le h = tt
answered-front t n d (x ∷ xs) zero v le h = tt
answered-front t n d (x ∷ xs) (suc k) zero le h = absurd (omega arith)
answered-front t n d (x ∷ xs) (suc k) (suc v) le h = (h.0, answered-front t n (node_step t n d x.event).node xs k v (omega arith) h.1)

module _ (t : Table) (j : JournalValue) (n : ℕ) (v : ℕ) (longest : IsLongest t j v) where
  abbrev reached : ℕ
  reached = min v (length (take n j.records))

  few : length (take n j.records) ≤ n
  few = let e = length-take n j.records in omega arith

  same_front : take reached (journal_seen (cut_at j n)) ≡ take reached (journal_seen j)
  same_front =
      let least : reached ≤ n = (let e = few in omega arith) in
      ap (take reached) (sym (take-map as_seen n j.records)) ∙ take_take reached n (journal_seen j) least

  pub longest-cut : IsLongest t (cut_at j n) (min v (length (take n j.records)))
  longest-cut = record {
    within = omega arith;
    answered = subst (AreAnswered t j.beginning.node (off_after 0)) (sym same_front) (answered-front t j.beginning.node (off_after 0) (journal_seen j) reached v (omega arith) longest.answered);
    ends = λ x at answer.
        let lt : reached < length (journal_seen (cut_at j n)) = slice_get_within (journal_seen (cut_at j n)) reached x at in
        let long : length (journal_seen (cut_at j n)) ≡ length (take n j.records) = length-map (take n j.records) as_seen in
        let same : reached ≡ v = omega arith in
        let less : reached < n = (let e = few in omega arith) in
        let there : At (journal_seen j) reached x = sym (get-take reached n (journal_seen j) less) ∙ (ap (λ (ys : List Seen). slice_get ys reached) (take-map as_seen n j.records) ∙ at) in
        longest.ends x (subst (λ (k : ℕ). At (journal_seen j) k x) same there)
        (answer ∙ ap (λ (ys : List Seen). (node_step t j.beginning.node (replayed t j.beginning.node (off_after 0) ys) x.event).answer) (same_front ∙ ap (λ (k : ℕ). take k (journal_seen j)) same));
  }

-- ---- pairs of items
-- a cursor that was there before, with the same valid prefix
valid_before : (old new : List Cursor) (i : ℕ) (s : Cursor) → valids_of new ≡ valids_of old → At new i s → (r : Cursor) × (At old i r × (r.valid ≡ s.valid))
valid_before old [] i s e at = cc
valid_before [] (n ∷ new) i s e at = cc
valid_before (r ∷ old) (n ∷ new) zero s e at = (r, (refl, cc))
valid_before (r ∷ old) (n ∷ new) (suc i) s e at = valid_before old new i s (cc) at

zip_left : {A B : Type 0} (R : A → B → Type 0) (xs : List A) (ys : List B) (i : ℕ) (y : B) → AllZip R xs ys → At ys i y → (x : A) × At xs i x
zip_left R [] [] i y zip at = cc
zip_left R [] (b ∷ ys) i y zip at = absurd zip
zip_left R (a ∷ xs) [] i y zip at = absurd zip
zip_left R (a ∷ xs) (b ∷ ys) zero y zip at = (a, refl)
zip_left R (a ∷ xs) (b ∷ ys) (suc i) y zip at = zip_left R xs ys i y zip.1 at

-- ---- nothing placed
pub rests-begun : (t : Table) (js : List JournalValue) (l : Merge) → IsBegun t js l → Rests t js (no_ends js) l
rests-begun t js l b = record {
  long = length-map js (λ (j : JournalValue). 0);
  count = AllZip-length (Begins t) js l.cursors.items b.cursors;
  longest = λ i j s at sat. (AllZip-at (Begins t) js l.cursors.items i j s b.cursors at sat).longest;
  valid = λ i s sat. let at = journal_at i s sat in let first = (AllZip-at (Begins t) js l.cursors.items i at.0 s b.cursors at.1 sat).placed in zero_least s.placed s.valid first;
  placed = λ i j s at sat.
      let p = part_at js (no_ends js) i j at in
      (AllZip-at (Begins t) js l.cursors.items i p.whole s b.cursors p.at sat).placed ∙ sym (ap (λ (x : JournalValue). length x.records) (empty i j at));
  seen = λ i j at. ap (λ es. seen_in t es j.beginning.node) b.events ∙ sym (ap journal_seen (empty i j at));
  others = λ n none. ap (λ es. seen_in t es n) b.events;
  many = ap (λ (ss : List ℕ). length ss) b.seats ∙ sym (ap (λ (es : List WorldEvent). length es) b.events);
  seats = λ i j at. ap (λ es. seats_at j.beginning.node es l.seats.items) b.events ∙ sym (ap seats_of (empty i j at));
  operations = b.operations ∙ ap (λ es. (run_from t (start t) es).operations) (sym b.events);
  messages = b.mail.shipped ∙ ap (λ es. (run_from t (start t) es).messages) (sym b.events);
  delivers = delivers-none t l.events.items l.mail b.mail b.events;
}
  where
    zero_least : (n m : ℕ) → n ≡ 0 → n ≤ m
    zero_least n m e = omega arith

    journal_at : (i : ℕ) (s : Cursor) → At l.cursors.items i s → (j : JournalValue) × At js i j
    journal_at i s sat = zip_left (Begins t) js l.cursors.items i s b.cursors sat

    no_end : (ks : List JournalValue) (i n : ℕ) → At (no_ends ks) i n → n ≡ 0
    no_end [] i n at = cc
    no_end (k ∷ ks) zero n at = cc
    no_end (k ∷ ks) (suc i) n at = no_end ks i n at

    empty : (i : ℕ) (j : JournalValue) → At (cut js (no_ends js)) i j → j ≡ record { beginning = j.beginning; records = [] }
    empty i j at =
        let p = part_at js (no_ends js) i j at in
        let none : j.records ≡ [] = ap (λ (x : JournalValue). x.records) p.is ∙ ap (λ (n : ℕ). take n p.whole.records) (no_end js i p.end p.end_at) in
        λ k. record { beginning = j.beginning; records = none k }

-- ---- a phase begins
-- the values of the records up to a row, taken from those up to a later one
front : {Y : Type 0} (f : Record → Y) (rs : List Record) (m n placed : ℕ) → m ≤ n → placed ≡ length (take m rs) → take placed (map f (take n rs)) ≡ map f (take m rs)
front f rs m n placed le is =
    let least : placed ≤ n = (let e = length-take m rs in omega arith) in
    take-map f placed (take n rs) ∙ ap (map f) (take_take placed n rs least ∙ (ap (λ k. take k rs) (is ∙ length-take m rs) ∙ take_min m rs))

module _ (t : Table) (js : List JournalValue) (row : List ℕ) (l : Merge) (p : PrecedesRow t js row l) where
  abbrev Rises : ℕ → ℕ → Type 0
  Rises m n = m ≤ n

  pub long_row : length row ≡ length js
  long_row = AllZip-length Rises p.before row p.rise ∙ p.rests.long

  -- a journal up to the row before
  record Earlier (i : ℕ) (j : JournalValue) : Type 0 where
    pub part : IsPart js row i j
    pub start : ℕ
    pub at : At (cut js p.before) i (cut_at part.whole start)
    pub rises : start ≤ part.end

  earlier : (i : ℕ) (j : JournalValue) → At (cut js row) i j → Earlier i j
  earlier i j at =
      let part = part_at js row i j at in
      let start = zip_left Rises p.before row i part.end p.rise part.end_at in
      record {
        part = part;
        start = start.0;
        at = at_part js p.before i part.whole start.0 part.at start.1;
        rises = AllZip-at Rises p.before row i start.0 part.end p.rise start.1 part.end_at;
      }

  within : (rs : List Record) (m n placed : ℕ) → m ≤ n → placed ≡ length (take m rs) → placed ≤ length (take n rs)
  within rs m n placed le is = let a = length-take m rs in let b = length-take n rs in omega arith

  both : (a b c : ℕ) → a ≤ b → a ≤ c → a ≤ min b c
  both a b c x y = omega arith

  pub weaves-row : Weaves t (cut js row) l
  weaves-row = record {
    count = p.rests.count ∙ sym (length-cut js row long_row);
    cursors = λ i j s at sat.
        let e = earlier i j at in
        let b = e.part.whole in
        let placed = p.rests.placed i (cut_at b e.start) s e.at sat in
        subst (λ (x : JournalValue). IsCursor t x s) (sym e.part.is) (record {
          placed = both s.placed s.valid (length (take e.part.end b.records)) (p.rests.valid i s sat) (within b.records e.start e.part.end s.placed e.rises placed);
          longest = longest-cut t b e.part.end s.valid (p.rests.longest i b s e.part.at sat);
        });
    seen = λ i j s at sat.
        let e = earlier i j at in
        let b = e.part.whole in
        let placed = p.rests.placed i (cut_at b e.start) s e.at sat in
        subst (λ (x : JournalValue). seen_in t l.events.items x.beginning.node ≡ take s.placed (journal_seen x)) (sym e.part.is)
        (p.rests.seen i (cut_at b e.start) e.at ∙ sym (front as_seen b.records e.start e.part.end s.placed e.rises placed));
    others = λ n none. p.rests.others n (none-whole n none);
    many = p.rests.many;
    seats = λ i j s at sat.
        let e = earlier i j at in
        let b = e.part.whole in
        let placed = p.rests.placed i (cut_at b e.start) s e.at sat in
        subst (λ (x : JournalValue). seats_at x.beginning.node l.events.items l.seats.items ≡ take s.placed (seats_of x)) (sym e.part.is)
        (p.rests.seats i (cut_at b e.start) e.at ∙ sym (front (λ (r : Record). r.seat) b.records e.start e.part.end s.placed e.rises placed));
    operations = p.rests.operations;
    messages = p.rests.messages;
    delivers = p.rests.delivers;
  }
    where
      none-whole : (n : NodeId) → HasNone (cut js row) n → HasNone js n
      none-whole n none i j at = let end = there_too js row i j long_row at in none i (cut_at j end.0) (at_part js row i j end.0 at end.1)

  -- ---- the phase ends
  pub rests-row : (new : Merge) → Weaves t (cut js row) new → AllWhole (cut js row) new.cursors.items → Continues l new → Rests t js row new
  rests-row new w whole c = record {
    long = long_row;
    count = w.count ∙ length-cut js row long_row;
    longest = λ i j s at sat. let old = valid_before l.cursors.items new.cursors.items i s c.valid sat in subst (IsLongest t j) old.1.1 (p.rests.longest i j old.0 at old.1.0);
    valid = λ i s sat. let j = part_there i s sat in least s.placed s.valid (length j.0.records) (w.cursors i j.0 s j.1 sat).placed;
    placed = λ i j s at sat. exact s.placed s.valid (length j.records) (w.cursors i j s at sat).placed (λ lt. whole i j at (s, (sat, lt)));
    seen = λ i j at. given_whole t (cut js row) new w i j at (whole i j at);
    others = λ n none. w.others n (none-cut js row n none);
    many = w.many;
    seats = λ i j at. seats_whole t (cut js row) new w i j at (whole i j at);
    operations = w.operations;
    messages = w.messages;
    delivers = w.delivers;
  }
    where
      least : (a b c : ℕ) → a ≤ min b c → a ≤ b
      least a b c h = omega arith

      exact : (a b c : ℕ) → a ≤ min b c → (a < c → ⊥) → a ≡ c
      exact a b c h not = omega arith

      part_there : (i : ℕ) (s : Cursor) → At new.cursors.items i s → (j : JournalValue) × At (cut js row) i j
      part_there i s sat = there_too new.cursors.items (cut js row) i s (sym w.count) sat

-- ---- the phases
gives-more : (t : Table) (js : List JournalValue) (es more : List WorldEvent) (row : List ℕ) (bound : ℕ) → GivesUpTo t js es row bound → GivesUpTo t js (es ++ more) row bound
gives-more t js es more row bound g = record {
  within = (let long = length-append es more in let le = g.within in omega arith);
  gives = subst (Gives t (cut js row)) (sym (take-front bound es more g.within)) g.gives;
}

done-more : (t : Table) (js : List JournalValue) (es more : List WorldEvent) (rows : List (List ℕ)) (bounds : List ℕ) → GivesPhases t js es rows bounds → GivesPhases t js (es ++ more) rows bounds
done-more t js es more [] [] done = tt
done-more t js es more [] (b ∷ bounds) done = absurd done
done-more t js es more (r ∷ rows) [] done = absurd done
done-more t js es more (r ∷ rows) (b ∷ bounds) done = (gives-more t js es more r b done.0, done-more t js es more rows bounds done.1)

-- what is known before the p-th phase
pub record Unfinished (t : Table) (js : List JournalValue) (rows : List (List ℕ)) (p : ℕ) (l : Merge) (bounds : List ℕ) : Type 0 where
  pub row : List ℕ
  pub rests : Rests t js row l
  pub rise : RiseTo (lengths_of js) (drop p rows) row
  pub done : GivesPhases t js l.events.items (take p rows) bounds
  pub gives : 0 < p → Gives t (cut js row) l.events.items

pub unfinished-begun : (t : Table) (js : List JournalValue) (rows : List (List ℕ)) (l : Merge) (bounds : List ℕ) → bounds ≡ [] → IsBegun t js l → AreEnds js rows → Unfinished t js rows 0 l bounds
unfinished-begun t js rows l bounds none begun ends = record {
  row = no_ends js;
  rests = rests-begun t js l begun;
  rise = ends.rise;
  done = subst (GivesPhases t js l.events.items []) (sym none) tt;
  gives = λ lt. absurd (omega arith);
}

-- the p-th row
row_at : (ends : List (Vec ℕ)) (p : ℕ) (v : Vec ℕ) → p < length ends → v ≡ get_or ends p v → v.items ≡ get_or (rows_of ends) p v.items
row_at ends p v lt at = ap (λ (x : Vec ℕ). x.items) at ∙ sym (get_or-map (λ (x : Vec ℕ). x.items) ends p v v.items lt)

rows_within : (ends : List (Vec ℕ)) (p : ℕ) → p < length ends → p < length (rows_of ends)
rows_within ends p lt = let long = length-map ends (λ (x : Vec ℕ). x.items) in omega arith

module _ (t : Table) (js : List JournalValue) (ends : List (Vec ℕ)) (p : ℕ) (l : Merge) (bounds : List ℕ) (u : Unfinished t js (rows_of ends) p l bounds) (v : Vec ℕ) (lt : p < length ends) (at : v ≡ get_or ends p v) where
  abbrev rows : List (List ℕ)
  rows = rows_of ends

  rows_from : drop p rows ≡ v.items ∷ drop (p + 1) rows
  rows_from = drop_more rows p v.items (rows_within ends p lt) ∙ ap (λ (r : List ℕ). r ∷ drop (p + 1) rows) (sym (row_at ends p v lt at))

  rises : RiseTo (lengths_of js) (v.items ∷ drop (p + 1) rows) u.row
  rises = subst (λ (rs : List (List ℕ)). RiseTo (lengths_of js) rs u.row) rows_from u.rise

  pub precedes : (row : List ℕ) → row ≡ v.items → PrecedesRow t js row l
  precedes row is = subst (λ (r : List ℕ). PrecedesRow t js r l) (sym is) (record { before = u.row; rests = u.rests; rise = rises.0 })

  pub at_row : At rows p v.items
  at_row = slice_get_read rows (length rows) p v.items refl (rows_within ends p lt) (row_at ends p v lt at)

  pub unfinished-more : (row : List ℕ) (new : Merge) (bound : ℕ) (more : List ℕ) → row ≡ v.items → Rests t js row new → Gives t (cut js row) new.events.items → Continues l new → bound ≡ length new.events.items → more ≡ bounds ++ bound ∷ []
      → Unfinished t js rows (p + 1) new more
  unfinished-more row new bound more is rests gives c bound_is more_is = record {
    row = row;
    rests = rests;
    rise = subst (λ (r : List ℕ). RiseTo (lengths_of js) (drop (p + 1) rows) r) (sym is) rises.1;
    done = subst (GivesPhases t js new.events.items (take (p + 1) rows)) (sym more_is)
        (subst (λ (rs : List (List ℕ)). GivesPhases t js new.events.items rs (bounds ++ bound ∷ [])) (sym (take_more rows p v.items (rows_within ends p lt) ∙ ap (λ (r : List ℕ). take p rows ++ r ∷ []) (sym (is ∙ row_at ends p v lt at) ∙ refl)))
        (both_push (GivesUpTo t js new.events.items) (take p rows) bounds row bound before here));
    gives = λ _. gives;
  }
    where
      before : GivesPhases t js new.events.items (take p rows) bounds
      before = subst (λ (es : List WorldEvent). GivesPhases t js es (take p rows) bounds) (sym c.events) (done-more t js l.events.items c.more (take p rows) bounds u.done)

      here : GivesUpTo t js new.events.items row bound
      here = record {
        within = omega arith;
        gives = subst (Gives t (cut js row)) (sym (take_all bound new.events.items (omega arith))) gives;
      }

-- ---- after the last phase
pub record IsFinished (t : Table) (js : List JournalValue) (rows : List (List ℕ)) (l : Merge) (bounds : List ℕ) : Type 0 where
  pub gives : Gives t js l.events.items
  pub phases : GivesPhases t js l.events.items rows bounds
  pub seats : HaveSeats js l.events.items l.seats.items
  pub copies : NamesCopies t l.events.items

pub finished : (t : Table) (js : List JournalValue) (rows : List (List ℕ)) (p : ℕ) (l : Merge) (bounds : List ℕ) → Unfinished t js rows p l bounds → AreEnds js rows → length rows ≤ p → IsFinished t js rows l bounds
finished t js rows p l bounds u ends past =
    let row_is : u.row ≡ lengths_of js = subst (λ (rs : List (List ℕ)). RiseTo (lengths_of js) rs u.row) (drop_all p rows past) u.rise in
    let whole : cut js u.row ≡ js = ap (cut js) row_is ∙ cut-whole js in
    let some : 0 < p = (let any = ends.some in omega arith) in
    record {
      gives = subst (λ (ks : List JournalValue). Gives t ks l.events.items) whole (u.gives some);
      phases = subst (λ (rs : List (List ℕ)). GivesPhases t js l.events.items rs bounds) (take_all p rows past) u.done;
      seats = subst (λ (ks : List JournalValue). HaveSeats ks l.events.items l.seats.items) whole (record { many = u.rests.many; each = u.rests.seats });
      copies = u.rests.delivers.copies;
    }

pub past_rows : (ends : List (Vec ℕ)) (p : ℕ) → length ends ≤ p → length (rows_of ends) ≤ p
past_rows ends p past = let long = length-map ends (λ (x : Vec ℕ). x.items) in omega arith

-- ---- faults
pub phase_fault : (t : Table) (js : List JournalValue) (rows : List (List ℕ)) (p : ℕ) (row : List ℕ) (fault : WeaveFault) → At rows p row → IsTrueFault t (cut js row) fault → IsRefusal t (cut js row) fault → IsPhaseFault t js rows fault
phase_fault t js all p row (Unwoven node place) at ends none = record { phase = p; row = row; at = at; unwoven = ends; none = none }
phase_fault t js all p row NoMemory at ends none = tt

-- ---- all in one phase
pub one_phase : (js : List JournalValue) (row : List ℕ) → row ≡ lengths_of js → AreEnds js (row ∷ [])
one_phase js row is = record { some = omega arith; rise = (subst (λ (r : List ℕ). AllZip (λ (m n : ℕ). m ≤ n) (no_ends js) r) (sym is) (least js), is) }
  where
    least : (ks : List JournalValue) → AllZip (λ (m n : ℕ). m ≤ n) (no_ends ks) (lengths_of ks)
    least [] = tt
    least (k ∷ ks) = (omega arith, least ks)

only_row : (row other : List ℕ) (p : ℕ) → At (row ∷ []) p other → other ≡ row
only_row row other zero at = cc
only_row row other (suc p) at = cc

pub one_fault : (t : Table) (js : List JournalValue) (row : List ℕ) (fault : WeaveFault) → row ≡ lengths_of js → IsPhaseFault t js (row ∷ []) fault → IsTrueFault t js fault × IsRefusal t js fault
one_fault t js row NoMemory is ends = (tt, tt)
one_fault t js row (Unwoven node place) is ends =
    let whole : cut js ends.row ≡ js = ap (cut js) (only_row row ends.row ends.phase ends.at ∙ is) ∙ cut-whole js in (
      subst (λ (ks : List JournalValue). IsUnwoven t ks node place) whole ends.unwoven,
      subst (λ (ks : List JournalValue). (es : List WorldEvent) → IsRecorded t ks es → ⊥) whole ends.none,
    )
