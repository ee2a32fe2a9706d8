-- Lists filled place by place.
use Rattle.std.proofs.Common.{◌≡◌, ℕ, ◌+◌, ◌-◌, ◌<◌, List, [], ◌∷◌, ◌++◌, length, map, set, replicate, suc, get_or, sym, subst, ap, ap₂, ◌∙◌, arith, append_assoc}
use Rattle.dac_status.proofs.Common.{range_with_len, map-append, map-range_with_len_more, NodeId, AppId, placed}
use Rattle.std.proofs.Math.Seq.{get_or-append_seam, set-append_seam}
use Rattle.std.proofs.Math.ListN.{get_or-append}
use Rattle.std.proofs.lemmas.List.{get_or-map, length-map}
use Rattle.std.proofs.lemmas.List.FromFn.{get_or-map-range_with_len, length-map-range_with_len}

abbrev pub node_numbered : ℕ → NodeId
node_numbered n = record { 0 = n }

abbrev pub app_numbered : ℕ → AppId
app_numbered n = record { 0 = n }

-- the item at a place
pub listed_at : {X T : Type 0} (blank : T) (make : ℕ → X) (f : X → T) (count n : ℕ) → n < count → get_or (map f (map make (range_with_len 0 count))) n blank ≡ f (make n)
listed_at blank make f count n lt =
    get_or-map f (map make (range_with_len 0 count)) n (make n) blank (subst (λ m. n < m) (sym (length-map-range_with_len make 0 count)) lt)
    ∙ ap f (get_or-map-range_with_len make 0 count n n (make n) lt (omega arith))

-- the number of items
pub length_listed : {X T : Type 0} (make : ℕ → X) (f : X → T) (count : ℕ) → length (map f (map make (range_with_len 0 count))) ≡ count
length_listed make f count = length-map (map make (range_with_len 0 count)) f ∙ length-map-range_with_len make 0 count

-- one more item
pub listed_more : {X T : Type 0} (make : ℕ → X) (f : X → T) (n : ℕ) → map f (map make (range_with_len 0 (n + 1))) ≡ map f (map make (range_with_len 0 n)) ++ f (make n) ∷ []
listed_more make f n = ap (map f) (map-range_with_len_more make 0 n n (omega arith)) ∙ map-append f (map make (range_with_len 0 n)) (make n ∷ [])

module _ {X T : Type 0} (places : ℕ) (blank : T) (make : ℕ → X) (f : X → T) where
  -- the items of the first n
  abbrev first : ℕ → List T
  first n = map f (map make (range_with_len 0 n))

  length-first : (n : ℕ) → length (first n) ≡ n
  length-first = length_listed make f

  first-more : (n : ℕ) → first (n + 1) ≡ first n ++ f (make n) ∷ []
  first-more = listed_more make f

  pub placed_none : replicate places blank ≡ placed places blank (first 0)
  unfolding placed
  placed_none = ap (λ n. replicate n blank) (omega arith)

  pub placed_more : (n : ℕ) (xs : List T) → n < places → xs ≡ placed places blank (first n) → set xs n (f (make n)) ≡ placed places blank (first (n + 1))
  unfolding placed
  placed_more n xs lt is =
      let left = places - (n + 1) in
      let room : places - n ≡ suc left = omega arith in
      let v = f (make n) in
      ap (λ l. set l n v) is
      ∙ ap (λ c. set (first n ++ replicate (places - c) blank) n v) (length-first n)
      ∙ ap (λ c. set (first n ++ replicate c blank) n v) room
      ∙ ap (λ i. set (first n ++ blank ∷ replicate left blank) i v) (sym (length-first n))
      ∙ set-append_seam (first n) blank (replicate left blank) v
      ∙ sym (append_assoc (first n) (v ∷ []) (replicate left blank))
      ∙ ap₂ (λ l c. l ++ replicate c blank) (sym (first-more n)) (ap (λ c. places - c) (sym (length-first (n + 1))))

  -- the item at a place, with blanks after the items
  pub placed_at : (count n : ℕ) → n < count → get_or (placed places blank (first count)) n blank ≡ f (make n)
  unfolding placed
  placed_at count n lt =
      get_or-append (first count) (replicate (places - length (first count)) blank) blank n (subst (λ m. n < m) (sym (length-first count)) lt)
      ∙ listed_at blank make f count n lt

  -- the item at a place, whatever the default
  pub placed_any : (d : T) (count n : ℕ) → n < count → get_or (placed places blank (first count)) n d ≡ f (make n)
  unfolding placed
  placed_any d count n lt =
      get_or-append (first count) (replicate (places - length (first count)) blank) d n (subst (λ m. n < m) (sym (length-first count)) lt)
      ∙ listed_at d make f count n lt

-- Places that hold f of all numbers below n, and g of the next k.
module _ {X T : Type 0} (places : ℕ) (blank : T) (make : ℕ → X) (f g : X → T) where
  abbrev front : ℕ → List T
  front n = map f (map make (range_with_len 0 n))

  abbrev back : ℕ → ℕ → List T
  back n k = map g (map make (range_with_len n k)) ++ replicate (places - (n + k)) blank

  abbrev pub staged : ℕ → ℕ → List T
  staged n k = front n ++ back n k

  pub staged_none : (count : ℕ) → placed places blank (map g (map make (range_with_len 0 count))) ≡ staged 0 count
  unfolding placed
  staged_none count = ap (λ c. map g (map make (range_with_len 0 count)) ++ replicate (places - c) blank) (length_listed make g count ∙ omega arith)

  pub staged_all : (count : ℕ) → staged count 0 ≡ placed places blank (front count)
  unfolding placed
  staged_all count = ap (λ c. front count ++ replicate (places - c) blank) (omega arith ∙ sym (length_listed make f count))

  -- the next place still holds g
  pub staged_at : (n k : ℕ) (d : T) → get_or (staged n (suc k)) n d ≡ g (make n)
  staged_at n k d =
      ap (λ i. get_or (staged n (suc k)) i d) (sym (length_listed make f n))
      ∙ get_or-append_seam (front n) (g (make n)) (map g (map make (range_with_len (n + 1) k)) ++ replicate (places - (n + suc k)) blank) d

  -- the next place is changed to f
  pub staged_more : (n k : ℕ) (xs : List T) → xs ≡ staged n (suc k) → set xs n (f (make n)) ≡ staged (n + 1) k
  staged_more n k xs is =
      let rest = map g (map make (range_with_len (n + 1) k)) in
      let v = f (make n) in
      let left : places - (n + suc k) ≡ places - (n + 1 + k) = omega arith in
      ap (λ l. set l n v) is
      ∙ ap (λ i. set (staged n (suc k)) i v) (sym (length_listed make f n))
      ∙ set-append_seam (front n) (g (make n)) (rest ++ replicate (places - (n + suc k)) blank) v
      ∙ sym (append_assoc (front n) (v ∷ []) (rest ++ replicate (places - (n + suc k)) blank))
      ∙ ap₂ (λ l c. l ++ (rest ++ replicate c blank)) (sym (listed_more make f n)) left
