use Rattle.std.proofs.Common.{◌≡◌, ◌<◌, ◌+◌, ◌-◌, ℕ, length, Some, arith, slice_index_or, ap, ◌∙◌, sym, subst, true≢false}
use Rattle.dac_weave.specs.laws.Common.{slice_get, slice_get-get_or, counted, lent}
use Rattle.dac_weave.proofs.Finding.{filed-within, lent-at, none-more, nowhere, get-counted}
use Rattle.dac_weave.specs.laws.Members.{counted-get}
use Rattle.dac_weave.proofs.indexed_list.IndexedList.number.Goals as goal

pub index-requires : goal.index-requires
index-requires g c =
    let p = slice_index_or c.bucket-bucket.result.now c.loop-i.i 0 in
    let at : slice_get c.bucket-bucket.result.now c.loop-i.i ≡ Some p = slice_get-get_or c.bucket-bucket.result.now c.loop-i.i 0 c.loop-i-test.true in
    let lt : p < length c.self.inside.items.items = filed-within g.T.Labelled.label_of c.self.inside.items.items c.self.inside.buckets.lists.items c.label.result c.loop-i.i p c.bucket-bucket.result.now c.self.invariant c.bucket-bucket.ensures at in
    omega arith

pub overflow_add-result : goal.overflow_add-result
overflow_add-result g c =
    let p = slice_index_or c.bucket-bucket.result.now c.loop-i.i 0 in
    let at : slice_get c.bucket-bucket.result.now c.loop-i.i ≡ Some p = slice_get-get_or c.bucket-bucket.result.now c.loop-i.i 0 c.loop-i-test.true in
    let lt : p < length c.self.inside.items.items = filed-within g.T.Labelled.label_of c.self.inside.items.items c.self.inside.buckets.lists.items c.label.result c.loop-i.i p c.bucket-bucket.result.now c.self.invariant c.bucket-bucket.ensures at in
    omega arith

pub returns-then-is_same : goal.returns-then-is_same
returns-then-is_same g c =
    let p = slice_index_or c.bucket-bucket.result.now c.loop-i.i 0 in
    let items = c.self.inside.items.items in
    let at : slice_get c.bucket-bucket.result.now c.loop-i.i ≡ Some p = slice_get-get_or c.bucket-bucket.result.now c.loop-i.i 0 c.loop-i-test.true in
    let lt : p < length items = filed-within g.T.Labelled.label_of items c.self.inside.buckets.lists.items c.label.result c.loop-i.i p c.bucket-bucket.result.now c.self.invariant c.bucket-bucket.ensures at in
    let same : c.index.result.now.now ≡ c.args.item.now = c.is_same.ensures.0 c.if-is_same.true in
    ap (λ xs. counted xs (p + 1)) (sym c.self.view_is)
    ∙ (counted-get c.index.result.now.now (lent items) p (lent-at g.T.Labelled.label_of items p c.index.result.now lt c.index.ensures) ∙ ap (λ x. Some x) same)

pub loop-i-preserved : goal.loop-i-preserved
loop-i-preserved g c =
    let p = slice_index_or c.bucket-bucket.result.now c.loop-i.i 0 in
    let items = c.self.inside.items.items in
    let at : slice_get c.bucket-bucket.result.now c.loop-i.i ≡ Some p = slice_get-get_or c.bucket-bucket.result.now c.loop-i.i 0 c.loop-i-test.true in
    let lt : p < length items = filed-within g.T.Labelled.label_of items c.self.inside.buckets.lists.items c.label.result c.loop-i.i p c.bucket-bucket.result.now c.self.invariant c.bucket-bucket.ensures at in
    none-more g.T.Labelled.label_of c.args.self.now c.bucket-bucket.result.now c.loop-i.i p c.args.item.now c.index.result.now.now c.loop-i.invariant at
    (ap (λ xs. slice_get xs p) (sym c.self.view_is) ∙ lent-at g.T.Labelled.label_of items p c.index.result.now lt c.index.ensures)
    (λ e. true≢false (sym (c.is_same.ensures.1 e) ∙ c.if-is_same.false))

pub returns : goal.returns
returns g c =
    let none = nowhere g.T.Labelled.label_of (lent c.self.inside.items.items) c.self.inside.buckets.lists.items c.args.item.now c.label.result c.bucket-bucket.result.now c.loop-i.i c.self.invariant c.label.ensures c.bucket-bucket.ensures c.loop-i-test.false
    (subst (λ xs. (i : ℕ) → i < c.loop-i.i → (k : ℕ) → slice_get c.bucket-bucket.result.now i ≡ Some k → slice_get xs k ≡ Some c.args.item.now → ⊥) (sym c.self.view_is) c.loop-i.invariant) in
    λ k at. none (k - 1) (subst (λ xs. slice_get xs (k - 1) ≡ Some c.args.item.now) (sym c.self.view_is) (get-counted c.args.item.now c.args.self.now k at))
