-- Shares in runs: a running node always knows its own present incarnation, so a share leaves the union if the others
-- know it too, or nothing of its life.
use Rattle.std.proofs.Common.{◌≡◌, ◌<◌, ◌≤◌, ℕ, true, false, List, Option, Some, None, take, drop, nat_eq, refl, sym, ap, subst, ◌∙◌, true≢false, eq-eqb, arith}
use Rattle.dac_model_world.specs.laws.Common.{option_map, IsTrue, false≢true, exact_unsigned_eq, NodeId, flag_cmp, Life, IsGreatest, IsSaid, life_cmp, meaning_of, IsOperationOf, pairs, life_said, lives-meaning, lives_are, Table, WorldEvent, ModelRunning, up, some_same, ModelWorld, Run, start, world_after, SetWorld, NodeSet, set_run, no_sets, state_by}
use Rattle.std.specs.FinMap as map
use Rattle.std.specs.declared.cmp.Ordering.{Ordering}
use Rattle.std.specs.declared.cmp.Ordering.TheVariants.{Less, Equal, Greater}
use Rattle.std.specs.Ordering.{nat_cmp, ordering_then, is_le}
use Rattle.std.proofs.lemmas.Cmp.{ranked}
use Rattle.dac_lattice.specs.Chains.{IsAtMost}
use Rattle.dac_lattice.specs.declared.flags.Flag.TheVariants.{Up as IsUp}
use Rattle.dac_meaning.specs.laws.Chained.{is_said}
use Rattle.dac_model_world.specs.Shares.{KnowPresent, SharesUnite}
use Rattle.dac_model_world.specs.laws.OneNode.{own_origin, state_in}
use Rattle.dac_model_world.specs.laws.Runs.{answered_take, answered_drop}
use Rattle.dac_model_world.specs.laws.Carried.{none_some}
use Rattle.dac_model_world.specs.laws.Numbering.{life_says}
use Rattle.dac_model_world.specs.laws.IssuingInRuns.{Numbered, numbered_start, issued_run}
use Rattle.dac_model_world.specs.laws.UnitingInRuns.{unite_run}
use Rattle.dac_model_world.specs.laws.UpToDateInRuns.{up_to_date_run}
use Rattle.dac_model_world.specs.laws.Sharing.{share_unites}
use Rattle.dac_model_world.specs.laws.Sound.{Answer, Sound, sound_run, sound_start}

-- the greater life is of no earlier incarnation
no_earlier : (a b : Life) → IsAtMost life_cmp a b → a.inc ≤ b.inc
no_earlier a b h = by_order (nat_cmp a.inc b.inc) refl h
  where
    at_most : (i j : ℕ) → i < j → i ≤ j
    at_most i j lt = omega arith

    same : (i j : ℕ) → i ≡ j → i ≤ j
    same i j e = omega arith

    by_order : (o : Ordering) → nat_cmp a.inc b.inc ≡ o → IsTrue (is_le (ordering_then o (flag_cmp a.flag b.flag))) → a.inc ≤ b.inc
    by_order Less e h = at_most a.inc b.inc (ranked a.inc b.inc Less (sym e))
    by_order Equal e h = same a.inc b.inc (ranked a.inc b.inc Equal (sym e))
    by_order Greater e h = absurd (false≢true h)

module _ (w : ModelWorld) (s : SetWorld) (h : Sound w s) (k : Numbered w) where
  -- a node with a set runs
  runs : (n : NodeId) (held : NodeSet) → s.node n ≡ Some held → (r : ModelRunning) × ((w.node n).running ≡ Some r)
  runs n held on = by_run (w.node n).running refl ((h.nodes n).state ∙ ap (option_map state_by) on)
    where
      by_run : (running : Option ModelRunning) → (w.node n).running ≡ running → option_map state_in running ≡ Some (state_by held) → (r : ModelRunning) × ((w.node n).running ≡ Some r)
      by_run None at e = none_some e
      by_run (Some r) at e = (r, at)

  -- a running node's set contains its own boot, and names no later incarnation of it
  knows_itself : (n : NodeId) (held : NodeSet) → s.node n ≡ Some held → (life : Life) → map.get (meaning_of held.operations).lives n ≡ Some life → life.inc ≡ held.inc
  knows_itself n held on life e =
      let last = (w.node n).last in
      let os = held.operations in
      let said = life_says os n life e in
      let running = runs n held on in
      let is : IsGreatest life_cmp (IsSaid life_said (pairs os) n) (Some life) = subst (IsGreatest life_cmp (IsSaid life_said (pairs os) n)) (ap (λ lives. map.get lives n) (sym (lives-meaning os)) ∙ e) (lives_are os n) in
      let boot : IsOperationOf (up (own_origin n last)) os = (h.nodes n).own held on (up (own_origin n last)) (k.came n running.0 running.1) refl in
      let own : Life = record { inc = last; flag = IsUp } in
      between life.inc last held.inc
      (k.order.lives said.0 ((h.nodes n).within held on said.0 said.1.0) n life said.1.1)
      (no_earlier own life (is.1 own (is_said life_said os n own (up (own_origin n last), (boot, refl)))))
      ((h.nodes n).inc held on)
    where
      between : (a b c : ℕ) → a ≤ b → b ≤ a → c ≡ b → a ≡ c
      between a b c p q e = omega arith

  pub all_present : KnowPresent s → (n m : NodeId) (mine theirs : NodeSet) → s.node n ≡ Some mine → s.node m ≡ Some theirs → (life : Life) → map.get (meaning_of mine.operations).lives m ≡ Some life → life.inc ≡ theirs.inc
  all_present know n m mine theirs on at life e = elim (nat_eq n.0 m.0) as (λ b. nat_eq n.0 m.0 ≡ b → life.inc ≡ theirs.inc) [
    | true ↦ λ t.
        let same : n ≡ m = ap (λ i. record { 0 = i }) (exact_unsigned_eq n.0 m.0 t) in
        knows_itself n mine on life (ap (λ q. map.get (meaning_of mine.operations).lives q) same ∙ e)
        ∙ ap (λ (x : NodeSet). x.inc) (some_same mine theirs (sym on ∙ ap s.node same ∙ at))
    | false ↦ λ f. know n m mine theirs (λ same. true≢false (sym (eq-eqb n.0 m.0 (ap (λ (q : NodeId). q.0) same)) ∙ f)) on at life e
  ] refl

-- shares leave the union in every run of the model world from the start
pub shares_run : (t : Table) (es : List WorldEvent) (answers : List Answer) (final : ModelWorld) → Run t (start t) es answers final → SharesUnite es answers
shares_run t es answers final r b k know share =
    let first = take b es in
    let firsts = take b answers in
    let mid = world_after t (start t) first firsts in
    let before : Run t (start t) first firsts mid = (answered_take t (start t) es answers b r.0, refl) in
    let these = take k (drop b es) in
    let replies = take k (drop b answers) in
    let after : Run t mid these replies (world_after t mid these replies) = (answered_take t mid (drop b es) (drop b answers) k (answered_drop t (start t) es answers b r.0), refl) in
    let w = set_run no_sets first firsts in
    let h = sound_run t (start t) no_sets first firsts mid (sound_start t) before in
    let n = (issued_run t (start t) no_sets first firsts mid (sound_start t) (numbered_start t) before).1 in
    share_unites w (all_present mid w h n know) these replies share (unite_run t mid w these replies (world_after t mid these replies) h after) (up_to_date_run t mid w these replies (world_after t mid these replies) h after)
