-- The properties of every run, from the induction over runs.
use Rattle.std.proofs.Common.{◌≡◌, suc, List, [], ◌∷◌, length, Option, Some, None, refl, sym, ap, subst, ◌∙◌}
use Rattle.dac_model_world.specs.laws.Common.{option_map, slice_get, NodeId, Origin, Operation, Table, StateValue, meaning_of, IsOperationOf, state_laws, WorldEvent, verdict_of, RunningValue, state_of, Message, WorldValue, ModelNode, ModelRunning, running_shown, some_same, ModelWorld, Shows, RanAs, start, numbered, SetWorld, NodeSet, Copy, set_run, no_sets, DistinctDots, HoldsSets, heard_among, state_by, Converges}
use Rattle.dac_messages.specs.StateSpelling.{spelling_of}
use Rattle.dac_decide.specs.Placement.{holder_of, candidate_of}
use Rattle.dac_model_node.specs.NodeValue.{origin_of}
use Rattle.dac_model_world.specs.Convergence.{EachIsMeaning, Alike, Agrees, ListsAll, CarryMeanings, origin_by}
use Rattle.dac_model_world.specs.laws.Operations.{DistinctDots-agree}
use Rattle.dac_model_world.specs.laws.Meanings.{meaning-heard_among}
use Rattle.dac_model_world.specs.laws.OneNode.{NodeOk, state_in, own_origin}
use Rattle.dac_model_world.specs.laws.Gathered.{Entries}
use Rattle.dac_model_world.specs.laws.Covers.{Seen}
use Rattle.dac_model_world.specs.laws.Carried.{CopiesOk, CopiesOk-get}
use Rattle.dac_model_world.specs.laws.Sound.{Answer, Sound, seen, sound_run, sound_start}
use Rattle.dac_model_world.specs.laws.UnitingInRuns.{unite_run}
use Rattle.dac_model_world.specs.laws.NewsOfRuns.{news_run}
use Rattle.dac_model_world.specs.laws.HeardInRuns.{heard_run}
use Rattle.dac_model_world.specs.laws.AddressedInRuns.{addressed_run}
use Rattle.dac_model_world.specs.laws.UpToDateInRuns.{up_to_date_run}
use Rattle.dac_model_world.specs.laws.IssuingInRuns.{issued_run, numbered_start}
use Rattle.dac_model_world.specs.laws.SharesInRuns.{shares_run}
use Rattle.dac_model_world.specs.laws.CausalRuns.{causal_run, causal_start}
use Rattle.dac_model_world.specs.laws.CausalityInRuns.{is_causal}
use Rattle.dac_model_world.specs.laws.Runs.{node_there}
use Rattle.dac_model_world.specs.laws.Records.{have_histories}
use Rattle.dac_model_world.specs.laws.StaysOpen.{stay_open}

state_shown : (t : Table) (running : Option ModelRunning) → option_map (λ (r : RunningValue). r.state) (option_map (running_shown t) running) ≡ option_map state_in running
state_shown t None = refl
state_shown t (Some r) = refl

-- a running node's incarnation is its set's
incarnation_held : (t : Table) (ops : List Operation) (n : NodeId) (d : ModelNode) (held : Option NodeSet) (es : Entries) → NodeOk ops n d held es → (running : Option ModelRunning) → d.running ≡ running → (o : Option NodeSet) → held ≡ o → option_map state_in running ≡ option_map state_by o →
    option_map (λ (r : RunningValue). r.origin) (option_map (running_shown t) running) ≡ option_map (origin_by n) o
incarnation_held t ops n d held es h None on None is same = refl
incarnation_held t ops n d held es h None on (Some set) is same = cc
incarnation_held t ops n d held es h (Some r) on None is same = cc
incarnation_held t ops n d held es h (Some r) on (Some set) is same = ap (λ (q : Origin). Some q) (h.origin r on ∙ ap (own_origin n) (sym (h.inc set is)))

pub holds_sets : (t : Table) (w : ModelWorld) (v : WorldValue) (s : SetWorld) → Shows t w v → Sound w s → HoldsSets v s
holds_sets t w v s shows h = record {
  each = λ n x e. ap state_of (node_there t w v shows n x e) ∙ (state_shown t (w.node (numbered n)).running ∙ (h.nodes (numbered n)).state);
  incarnation = λ n x e.
      let m = numbered n in
      let d = w.node m in
      ap origin_of (node_there t w v shows n x e) ∙ incarnation_held t w.operations m d (s.node m) (h.entries m) (h.nodes m) d.running refl (s.node m) refl (h.nodes m).state;
}

pub each_is_meaning : (t : Table) (w : ModelWorld) (v : WorldValue) (s : SetWorld) → Shows t w v → Sound w s → EachIsMeaning v
each_is_meaning t w v s shows h = record {
  each = λ n st runs. elim (s.node (numbered n)) as (λ o. s.node (numbered n) ≡ o → option_map state_by o ≡ Some st → st ≡ meaning_of (heard_among st.heard v.operations)) [
    | None ↦ λ _ p. absurd (no st p)
    | Some set ↦ λ held p.
        let os = set.operations in
        let is : meaning_of os ≡ st = some_same (meaning_of os) st p in
        subst (λ (x : StateValue). x ≡ meaning_of (heard_among x.heard v.operations)) is
        (subst (λ ops. meaning_of os ≡ meaning_of (heard_among (meaning_of os).heard ops)) (sym shows.operations)
        (meaning-heard_among os w.operations ((h.nodes (numbered n)).within set held) (DistinctDots-agree w.operations h.distinct)))
  ] refl (sym ((holds_sets t w v s shows h).each n runs.node runs.there) ∙ runs.state);
}
  where
    no : (x : StateValue) → None ≡ Some x → ⊥
    no x q = cc

-- equal states are alike
alike : (s u : StateValue) → s ≡ u → Alike s u
alike s u same = record {
  states = same;
  bytes = ap spelling_of same;
  holders = λ app. ap (λ x. holder_of x app) same;
  candidates = λ t app. ap (λ x. candidate_of (verdict_of t x app)) same;
}

-- states that are the meanings of what they heard are alike if they heard the same
pub agrees : (v : WorldValue) → EachIsMeaning v → Agrees v
agrees v h = record {
  each = λ m n s u a b same. alike s u (h.each m s a ∙ (ap (λ heard. meaning_of (heard_among heard v.operations)) same ∙ sym (h.each n u b)));
}

pub carry_meanings : (t : Table) (w : ModelWorld) (v : WorldValue) (s : SetWorld) → Shows t w v → Sound w s → CarryMeanings v
carry_meanings t w v s shows h = record {
  each = λ k m e.
      let c = CopiesOk-get w.operations (seen w.node s.node h.entries) w.messages s.copies k m h.copies (ap (λ ms. slice_get ms k) (sym shows.messages) ∙ e) in
      (c.1.1.delta, (λ o i. subst (IsOperationOf o) (sym shows.operations) (c.1.1.within o (c.1.1.inside o i)), c.1.1.body));
}

-- there are as many copies as messages
copies-length : (ops : List Operation) (v : NodeId → Seen) (ms : List Message) (cs : List Copy) → CopiesOk ops v ms cs → length cs ≡ length ms
copies-length ops v [] [] h = refl
copies-length ops v [] (c ∷ cs) h = absurd h
copies-length ops v (m ∷ ms) [] h = absurd h
copies-length ops v (m ∷ ms) (c ∷ cs) h = ap suc (copies-length ops v ms cs h.1)

pub lists_all : (t : Table) (w : ModelWorld) (v : WorldValue) (s : SetWorld) → Shows t w v → Sound w s → ListsAll v s
lists_all t w v s shows h = record {
  operations = shows.operations ∙ sym h.issued;
  copies = copies-length w.operations (seen w.node s.node h.entries) w.messages s.copies h.copies ∙ ap length (sym shows.messages);
}

-- the properties of every run
pub converged : (t : Table) (events : List WorldEvent) (answers : List Answer) (v : WorldValue) → RanAs t events answers v → Converges t events answers v
converged t events answers v r =
    let h = sound_run t (start t) no_sets events answers r.final (sound_start t) r.run in
    let all = set_run no_sets events answers in
    let meanings = each_is_meaning t r.final v all r.shows h in
    let sets = holds_sets t r.final v all r.shows h in
    record {
      headline = meanings;
      agree = agrees v meanings;
      merging = state_laws;
      distinct = subst DistinctDots (sym r.shows.operations) h.distinct;
      sets = sets;
      listed = lists_all t r.final v all r.shows h;
      issued = (issued_run t (start t) no_sets events answers r.final (sound_start t) (numbered_start t) r.run).0;
      bodies = carry_meanings t r.final v all r.shows h;
      unite = unite_run t (start t) no_sets events answers r.final (sound_start t) r.run;
      news = news_run t (start t) no_sets events answers r.final (sound_start t) r.run;
      heard = heard_run t events answers r.final r.run;
      addressed = addressed_run t (start t) no_sets events answers r.final (sound_start t) r.run;
      up_to_date = up_to_date_run t (start t) no_sets events answers r.final (sound_start t) r.run;
      shares = shares_run t events answers r.final r.run;
      causal = λ unhanded. is_causal v r.final all sets h (causal_run t (start t) no_sets events answers r.final (sound_start t) causal_start r.run unhanded);
      gates = stay_open t (start t) events answers r.run.0;
      histories = have_histories t events answers v r;
    }
