-- In the run of the woven events each journal is a history of its node.
use Rattle.std.proofs.Common.{◌≡◌, true, cond, List, [], ◌∷◌, Ok, Err, map, refl, sym, ap, subst, ◌∙◌}
use Rattle.dac_weave.specs.laws.Common.{NodeId, Table, node_count, WorldEvent, NoSuchNode, ModelNode, model_step, off_after, start, Record, JournalValue, entry_of, as_seen, as_world_result, Gives, node_step, node_step_by, replayed, AreAnswered}
use Rattle.std.specs.Prelude.{nat_lt}
use Rattle.std.proofs.lemmas.Bool.{true_from_ne_false}
use Rattle.dac_journal.specs.Histories.{IsHistory}
use Rattle.dac_journal.specs.EveryList.{OfEachList}
use Rattle.dac_journal.specs.Converges.{Converges}
use Rattle.dac_weave.specs.Converging.{IsConverged}
use Rattle.dac_weave.specs.laws.Runs.{node-after, history-after}
use Rattle.dac_weave.proofs.Replays.{as_world_result-same, as_world_result-there, node_step-answer, node_step-node}

-- a record's node is one of the configuration
inside : (t : Table) (n : NodeId) (d : ModelNode) (r : Record) → as_world_result r.answer ≡ (node_step t n d (Ok r.event)).answer → nat_lt n.0 (node_count t) ≡ true
inside t n d r is = true_from_ne_false (nat_lt n.0 (node_count t)) (λ out.
    as_world_result-there r.answer (is ∙ ap (λ b. (cond b (node_step_by t n d (Ok r.event)) (record { node = d; answer = Err NoSuchNode })).answer) out))

-- records with the step's results are a history
history-of : (t : Table) (n : NodeId) (d : ModelNode) (rs : List Record) → AreAnswered t n d (map as_seen rs) → IsHistory t n d (map entry_of rs) (replayed t n d (map as_seen rs))
history-of t n d [] h = refl
history-of t n d (r ∷ rs) h =
    let here : nat_lt n.0 (node_count t) ≡ true = inside t n d r h.0 in
    let next = (node_step t n d (Ok r.event)).node in
    let answer : r.answer ≡ (model_step t n d r.event).answer = as_world_result-same r.answer (model_step t n d r.event).answer (h.0 ∙ node_step-answer t n here d r.event) in (
      sym answer,
      subst (λ x. IsHistory t n x (map entry_of rs) (replayed t n next (map as_seen rs))) (node_step-node t n here d r.event) (history-of t n next rs h.1),
    )

pub converged : (t : Table) (js : List JournalValue) (es : List WorldEvent) → OfEachList Converges → Gives t js es → IsConverged t js es
converged t js es each gives = record {
  converges = each t es;
  ends = λ i j at.
      let n = j.beginning.node in
      let seen = gives.each i j at in
      subst (λ d. IsHistory t n (off_after 0) (map entry_of j.records) d) (sym (node-after t n (start t) es refl ∙ ap (replayed t n (off_after 0)) seen))
      (history-of t n (off_after 0) j.records (subst (AreAnswered t n (off_after 0)) seen (history-after t n (start t) es refl)));
}
