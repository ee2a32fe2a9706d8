-- Playing a script line by line.
use Rattle.std.proofs.Common.{◌≡◌, ℕ, ◌+◌, ◌-◌, ◌<◌, cond, List, ◌∷◌, ◌++◌, length, get_or, drop, suc, Option, Some, None, Result, Ok, Err, false, true≢false, refl, sym, ap, ap₂, subst, ◌∙◌, arith, ⊎_elim, append_assoc, add-one, drop-cons}
use Rattle.dac_play.proofs.Common.{◌≢◌, IfOk, OnOk, option_and_then, option_map, lt-ltb, NodeId, Table, Reply, WorldEvent, WorldValue, Shows, Done, Lacked, out_of_memory, numbered, ScriptLine, state_at, after_line}
use Rattle.std.specs.Prelude.{is_err}
use Rattle.std.specs.List.{slice_get}
use Rattle.std.specs.Io.KnownBytes.{Appends}
use Rattle.std.proofs.KnownBytes.{Appends-trans}
use Rattle.dac_core.specs.WorldFault.{WorldFault}
use Rattle.dac_core.specs.NodeValue.{state_of}
use Rattle.dac_core.specs.ModelNode.{ModelRunning, joined, shown}
use Rattle.dac_core.specs.ModelWorld.{ModelWorld, Follows, start, happens}
use Rattle.dac_play.specs.declared.answers.Counts.{Counts}
use Rattle.dac_script.specs.declared.line.ScriptLine.TheVariants as says
use Rattle.dac_play.specs.Answers.{answer_text}
use Rattle.dac_play.specs.Sharing.{state_in}
use Rattle.dac_play.specs.Play.{counts_in, script_text, PlaysLine}

-- ---- one line
same_counts : (table : Table) (w : ModelWorld) (v : WorldValue) (counts : Counts) → Shows table w v → counts.operations ≡ length v.operations → counts.messages ≡ length v.messages → counts ≡ counts_in w
same_counts table w v counts shows operations messages =
    ap₂ (λ o m. record { operations = o; messages = m }) (operations ∙ ap length shows.operations) (messages ∙ ap length shows.messages)

pub event_plays : (table : Table) (old new : WorldValue) (event : WorldEvent) (answer : Result Reply WorldFault) (counts : Counts) (text : List ℕ) → Follows table old (λ w. happens table w event) answer new
    → answer ≢ out_of_memory → counts.operations ≡ length new.operations → counts.messages ≡ length new.messages → text ≡ answer_text table event answer counts → PlaysLine table old (says.Event event) text new
event_plays table old new event answer counts text follows enough operations messages is_text = record {
  each = λ w shows.
      let p = follows.each w shows in
      ⊎_elim (λ (done : Done (happens table w event) answer p.0).
      let shows_next = subst (λ x. Shows table x new) done.went_on p.1.1 in
      (is_text ∙ ap (λ a. answer_text table event a counts) done.answered ∙ ap (answer_text table event (happens table w event).answer) (same_counts table (happens table w event).world new counts shows_next operations messages), shows_next))
      (λ (lacked : Lacked w (happens table w event) answer p.0). absurd (enough lacked.answered))
      p.1.0;
}

-- an event whose lines need an allocation that can fail
pub event_plays_if : {X E : Type 0} (items : X → List ℕ) (r : Result X E) (table : Table) (old new : WorldValue) (event : WorldEvent) (answer : Result Reply WorldFault) (counts : Counts) → Follows table old (λ w. happens table w event) answer new
    → counts.operations ≡ length new.operations → counts.messages ≡ length new.messages → IfOk r (λ x. items x ≡ answer_text table event answer counts) → OnOk r (answer ≢ out_of_memory)
    → IfOk r (λ x. PlaysLine table old (says.Event event) (items x) new)
event_plays_if items (Ok x) table old new event answer counts follows operations messages is_text enough = event_plays table old new event answer counts (items x) follows enough operations messages is_text
event_plays_if items (Err e) table old new event answer counts follows operations messages is_text enough = tt

-- a fact about a write without error
pub written : {T E : Type 0} (r : Result T E) (P : Type 0) → is_err r ≡ false → OnOk r P → P
written (Ok x) P fine p = p
written (Err e) P fine p = absurd (true≢false fine)

-- the node of a world that shows as v
node_shown : (table : Table) (w : ModelWorld) (v : WorldValue) (node : NodeId) → Shows table w v → node.0 < length v.nodes → slice_get v.nodes node.0 ≡ Some (shown table (w.node node))
node_shown table w v node shows lt =
    let within : node.0 < w.count = omega (arith, shows.count) in
    shows.nodes node.0 ∙ ap (λ b. cond b (Some (shown table (w.node (numbered node.0)))) None) (lt-ltb node.0 w.count within)

shown_state : (table : Table) (last : ℕ) (running : Option ModelRunning) → state_of (shown table (record { last = last; running = running })) ≡ option_map (λ (r : ModelRunning). joined r.log) running
shown_state table last None = refl
shown_state table last (Some r) = refl

pub state_shown : (table : Table) (w : ModelWorld) (v : WorldValue) (node : NodeId) → Shows table w v → node.0 < length v.nodes → state_at v node ≡ state_in w node
state_shown table w v node shows lt = ap (option_and_then state_of) (node_shown table w v node shows lt) ∙ shown_state table (w.node node).last (w.node node).running

-- ---- a whole script
-- the first i lines were played and their output written
pub record IsPlayed (table : Table) (script : List ScriptLine) (i : ℕ) (v : WorldValue) (old new : Option (List ℕ)) : Type 0 where
  pub world : ModelWorld
  pub shows : Shows table world v
  pub done : List ℕ
  pub whole : script_text table (start table) script ≡ done ++ script_text table world (drop i script)
  pub appended : Appends old new done

pub played_more : (table : Table) (script : List ScriptLine) (i : ℕ) (line : ScriptLine) (v u : WorldValue) (text : List ℕ) (old mid new : Option (List ℕ)) → i < length script → (d : ScriptLine) → line ≡ get_or script i d
    → PlaysLine table v line text u → Appends mid new text → IsPlayed table script i v old mid → IsPlayed table script (i + 1) u old new
played_more table script i line v u text old mid new lt d here plays written played =
    let step = plays.each played.world played.shows in
    let opened : drop i script ≡ line ∷ drop (i + 1) script = drop-cons script i d lt ∙ ap (λ l. l ∷ drop (suc i) script) (sym here) ∙ ap (λ n. line ∷ drop n script) (sym (add-one i)) in
    record {
      world = after_line table played.world line;
      shows = step.1;
      done = played.done ++ text;
      whole = played.whole ∙ ap (λ l. played.done ++ script_text table played.world l) opened
          ∙ ap (λ t. played.done ++ (t ++ script_text table (after_line table played.world line) (drop (i + 1) script))) (sym step.0)
          ∙ sym (append_assoc played.done text (script_text table (after_line table played.world line) (drop (i + 1) script)));
      appended = Appends-trans old mid new played.done text played.appended written;
    }
