use Rattle.std.proofs.Common.{ℕ, Result, ap, sym, ◌∙◌, subst, Ok}
use Rattle.dac_config.proofs.Common.{err_from_is_err_and, draft_of, numbered, IsTableOf}
use Rattle.dac_tokens.specs.declared.fault.FaultKind.{FaultKind}
use Rattle.dac_tokens.specs.declared.fault.FaultKind.TheVariants.{NoMemory}
use Rattle.dac_tokens.specs.declared.fault.ConfigFault.{ConfigFault}
use Rattle.dac_tokens.specs.Gives.{◌>>=◌, OrMemory, Fails}
use Rattle.dac_shapes.specs.Shape.{draft_at}
use Rattle.dac_config.proofs.Numbers.{numbered_says, table_same}
use Rattle.dac_config.proofs.read.read_config.Goals as goal

or_memory : (k : FaultKind) (at : ℕ) (P Q : Type 0) → (P → Q) → OrMemory k at P → OrMemory k at Q
or_memory NoMemory at P Q f h = h
or_memory _ at P Q f h = f h

-- a fault of a reading is a fault of the sequence that begins with it
fails_then : {A B : Type 0} (e : ConfigFault) (r : Result A ConfigFault) (f : A → Result B ConfigFault) → Fails e r → Fails e (r >>= f)
fails_then e r f h = or_memory e.kind e.at _ _ (ap (λ q. q >>= f)) h

pub returns-in_err-draft-clause-only : goal.returns-in_err-draft-clause-only
returns-in_err-draft-clause-only c =
    let p = err_from_is_err_and c.from_residual.result c.from_residual.ensures.1 in
    λ table is. rw (p.1, p.2) (c.in_err-draft.ensures.only is.written is.spelled)

pub returns-in_err-draft-clause-exact : goal.returns-in_err-draft-clause-exact
returns-in_err-draft-clause-exact c =
    let p = err_from_is_err_and c.from_residual.result c.from_residual.ensures.1 in
    rw (p.1, p.2) (fails_then _ (draft_at c.args.text.now) (λ draft. Ok (numbered draft)) c.in_err-draft.ensures.exact)

pub returns-in_err-draft-clause-first : goal.returns-in_err-draft-clause-first
returns-in_err-draft-clause-first c =
    let p = err_from_is_err_and c.from_residual.result c.from_residual.ensures.1 in
    rw (p.1, p.2) c.in_err-draft.ensures.first

pub of_draft-requires-clause-said : goal.of_draft-requires-clause-said
of_draft-requires-clause-said c = (c.args.text.now, c.in_ok-draft.ensures.found)

pub returns-clause-found : goal.returns-clause-found
returns-clause-found c = record {
  written = draft_of c.in_ok-draft.draft;
  spelled = c.in_ok-draft.ensures.found;
  numbers = subst (IsTableOf (draft_of c.in_ok-draft.draft)) (sym c.in_ok-config.ensures) (numbered_says (draft_of c.in_ok-draft.draft));
}

pub returns-clause-only : goal.returns-clause-only
returns-clause-only c = λ table is. c.in_ok-config.ensures ∙ ap numbered (c.in_ok-draft.ensures.only is.written is.spelled) ∙ sym (table_same is.written table is.numbers)

pub returns-clause-exact : goal.returns-clause-exact
returns-clause-exact c = ap (λ read. read >>= λ draft. Ok (numbered draft)) c.in_ok-draft.ensures.exact ∙ ap Ok (sym c.in_ok-config.ensures)
