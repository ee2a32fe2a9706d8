use Rattle.std.proofs.Common.{◌≡◌, ◌∙◌, ◌++◌, List, ℕ, append_assoc, refl}
use Rattle.dac_bytes.specs.Spelling.{context_bytes}
use Rattle.dac_part_bytes.specs.Spelling.{permits_bytes, starts_bytes, lives_bytes, claims_bytes, drains_bytes}
use Rattle.dac_state.specs.StateSpelling.{state_bytes}
use Rattle.dac_state.proofs.state.State.write.Goals as goal

in_sequence : (w h k p s l c d : List ℕ) → ((((((w ++ h) ++ k) ++ p) ++ s) ++ l) ++ c) ++ d ≡ w ++ (h ++ k ++ p ++ s ++ l ++ c ++ d)
in_sequence w h k p s l c d = simp append_assoc refl

pub returns : goal.returns
unfolding state_bytes
returns c =
    let version = c.args.version in
    let state = c.args.self.now in
    let heard = c.in_ok-write_context.ensures.ok ∙ (λ i. c.args.writer ++ context_bytes version (c.heard.ensures i)) in
    let dots = c.in_ok-dots.ensures.ok ∙ (λ i. heard i ++ context_bytes version (c.known.ensures i)) in
    let permits = c.in_ok-permits.ensures ∙ (λ i. dots i ++ permits_bytes version (c.permissions.ensures i).standing) in
    let wishes = c.in_ok-wishes.ensures ∙ (λ i. permits i ++ starts_bytes version (c.wishes.ensures i).standing) in
    let lives = c.in_ok-lives.ensures ∙ (λ i. wishes i ++ lives_bytes version (c.lives.ensures i)) in
    let claims = c.in_ok-claims.ensures ∙ (λ i. lives i ++ claims_bytes version (c.claims.ensures i)) in
    c.in_ok-whole.ensures
    ∙ (λ i. claims i ++ drains_bytes version (c.drains.ensures i).standing)
    ∙ in_sequence c.args.writer (context_bytes version state.heard) (context_bytes version state.known) (permits_bytes version state.permits) (starts_bytes version state.starts)
    (lives_bytes version state.lives) (claims_bytes version state.claims) (drains_bytes version state.drains)
