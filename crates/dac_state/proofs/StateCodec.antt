-- States have a codec if their parts have one.
use Rattle.std.specs.Prelude.{◌≡◌, ℕ, cond, List, ◌++◌, Ok, refl}
use Rattle.std.specs.FinSet as set
use Rattle.std.proofs.Common.{sym, ◌∙◌, append_assoc}
use Rattle.dac_origins.specs.Dots.{Dots}
use Rattle.dac_origins.specs.laws.Dots.{dots_total}
use Rattle.dac_part_bytes.specs.Table.{Table, node_count}
use Rattle.dac_bytes.specs.declared.fault.ReadFault.{ReadFault}
use Rattle.dac_bytes.specs.declared.fault.ReadFaultKind.TheVariants.{NotKnown}
use Rattle.dac_bytes.specs.Takes.{IsCodec, Passes}
use Rattle.dac_bytes.specs.laws.Codecs.{bind_bind, codec_alike, codec_same, codec_wanted, codec_both, codec_pair, wanted_at}
use Rattle.dac_bytes.specs.Ranges.{IsContext}
use Rattle.dac_bytes.specs.Reading.{Rest, Field, ◌>>=◌, fault, context_at}
use Rattle.dac_bytes.specs.Spelling.{context_bytes}
use Rattle.dac_part_bytes.specs.ChainForm.{AreLivesInForm, AreClaimsInForm}
use Rattle.dac_part_bytes.specs.KeyedForm.{ArePermitsInForm, AreStartsInForm, AreDrainsInForm}
use Rattle.dac_part_bytes.specs.Reading.{all_permits_at, all_starts_at, all_lives_at, all_claims_at, all_drains_at}
use Rattle.dac_part_bytes.specs.Spelling.{permits_bytes, starts_bytes, lives_bytes, claims_bytes, drains_bytes}
use Rattle.dac_part_bytes.specs.PartCodecs.{PartCodecs}
use Rattle.dac_state.specs.StateForm.{IsInForm}
use Rattle.dac_state.proofs.StatePieces.{dots_bytes, standing_bytes, chains_bytes, chains_and_drains_bytes, pieces_bytes, AreDots, AreStanding, AreChains, AreChainsAndDrains, ArePieces}
use Rattle.dac_state.specs.StateReading.{dots_at, standing_at, chains_at, chains_and_drains_at, pieces_at, parts_at, state_from}
use Rattle.dac_state.specs.StateSpelling.{state_bytes}
use Rattle.dac_bytes.specs.declared.version.Version.{Version}

regroup : (a b c d e f g : List ℕ) → (a ++ b) ++ ((c ++ d) ++ ((e ++ f) ++ g)) ≡ (((((a ++ b) ++ c) ++ d) ++ e) ++ f) ++ g
regroup a b c d e f g = sym (simp append_assoc)

module _ (version : Version) (t : Table) (parts : PartCodecs version t) where
  abbrev nodes : ℕ
  nodes = node_count t

  -- ---- the dots heard and known

  abbrev contexts_at : Rest → Field (Dots × Dots)
  contexts_at r = context_at version nodes r >>= λ heard. context_at version nodes heard.1 >>= λ known. Ok ((heard.0, known.0), known.1)

  abbrev AreContexts : Dots × Dots → Type 0
  AreContexts d = IsContext version nodes d.0 × IsContext version nodes d.1

  contexts_codec : IsCodec contexts_at (dots_bytes version) AreContexts
  contexts_codec =
      codec_pair (context_at version nodes) (context_bytes version) (IsContext version nodes) parts.fields.context (λ _ r. context_at version nodes r) (λ _. context_bytes version) (λ _. IsContext version nodes) (λ _ _. parts.fields.context)

  dots_alike : (r : Rest) → dots_at version nodes r ≡ (contexts_at r >>= λ d. cond (set.is_subset d.0.0 d.0.1) (Ok d) (fault NotKnown d.1))
  unfolding dots_at
  dots_alike r =
      let test = λ (d : (Dots × Dots) × Rest). cond (set.is_subset d.0.0 d.0.1) (Ok d) (fault NotKnown d.1) in
      sym (bind_bind (context_at version nodes r) (λ heard. context_at version nodes heard.1 >>= λ known. Ok ((heard.0, known.0), known.1)) test
      ∙ (λ i. context_at version nodes r >>= λ heard. bind_bind (context_at version nodes heard.1) (λ known. Ok ((heard.0, known.0), known.1)) test i))

  dots_codec : IsCodec (dots_at version nodes) (dots_bytes version) (AreDots version nodes)
  dots_codec =
      let good = λ (d : Dots × Dots). set.is_subset d.0 d.1 in
      let wrong : Rest → (Dots × Dots) × Rest → ReadFault = λ _ d. record { kind = NotKnown; at = d.1.at } in
      codec_same (dots_at version nodes) (dots_bytes version) (Passes AreContexts good)
      (codec_alike (wanted_at contexts_at (dots_bytes version) AreContexts contexts_codec good wrong) (dots_at version nodes) (dots_bytes version) (Passes AreContexts good) dots_alike (codec_wanted contexts_at (dots_bytes version) AreContexts contexts_codec good wrong))
      (AreDots version nodes)
      (λ d is. (is.0, set.is_subset-contains dots_total d.0 d.1 is.1)) (λ d is. (is.0, set.contains-is_subset dots_total d.0 d.1 is.1))

  -- ---- the pieces

  standing_codec : (known : Dots) → IsCodec (standing_at version t known) (standing_bytes version) (AreStanding version t known)
  unfolding standing_at
  standing_codec known =
      codec_pair (all_permits_at version t known) (permits_bytes version) (ArePermitsInForm version t known) (parts.permits known)
      (λ _ r. all_starts_at version t known r) (λ _. starts_bytes version) (λ _. AreStartsInForm version t known) (λ _ _. parts.starts known)

  chains_codec : IsCodec (chains_at version t) (chains_bytes version) (AreChains version t)
  unfolding chains_at
  chains_codec =
      codec_pair (all_lives_at version nodes) (lives_bytes version) (AreLivesInForm version nodes) parts.lives (λ _ r. all_claims_at version t r) (λ _. claims_bytes version) (λ _. AreClaimsInForm version t) (λ _ _. parts.claims)

  chains_and_drains_codec : (known : Dots) → IsCodec (chains_and_drains_at version t known) (chains_and_drains_bytes version) (AreChainsAndDrains version t known)
  unfolding chains_and_drains_at
  chains_and_drains_codec known =
      codec_pair (chains_at version t) (chains_bytes version) (AreChains version t) chains_codec
      (λ _ r. all_drains_at version t known r) (λ _. drains_bytes version) (λ _. AreDrainsInForm version t known) (λ _ _. parts.drains known)

  pieces_codec : (known : Dots) → IsCodec (pieces_at version t known) (pieces_bytes version) (ArePieces version t known)
  unfolding pieces_at
  pieces_codec known =
      codec_pair (standing_at version t known) (standing_bytes version) (AreStanding version t known) (standing_codec known)
      (λ _ r. chains_and_drains_at version t known r) (λ _. chains_and_drains_bytes version) (λ _. AreChainsAndDrains version t known) (λ _ _. chains_and_drains_codec known)

  -- ---- the state

  -- A state that is read is well-formed, with these bytes as its spelling, and each well-formed one is read from its
  -- spelling.
  pub state_codec : IsCodec (parts_at version t) (state_bytes version) (IsInForm version t)
  unfolding parts_at state_bytes
  state_codec =
      codec_both (dots_at version nodes) (dots_bytes version) (AreDots version nodes) dots_codec (λ dots r. pieces_at version t dots.1 r) (λ _. pieces_bytes version) (λ dots. ArePieces version t dots.1) (λ dots _. pieces_codec dots.1)
      state_from (state_bytes version) (IsInForm version t)
      (λ d p is so. (
        regroup (context_bytes version d.0) (context_bytes version d.1) (permits_bytes version p.0.0) (starts_bytes version p.0.1) (lives_bytes version p.1.0.0) (claims_bytes version p.1.0.1) (drains_bytes version p.1.1),
        record { heard = is.0.0; known = is.0.1; within = is.1; permits = so.0.0; starts = so.0.1; lives = so.1.0.0; claims = so.1.0.1; drains = so.1.1 },
      ))
      (λ s is. (
        (s.heard, s.known),
        ((s.permits, s.starts), ((s.lives, s.claims), s.drains)),
        ((is.heard, is.known), is.within),
        ((is.permits, is.starts), ((is.lives, is.claims), is.drains)),
        refl,
      ))
