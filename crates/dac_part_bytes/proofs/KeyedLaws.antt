-- The codecs of permits, drains and start wishes: a part that is read is well-formed, with these bytes as its spelling,
-- and each well-formed one is read from its spelling.
use Rattle.std.specs.Prelude.{◌≡◌, ℕ, ◌^◌, ◌≤◌, List, Option, Ok, refl}
use Rattle.std.proofs.Common.{sym, ap, subst, arith}
use Rattle.dac_part_bytes.proofs.Common.{◌+◌, Ordering, IsTotalOrder, CmpEqualImpliesEq, Dots, origins_total, Flag, Up, Down, keys_total, starts_by_key, Table, node_count, app_count, IsOrigin, Rest, Field, is_above, origin_bytes, TakesAs, Again, TakesAs-made, Again-made, Version, Two, key_above_at, votes_of_key_at, key_bytes, votes_bytes, starts_bytes, IsKey, AreStartsInForm}
use Rattle.std.specs.FinMap as map
use Rattle.dac_origins.specs.laws.Dots.{exact_origins}
use Rattle.dac_wishes.specs.laws.Keys.{exact_keys}
use Rattle.dac_wishes.specs.Writes.{Writes}
use Rattle.dac_wishes.specs.DrainsValue.{Drains}
use Rattle.dac_wishes.specs.StoredVotes.{votes_of}
use Rattle.dac_wishes.specs.VotesByKey.{votes_by_key}
use Rattle.dac_wishes.specs.laws.VotesByKey.{votes_by_key_again}
use Rattle.dac_wishes.specs.StoredWishes.{writes_of}
use Rattle.dac_wishes.specs.laws.StartsByKey.{writes_again}
use Rattle.dac_bytes.specs.FieldCodecs.{FieldCodecs}
use Rattle.dac_bytes.specs.Reading.{origin_above_at}
use Rattle.dac_bytes.specs.Takes.{IsCodec, Passes, Takes}
use Rattle.dac_bytes.specs.laws.Takes.{Takes-none, ok_is}
use Rattle.dac_bytes.specs.declared.version.Version.TheVariants.{One}
use Rattle.dac_bytes.specs.laws.Codecs.{codec_made}
use Rattle.dac_part_bytes.specs.Reading.{votes_by_key_at, all_votes_at, all_permits_at, all_drains_at, starts_by_key_at, all_starts_at}
use Rattle.dac_part_bytes.specs.Spelling.{permits_bytes, drains_bytes}
use Rattle.dac_part_bytes.specs.KeyedForm.{AreVotesInForm, ArePermitsInForm, AreDrainsInForm}
use Rattle.dac_part_bytes.proofs.KeyFields.{key_takes, key_again}
use Rattle.dac_part_bytes.proofs.KeyedLists.{AreStartsByKey, starts_list_bytes, starts_list_takes, starts_list_again}
use Rattle.dac_part_bytes.proofs.VoteLists.{AreVotesByKey, votes_list_bytes, votes_list_codec}
use Rattle.dac_part_bytes.proofs.KeyedVotes as votes_parts
use Rattle.dac_part_bytes.proofs.KeyedStarts as starts_parts

-- ---- votes

module _ {K : Type 0} {R : K → K → Ordering} (total : IsTotalOrder R) (exact : CmpEqualImpliesEq R) (key_above : Option K → Rest → Field K) (key_text : K → List ℕ) (IsKeyOf : K → Type 0)
    (keys : (before : Option K) → IsCodec (key_above before) key_text (Passes IsKeyOf (is_above R before))) where
  -- Votes have a codec if their keys have one.
  pub votes_codec : (version : Version) (t : Table) (known : Dots) (truth : Flag) → node_count t ≤ 2 ^ 8
      → IsCodec (all_votes_at R key_above (votes_of_key_at version (node_count t) known truth)) (votes_bytes R key_text version truth) (AreVotesInForm R IsKeyOf version t known)
  unfolding all_votes_at votes_bytes
  votes_codec version t known truth few_nodes =
      codec_made (votes_by_key_at key_above (votes_of_key_at version (node_count t) known truth)) (votes_list_bytes key_text version truth) (AreVotesByKey R IsKeyOf version t known)
      (votes_list_codec version t known truth few_nodes total key_above key_text IsKeyOf keys)
      (λ m. votes_of R m) (votes_bytes R key_text version truth) (AreVotesInForm R IsKeyOf version t known)
      (λ m is. (ap (votes_list_bytes key_text version truth) (sym (votes_parts.list_again total exact IsKeyOf version t known m is)), votes_parts.votes_in_form total exact IsKeyOf version t known m is))
      (λ votes is. (votes_by_key R votes, votes_parts.list_in_form total exact IsKeyOf version t known votes is, votes_by_key_again total exact votes))

module _ (t : Table) (known : Dots) (few_nodes : node_count t ≤ 2 ^ 8) where
  pub permits_codec : (version : Version) → app_count t ≤ 2 ^ 16 → IsCodec (all_permits_at version t known) (permits_bytes version) (ArePermitsInForm version t known)
  permits_codec version few_apps =
      votes_codec keys_total exact_keys (key_above_at version t) (key_bytes version) (IsKey version t)
      (λ before. record { takes = key_takes version t before; again = key_again version t few_nodes few_apps before }) version t known Up few_nodes

  -- version one has neither drains nor bytes for them
  no_drains_codec : IsCodec (all_drains_at One t known) (drains_bytes One) (AreDrainsInForm One t known)
  no_drains_codec = record {
    takes = λ r x fits e. subst (λ (x : Drains × Rest). Takes r (drains_bytes One x.0) x.1 × AreDrainsInForm One t known x.0) (ok_is (map.empty, r) x e) (Takes-none r fits, refl);
    again = λ drains none at rest.
        let start : at ≡ at + 0 = omega arith in
        λ i. Ok (sym none i, record { at = start i; bytes = rest });
  }

  -- Drains have a codec in each version.
  pub drains_codec : (version : Version) → FieldCodecs version (node_count t) → IsCodec (all_drains_at version t known) (drains_bytes version) (AreDrainsInForm version t known)
  drains_codec One fields = no_drains_codec
  drains_codec Two fields = votes_codec origins_total exact_origins (origin_above_at Two (node_count t)) (origin_bytes Two) (IsOrigin Two (node_count t)) fields.origin_above Two t known Down few_nodes

-- ---- start wishes

module _ (version : Version) (t : Table) (known : Dots) where
  -- Start wishes that are read are well-formed, with these bytes as their spelling.
  pub starts_takes : TakesAs (all_starts_at version t known) (starts_bytes version) (AreStartsInForm version t known)
  unfolding all_starts_at starts_bytes
  starts_takes =
      TakesAs-made (starts_by_key_at version t known) (starts_list_bytes version) (AreStartsByKey version t known) (λ m. writes_of m) (starts_bytes version) (AreStartsInForm version t known)
      (starts_list_takes version t known) (λ m is. (ap (starts_list_bytes version) (sym (starts_parts.list_again version t known m is)), starts_parts.starts_in_form version t known m is))

  -- node numbers fit one byte, and application numbers two
  module _ (few_nodes : node_count t ≤ 2 ^ 8) (few_apps : app_count t ≤ 2 ^ 16) where
    -- Well-formed start wishes are read from their spelling.
    pub starts_again : (writes : Writes) → AreStartsInForm version t known writes → Again (all_starts_at version t known) (starts_bytes version writes) writes
    unfolding all_starts_at starts_bytes
    starts_again writes is =
        let m = starts_by_key writes in
        subst (λ (w : Writes). Again (all_starts_at version t known) (starts_bytes version writes) w) (writes_again writes)
        (Again-made (starts_by_key_at version t known) (λ m. writes_of m) (starts_list_bytes version m) m (starts_list_again version t known few_nodes few_apps m (starts_parts.list_in_form version t known writes is)))
