-- Each field and each part has a codec, provided that node numbers fit one byte and application numbers two.
use Rattle.std.specs.Prelude.{◌<◌, ◌≤◌, ◌^◌}
use Rattle.std.proofs.Common.{arith}
use Rattle.dac_part_bytes.proofs.Common.{Table, node_count, app_count, Version}
use Rattle.dac_bytes.specs.FieldCodecs.{FieldCodecs}
use Rattle.dac_part_bytes.specs.PartCodecs.{PartCodecs}
use Rattle.dac_part_bytes.proofs.Apps.{app_takes, app_again}
use Rattle.dac_part_bytes.proofs.ChainClaims.{manner_takes, manner_again}
use Rattle.dac_part_bytes.proofs.ChainLaws.{lives_takes, lives_again, claims_takes, claims_again}
use Rattle.dac_part_bytes.proofs.KeyFields.{key_takes, key_again}
use Rattle.dac_part_bytes.proofs.KeyedLaws.{permits_codec, drains_codec, starts_takes, starts_again}

module _ (version : Version) (t : Table) (few_nodes : node_count t < 2 ^ 8) (few_apps : app_count t ≤ 2 ^ 16) where
  pub part_codecs : FieldCodecs version (node_count t) → PartCodecs version t
  part_codecs fields = record {
    fields = fields;
    app = record { takes = app_takes (app_count t); again = app_again (app_count t) few_apps };
    key = λ before. record { takes = key_takes version t before; again = key_again version t (omega arith) few_apps before };
    manner = record { takes = manner_takes (node_count t); again = manner_again (node_count t) few_nodes };
    permits = λ known. permits_codec t known (omega arith) version few_apps;
    starts = λ known. record { takes = starts_takes version t known; again = starts_again version t known (omega arith) few_apps };
    lives = record { takes = lives_takes version (node_count t); again = lives_again version (node_count t) (omega arith) };
    claims = record { takes = claims_takes version t; again = claims_again version t few_nodes few_apps };
    drains = λ known. drains_codec t known (omega arith) version fields;
  }
