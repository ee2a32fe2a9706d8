use Rattle.std.proofs.Common.{◌≡◌, ℕ, List, [], ◌∷◌, ◌++◌, codes, append_assoc, append-nil}
use Rattle.dac_config.specs.Canonical.{parted, list_text, pair_text, param_texts}
use Rattle.dac_config.proofs.Gaining.{then, as_text}
use Rattle.dac_config.proofs.config.Config.put.Goals as goal

in_file : (params : List ℕ) → codes "[{kernel,[" ++ (params ++ codes "]}].\n") ≡ list_text (pair_text (codes "kernel") (codes "[" ++ (params ++ codes "]")) ∷ []) ++ codes ".\n"
in_file params = simp (append_assoc, append-nil)

pub returns : goal.returns
returns g c = as_text (then c.put.ensures (then c.put_params.ensures c.put-2.ensures)) (in_file (parted (param_texts c.args.self.now)))
