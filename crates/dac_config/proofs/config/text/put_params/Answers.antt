use Rattle.std.proofs.Common.{◌≡◌, ℕ, List, ◌++◌, map, filter, not, codes, append_assoc}
use Rattle.dac_config.specs.Canonical.{name_text, separated_after, parted, pair_text, app_text, forbidden_text, wait_texts}
use Rattle.dac_config.proofs.Gaining.{then, as_text}
use Rattle.dac_config.proofs.config.text.put_params.Goals as goal

in_row : (apps bans mandatory optional wait : List ℕ) → codes "{distributed,[" ++ (apps ++ (codes "]},{permissions,[" ++ (bans ++ (codes "]},{sync_nodes_mandatory,[" ++ (mandatory ++ (codes "]},{sync_nodes_optional,[" ++ (optional ++ (codes "]}" ++ wait))))))))
    ≡ pair_text (codes "distributed") (codes "[" ++ (apps ++ codes "]")) ++ (codes "," ++ (pair_text (codes "permissions") (codes "[" ++ (bans ++ codes "]"))
    ++ (codes "," ++ (pair_text (codes "sync_nodes_mandatory") (codes "[" ++ (mandatory ++ codes "]")) ++ (codes "," ++ (pair_text (codes "sync_nodes_optional") (codes "[" ++ (optional ++ codes "]")) ++ wait))))))
in_row apps bans mandatory optional wait = simp append_assoc

pub returns : goal.returns
returns g c =
    let config = c.args.config.now in
    let wait = rw c.sync_wait.ensures at c.put_wait.ensures in
    as_text
    (then c.put.ensures (then c.put_apps.ensures (then c.put-2.ensures (then c.put_forbidden.ensures (then c.put-3.ensures (then c.put_sync_list.ensures
    (then c.put-4.ensures (then c.put_sync_list-2.ensures (then c.put-5.ensures wait)))))))))
    (in_row (parted (map (app_text config.nodes) config.apps)) (parted (map (λ row. forbidden_text row.name) (filter (λ row. not row.permission) config.apps))) (parted (map (λ row. name_text row.name) (filter (λ row. row.mandatory) config.nodes)))
    (parted (map (λ row. name_text row.name) (filter (λ row. row.optional) config.nodes))) (separated_after (codes ",") (wait_texts config.sync_wait)))
