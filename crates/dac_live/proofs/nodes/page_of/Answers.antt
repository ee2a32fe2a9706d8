use Rattle.std.proofs.Common.{List, Bor, Option, map, All, IfSome, subst}
use Rattle.dac_live.proofs.Common.{Page, beginning_of, IsPageOf, pages_read}
use Rattle.std.proofs.lemmas.List.Sorted.{All-permutation, IsPermutation-sym}
use Rattle.dac_live.proofs.nodes.page_of.Goals as goal

pub returns-in-Some-clause-reads : goal.returns-in-Some-clause-reads
returns-in-Some-clause-reads c =
    let P = IsPageOf (beginning_of c.args.config.now c.args.me 0) c.args.closed.now.records in
    let now = λ (p : Bor Page). p.now in
    let all = c.in_ok-all.all.items in
    let read = pages_read c.args.me.0 c.args.phases.now c.args.reads.now in
    All-permutation P (map now all) read (IsPermutation-sym read (map now all) c.in_ok-all.ensures)
    (subst (λ (ps : List (Bor Page)). All P (map now ps)) c.as_slice.ensures.value
    (subst (λ (o : Option Page). IfSome o (λ _. All P (map now c.as_slice.result.now))) c.in-Some.is c.in_ok-page.ensures.reads))
