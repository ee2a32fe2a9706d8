use Rattle.std.proofs.Common.{◌≡◌, ◌++◌, List, ℕ, Bor, codes, length, map, sym, ap, subst, ◌∙◌}
use Rattle.dac_script.specs.Script.{lines_of}
use Rattle.dac_live_play.specs.Recordings.{page_lines, phases_text, comment, IsPlaceholder, PhasesFit, IsLastOf}
use Rattle.dac_live_play.proofs.Common.{flat_map}
use Rattle.dac_live_play.proofs.Phased.{records_phases}
use Rattle.dac_live_play.proofs.recording.spelled.Goals as goal

pub returns : goal.returns
returns c =
    let table = c.args.config.now in
    let run = c.args.run.now in
    let count = length run.bounds.items in
    let placeholder = c.deref.result.now in
    let front = c.put_comments.new.text.items in
    let pages = c.put_page_lines.new.text.items in
    let same : c.deref-3.result.now ≡ placeholder = c.deref-3.ensures.value ∙ sym c.deref.ensures.value in
    let begun : c.extend_from_slice.new.self.items ≡ c.args.canonical.now ++ codes "--\n" = c.in_ok-extend_from_slice.ensures.items ∙ ap (λ (t : List ℕ). t ++ codes "--\n") c.in_ok-text.ensures.items in
    let lines : map (λ line. line.now) c.deref-2.result.now ≡ lines_of c.args.printed.now = ap (λ (l : List (Bor (List ℕ))). map (λ line. line.now) l) c.deref-2.ensures.value ∙ c.in_ok-lines.ensures in
    let told : c.put_phases.new.text.items ≡ front ++ phases_text table placeholder run count = c.in_ok-fit.ensures.text ∙ ap (λ (p : List ℕ). front ++ phases_text table p run count) same in
    records_phases table c.args.printed.now run placeholder c.args.canonical.now front c.extend_from_slice-2.new.self.items pages c.in_ok-fit.fit
    (subst (IsPlaceholder table) (sym c.deref.ensures.value) c.in_ok-placeholder.ensures)
    c.requires.canonical
    (c.in_ok-put_comments.ensures ∙ (λ k. begun k ++ flat_map comment (lines k)))
    (c.in_ok-put_page_lines.ensures ∙ ap (λ (t : List ℕ). t ++ page_lines table placeholder) c.new-pages.ensures.items)
    (c.in_ok-extend_from_slice-2.ensures.items ∙ (λ k. told k ++ c.deref-5.ensures.value k))
    (subst (λ (p : List ℕ). IsLastOf (PhasesFit table p run front pages) count c.in_ok-fit.fit) same
    (subst (λ (g : List ℕ). IsLastOf (PhasesFit table c.deref-3.result.now run front g) count c.in_ok-fit.fit) c.deref-4.ensures.value c.in_ok-fit.ensures.fit))
