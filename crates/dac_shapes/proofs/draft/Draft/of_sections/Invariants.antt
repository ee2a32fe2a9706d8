use Rattle.std.proofs.Common.{◌≡◌, fold}
use Rattle.dac_shapes.specs.laws.Common.{put_section, unsaid, draft_of, names_of, sections_of}
use Rattle.dac_shapes.proofs.draft.Draft.of_sections.Given as goal

abbrev pub invariant-loop-section : goal.invariant-loop-section
invariant-loop-section l = draft_of l.draft ≡ fold put_section (unsaid (names_of l.fn.nodes.items)) (sections_of l.yielded)
