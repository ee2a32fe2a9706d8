use Rattle.std.proofs.Common.{◌≡◌}
use Rattle.dac_shapes.specs.laws.Common.{put_all, draft_of, params_of}
use Rattle.dac_shapes.proofs.draft.Draft.put_section.Given as goal

abbrev pub invariant-loop-param : goal.invariant-loop-param
invariant-loop-param l = draft_of l.self ≡ put_all (draft_of l.fn.self) (params_of l.yielded)
