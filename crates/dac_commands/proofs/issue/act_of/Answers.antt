use Rattle.std.proofs.Common.{◌≡◌, None, subst}
use Rattle.dac_base.specs.declared.AppId.{AppId}
use Rattle.dac_origins.specs.declared.dot.Origin.{Origin}
use Rattle.dac_placement.specs.StateValue.{StateValue}
use Rattle.dac_config.specs.Table.{Table}
use Rattle.dac_events.specs.declared.Command.{Command}
use Rattle.dac_events.specs.declared.Command.TheVariants.{Takeover}
use Rattle.dac_commands.specs.Causes.{refusal_of_command}
use Rattle.dac_commands.proofs.Issues.{MayTake, may_take}
use Rattle.dac_commands.proofs.issue.act_of.Goals as goal

may_take_by : (t : Table) (own : Origin) (s : StateValue) (c : Command) (app : AppId) → c ≡ Takeover app → refusal_of_command t own s c ≡ None → MayTake t own s app
may_take_by t own s c app is e = may_take t own s app (subst (λ c. refusal_of_command t own s c ≡ None) is e)

pub runner-from-requires : goal.runner-from-requires
runner-from-requires c = (may_take_by c.args.config.now c.requires.0 c.args.state.now c.args.command c.in-Takeover.app c.in-Takeover.is c.requires.1).named

pub claim_act-requires : goal.claim_act-requires
claim_act-requires c = (may_take_by c.args.config.now c.requires.0 c.args.state.now c.args.command c.in-Takeover.app c.in-Takeover.is c.requires.1).terms
