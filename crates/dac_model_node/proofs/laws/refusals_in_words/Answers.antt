use Rattle.dac_model_node.specs.laws.Refused.{free_is, refused_is, never_memory}
use Rattle.dac_model_node.specs.laws.RefusedInOrder.{off_comes_first, strangers_are_named, own_is_on_self, others_are_not_for_me, time_runs}
use Rattle.dac_model_node.proofs.laws.refusals_in_words.Goals as goal

pub returns-clause-least : goal.returns-clause-least
returns-clause-least c = refused_is

pub returns-clause-free : goal.returns-clause-free
returns-clause-free c = free_is

pub returns-clause-memory : goal.returns-clause-memory
returns-clause-memory c = never_memory

pub returns-clause-off : goal.returns-clause-off
returns-clause-off c = off_comes_first

pub returns-clause-strangers : goal.returns-clause-strangers
returns-clause-strangers c = strangers_are_named

pub returns-clause-own : goal.returns-clause-own
returns-clause-own c = own_is_on_self

pub returns-clause-addressed : goal.returns-clause-addressed
returns-clause-addressed c = others_are_not_for_me

pub returns-clause-moments : goal.returns-clause-moments
returns-clause-moments c = time_runs
