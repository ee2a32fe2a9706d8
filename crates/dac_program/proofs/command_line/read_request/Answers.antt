use Rattle.std.proofs.Common.{◌≡◌, ap, ap₂, ◌∙◌, map, option_map, true, refl, Some, None, codes}
use Rattle.std.proofs.lemmas.Result.{err_from_is_err_and}
use Rattle.clap.specs.Words.{Text, takes, is_simple, subcommand_of, subcommand_name_of, subcommand_rows, subcommand_rows_of}
use Rattle.clap.specs.declared.parser.matches.ArgMatches.{ArgMatches}
use Rattle.clap.specs.declared.parser.matches.ArgMatches.TheViews.{out-ArgMatches, out-SubCommand}
use Rattle.std.specs.Box.{box_value}
use Rattle.clap.proofs.OnLiterals.{clap_on_literals}
use Rattle.dac_program.specs.CommandLine.{distac, check_words, sim_words, live_words, record_words, subcommand_in, request_in}
use Rattle.dac_program.proofs.command_line.read_request.Goals as goal

is_taken : (name : Text) → takes distac (sim_words name) ≡ true
unfolding clap_on_literals
is_taken name = refl

check_taken : (name : Text) → takes distac (check_words name) ≡ true
unfolding clap_on_literals
check_taken name = refl

is_check : (name : Text) → subcommand_in (check_words name) ≡ Some (codes "check")
unfolding clap_on_literals
is_check name = refl

is_sim : (name : Text) → subcommand_in (sim_words name) ≡ Some (codes "sim")
unfolding clap_on_literals
is_sim name = refl

live_taken : (name : Text) → takes distac (live_words name) ≡ true
unfolding clap_on_literals
live_taken name = refl

is_live : (name : Text) → subcommand_in (live_words name) ≡ Some (codes "live")
unfolding clap_on_literals
is_live name = refl

record_taken : (name : Text) → takes distac (record_words name) ≡ true
unfolding clap_on_literals
record_taken name = refl

is_record : (name : Text) → subcommand_in (record_words name) ≡ Some (codes "record")
unfolding clap_on_literals
is_record name = refl

is_plain : is_simple distac ≡ true
is_plain = refl

pub returns-in_err-matches-clause-check : goal.returns-in_err-matches-clause-check
returns-in_err-matches-clause-check c = λ name same.
    let p = err_from_is_err_and c.from_residual-in_err-matches.result c.from_residual-in_err-matches.ensures.1 in
    rw (p.1, p.2) (c.in_err-matches.ensures.passes (ap₂ takes c.in_ok-command.ensures same ∙ check_taken name))

pub returns-in_err-matches-clause-sim : goal.returns-in_err-matches-clause-sim
returns-in_err-matches-clause-sim c = λ name same.
    let p = err_from_is_err_and c.from_residual-in_err-matches.result c.from_residual-in_err-matches.ensures.1 in
    rw (p.1, p.2) (c.in_err-matches.ensures.passes (ap₂ takes c.in_ok-command.ensures same ∙ is_taken name))

pub returns-in_err-matches-clause-live : goal.returns-in_err-matches-clause-live
returns-in_err-matches-clause-live c = λ name same.
    let p = err_from_is_err_and c.from_residual-in_err-matches.result c.from_residual-in_err-matches.ensures.1 in
    rw (p.1, p.2) (c.in_err-matches.ensures.passes (ap₂ takes c.in_ok-command.ensures same ∙ live_taken name))

pub returns-in_err-matches-clause-recorded : goal.returns-in_err-matches-clause-recorded
returns-in_err-matches-clause-recorded c = λ name same.
    let p = err_from_is_err_and c.from_residual-in_err-matches.result c.from_residual-in_err-matches.ensures.1 in
    rw (p.1, p.2) (c.in_err-matches.ensures.passes (ap₂ takes c.in_ok-command.ensures same ∙ record_taken name))

-- a name in the matches is a name among the rows
named : (m : ArgMatches) → subcommand_name_of m ≡ option_map (λ p. p.0) (subcommand_rows_of m)
named m =
    elim ((out-ArgMatches m).subcommand) as (λ o. option_map (λ b. (out-SubCommand (box_value b)).name.now) o ≡ option_map (λ p. p.0) (subcommand_rows o)) [ None ↦ refl | Some b ↦ refl ]

pub returns : goal.returns
returns c =
    let rows = (c.in_ok-matches.ensures.matches (ap is_simple c.in_ok-command.ensures ∙ is_plain)).1 ∙ ap (λ a. subcommand_of a (map (λ word. word.now) c.args.words.now)) c.in_ok-command.ensures in
    let name_is = c.subcommand_name.ensures ∙ named c.in_ok-matches.matches ∙ ap (option_map (λ p. p.0)) rows in
    let request_is = c.request_of.ensures ∙ ap request_in name_is in
    record {
      request = request_is;
      check = λ name same. request_is ∙ ap request_in (ap subcommand_in same ∙ is_check name);
      sim = λ name same. request_is ∙ ap request_in (ap subcommand_in same ∙ is_sim name);
      live = λ name same. request_is ∙ ap request_in (ap subcommand_in same ∙ is_live name);
      recorded = λ name same. request_is ∙ ap request_in (ap subcommand_in same ∙ is_record name);
    }
