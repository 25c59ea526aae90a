use Rattle.std.proofs.Common.{map, Ok}
use Rattle.lc_arguments.specs.CommandLine.{command_app}
use Rattle.lc_arguments.proofs.WordFaults.{command_is_free, command_is_simple, fails_as, matches_as, no_request_of}
use Rattle.lc_arguments.proofs.option_row.Subcommand.parsed.Goals as goal

pub returns-in-Ok-try_get_matches_from : goal.returns-in-Ok-try_get_matches_from
returns-in-Ok-try_get_matches_from g c =
    let s = c.args.self in
    let words = map g.W.AsStr.text c.args.words.now in
    let m = c.in-Ok-try_get_matches_from.matches in
    let parse = c.in-Ok-try_get_matches_from.ensures in
    record {
      faults = fails_as c.in-Ok.command (command_app s) words (Ok m) c.in-Ok.ensures.0.0 (command_is_free s) parse.kinds;
      rows = matches_as c.in-Ok.command (command_app s) words m c.in-Ok.ensures.0.0 (command_is_simple s) parse.matches;
      numbers = c.in-Ok.ensures.1 m parse.parsed;
    }

pub returns-in-Err : goal.returns-in-Err
returns-in-Err g c =
    no_request_of c.in-Ok.command (command_app c.args.self) (map g.W.AsStr.text c.args.words.now) c.in-Err.error c.explained.result
    c.in-Ok.ensures.0.0 (command_is_free c.args.self) c.in-Err.ensures.kinds c.explained.ensures
