use Rattle.std.proofs.Common.{ℕ, List, Some, inl, inr, map, subst}
use Rattle.clap.specs.{Walk.{rows_of}, declared.parser.matches.Found.Found}
use Rattle.lc_arguments.specs.{Combinations.fits, Explained.{IsParsedAs, IsRefusedFor}, Words.{AskNothing, AsksNothing, IsAskedBy}}
use Rattle.lc_arguments.specs.declared.{option_row.Subcommand.Subcommand, request.ParseExit.{ParseExit, TheVariants.{Shown, Refused, Memory}}}
use Rattle.lc_arguments.proofs.Misnaming.{none_wrong, nothing_by, one_wrong, refused_for, refused_with}
use Rattle.lc_arguments.proofs.request.read_command.Goals as goal

-- values that clap found, and that request nothing
nothing_in : (command : Subcommand) (words : List (List ℕ)) (found : Found) → IsParsedAs command words found → (why : ParseExit)
    → IsRefusedFor (AsksNothing command (rows_of found)) why → AskNothing (Some command) words why
nothing_in command words found parsed (Shown _) bad = absurd bad
nothing_in command words found parsed (Refused _) bad = inr (parsed.faults, subst (AsksNothing command) parsed.rows bad)
nothing_in command words found parsed Memory bad = tt

pub returns-in-Err : goal.returns-in-Err
returns-in-Err g c = nothing_by (Some c.args.command) (map g.W.AsStr.text c.args.words.now) c.in-Err.no c.in-Err.ensures

pub returns-in-Err-request_in : goal.returns-in-Err-request_in
returns-in-Err-request_in g c =
    nothing_in c.args.command _ _ c.in-Ok.ensures c.in-Err-request_in.no (refused_with _ _ _ inl c.in-Err-request_in.ensures)

pub returns-in-None : goal.returns-in-None
returns-in-None g c =
    let parsed = c.in-Ok.ensures in
    let request = c.in-Ok-request_in.request in (
      parsed.faults,
      (
        subst (λ rows. IsAskedBy c.args.command rows request) parsed.rows (c.in-Ok-request_in.ensures parsed.numbers),
        none_wrong (fits request) (rw c.in-None.is at c.misfit.ensures),
      ),
    )

pub returns : goal.returns
returns g c =
    let parsed = c.in-Ok.ensures in
    let request = c.in-Ok-request_in.request in
    nothing_in c.args.command _ _ parsed c.unfit.result (refused_for _ _ c.unfit.ensures
    (inr (request, c.in-Ok-request_in.ensures parsed.numbers, one_wrong (fits request) (rw c.in-Some.is at c.misfit.ensures))))
