use Rattle.std.proofs.Common.{◌∙◌, ◌∷◌, ap, sym}
use Rattle.lc_glob.specs.Pieces.{pieces_left, pieces_of}
use Rattle.lc_text.proofs.LinesOf.{input_paths_of-first}
use Rattle.lc_text.proofs.lines.split_path.Goals as goal

pub returns-in-Some-clause-paths : goal.returns-in-Some-clause-paths
returns-in-Some-clause-paths c =
    let path = c.cut_at_first.result.0.now in
    input_paths_of-first c.args.end c.args.bytes.now path c.in-Some.rest.now
    (ap (λ end. pieces_of end c.args.bytes.now) (sym c.end_byte.ensures) ∙ c.cut_at_first.ensures.pieces
    ∙ ap (λ others. path ∷ pieces_left c.end_byte.result others) c.in-Some.is
    ∙ ap (λ end. path ∷ pieces_of end c.in-Some.rest.now) c.end_byte.ensures)
