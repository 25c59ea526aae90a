use Rattle.std.proofs.Common.{List, ℕ, codes, refl, subst}
use Rattle.clap.specs.{Matches.found_of, Walk.rows_of}
use Rattle.lc_arguments.specs.Explained.{AnswersPaths}
use Rattle.lc_arguments.proofs.WordFaults.{texts_of}
use Rattle.lc_arguments.proofs.paths.paths_in.Goals as goal

pub returns : goal.returns
returns c =
    let f = found_of c.args.matches.now in
    let words = texts_of (rows_of f) f (codes "only") c.get_strs.result _ c.unwrap_or-words.result refl c.get_strs.ensures refl
    c.unwrap_or-words.ensures in
    subst (λ (texts : List (List ℕ)). AnswersPaths texts c.paths_of.result) words c.paths_of.ensures
