use Rattle.std.proofs.Common.{List, ℕ, refl, subst}
use Rattle.clap.specs.{Matches.found_of, Walk.rows_of}
use Rattle.lc_arguments.specs.{Explained.AnswersRepeated, Repeated.id_of}
use Rattle.lc_arguments.proofs.WordFaults.{texts_of}
use Rattle.lc_arguments.proofs.repeated.values_in.Goals as goal

pub returns : goal.returns
returns c =
    let f = found_of c.args.matches.now in
    let values = texts_of (rows_of f) f (id_of c.args.option) c.get_strs.result _ c.unwrap_or-values.result refl
    (rw c.name.ensures at c.get_strs.ensures) refl c.unwrap_or-values.ensures in
    subst (λ (texts : List (List ℕ)). AnswersRepeated c.args.option texts c.allowed.result) values c.allowed.ensures
