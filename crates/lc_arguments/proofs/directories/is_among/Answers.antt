use Rattle.std.proofs.{Common.{◌∙◌, sym}, lemmas.{Bool.Decides.Decides-eqb, List.Folds.list_any_at}}
use Rattle.std.proofs.lemmas.Slice.Eq.{bytes_eq-Decides, slice_eq-Decides}
use Rattle.std.specs.Str.{bytes_eq}
use Rattle.clap.proofs.WalkLemmas.{list_any-map}
use Rattle.lc_arguments.specs.Directories.{unslashed}
use Rattle.lc_arguments.proofs.directories.is_among.Goals as goal

pub returns-then-eq : goal.returns-then-eq
returns-then-eq c =
    let directories = c.args.directories.now in
    let same = (slice_eq-Decides Decides-eqb _ _ _ c.eq.ensures).0 c.if-eq.true ∙ c.unslashed.ensures in
    sym (sym (list_any-map (bytes_eq c.args.name.now) (λ directory. unslashed directory.now) directories)
    ∙ list_any_at (λ directory. bytes_eq c.args.name.now (unslashed directory.now)) directories c.loop-directory.directory-index _
    c.loop-directory-test.true ((bytes_eq-Decides _ _).1 same))
