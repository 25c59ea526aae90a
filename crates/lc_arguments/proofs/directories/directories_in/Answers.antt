use Rattle.std.proofs.Common.{◌∙◌, ap, codes, refl, sym}
use Rattle.clap.specs.{Matches.found_of, Walk.rows_of}
use Rattle.lc_arguments.specs.Directories.{or_default}
use Rattle.lc_arguments.proofs.{AskedDirectories.names_lent, Misnaming.{none_wrong, one_wrong, refused_for}, WordFaults.texts_of}
use Rattle.lc_arguments.proofs.directories.directories_in.Goals as goal

pub returns-in-None : goal.returns-in-None
returns-in-None c =
    let f = found_of c.args.matches.now in
    let are = c.in-Ok.ensures ∙ ap (or_default (codes ".")) (texts_of (rows_of f) f (codes "DIR") c.get_strs.result _
    c.unwrap_or-words.result refl c.get_strs.ensures refl c.unwrap_or-words.ensures) in (
      are,
      sym (names_lent _ c.in-Ok.directories.items are)
          ∙ none_wrong _ (rw (c.in-None.is, c.deref.ensures.value) at c.given_twice.ensures),
    )

pub returns : goal.returns
returns c =
    let f = found_of c.args.matches.now in
    let are = c.in-Ok.ensures ∙ ap (or_default (codes ".")) (texts_of (rows_of f) f (codes "DIR") c.get_strs.result _
    c.unwrap_or-words.result refl c.get_strs.ensures refl c.unwrap_or-words.ensures) in
    refused_for _ c.unfit_word.result c.unfit_word.ensures
    (sym (names_lent _ c.in-Ok.directories.items are)
    ∙ one_wrong _ (rw (c.in-Some.is, c.deref.ensures.value) at c.given_twice.ensures))
