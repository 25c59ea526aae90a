use Rattle.std.proofs.Common.{◌≡◌, ◌∙◌, ℕ, List, IfOk, ap, string_bytes, subst, sym}
use Rattle.std.specs.Path.{path_bytes, path_file_name, path_parent}
use Rattle.lc_program.proofs.CountsShown.{file_counted}
use Rattle.lc_program.specs.Commands.{count_of_file, or_here}
use Rattle.lc_program.proofs.commands.file_count.Goals as goal

pub returns-in-Some-Some : goal.returns-in-Some-Some
returns-in-Some-Some c =
    let name = c.in-Some-Some.name.now in
    let directory = path_bytes c.in-Some-Some.directory in
    subst (λ (count : List ℕ). IfOk c.count_of_file.result (λ text. string_bytes text ≡ count))
    (ap (count_of_file name) (c.or_here.ensures ∙ ap or_here c.as_str.ensures)
    ∙ sym (file_counted c.args.path.now name directory (ap path_file_name (sym c.new-path.ensures) ∙ sym c.in-Some-Some.ensures)
    (ap path_parent (sym c.new-path.ensures) ∙ sym c.in-Some-Some.ensures')))
    c.count_of_file.ensures
