use Rattle.std.proofs.Common.{◌≡◌, ◌++◌, map, take, drop}
use Rattle.lc_languages.specs.InLanguages.{in_language}
use Rattle.lc_languages.proofs.report_languages.in_languages.Given as goal

abbrev pub invariant-loop-file : goal.invariant-loop-file
invariant-loop-file l =
    take l.file-index l.file-items ++ map (in_language l.languages l.place) (drop l.file-index l.file-items)
    ≡ map (in_language l.languages l.place) l.fn.report.files.items
