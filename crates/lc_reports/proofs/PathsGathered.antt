-- The paths of reports, gathered one report after another.
use Rattle.std.proofs.Common.{◌≡◌, ℕ, ◌-◌, ◌≤◌, List, [], ◌∷◌, ◌++◌, length, get_or, map, take, drop, sym, ◌∙◌, ap, ap₂, arith}
use Rattle.std.proofs.{Common.{append_assoc, take_all}, lemmas.List.Concat.flat_map-cons}
use Rattle.lc_level.specs.Level.{FileLineModel}
use Rattle.lc_reports.specs.{Paths.paths_of, declared.part.Part.Part}

abbrev paths_in : Part → List (List ℕ)
paths_in p = map (λ (f : FileLineModel). f.path) p.report.files.items

-- the paths so far and those of the first report, and then those of the other reports
pub next_gathered : (front new all : List (List ℕ)) (files : List FileLineModel) (rest : List Part) (p d : Part) → 1 ≤ length rest
    → p ≡ get_or rest 0 d → files ≡ p.report.files.items → new ≡ front ++ map (λ (f : FileLineModel). f.path) files
    → front ++ paths_of rest ≡ all → new ++ paths_of (take (length rest - 1) (drop 1 rest)) ≡ all
next_gathered front new all files [] p d some first lent more so_far = absurd (omega arith)
next_gathered front new all files (r ∷ rs) p d some first lent more so_far =
    let own : map (λ (f : FileLineModel). f.path) files ≡ paths_in r =
    ap (λ l. map (λ (f : FileLineModel). f.path) l) lent ∙ ap paths_in first in
    ap₂ (λ l ps. l ++ paths_of ps) (more ∙ ap (λ l. front ++ l) own) (take_all (length (r ∷ rs) - 1) rs (omega arith))
    ∙ append_assoc front (paths_in r) (paths_of rs) ∙ ap (λ l. front ++ l) (sym (flat_map-cons paths_in r rs)) ∙ so_far
