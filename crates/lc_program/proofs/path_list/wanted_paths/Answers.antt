use Rattle.std.proofs.Common.{◌∙◌, ℕ, List, Bor, Ok, ap, inr, map, subst₂, sym}
use Rattle.std.specs.List.{list_any}
use Rattle.lc_text.specs.PathLines.{is_top}
use Rattle.lc_program.specs.PathLists.{AnswersNamed}
use Rattle.lc_program.proofs.path_list.wanted_paths.Goals as goal

pub returns-then-has_top : goal.returns-then-has_top
returns-then-has_top c =
    inr (
      c.in_ok-paths.paths,
      subst₂ (λ only end. AnswersNamed (map (λ path. path.now) only) c.args.walk.now.only_from end c.args.list.now (Ok c.in_ok-paths.paths))
          c.deref.ensures.value c.path_end-end.ensures c.in_ok-paths.ensures,
      ap (list_any (λ (path : Bor (List ℕ)). is_top path.now)) (sym c.deref-2.ensures.value)
          ∙ (sym c.has_top.ensures ∙ c.if-has_top.true),
    )
