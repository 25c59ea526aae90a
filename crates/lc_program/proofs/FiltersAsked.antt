-- Options by the filters and the paths that words ask for.
use Rattle.std.proofs.Common.{◌≡◌, ◌∙◌, ℕ, List, Option, Some, None, Ok, Err, String, Vec, ap, inl, map, refl, subst, subst₂, sym}
use Rattle.std.specs.{Borrow.Bor, Global.Global, Prelude.string_bytes}
use Rattle.lc_arguments.specs.declared.walk_request.WalkRequest.{WalkRequest}
use Rattle.lc_io.specs.Reads.{Answer}
use Rattle.lc_level.specs.Filters.{FiltersModel, narrowed}
use Rattle.lc_sheet.specs.AttributeColumns.{attribute_of}
use Rattle.lc_text.specs.declared.lines.PathEnd.{PathEnd}
use Rattle.lc_walk.specs.declared.options.{Options.Options, ReportLists.ReportLists}
use Rattle.lc_program.specs.{Filters.AnswersFilters, PathLists.{AnswersWanted, GivesList, emptied_line, paths_wanted}, Styles.end_for}
use Rattle.lc_program.specs.{Systems.SystemMay, WalkRequests.{IsAskedBy, IsPrepared}}
use Rattle.lc_program.specs.declared.cause.Cause.TheVariants.{Memory}

-- memory may be refused to paths at any time
pub memory_wanted : (only : List (List ℕ)) (name : Option (Bor (List ℕ))) (end : PathEnd) (list : List ℕ)
    → AnswersWanted only name end list (Err Memory)
memory_wanted only None end list = refl
memory_wanted only (Some name) end list = tt

-- options by the filters, the list and the paths that words ask for, with these lists
pub walk_prepared : (may : SystemMay) {I : Type 0} (may_give : I → ℕ → Answer → I → Type 0) (w : WalkRequest)
    (columns : List (Bor (List ℕ))) (wanted given : ReportLists) (input read : I) (f g : FiltersModel) (list : Vec ℕ Global)
    (listed : List ℕ) (paths : Option (Vec (Bor (List ℕ)) Global)) (o : Options)
    → AnswersFilters may.hold may.unread w.filters (map (λ column. attribute_of column.now) columns) (Ok f)
    → GivesList may_give may.hold may.unread w.only_from input (Ok list) read
    → AnswersWanted (map (λ path. path.now) w.only.items) w.only_from (end_for w.null) listed (Ok paths) → listed ≡ list.items
    → given ≡ wanted → IsAskedBy w given g o → g ≡ narrowed f (paths_wanted paths) → IsPrepared may may_give w columns wanted input o read
walk_prepared may may_give w columns wanted given input read f g list listed paths o filters gives answers is same asked narrow = (
  f,
  filters,
  (
    paths,
    inl (
      list,
      gives,
      subst (λ l. AnswersWanted (map (λ path. path.now) w.only.items) w.only_from (end_for w.null) l (Ok paths)) is answers,
    ),
    subst₂ (λ l h. IsAskedBy w l h o) same narrow asked,
  ),
)

-- the line about a list, by the paths of the options
pub emptied_by : (name : Option (Bor (List ℕ))) (line : String Global) (paths only : Option (List (List ℕ)))
    → string_bytes line ≡ emptied_line name paths → only ≡ paths → string_bytes line ≡ emptied_line name only
emptied_by name line paths only is same = is ∙ sym (ap (emptied_line name) same)
