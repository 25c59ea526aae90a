-- What is found has the files that the options ask for.
use Rattle.std.proofs.Common.{◌≡◌, ℕ, Bool, true, false, ◌&&◌, List, [], ◌∷◌, Option, Some, None, Ok, refl, ◌∙◌, ap}
use Rattle.std.specs.List.{AllZip, list_all}
use Rattle.lc_program.specs.{Finds.IsWalkedBelow, LanguageColumns.{HasLanguages, HasLanguagesAt, language_place}}
use Rattle.lc_reports.specs.Joined.{IsJoined}
use Rattle.lc_tree.specs.Trees.{Listings, Contents}
use Rattle.lc_walk.proofs.ReportTotals.{walked_lists}
use Rattle.lc_walk.specs.{Walks.Walks, declared.{options.{Options.Options, ReportLists.ReportLists}, report.Report.Report}}

module _ (list : List ℕ → List ℕ → Listings) (give : List ℕ → List ℕ → Contents) (o : Options) where
  both : (a b : Bool) → a ≡ true → b ≡ true → (a && b) ≡ true
  both true b e f = f
  both false b e f = absurd (cc)

  all_listed : (ds : List (List ℕ)) (rs : List Report) → AllZip (IsWalkedBelow (λ d. Walks (list d) (give d) o)) ds rs
      → o.lists.files ≡ true → list_all (λ (r : Report). r.lists.files) rs ≡ true
  all_listed [] [] walked asked = refl
  all_listed [] (r ∷ rs) walked asked = absurd walked
  all_listed (d ∷ ds) [] walked asked = refl
  all_listed (d ∷ ds) (r ∷ rs) walked asked =
      both r.lists.files (list_all (λ (x : Report). x.lists.files) rs)
      (ap (λ (l : ReportLists). l.files) (walked.0.is_named.lists ∙ walked_lists (list d) (give d) o walked.0.report walked.0.walked)
      ∙ asked)
      (all_listed ds rs walked.1 asked)

  -- the report of several directories
  pub joined_listed : (ds : List (List ℕ)) (rs : List Report) (r : Report) → AllZip (IsWalkedBelow (λ d. Walks (list d) (give d) o)) ds rs
      → IsJoined rs r → o.lists.files ≡ true → r.lists.files ≡ true
  joined_listed ds rs r walked joined asked = ap (λ (l : ReportLists). l.files) joined.lists ∙ all_listed ds rs walked asked

  -- and of one
  pub one_listed : (d : List ℕ) (r : Report) → Walks (list d) (give d) o (Ok r) → o.lists.files ≡ true → r.lists.files ≡ true
  one_listed d r walked asked = ap (λ (l : ReportLists). l.files) (walked_lists (list d) (give d) o r walked) ∙ asked

-- a report whose files got languages has the lists that it had
pub languages_listed : (columns : List (List ℕ)) (r s : Report) → HasLanguages columns r s → s.lists ≡ r.lists
languages_listed columns r s = go (language_place columns)
  where
    go : (place : Option ℕ) → HasLanguagesAt place r s → s.lists ≡ r.lists
    go None is = ap (λ (report : Report). report.lists) is
    go (Some place) is = is.lists
