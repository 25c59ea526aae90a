-- Reports, gathered one after another.
use Rattle.std.proofs.{Common.{◌≡◌, Bool, true, false, List, [], ◌∷◌, ◌++◌, sym, ◌∙◌, ap, append-nil}, lemmas.Grind.flat_map-append}
use Rattle.std.specs.List.{flat_map}
use Rattle.lc_reports.specs.{Gathered.{Adds, IsGathered}, Joined.if_wanted, declared.gathered.Gathered.Gathered}
use Rattle.lc_walk.specs.declared.{options.ReportLists.ReportLists, report.Report.Report}

-- what one report more gives
last_of : {X : Type 0} (f : Report → List X) (rs : List Report) (r : Report) (old new : List X) → old ≡ flat_map f rs
    → new ≡ old ++ f r → new ≡ flat_map f (rs ++ r ∷ [])
last_of f rs r old new so_far more =
    more ∙ ap (λ l. l ++ f r) so_far ∙ ap (λ l. flat_map f rs ++ l) (sym (append-nil (f r))) ∙ sym (flat_map-append f rs (r ∷ []))

last_wanted : {X : Type 0} (wanted : Bool) (f : Report → List X) (rs : List Report) (r : Report) (old new : List X)
    → old ≡ if_wanted wanted (flat_map f rs) → new ≡ old ++ if_wanted wanted (f r) → new ≡ if_wanted wanted (flat_map f (rs ++ r ∷ []))
last_wanted true f rs r old new so_far more = last_of f rs r old new so_far more
last_wanted false f rs r old new so_far more = more ∙ append-nil old ∙ so_far

pub gathered_more : (lists : ReportLists) (rs : List Report) (r : Report) (old new : Gathered) → IsGathered lists rs old
    → Adds lists old r new → IsGathered lists (rs ++ r ∷ []) new
gathered_more lists rs r old new so_far adds = record {
  rows = last_of (λ (x : Report). x.rows.items) rs r old.rows.items new.rows.items so_far.rows adds.rows;
  files = last_wanted lists.files (λ (x : Report). x.files.items) rs r old.files.items new.files.items so_far.files adds.files;
  faults = last_of (λ (x : Report). x.faults.items) rs r old.faults.items new.faults.items so_far.faults adds.faults;
  skipped = last_wanted lists.left_out (λ (x : Report). x.skipped.items) rs r old.skipped.items new.skipped.items so_far.skipped
      adds.skipped;
}
