-- What is said by given answers of a directory's path, with and without a slash at its end.
use Rattle.std.proofs.Common.{arith, ◌≡◌, ℕ, List, [], ◌∷◌, ◌++◌, refl, sym, ◌∙◌, ap, subst, Some, None, Ok, append_assoc}
use Rattle.std.proofs.lemmas.Grind.{common_steps}
use Rattle.std.specs.List.{Contains}
use Rattle.lc_paths.specs.Explanations.OpenDirs.{OpenDirModel, open_dir, kind_in}
use Rattle.lc_glob.specs.Path.{segments_of}
use Rattle.lc_level.specs.{Answers.{Item, entries_of, Answers, Tree}, Job.JobModel, Level.child_job, Filters.{FiltersModel, narrowed}}
use Rattle.lc_level.specs.WellFormed.{IsWellFormed}
use Rattle.lc_tree.specs.{Listing.EntryModel, declared.entry.Kind.{Kind, TheVariants.Dir}}
use Rattle.lc_walk.specs.FoundAt.{LeadsTo}
use Rattle.lc_walk.proofs.{Levels.well_formed_items, OneTree.leads_on}
use Rattle.lc_laws.specs.{ByAnswers.{EntersBy, IsEntryBy, kind_before, top_asked}, SlashAtEnd.AnswersSlashLaw}
use Rattle.lc_laws.proofs.{Items.{named_item, named_kind}, OneWay.{entered_listed, IsKnown, known_by_tree}, SameWay.walked_into}
use Rattle.lc_laws.proofs.SlashesSaidAlike.{AreDirectories, explained_alike}

-- an entry of a directory is found in it when it is entered
found_kind : (k : JobModel) (a : Answers) (here : OpenDirModel) → IsWellFormed a → open_dir k a ≡ Ok here → (name : List ℕ) (kind : Kind)
    → ((items : List Item) → a.here ≡ Ok items → Contains (entries_of items) (record { name = name; kind = kind }))
    → kind_in here.entries name ≡ Some kind
found_kind k a here well_formed is name kind has =
    let l = entered_listed k a here is in
    let i = named_item l.items name kind (has l.items l.listed.here) in
    let spread = well_formed_items a well_formed l.items l.listed.here in
    ap (λ (es : List EntryModel). kind_in es name) l.entries ∙ named_kind l.items name kind spread i

all_directories : (names : List (List ℕ)) → kind_before Dir names ≡ Dir
all_directories names = grind (arith, common_steps)

module _ (s : FiltersModel) (top : JobModel) (t : Tree) (known : IsKnown (EntersBy t) (narrowed s None) top t) (path : List ℕ)
    (entry : IsEntryBy (narrowed s None) top t path Dir) where
  down : (names place : List (List ℕ)) (k : JobModel) → LeadsTo (narrowed s None) top t place k → segments_of path ≡ place ++ names
      → AreDirectories (EntersBy t) s k names
  down [] place k leads cut = tt
  down (name ∷ names) place k leads cut = λ here enters.
      let is : open_dir k (t place) ≡ Ok here = sym ((known place k leads).0 (Ok here) enters) in
      let there = found_kind k (t place) here (known place k leads).1 is name Dir
      (λ items listed. subst (λ (d : Kind). Contains (entries_of items) (record { name = name; kind = d })) (all_directories names)
      (entry place name names k items cut leads listed)) in (
        there,
        λ none. down names (place ++ name ∷ []) (child_job here.job name)
            (leads_on (narrowed s None) place top k here.job name t leads (walked_into s k (t place) here is name there none))
            (cut ∙ sym (append_assoc place (name ∷ []) names)),
      )

-- so is what is said of the path
pub answers_slash_law : AnswersSlashLaw
answers_slash_law t q path x listings entry =
    let s : FiltersModel = q.filters.now in
    let known = known_by_tree (narrowed s None) (top_asked q) t refl listings in
    explained_alike (EntersBy t) s x path (down s (top_asked q) t known path entry (segments_of path) [] (top_asked q) refl refl)
