-- The definitions of what a directory contributes, computed for a small directory.
use Rattle.std.specs.Prelude.{◌≡◌, [], ◌∷◌, Ok, None, map, codes}
use Rattle.lc_census.specs.declared.line_count.{Count.Count, Eol.TheVariants.Lf}
use Rattle.lc_level.specs.{Answers.{file_item, directory_item, other_item, Answers}, Job.JobModel, Filters.no_filters}
use Rattle.lc_rules.specs.IgnoreChains.{no_ignore_files}
use Rattle.lc_tree.specs.declared.entry.OtherKind.TheVariants.{Special}
use Rattle.lc_walk.specs.{Found.children_at, Lawful.files_at}

-- the census of a file with one empty line
abbrev pub one_line : Count
one_line = record { lines = 1; blank = 1; bytes = 1; eol = Lf }

abbrev pub example_top : JobModel
example_top = record { path = []; ignore = no_ignore_files; attributes = record { lowest = None; tree = []; info = None } }

-- a `.gitignore` of `*.o`, `.git/info/exclude` of `!k.o` and `b/`, and files and directories
abbrev pub small_directory : Answers
small_directory = record {
  here = Ok (
      directory_item (codes ".git") ∷ file_item (codes ".gitignore") (Ok one_line) (Ok (codes "*.o"))
      ∷ file_item (codes "a.o") (Ok one_line) (Ok []) ∷ directory_item (codes "b") ∷ file_item (codes "c") (Ok one_line) (Ok [])
      ∷ directory_item (codes "d") ∷ file_item (codes "k.o") (Ok one_line) (Ok [])
      ∷ other_item (codes "l") Special ∷ []
      );
  git = Ok (directory_item (codes "info") ∷ []);
  info = Ok (file_item (codes "exclude") (Ok one_line) (Ok (codes "!k.o\nb/")) ∷ []);
}

-- the rules of the directory's own file override those of `.git/info`, and nothing in `.git` is counted
pub record WalkExamplesHold : Type 0 where
  pub counted : map (λ f. f.path) (files_at no_filters example_top small_directory) ≡ codes ".gitignore" ∷ codes "c" ∷ []
  pub below : map (λ c. c.0) (children_at no_filters example_top small_directory) ≡ codes "d" ∷ []
