-- The paths that are checked or explained.
use Rattle.std.specs.Prelude.{ℕ, List, map}
use Rattle.lc_text.specs.Lines.{input_paths_of}
use Rattle.lc_paths.specs.declared.paths.Paths.{Paths, TheVariants.{Input, Words}}

-- the paths of an input, or of arguments
abbrev pub paths_in : Paths → List (List ℕ)
paths_in (Input end bytes) = input_paths_of end bytes.now
paths_in (Words words) = map (λ word. word.now) words.now
