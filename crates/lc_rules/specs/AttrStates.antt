-- What a chain of attribute files says of a path: gitattributes(5), DESCRIPTION, on the order of precedence.
use Rattle.std.specs.{Prelude.{ℕ, Bool, if◌then◌else◌, List, [], ◌∷◌, ◌++◌, reverse, Option, Some, None, unwrap_or, codes}, Str.bytes_eq}
use Rattle.lc_glob.specs.IsMatch.{is_match}
use Rattle.lc_rules.specs.{Attributes.{StateModel, set, unset, value, unspecified, AssignmentModel, MacroModel}, AttrLines.PatternLineModel}
use Rattle.lc_rules.specs.{AttrLines.AttrFileModel, Decision.{decided, decide}, Verdicts.below, declared.states.TextState.TextState}
use Rattle.lc_rules.specs.declared.states.TextState.TheVariants.{Set, Unset, Auto, Other, Unspecified}

-- the macro `binary`, which is built in
abbrev pub binary : MacroModel
binary = (codes "binary", (codes "diff", unset) ∷ (codes "merge", unset) ∷ (codes "text", unset) ∷ [])

-- the files of a chain: the lowest, which all others override; those of the tree from the top down, each with its depth; and that of
-- `.git/info`, which overrides them all
pub record AttrChainModel : Type 0 where
  pub lowest : Option AttrFileModel
  pub tree : List (ℕ × AttrFileModel)
  pub info : Option AttrFileModel

-- the macros that the first file of a tree defines, where it is top-level
abbrev pub top_macros : List (ℕ × AttrFileModel) → List MacroModel
top_macros [] = []
top_macros (f ∷ fs) = if f.1.is_top then f.1.macros else []

-- the macros that a file for the whole tree defines, if there is one
abbrev pub file_macros : Option AttrFileModel → List MacroModel
file_macros None = []
file_macros (Some f) = f.macros

-- the macros that a chain knows: `binary` as built in, then those of the lowest file, of the top file, and of `.git/info`
abbrev pub macros_of : AttrChainModel → List MacroModel
macros_of files = binary ∷ file_macros files.lowest ++ top_macros files.tree ++ file_macros files.info

-- the assignments of a line, from right to left, if the line matches the path
abbrev pub by_line : PatternLineModel → List ℕ → Bool → List AssignmentModel
by_line l path is_dir = if is_match l.pattern path is_dir then reverse l.assigns else []

-- the assignments of the lines that match the path, from the last line to the first
abbrev pub by_lines : List PatternLineModel → List ℕ → Bool → List AssignmentModel
by_lines [] path is_dir = []
by_lines (l ∷ ls) path is_dir = by_lines ls path is_dir ++ by_line l path is_dir

-- the assignments of a tree's files for a path: those of the file nearest to the path come before those of a farther one
abbrev pub tree_assignments : List (ℕ × AttrFileModel) → List ℕ → Bool → List AssignmentModel
tree_assignments [] path is_dir = []
tree_assignments (f ∷ fs) path is_dir = tree_assignments fs path is_dir ++ by_lines f.1.lines (below f.0 path) is_dir

-- the assignments of a file for the whole tree, if there is one; the file is matched with the whole path
abbrev pub file_assignments : Option AttrFileModel → List ℕ → Bool → List AssignmentModel
file_assignments None path is_dir = []
file_assignments (Some f) path is_dir = by_lines f.lines path is_dir

-- the assignments of all lines that match, highest precedence first: those of `.git/info`, of the tree, and of the lowest file
abbrev pub assignments_of : AttrChainModel → List ℕ → Bool → List AssignmentModel
assignments_of files path is_dir =
    file_assignments files.info path is_dir ++ tree_assignments files.tree path is_dir ++ file_assignments files.lowest path is_dir

-- the state of an attribute for a path: what the decision of all names has for its name
abbrev pub state_of : AttrChainModel → List ℕ → Bool → List ℕ → StateModel
state_of files path is_dir name =
    unwrap_or (decided (decide (macros_of files) (assignments_of files path is_dir) []) name) unspecified

-- the attribute `text` as the code has it, by its state
abbrev pub as_text : StateModel → TextState
as_text set = Set
as_text unset = Unset
as_text (value v) = if bytes_eq v (codes "auto") then Auto else Other
as_text unspecified = Unspecified
