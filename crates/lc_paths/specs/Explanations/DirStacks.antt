-- The stacks of directories that were entered on the way to a path.
use Rattle.std.specs.{Prelude.{None, true, ◌≡◌, ◌⊎◌, ℕ, Bool, List, [], ◌∷◌, ◌++◌, Result, Ok, Err}, declared.alloc.AllocError.AllocError}
use Rattle.lc_glob.specs.{Bytes.slash, Path.{path_in, segments_of}}
use Rattle.lc_level.specs.{FaultLines.FaultLineModel, Job.JobModel, TopJob.top_job, Level.{reason_for, child_job}, Filters.FiltersModel}
use Rattle.lc_paths.specs.Explanations.Explained.{Explanation, cited, kind_asked, is_directory, OnEntering, IsSaid}
use Rattle.lc_paths.specs.Explanations.Findings.{fault_line_of, explanation_of}
use Rattle.lc_paths.specs.Explanations.OpenDirs.{kind_in, OpenDirModel, DirStack, DirStacks, stack_at}
use Rattle.lc_paths.specs.declared.explaining.{finding.DirectoryFault.DirectoryFault, explainer.Step.{Step, TheVariants.{Found, Into}}}

-- `rest` is the part of a path below a directory
abbrev pub IsRestBelow : OpenDirModel → List ℕ → List ℕ → Type 0
IsRestBelow here path rest = path ≡ path_in here.job.path rest

-- `rest` is the part of a path below the last directory of a stack
pub record StandsBelow (stack : DirStack) (path rest : List ℕ) : Type 0 where
  pub above : DirStack
  pub here : OpenDirModel
  pub is : stack ≡ above ++ here ∷ []
  pub left : IsRestBelow here path rest

-- `rest` begins with a name and a slash, and goes on with `others`
pub record IsCutAt (rest name others : List ℕ) : Type 0 where
  pub whole : rest ≡ name ++ slash ∷ others
  pub cut : segments_of rest ≡ name ∷ segments_of others

-- the way goes on from a directory into a child directory, by this job, and `others` is the part of the path below it
pub record GoesInto (f : FiltersModel) (here : OpenDirModel) (rest : List ℕ) (job : JobModel) (others : List ℕ) : Type 0 where
  pub name : List ℕ
  pub at : IsCutAt rest name others
  pub none : reason_for f here.job name (kind_asked true (kind_in here.entries name)) ≡ None
  pub is_there : is_directory (kind_in here.entries name) ≡ true
  pub is : job ≡ child_job here.job name

-- a stack is the beginning of another one
abbrev pub IsFirstOf : DirStack → DirStack → Type 0
IsFirstOf first stack = (rest : DirStack) × (stack ≡ first ++ rest)

-- all cached stacks are beginnings of this one
abbrev pub AreFirstOf : DirStacks → DirStack → Type 0
AreFirstOf stacks stack = (at : ℕ) → IsFirstOf (stack_at stacks at) stack

-- a stack was cached with this number; any other cached stack was cached before, or is a beginning of it
pub record Keeps (old : DirStacks) (stack : DirStack) (new : DirStacks) (at : ℕ) : Type 0 where
  pub is : stack_at new at ≡ stack
  pub others : (i : ℕ) → ((j : ℕ) × (stack_at new i ≡ stack_at old j)) ⊎ IsFirstOf (stack_at new i) stack

module _ (Enters : JobModel → Result OpenDirModel FaultLineModel → Type 0) where
  -- a directory was entered, and its stack, which goes on from the one above, was cached; or it has an error, and the cache is unchanged
  abbrev pub Goes : JobModel → DirStack → DirStacks → DirStacks → Result (Result ℕ DirectoryFault) AllocError → Type 0
  Goes j above old new (Ok (Ok at)) = (here : OpenDirModel) × Enters j (Ok here) × Keeps old (above ++ here ∷ []) new at
  Goes j above old new (Ok (Err fault)) = Enters j (Err (fault_line_of fault)) × (new ≡ old)
  Goes j above old new (Err refused) = Unit {0}

  module _ (f : FiltersModel) where
    -- a step from a directory explains the rest of a path below it, or goes on into a directory, which has this path
    abbrev pub Steps : OpenDirModel → List ℕ → Bool → Step → Type 0
    Steps here rest as_dir (Found finding) =
        (stack : DirStack) → IsSaid Enters f stack here (segments_of rest) as_dir (explanation_of (cited f stack) finding)
    Steps here rest as_dir (Into job place others) = GoesInto f here rest job others.now × (place.now ≡ job.path)

    -- an explanation of the rest of a path, below the last directory of a stack, is one of the whole path
    abbrev pub Reaches : DirStack → OpenDirModel → Type 0
    Reaches stack here =
        (rest : List ℕ) (as_dir : Bool) (x : Explanation) → IsSaid Enters f stack here (segments_of rest) as_dir x
        → OnEntering Enters (top_job f) x
        (λ first. IsSaid Enters f (first ∷ []) first (segments_of (path_in here.job.path rest)) as_dir x)

    -- `Reaches` is true of each directory of a stack, with the directories above it
    abbrev pub IsStackBelow : DirStack → DirStack → Type 0
    IsStackBelow above [] = Unit {0}
    IsStackBelow above (here ∷ stack) = Reaches (above ++ here ∷ []) here × IsStackBelow (above ++ here ∷ []) stack

    abbrev pub IsStack : DirStack → Type 0
    IsStack stack = IsStackBelow [] stack

    -- `IsStack` is true of each cached stack
    abbrev pub AreStacks : DirStacks → Type 0
    AreStacks stacks = (at : ℕ) → IsStack (stack_at stacks at)
