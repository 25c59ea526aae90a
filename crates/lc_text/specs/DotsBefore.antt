-- What is left of a line without any `./` at its beginning.
use Rattle.std.specs.Prelude.{◌≡◌, ◌⊎◌, ℕ, ◌==◌, Bool, true, false, ◌&&◌, List, [], ◌∷◌, ◌++◌, flat_map, replicate}
use Rattle.lc_glob.specs.{Bytes.{dot, slash}, Path.is_good_path}
use Rattle.lc_text.specs.PathLines.{or_dot, undotted}

-- a dot and a slash, and this many more slashes
abbrev pub dot_slashes : ℕ → List ℕ
dot_slashes more = dot ∷ slash ∷ replicate more slash

abbrev pub begins_with_slash : List ℕ → Bool
begins_with_slash [] = false
begins_with_slash (b ∷ bs) = b == slash

abbrev pub begins_with_dot_slash : List ℕ → Bool
begins_with_dot_slash [] = false
begins_with_dot_slash (b ∷ []) = false
begins_with_dot_slash (b ∷ c ∷ cs) = (b == dot) && (c == slash)

-- the rest is the path, or a dot where there is none after a `./`
abbrev pub path_after : List ℕ → List ℕ → List ℕ
path_after [] rest = rest
path_after (more ∷ dots) rest = or_dot rest

-- a line is a run of dots, each with its slashes, and a rest, which begins with no more of them and gives the path
pub record IsAfterDots (line path : List ℕ) : Type 0 where
  pub dots : List ℕ
  pub rest : List ℕ
  pub line_is : line ≡ flat_map dot_slashes dots ++ rest
  pub no_dot : begins_with_dot_slash rest ≡ false
  pub no_slash : (dots ≡ []) ⊎ (begins_with_slash rest ≡ false)
  pub path_is : path ≡ path_after dots rest

abbrev pub UndottedLaw : Type 0
UndottedLaw = (line : List ℕ) → IsAfterDots line (undotted line)

-- the path of an entry is left as it is
abbrev pub KeptLaw : Type 0
KeptLaw = (path : List ℕ) → is_good_path path ≡ true → undotted path ≡ path
