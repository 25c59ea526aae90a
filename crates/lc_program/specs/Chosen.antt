-- Which files are shown, in words, such as `where ext=.c, without build/`.
use Rattle.std.specs.Prelude.{ℕ, Bool, if◌then◌else◌, List, [], ◌∷◌, ◌++◌, Option, Some, None, codes, decimal, map}
use Rattle.std.specs.{Borrow.Bor, List.join_with_byte}
use Rattle.lc_arguments.specs.declared.{filter_request.FilterRequest.FilterRequest, walk_request.WalkRequest.WalkRequest}
use Rattle.lc_sheet.specs.{ColumnWords.column_word, Conditions.{ConditionModel, TestModel, comma, compared, none_of, one_of}}
use Rattle.lc_sheet.specs.declared.condition.Comparison.{Comparison, TheVariants.{Less, AtMost, Equal, Unequal, AtLeast, Greater}}

-- ---- conditions

abbrev pub sign_of : Comparison → List ℕ
sign_of Less = codes "<"
sign_of AtMost = codes "<="
sign_of Equal = codes "="
sign_of Unequal = codes "!="
sign_of AtLeast = codes ">="
sign_of Greater = codes ">"

-- a test of the value of a column
abbrev pub test_text : TestModel → List ℕ
test_text (one_of texts) = codes "=" ++ join_with_byte comma texts
test_text (none_of texts) = codes "!=" ++ join_with_byte comma texts
test_text (compared comparison bound) = sign_of comparison ++ decimal bound

-- a condition, where these are the names of columns of attributes
abbrev pub condition_text : List (List ℕ) → ConditionModel → List ℕ
condition_text attributes c = column_word attributes c.column ++ test_text c.test

-- ---- parts

-- a text with one more part, after a comma unless it is the first
abbrev pub with_part : List ℕ → List ℕ → List ℕ
with_part [] part = part
with_part (b ∷ bs) part = (b ∷ bs) ++ (codes ", " ++ part)

abbrev pub with_parts : List ℕ → List (List ℕ) → List ℕ
with_parts text [] = text
with_parts text (p ∷ ps) = with_parts (with_part text p) ps

-- values, each after a phrase; the file after it, if one is named; and a phrase if an option is used
abbrev pub each_after : List ℕ → List (Bor (List ℕ)) → List (List ℕ)
each_after phrase values = map (λ (value : Bor (List ℕ)). phrase ++ value.now) values

abbrev pub file_after : List ℕ → Option (Bor (List ℕ)) → List (List ℕ)
file_after phrase None = []
file_after phrase (Some file) = (phrase ++ file.now) ∷ []

abbrev pub word_if : Bool → List ℕ → List (List ℕ)
word_if is_used phrase = if is_used then phrase ∷ [] else []

-- ---- what is chosen

abbrev pub where_parts : List (List ℕ) → List ConditionModel → List (List ℕ)
where_parts attributes cs = map (λ c. codes "where " ++ condition_text attributes c) cs

-- the options that decide, together with rule files, which entries are skipped
abbrev pub filter_parts : List ℕ → FilterRequest → List ℕ
filter_parts text f =
    with_parts (with_parts (with_parts (with_parts (with_parts (with_parts text (each_after (codes "without ") f.exclude.items))
    (file_after (codes "without what is in ") f.exclude_from)) (each_after (codes "without attribute ") f.without.items))
    (word_if f.archive (codes "without attribute export-ignore"))) (each_after (codes "like ") f.include.items))
    (word_if f.no_ignore (codes "ignored or not"))

-- the options of a walk that choose files
abbrev pub walk_parts : List ℕ → WalkRequest → List ℕ
walk_parts text w =
    with_parts (with_parts (with_parts (filter_parts text w.filters) (each_after (codes "in ") w.only.items))
    (file_after (codes "in the paths of ") w.only_from)) (word_if w.one_file_system (codes "on one file system"))
