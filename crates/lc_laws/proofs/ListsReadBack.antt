-- Lists of lines that were printed, as they are read: line by line.
use Rattle.std.proofs.Common.{◌≡◌, ◌∙◌, ℕ, List, [], ◌∷◌, map, refl, sym, subst}
use Rattle.std.proofs.lemmas.List.{Elements.recursion_from_All, Sorted.{All-permutation, IsPermutation-sym}}
use Rattle.std.specs.List.{All, AllByRecursion}
use Rattle.json.specs.Json.{Json}
use Rattle.lc_formats.specs.{JsonLines.{line_members, line_object}, JsonText.{array_with, object_with}}
use Rattle.lc_reading.specs.{Lists.{AreLinesOf, IsLineOf}, Members.{Member, named}, Objects.HasLines, Reports.HasOrdered}
use Rattle.lc_reading.specs.declared.member_name.MemberName.{MemberName}
use Rattle.lc_sheet.specs.{Sheets.{line_of, lines_of}, Values.ValueModel, declared.column.Column.Column}
use Rattle.lc_laws.proofs.JsonMembers.{same_array, same_object}

module _ {L : Type 0} (Says : List Member → L → Type 0) where
  -- what is said of the object of a line that was printed
  line_says : (ms : List Member) (l : L) → IsLineOf Says (object_with ms) l → Says ms l
  line_says ms l is = subst (λ (ns : List Member). Says ns l) (sym (same_object ms is.members is.object_is)) is.says

  -- the list that was printed is the one that is read
  list_says : (name : MemberName) (ms : List Member) (values : List Json) (ls : List L) → named name ms ≡ array_with values ∷ []
      → HasLines Says name ms ls → AreLinesOf Says values ls
  list_says name ms values ls printed has =
      let one : array_with values ∷ [] ≡ has.value ∷ [] = sym printed ∙ has.has in
      let whole : array_with values ≡ has.value = cc in
      let same : values ≡ has.list.values = same_array values has.list.values (whole ∙ has.list.array_is) in
      subst (λ (js : List Json). AreLinesOf Says js ls) (sym same) has.list.each

  module _ {Y : Type 0} (attributes : List (List ℕ)) (value : L → Column → ValueModel) (columns : List Column) (P Q : L → Type 0)
      (show : L → Y) (same : (x l : L) → P x → Q l → Says (line_members attributes columns (line_of value columns x)) l → show l ≡ show x)
    where
      -- each line is read as what was printed
      lines_read : (xs ls : List L) → AllByRecursion P xs → AllByRecursion Q ls
          → AreLinesOf Says (map (line_object attributes columns) (lines_of value columns xs)) ls → map show ls ≡ map show xs
      lines_read [] [] ps qs are = refl
      lines_read (x ∷ xs) (l ∷ ls) ps qs are =
          let first : show l ≡ show x =
          same x l ps.0 qs.0 (line_says (line_members attributes columns (line_of value columns x)) l are.0) in
          let rest : map show ls ≡ map show xs = lines_read xs ls ps.1 qs.1 are.1 in
          λ i. first i ∷ rest i
      lines_read xs ls ps qs are = absurd are

      -- and so are all that are read, in another order
      pub all_read : (path : L → List ℕ) (name : MemberName) (ms : List Member) (xs lines : List L)
          → named name ms ≡ array_with (map (line_object attributes columns) (lines_of value columns xs)) ∷ [] → All P xs → All Q lines
          → (has : HasOrdered Says path name ms lines) → map show has.listed ≡ map show xs
      all_read path name ms xs lines printed xs_fit lines_fit has =
          let fits : All Q has.listed = All-permutation Q lines has.listed (IsPermutation-sym has.listed lines has.same) lines_fit in
          lines_read xs has.listed (recursion_from_All P xs xs_fit) (recursion_from_All Q has.listed fits)
          (list_says name ms (map (line_object attributes columns) (lines_of value columns xs)) has.listed printed has.has)
