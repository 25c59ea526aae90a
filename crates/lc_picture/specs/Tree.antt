-- The tree of a report for a terminal: the boxes of a picture as lines.
use Rattle.std.specs.{Prelude.{◌≡◌, ℕ, nat_le, List, [], ◌∷◌}, List.filter}
use Rattle.lc_rows.specs.ShownRows.{number_in}
use Rattle.lc_sheet.specs.declared.column.Number.{Number}
use Rattle.lc_text.specs.Visible.{visible_path}
use Rattle.lc_walk.specs.declared.report.Report.{Report}
use Rattle.lc_formats.specs.TreeText.{TreeLineModel, tree_text}
use Rattle.lc_picture.specs.{Boxes.{BoxModel, least_of, titled}, Page.AreBoxesOf, TreeMarks.drawn_lines}

-- how many parts a tree divides its total into: a directory or a file with one of them has a line
abbrev pub tree_parts : ℕ
tree_parts = 100

-- the boxes around which there are at most so many
abbrev pub first_levels : ℕ → List BoxModel → List BoxModel
first_levels levels bs = filter (λ (b : BoxModel). nat_le b.depth levels) bs

-- the lines of boxes, the first of which has the title. A tree whose number is 0 has no box, and the title alone
abbrev pub lines_of : List ℕ → Number → ℕ → List BoxModel → List TreeLineModel
lines_of title by levels [] = record { number = 0; text = visible_path title } ∷ []
lines_of title by levels (b ∷ bs) = drawn_lines by (first_levels levels (titled title (b ∷ bs)))

-- a text is the tree of a report with this title, where this number is drawn down to this level
pub record IsTreeOf (title : List ℕ) (by : Number) (levels : ℕ) (r : Report) (text : List ℕ) : Type 0 where
  pub boxes : List BoxModel
  pub are_boxes : AreBoxesOf by (least_of tree_parts (number_in by r.totals)) r.files.items [] boxes
  pub is : text ≡ tree_text by (number_in by r.totals) (lines_of title by levels boxes)
