-- The lines about attributes that no attribute file names.
use Rattle.std.specs.{Prelude.{◌≡◌, ℕ, List, [], ◌∷◌, ◌++◌, Option, Vec, flat_map, codes}, Borrow.Bor, Global.Global, Option.option_map_or}
use Rattle.lc_level.specs.{NamedAttributes.{AreSomeAttributes, noted}, declared.named_attributes.NamedAttributes.NamedAttributes}
use Rattle.lc_text.specs.Visible.{visible_bytes}
use Rattle.lc_program.specs.Replies.{joined}

-- the line that says that no attribute file names this attribute
abbrev pub unnamed_line : List ℕ → List ℕ
unnamed_line attribute = codes "lc: no attribute file names " ++ visible_bytes attribute ++ codes "\n"

-- a line for each of these attributes
abbrev pub unnamed_lines_of : List (Vec ℕ Global) → List ℕ
unnamed_lines_of attributes = flat_map (λ (a : Vec ℕ Global). unnamed_line a.items) attributes

-- a text has lines for some of these attributes, in their order
abbrev pub AreUnnamedLines : List (List ℕ) → List ℕ → Type 0
AreUnnamedLines attributes text =
    (told : List (Vec ℕ Global)) × AreSomeAttributes attributes told × (text ≡ unnamed_lines_of told)

-- the attributes that a walk noted, or none if there was no walk
abbrev pub names_in : Option (Bor NamedAttributes) → List (List ℕ)
names_in named = option_map_or (λ n. noted n.now) named []

-- a text has the line about the list of paths, and lines for some of these attributes
abbrev pub AreRemarks : List ℕ → List (List ℕ) → List ℕ → Type 0
AreRemarks emptied attributes text =
    (unnamed : List ℕ) × AreUnnamedLines attributes unnamed × (text ≡ joined (emptied ∷ unnamed ∷ []))
