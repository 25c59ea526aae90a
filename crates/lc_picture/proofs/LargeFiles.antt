-- Files that have boxes in those of their directories.
use Rattle.std.proofs.Common.{◌≡◌, Bool, true, false, bytes_eq, cond, List, [], ◌∷◌, ◌++◌, map, suc, zero, refl, ap, ◌∙◌, ◌+◌, arith, subst}
use Rattle.std.proofs.lemmas.List.Elements.{Contains-append_left, Contains-append_right}
use Rattle.std.specs.List.{Contains, filter}
use Rattle.lc_picture.specs.{Boxes.{BoxModel, moved}, Files.{FileBoxModel, file_box, files_in, is_large, with_files}, Laws.LargeLaw}

-- ---- elements of a list

at_first : {X : Type 0} (x y : X) (ys : List X) → y ≡ x → Contains (y ∷ ys) x
at_first x y ys same = (0, omega arith, same)

further_on : {X : Type 0} (x y : X) (ys : List X) → Contains ys x → Contains (y ∷ ys) x
further_on x y ys (k, inside, is) = (suc k, omega arith, is)

-- an element is the first or one of the others
by_place : {X : Type 0} {P : Type 0} (x y : X) (ys : List X) → Contains (y ∷ ys) x → (y ≡ x → P) → (Contains ys x → P) → P
by_place x y ys (zero, inside, is) first later = first is
by_place x y ys (suc k, inside, is) first later = later (k, omega arith, is)

none_in : {X : Type 0} {P : Type 0} (x : X) → Contains [] x → P
none_in x (k, inside, is) = absurd (omega arith)

kept : {X : Type 0} (test : X → Bool) (x y : X) (ys : List X) (passes : Bool) → test y ≡ passes → test x ≡ true
    → Contains (y ∷ ys) x → (Contains ys x → Contains (filter test ys) x)
    → Contains (cond passes (y ∷ filter test ys) (filter test ys)) x
kept test x y ys true own e among later =
    by_place x y ys among (at_first x y (filter test ys)) (λ rest. further_on x y (filter test ys) (later rest))
kept test x y ys false own e among later = by_place x y ys among (λ same. absurd (cc (ap test same))) later

in_filter : {X : Type 0} (test : X → Bool) (x : X) (xs : List X) → test x ≡ true → Contains xs x → Contains (filter test xs) x
in_filter test x [] e among = none_in x among
in_filter test x (y ∷ ys) e among = kept test x y ys (test y) refl e among (in_filter test x ys e)

in_map : {X Y : Type 0} (g : X → Y) (x : X) (xs : List X) → Contains xs x → Contains (map g xs) (g x)
in_map g x [] among = none_in x among
in_map g x (y ∷ ys) among =
    by_place x y ys among (λ same. at_first (g x) (g y) (map g ys) (ap g same))
    (λ rest. further_on (g x) (g y) (map g ys) (in_map g x ys rest))

-- ---- files

-- the box of a file in a box with as many around it, and one more
abbrev in_box : BoxModel → FileBoxModel → BoxModel
in_box b f = moved (b.depth + 1) f.drawn.own_name f.drawn

in_directories : (fs : List FileBoxModel) (f : FileBoxModel) (b : BoxModel) (bs : List BoxModel) → Contains fs f
    → bytes_eq b.path f.parent ≡ true → Contains bs b → Contains (with_files fs bs) (in_box b f)
in_directories fs f b [] has e among = none_in b among
in_directories fs f b (d ∷ ds) has e among =
    let own : List FileBoxModel = filter (λ (g : FileBoxModel). bytes_eq d.path g.parent) fs in
    let files : List BoxModel = files_in d.path (d.depth + 1) fs in
    by_place b d ds among
    (λ same. further_on (in_box b f) d (files ++ with_files fs ds)
    (Contains-append_left files (with_files fs ds) (in_box b f)
    (subst (λ (c : BoxModel). Contains files (in_box c f)) same
    (in_map (in_box d) f own
    (in_filter (λ (g : FileBoxModel). bytes_eq d.path g.parent) f fs (ap (λ (c : BoxModel). bytes_eq c.path f.parent) same ∙ e) has)))))
    (λ later. further_on (in_box b f) d (files ++ with_files fs ds)
    (Contains-append_right files (with_files fs ds) (in_box b f) (in_directories fs f b ds has e later)))

pub large_law : LargeLaw
large_law n by least fs directories f b listed large among own =
    in_directories (map (file_box n) (filter (is_large by least) fs)) (file_box n f) b directories
    (in_map (file_box n) f (filter (is_large by least) fs) (in_filter (is_large by least) f fs large listed)) own among
