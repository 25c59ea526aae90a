-- A directory that is written entry by entry.
use Rattle.std.proofs.Common.{◌≡◌, ℕ, suc, ◌+◌, ◌<◌, Bool, true, false, cond, List, [], ◌∷◌, ◌++◌, length, take, get_or, map, Option}
use Rattle.std.proofs.{Common.{Some, Vec, refl, sym, ◌∙◌, ap, subst, arith, bytes_eq}, Math.Seq.take-suc}
use Rattle.std.specs.{Prelude.{find, option_map, option_and_then}, Borrow.Bor, declared.alloc.Global.Global}
use Rattle.lc_tree.specs.{Nodes.{Child, child_among, child_of, child_within, node_below}, declared.entry.OtherKind.OtherKind}
use Rattle.lc_tree.specs.declared.node.Node.{Node, out-Node, out-roll-Node, TheOpen.Node-F}
use Rattle.lc_tests.specs.Sketches.{Drawn, Has, HasWithin, IsTreeOf, sketch_among, sketch_below, sketch_within}
use Rattle.lc_tests.specs.declared.sketch_table.Sketch.{Sketch, out-Sketch, out-roll-Sketch, TheOpen.Sketch-F}
use Rattle.lc_tree.specs.declared.node.Node.TheVariants as node
use Rattle.lc_tests.specs.declared.sketch_table.Sketch.TheVariants as sketch

-- each child has the name and the tree of the entry at its place
abbrev pub AreTreesOf : List Drawn → List Child → Type 0
AreTreesOf [] [] = Unit {0}
AreTreesOf [] (c ∷ cs) = ⊥
AreTreesOf (e ∷ es) [] = ⊥
AreTreesOf (e ∷ es) (c ∷ cs) = (c.0.items ≡ e.0.now) × IsTreeOf e.1 c.1 × AreTreesOf es cs

-- one more child
trees_more : (es : List Drawn) (cs : List Child) (e : Drawn) (c : Child) → AreTreesOf es cs → c.0.items ≡ e.0.now → IsTreeOf e.1 c.1
    → AreTreesOf (es ++ e ∷ []) (cs ++ c ∷ [])
trees_more [] [] e c all name is = (name, is, tt)
trees_more [] (d ∷ cs) e c all name is = absurd all
trees_more (f ∷ es) [] e c all name is = absurd all
trees_more (f ∷ es) (d ∷ cs) e c all name is = (all.0, all.1, trees_more es cs e c all.2 name is)

-- one more child, of the entry at the next place
pub trees_next : (es : List Drawn) (k : ℕ) (d : Drawn) (cs more : List Child) (c : Child) → k < length es → AreTreesOf (take k es) cs
    → c.0.items ≡ (get_or es k d).0.now → IsTreeOf (get_or es k d).1 c.1 → more ≡ cs ++ c ∷ [] → AreTreesOf (take (k + 1) es) more
trees_next es k d cs more c low all name is grown =
    let one : k + 1 ≡ suc k = omega arith in
    let taken : take (k + 1) es ≡ take k es ++ get_or es k d ∷ [] = ap (λ (n : ℕ). take n es) one ∙ take-suc es k d low in
    subst (λ (l : List Drawn). AreTreesOf l more) (sym taken)
    (subst (λ (l : List Child). AreTreesOf (take k es ++ get_or es k d ∷ []) l) (sym grown)
    (trees_more (take k es) cs (get_or es k d) c all name is))

-- the names of the children are those that are written
same_names : (es : List Drawn) (cs : List Child) → AreTreesOf es cs
    → map (λ (c : Child). c.0.items) cs ≡ map (λ (e : Drawn). e.0.now) es
same_names [] [] all = refl
same_names [] (c ∷ cs) all = absurd all
same_names (e ∷ es) [] all = absurd all
same_names (e ∷ es) (c ∷ cs) all = cc (all.0, same_names es cs all.2)

-- names that lead on from a child lead on from what is written under its name
found_below : (es : List Drawn) (cs : List Child) (name : List ℕ) (names : List (List ℕ)) → AreTreesOf es cs
    → Has (option_and_then (λ (s : Sketch). sketch_below names s) (sketch_among name es))
    (option_and_then (λ (n : Node). node_below names n) (child_among name cs))
found_below [] [] name names all = tt
found_below [] (c ∷ cs) name names all = absurd all
found_below (e ∷ es) [] name names all = absurd all
found_below (e ∷ es) (c ∷ cs) name names all =
    subst (λ b. Has (written (bytes_eq e.0.now name)) (held b)) (ap (λ l. bytes_eq l name) (sym all.0))
    (at (bytes_eq e.0.now name) (all.1 names) (found_below es cs name names all.2))
  where
    written : Bool → Option Sketch
    written b = option_and_then (λ (s : Sketch). sketch_below names s)
        (option_map (λ (d : Drawn). d.1) (cond b (Some e) (find (λ (d : Drawn). bytes_eq d.0.now name) es)))

    held : Bool → Option Node
    held b = option_and_then (λ (n : Node). node_below names n)
        (option_map (λ (d : Child). d.1) (cond b (Some c) (find (λ (d : Child). bytes_eq d.0.items name) cs)))

    at : (b : Bool) → Has (sketch_below names e.1) (node_below names c.1)
        → Has (option_and_then (λ (s : Sketch). sketch_below names s) (sketch_among name es))
        (option_and_then (λ (n : Node). node_below names n) (child_among name cs)) → Has (written b) (held b)
    at true here later = here
    at false here later = later

-- a sketch and a node with these contents: a node has what is written where each of its names leads to what is written there
module _ (top : Sketch) (node : Node) (written : Sketch-F Sketch) (held : Node-F Node) where
  by_contents : out-Sketch top ≡ written → out-Node node ≡ held → HasWithin written held
      → ((name : List ℕ) (names : List (List ℕ)) → Has (option_and_then (λ (s : Sketch). sketch_below names s) (sketch_within name written))
      (option_and_then (λ (n : Node). node_below names n) (child_within name held))) → IsTreeOf top node
  by_contents drawn kept has below [] =
      subst (λ (s : Sketch-F Sketch). HasWithin s (out-Node node)) (sym drawn)
      (subst (λ (n : Node-F Node). HasWithin written n) (sym kept) has)
  by_contents drawn kept has below (name ∷ names) =
      subst (λ (s : Sketch-F Sketch). Has (option_and_then (λ (next : Sketch). sketch_below names next) (sketch_within name s))
      (option_and_then (λ (next : Node). node_below names next) (child_of name node))) (sym drawn)
      (subst (λ (n : Node-F Node). Has (option_and_then (λ (next : Sketch). sketch_below names next) (sketch_within name written))
      (option_and_then (λ (next : Node). node_below names next) (child_within name n))) (sym kept) (below name names))

-- each kind of sketch
pub is_directory : (entries : Bor (List Drawn)) (children : Vec Child Global) → AreTreesOf entries.now children.items
    → IsTreeOf (sketch.Dir entries) (node.Dir children)
is_directory entries children all =
    by_contents (sketch.Dir entries) (node.Dir children) (Sketch-F.Dir entries) (Node-F.Dir children)
    (ap out-Sketch (sym (sketch.rolls-Dir entries)) ∙ out-roll-Sketch (Sketch-F.Dir entries))
    (ap out-Node (sym (node.rolls-Dir children)) ∙ out-roll-Node (Node-F.Dir children)) (same_names entries.now children.items all)
    (λ name names. found_below entries.now children.items name names all)

pub is_closed : IsTreeOf sketch.Closed node.Closed
is_closed =
    by_contents sketch.Closed node.Closed Sketch-F.Closed Node-F.Closed
    (ap out-Sketch (sym sketch.rolls-Closed) ∙ out-roll-Sketch Sketch-F.Closed)
    (ap out-Node (sym node.rolls-Closed) ∙ out-roll-Node Node-F.Closed) tt (λ name names. tt)

pub is_other : (what : OtherKind) → IsTreeOf (sketch.Other what) (node.Other what)
is_other what =
    by_contents (sketch.Other what) (node.Other what) (Sketch-F.Other what) (Node-F.Other what)
    (ap out-Sketch (sym (sketch.rolls-Other what)) ∙ out-roll-Sketch (Sketch-F.Other what))
    (ap out-Node (sym (node.rolls-Other what)) ∙ out-roll-Node (Node-F.Other what)) refl (λ name names. tt)

pub is_file : (bytes : Bor (List ℕ)) (held : Vec ℕ Global) → held.items ≡ bytes.now → IsTreeOf (sketch.File bytes) (node.File held)
is_file bytes held same =
    by_contents (sketch.File bytes) (node.File held) (Sketch-F.File bytes) (Node-F.File held)
    (ap out-Sketch (sym (sketch.rolls-File bytes)) ∙ out-roll-Sketch (Sketch-F.File bytes))
    (ap out-Node (sym (node.rolls-File held)) ∙ out-roll-Node (Node-F.File held)) same (λ name names. tt)

pub is_failing : (bytes : Bor (List ℕ)) (held : Vec ℕ Global) → held.items ≡ bytes.now
    → IsTreeOf (sketch.Failing bytes) (node.Failing held)
is_failing bytes held same =
    by_contents (sketch.Failing bytes) (node.Failing held) (Sketch-F.Failing bytes) (Node-F.Failing held)
    (ap out-Sketch (sym (sketch.rolls-Failing bytes)) ∙ out-roll-Sketch (Sketch-F.Failing bytes))
    (ap out-Node (sym (node.rolls-Failing held)) ∙ out-roll-Node (Node-F.Failing held)) same (λ name names. tt)
