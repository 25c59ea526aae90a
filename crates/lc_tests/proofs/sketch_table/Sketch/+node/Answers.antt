use Rattle.std.proofs.{Common.{sym, subst, List}, lemmas.List.take_all}
use Rattle.lc_tests.specs.{Sketches.{Drawn, IsTreeOf}, declared.sketch_table.Sketch.Sketch}
use Rattle.lc_tests.proofs.Sketching.{AreTreesOf, is_closed, is_directory, is_failing, is_file, is_other, trees_next}
use Rattle.lc_tree.specs.declared.node.Node.TheVariants as node
use Rattle.lc_tests.proofs.sketch_table.Sketch.+node.Goals as goal

pub loop-entry-preserved : goal.loop-entry-preserved
loop-entry-preserved t c =
    trees_next c.in-Dir.entries.now c.loop-entry.entry-index _ c.loop-entry.children.items c.push.new.self.items
    (c.in_ok-to_vec-in-Dir.field-0, c.in_ok-node-in-Dir.field-0) c.loop-entry-test.true c.loop-entry.invariant
    (c.in_ok-to_vec-in-Dir.ensures.items_if_clones_equal (λ x y e. e)) c.in_ok-node-in-Dir.ensures c.in_ok-push-in-Dir.ensures.items

pub returns-after-loop-entry : goal.returns-after-loop-entry
returns-after-loop-entry t c =
    let all : AreTreesOf c.in-Dir.entries.now c.loop-entry.children.items
    = subst (λ (es : List Drawn). AreTreesOf es c.loop-entry.children.items) (take_all _ c.in-Dir.entries.now c.loop-entry-test.false)
    c.loop-entry.invariant in
    subst (λ (s : Sketch). IsTreeOf s (node.Dir c.loop-entry.children)) (sym c.in-Dir.is)
    (is_directory c.in-Dir.entries c.loop-entry.children all)

pub returns-in-Closed : goal.returns-in-Closed
returns-in-Closed t c = subst (λ (s : Sketch). IsTreeOf s node.Closed) (sym c.in-Closed.is) is_closed

pub returns-in-Other : goal.returns-in-Other
returns-in-Other t c = subst (λ (s : Sketch). IsTreeOf s (node.Other c.in-Other.what)) (sym c.in-Other.is) (is_other c.in-Other.what)

pub returns-in_ok-to_vec-in-File : goal.returns-in_ok-to_vec-in-File
returns-in_ok-to_vec-in-File t c =
    let held = c.in_ok-to_vec-in-File.field-0 in
    subst (λ (s : Sketch). IsTreeOf s (node.File held)) (sym c.in-File.is)
    (is_file c.in-File.bytes held (c.in_ok-to_vec-in-File.ensures.items_if_clones_equal (λ x y e. e)))

pub returns-in_ok-to_vec-in-Failing : goal.returns-in_ok-to_vec-in-Failing
returns-in_ok-to_vec-in-Failing t c =
    let held = c.in_ok-to_vec-in-Failing.field-0 in
    subst (λ (s : Sketch). IsTreeOf s (node.Failing held)) (sym c.in-Failing.is)
    (is_failing c.in-Failing.bytes held (c.in_ok-to_vec-in-Failing.ensures.items_if_clones_equal (λ x y e. e)))
