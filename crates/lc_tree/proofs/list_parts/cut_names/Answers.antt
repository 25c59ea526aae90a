use Rattle.std.proofs.Common.{◌≡◌, ◌++◌, List, Vec, ℕ, reverse, sym, subst, arith}
use Rattle.std.specs.Global.{Global}
use Rattle.lc_tree.specs.Parts.{all_of}
use Rattle.lc_tree.proofs.Joining.{cut_more}
use Rattle.lc_tree.proofs.list_parts.cut_names.Goals as goal

pub parts-preserved : goal.parts-preserved
parts-preserved c = (
  subst (λ (ps : List (Vec (Vec ℕ Global) Global)). c.split_off.new.self.items ++ all_of (reverse ps) ≡ c.args.names.items)
      (sym c.in_ok-push.ensures.items)
      (cut_more c.args.names.items c.parts.names.items c.split_off.new.self.items c.parts.parts.items c.in_ok-part.part _
      c.parts.invariant.0 c.in_ok-part.ensures.items c.in_ok-part.ensures.tail),
  omega (arith, c.in_ok-push.ensures.len),
)
