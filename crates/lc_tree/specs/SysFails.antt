-- That a directory of the system may fail to be listed: the proof of the law of a tree, which is read from here.
use Rattle.std.proofs.Common.{ℕ, List, inr, refl}
use Rattle.lc_io.specs.Reads.{Answer}
use Rattle.lc_tree.specs.{SysLists.SysListings, SysTrees.SysTop, Trees.{TellsSome, unread}}
use Rattle.lc_tree.specs.declared.read_fault.ReadFault.TheVariants.{Failed}

pub may_fail : {D : Type 0} (may_give : D → ℕ → Answer → D → Type 0) (top : SysTop) (path : List ℕ)
    → TellsSome (SysListings may_give top path)
may_fail may_give top path = (unread, tt, inr (Failed, (λ rooms. tt), refl))
