-- A text that was read of a file.
use Rattle.std.proofs.Common.{◌≡◌, ◌≤◌, ◌+◌, ℕ, List, length, None, Result, Ok, Err, sym, subst}
use Rattle.std.specs.{Prelude.Vec, Global.Global}
use Rattle.lc_io.specs.{Reads.{Answer, at_end, at_failure, at_neither}, declared.whole.WholeFault.WholeFault}
use Rattle.lc_io.specs.declared.whole.WholeFault.TheVariants.{Read, TooLong, Memory}
use Rattle.lc_tree.specs.Trees.{Contents, GivesOnly}
use Rattle.lc_program.specs.NamedTexts.{LoadsText, ReadsText}

-- what reading an opened file answered is what loading it answers
module _ (limit : ℕ) {F : Type 0} (may_give : F → ℕ → Answer → F → Type 0) (gives : Contents) (file read : F)
    (only : GivesOnly may_give gives file) where
  pub loads_text : (answer : Result (Vec ℕ Global) WholeFault) → ReadsText limit may_give file answer read → LoadsText limit gives answer
  loads_text (Ok bytes) reads = (reads.1.pieces, only None reads.1.pieces at_end read reads.1.reads, reads.1.joined, reads.0)
  loads_text (Err Read) reads =
      let given = reads.1.1 in (
        given.pieces,
        only None given.pieces at_failure read given.reads,
        subst (λ (bytes : List ℕ). length bytes ≤ limit) (sym given.joined) reads.1.0,
      )
  loads_text (Err TooLong) reads =
      let given = reads.1.1 in (
        given.pieces,
        only None given.pieces at_neither read given.reads,
        subst (λ (bytes : List ℕ). length bytes ≡ limit + 1) (sym given.joined) reads.1.0,
      )
  loads_text (Err Memory) reads = tt
