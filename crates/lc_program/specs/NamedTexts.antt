-- A text that the command line names: that of a file, or of the input.
use Rattle.std.specs.{Prelude.{◌≡◌, ◌≢◌, ◌⊎◌, ◌≤◌, ◌+◌, ℕ, List, length, Vec, codes, Result, Ok, Err, None}, Global.Global, List.concat}
use Rattle.lc_io.specs.{Reads.{Answer, at_end, at_failure, at_neither}, Whole.AnswersWhole, declared.whole.WholeFault.WholeFault}
use Rattle.lc_io.specs.declared.whole.WholeFault.TheVariants.{Read, TooLong, Memory}
use Rattle.lc_tree.specs.Trees.{Contents}

-- what reading a text may answer: its bytes, read whole and up to a limit; or the reads failed, or gave more bytes; or an allocation failed
abbrev pub ReadsText : {I : Type 0} → ℕ → (I → ℕ → Answer → I → Type 0) → I → Result (Vec ℕ Global) WholeFault → I → Type 0
ReadsText limit may_give old (Ok bytes) new = AnswersWhole may_give limit old (Ok tt) bytes.items new
ReadsText limit may_give old (Err Read) new = (bytes : List ℕ) × AnswersWhole may_give limit old (Err Read) bytes new
ReadsText limit may_give old (Err TooLong) new = (bytes : List ℕ) × AnswersWhole may_give limit old (Err TooLong) bytes new
ReadsText limit may_give old (Err Memory) new = Unit {0}

-- what reading the text of a file may answer, by what reads of the file may give
abbrev pub LoadsText : ℕ → Contents → Result (Vec ℕ Global) WholeFault → Type 0
LoadsText limit gives (Ok bytes) =
    (pieces : List (List ℕ)) × gives None pieces at_end × (concat pieces ≡ bytes.items) × (length bytes.items ≤ limit)
LoadsText limit gives (Err Read) = (pieces : List (List ℕ)) × gives None pieces at_failure × (length (concat pieces) ≤ limit)
LoadsText limit gives (Err TooLong) = (pieces : List (List ℕ)) × gives None pieces at_neither × (length (concat pieces) ≡ limit + 1)
LoadsText limit gives (Err Memory) = Unit {0}

-- what reading the text with this name may answer: `-` is the input, and any other name that of a file
abbrev pub ReadsNamed : {I : Type 0} → ℕ → (I → ℕ → Answer → I → Type 0) → (List ℕ → Contents) → List ℕ → I
    → Result (Vec ℕ Global) WholeFault → I → Type 0
ReadsNamed limit may_give holds name input answer read =
    ((name ≡ codes "-") × ReadsText limit may_give input answer read)
    ⊎ ((name ≢ codes "-") × LoadsText limit (holds name) answer × (read ≡ input))
