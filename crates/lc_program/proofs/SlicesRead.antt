-- Rules that are read from a slice.
use Rattle.std.proofs.Common.{◌≡◌, ◌≢◌, ◌<◌, ◌+◌, ◌∙◌, ◌++◌, ℕ, zero, suc, List, [], ◌∷◌, length, take, drop, Ok, Err, Some, ap, sym}
use Rattle.std.proofs.Common.{refl, arith, append_assoc, append-nil, length-append}
use Rattle.std.specs.{Borrow.Bor, List.concat}
use Rattle.lc_arguments.specs.Repeated.{lines_text}
use Rattle.lc_io.specs.Reads.{Answer, AnyRoom, Reads, Stop, at_end, at_failure, at_neither, failed, gave}
use Rattle.lc_level.specs.{RuleTextReads.ReadsRuleText, declared.rule_files.rule_text.RulesFileFault.RulesFileFault}
use Rattle.lc_program.specs.Filters.{AnswersPatterns, patterns_text}
use Rattle.lc_level.specs.declared.rule_files.rule_text.RulesFileFault.TheVariants as fault

-- what a read of a slice may give
abbrev pub slice_gives : Bor (List ℕ) → ℕ → Answer → Bor (List ℕ) → Type 0
slice_gives old room answer new = (answer ≡ gave (take room old.now)) × (new.now ≡ drop room old.now)

-- what is left of a slice when its reads have stopped so
abbrev pub IsLeft : Stop → List ℕ → Type 0
IsLeft at_end rest = rest ≡ []
IsLeft at_failure rest = ⊥
IsLeft at_neither rest = Unit {0}

abbrev bytes_given : Answer → List ℕ
bytes_given (gave bytes) = bytes
bytes_given failed = []

-- a read that gives nothing is at the end
at_the_end : (room : ℕ) (bytes : List ℕ) → 0 < room → [] ≡ take room bytes → bytes ≡ []
at_the_end room [] some none = refl
at_the_end zero (b ∷ bs) some none = absurd (omega arith)
at_the_end (suc room) (b ∷ bs) some none = absurd (cc)

take_then_drop : (room : ℕ) (bytes : List ℕ) → bytes ≡ take room bytes ++ drop room bytes
take_then_drop zero bytes = refl
take_then_drop (suc room) [] = refl
take_then_drop (suc room) (b ∷ bs) = ap (λ rest. b ∷ rest) (take_then_drop room bs)

-- the reads of a slice give its first bytes, and never fail
pub slice_read : (pieces : List (List ℕ)) (stop : Stop) (old new : Bor (List ℕ)) → Reads slice_gives AnyRoom old pieces stop new
    → (rest : List ℕ) × (old.now ≡ concat pieces ++ rest) × IsLeft stop rest
slice_read [] at_end old new reads = (old.now, refl, at_the_end reads.0 old.now reads.1 (ap bytes_given reads.3.0))
slice_read [] at_failure old new reads =
    let bad : failed ≡ gave (take reads.0 old.now) = reads.3.0 in
    absurd (cc)
slice_read [] at_neither old new reads = (old.now, refl, tt)
slice_read (piece ∷ pieces) stop old new reads =
    let middle = reads.0 in
    let read = reads.2 in
    let given : piece ≡ take read.0 old.now = ap bytes_given read.3.0 in
    let more = slice_read pieces stop middle new reads.3 in (
      more.0,
      take_then_drop read.0 old.now
          ∙ (ap (λ bytes. bytes ++ drop read.0 old.now) (sym given) ∙ (ap (λ bytes. piece ++ bytes) (sym read.3.1 ∙ more.1)
          ∙ sym (append_assoc piece (concat pieces) more.0))),
      more.2,
    )

some_text : (patterns : List (List ℕ)) → patterns ≢ [] → patterns_text patterns ≡ Some (lines_text patterns)
some_text [] some = absurd (some refl)
some_text (pattern ∷ patterns) some = refl

-- a text of patterns that was read is whole
pub text_read : (patterns : List (List ℕ)) (old new : Bor (List ℕ)) (text : List ℕ) → patterns ≢ [] → old.now ≡ lines_text patterns
    → ReadsRuleText slice_gives old (Ok text) new → AnswersPatterns patterns (Ok (Some text))
text_read patterns old new text some is reads =
    let given = reads.1 in
    let read = slice_read given.pieces at_end old new given.reads in
    ap Some (sym given.joined ∙ (sym (append-nil (concat given.pieces)) ∙ (ap (λ rest. concat given.pieces ++ rest) (sym read.2)
    ∙ (sym read.1 ∙ is)))) ∙ sym (some_text patterns some)

-- and one that was not is too long
pub text_unread : (patterns : List (List ℕ)) (old new : Bor (List ℕ)) (why : RulesFileFault) → old.now ≡ lines_text patterns
    → ReadsRuleText slice_gives old (Err why) new → AnswersPatterns patterns (Err why)
text_unread patterns old new fault.Read is reads =
    let given = reads.1.1 in
    absurd (slice_read given.pieces at_failure old new given.reads).2
text_unread patterns old new fault.TooLong is reads =
    let given = reads.1.1 in
    let read = slice_read given.pieces at_neither old new given.reads in
    let whole : length (lines_text patterns) ≡ length reads.0 + length read.0 =
    ap length (sym is ∙ read.1) ∙ (length-append (concat given.pieces) read.0 ∙ ap (λ bytes. length bytes + length read.0) given.joined) in
    omega (arith, whole, reads.1.0)
text_unread patterns old new fault.Memory is reads = tt
