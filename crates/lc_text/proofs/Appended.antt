-- What a call that appends did.
use Rattle.std.proofs.Common.{◌≡◌, ◌++◌, ◌∙◌, List, ℕ, Result, Ok, Err, OnOk, is_ok, if◌then◌else◌, sym, ap}

-- a success appended what equals this text
pub appended : {T E : Type 0} (answer : Result T E) (old more new text : List ℕ) → new ≡ (if is_ok answer then old ++ more else old)
    → text ≡ more → OnOk answer (new ≡ old ++ text)
appended (Ok v) old more new text is same = is ∙ ap (λ l. old ++ l) (sym same)
appended (Err e) old more new text is same = tt

-- and so did another that appended the same
pub appended_same : {T E : Type 0} (answer : Result T E) (old new more text : List ℕ) → OnOk answer (new ≡ old ++ more)
    → text ≡ more → OnOk answer (new ≡ old ++ text)
appended_same (Ok v) old new more text is same = is ∙ ap (λ l. old ++ l) (sym same)
appended_same (Err e) old new more text is same = tt
