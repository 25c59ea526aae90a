-- What `?` passes on.
use Rattle.std.proofs.Common.{◌≡◌, sym, subst, Result, Ok, Err}
use Rattle.std.specs.Result.{IsErrAnd}

-- what holds of a fault holds of the answer that is that fault
pub passed_on : {T E : Type 0} (P : Result T E → Type 0) (answer : Result T E) (fault : E) → IsErrAnd answer (λ e. e ≡ fault)
    → P (Err fault) → P answer
passed_on P (Ok x) fault is holds = absurd is
passed_on {E = E} P (Err e) fault is holds = subst (λ (f : E). P (Err f)) (sym is) holds
