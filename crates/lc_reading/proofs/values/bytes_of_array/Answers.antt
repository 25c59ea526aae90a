use Rattle.std.proofs.Common.{◌≢◌, ◌∙◌, List, ℕ, ap, decimal, map, refl, sym}
use Rattle.json.specs.{Json.{array, number}, Value.{items_of, value_view}}
use Rattle.lc_reading.specs.{Members.values_of, StateFaults.AreBytes}
use Rattle.json.proofs.Trees.{view-Array}
use Rattle.lc_reading.proofs.BytesRead.{no_bytes_in}
use Rattle.lc_reading.proofs.values.bytes_of_array.Goals as goal

pub returns-in-None-clause-refused : goal.returns-in-None-clause-refused
returns-in-None-clause-refused c =
    let none : (bytes : List ℕ) → AreBytes bytes → values_of c.deref.result.now ≢ map (λ b. number (decimal b)) bytes =
    rw c.in-None.is at c.in_ok-bytes.ensures in (
      refl,
      λ bytes are e. no_bytes_in (values_of c.deref.result.now) none bytes are
          (ap (λ vs. array (items_of (values_of vs))) c.deref.ensures.value
          ∙ sym (ap value_view c.in-Array.is ∙ view-Array c.in-Array.values) ∙ e),
    )
