-- A lent object as its members.
use Rattle.std.proofs.Common.{◌≡◌, ◌∙◌, ℕ, List, [], ◌∷◌, refl, ap, Vec}
use Rattle.std.specs.Borrow.{Bor}
use Rattle.json.specs.{Json.{member, object}, Value.{value_view, members_view}, declared.value.Value.{Value, Object}}
use Rattle.json.proofs.Trees.{view-Object}
use Rattle.lc_reading.specs.Members.{members_of, members_with}

same_members : {A : Type 0} (ms : List (Bor (List ℕ) × Value A)) → members_view ms ≡ members_with (members_of ms)
same_members [] = refl
same_members (m ∷ ms) = ap (member m.0.now (value_view m.1)) (same_members ms)

pub object_of_members : {A : Type 0} (v : Vec (Bor (List ℕ) × Value A) A)
    → value_view (Object v) ≡ object (members_with (members_of v.items))
object_of_members v = view-Object v ∙ ap object (same_members v.items)
