-- The members of an object that is read member by member.
use Rattle.std.proofs.Common.{arith, ◌≡◌, ◌≢◌, ◌∙◌, ℕ, Bool, true, false, cond, List, [], ◌∷◌, ◌++◌, refl, sym, ap, subst, append_assoc}
use Rattle.std.proofs.{Common.{Option, append-nil, Some, None, option_map, inl, inr}, lemmas.Grind.common_steps}
use Rattle.std.proofs.lemmas.{List.Concat.flat_map-append, Slice.Eq.bytes_eq-Decides, Bool.false_from_ne_true}
use Rattle.std.specs.{Borrow.Bor, Str.bytes_eq, Global.Global, Prelude.{◌⊎◌, OnOk, is_some, Result, Ok, Err, Vec}, List.flat_map}
use Rattle.lc_level.specs.{FaultLines.FaultLineModel, Level.{FileLineModel, SkippedLineModel}}
use Rattle.json.specs.{Json.{Json, skip_value, value, read_key}, Token.{Token, key, begin_object, end_object}, Tree.json_tokens}
use Rattle.json.specs.{Tree.members_tokens, Value.value_view, declared.value.Value.Value}
use Rattle.json.proofs.{Grammar.{key_token, left_some, read_key_is}, Unique.Spelling.value-json_tokens_back}
use Rattle.lc_reading.specs.{Lines.{IsFaultOf, IsFileOf, IsSkippedOf}, Lists.{BeginsWith, IsListOf}, MemberNames.member_name}
use Rattle.lc_reading.specs.{Members.{Member, Lacks, members_of, members_with, named, values_at}, Objects.{Fills, IsObjectOf, IsPassed}}
use Rattle.lc_reading.specs.{Objects.{IsTopMember, MayHaveLines, TakesMember, TakesObject, is_value}, Rows.IsRowOf}
use Rattle.lc_reading.specs.declared.{member_name.MemberName.MemberName, object.Object.Object, rows.ReadRow.ReadRow}
use Rattle.lc_reading.specs.declared.top_member.TopMember.TheVariants.{Other}
use Rattle.lc_reading.proofs.WordTables.{IsIn, value_in, value_names}
use Rattle.lc_reading.specs.declared.member_name.MemberName.TheVariants as name

pub value_skipped : (d : ℕ) (old new : List Token) → skip_value d old ≡ Some new → IsPassed old new
value_skipped d old new e = grind (arith, common_steps, left_some, value-json_tokens_back)

pub key_taken : (k : Option (List ℕ)) (old new : List Token) → read_key old ≡ Some (k, new) → old ≡ key_token k ∷ new
key_taken k old new e = read_key_is old k new e

-- ---- one member more

more_at : (n : List ℕ) (b : Bool) (j : Json) (xs ys zs : List Json) → xs ≡ ys ++ zs → cond b (j ∷ xs) xs ≡ cond b (j ∷ ys) ys ++ zs
more_at n b j xs ys zs e = grind (arith, common_steps)

values_more : (n : List ℕ) (ms : List Member) (k : List ℕ) (j : Json)
    → values_at n (ms ++ (k, j) ∷ []) ≡ values_at n ms ++ cond (bytes_eq k n) (j ∷ []) []
values_more n [] k j = refl
values_more n (m ∷ ms) k j = more_at n (bytes_eq m.0 n) m.1 _ _ _ (values_more n ms k j)

append-none : (xs : List Json) → xs ++ [] ≡ xs
append-none xs = grind (arith, common_steps)

kept : (n : List ℕ) (ms : List Member) (k : List ℕ) (j : Json) → bytes_eq k n ≡ false → values_at n (ms ++ (k, j) ∷ []) ≡ values_at n ms
kept n ms k j e = values_more n ms k j ∙ ap (λ b. values_at n ms ++ cond b (j ∷ []) []) e ∙ append-none (values_at n ms)

added : (n : List ℕ) (ms : List Member) (k : List ℕ) (j : Json) → bytes_eq k n ≡ true
    → values_at n (ms ++ (k, j) ∷ []) ≡ values_at n ms ++ j ∷ []
added n ms k j e = values_more n ms k j ∙ ap (λ b. values_at n ms ++ cond b (j ∷ []) []) e

-- ---- names apart

abbrev AllOf : {A : Type 0} → (A → Type 0) → List A → Type 0
AllOf P [] = Unit {0}
AllOf P (x ∷ xs) = P x × AllOf P xs

each_of : {A : Type 0} (P : A → Type 0) (xs : List A) → AllOf P xs → (a : A) → IsIn a xs → P a
each_of P [] all a i = absurd i
each_of P (x ∷ xs) all a (inl e) = subst P e all.0
each_of P (x ∷ xs) all a (inr i) = each_of P xs all.1 a i

-- this name is that of no value
abbrev Apart : List ℕ → Type 0
Apart k = (n : MemberName) → is_value n ≡ true → bytes_eq k (member_name n) ≡ false

apart : (l : List ℕ) → AllOf (λ n. bytes_eq l (member_name n) ≡ false) value_names → (k : List ℕ) → k ≡ l → Apart k
apart l all k e = grind (arith, common_steps, each_of, value_names, value_in)

module _ {L : Type 0} (Says : List Member → L → Type 0) (n : MemberName) (ms : List Member) (k : List ℕ) (j : Json) where
  lines_kept : (o : Option (List L)) → bytes_eq k (member_name n) ≡ false → MayHaveLines Says n ms o
      → MayHaveLines Says n (ms ++ (k, j) ∷ []) o
  lines_kept o e is = grind (arith, common_steps, kept)

  lines_filled : (o : Option (List L)) (ls : List L) → o ≡ None → bytes_eq k (member_name n) ≡ true → MayHaveLines Says n ms o
      → IsListOf Says j ls
      → MayHaveLines Says n (ms ++ (k, j) ∷ []) (Some ls)
  lines_filled o ls none e is list = grind (arith, common_steps, added)

equal_to : (k l : List ℕ) → k ≡ l → bytes_eq k l ≡ true
equal_to k l e = (bytes_eq-Decides k l).1 e

other_than : (k l m : List ℕ) → k ≡ l → bytes_eq l m ≡ false → bytes_eq k m ≡ false
other_than k l m e is = ap (λ (s : List ℕ). bytes_eq s m) e ∙ is

not_equal : (k l : List ℕ) → k ≢ l → bytes_eq k l ≡ false
not_equal k l differ = false_from_ne_true _ (λ e. differ ((bytes_eq-Decides k l).0 e))

pub none_if : {A : Type 0} (o : Option A) → is_some o ≡ false → o ≡ None
none_if o e = grind (arith, common_steps)

-- ---- one list more, or another member

abbrev items : {A : Type 0} → Option (Vec A Global) → Option (List A)
items o = option_map (λ v. v.items) o

-- a member with the name of a list fills it, and a member with another name leaves it
abbrev Step : {L : Type 0} → (List Member → L → Type 0) → MemberName → List ℕ → Json → Option (List L) → Option (List L) → Type 0
Step {L} Says n k j old new =
    ((bytes_eq k (member_name n) ≡ false) × (new ≡ old))
    ⊎ ((old ≡ None) × (bytes_eq k (member_name n) ≡ true) × ((ls : List L) × (new ≡ Some ls) × IsListOf Says j ls))

stepped : {L : Type 0} (Says : List Member → L → Type 0) (n : MemberName) (ms : List Member) (k : List ℕ) (j : Json)
    (old new : Option (List L)) → Step Says n k j old new → MayHaveLines Says n ms old → MayHaveLines Says n (ms ++ (k, j) ∷ []) new
stepped Says n ms k j old new is so = grind (arith, common_steps, kept, lines_kept, lines_filled)

-- a member was read: each list takes its step, and the values are those of the members
member_taken : (attributes : List (List ℕ)) (k : List ℕ) (old new : Object) (before after : List Token) (j : Json)
    → before ≡ json_tokens j ++ after
    → ((ms : List Member) (n : MemberName) → is_value n ≡ true → named n (members_of old.values.items) ≡ named n ms
    → named n (members_of new.values.items) ≡ named n (ms ++ (k, j) ∷ []))
    → Step IsRowOf name.Rows k j (items old.rows) (items new.rows) → Step (IsFileOf attributes) name.Files k j (items old.files)
    (items new.files)
    → Step IsSkippedOf name.Left k j (items old.skipped) (items new.skipped)
    → Step IsFaultOf name.Faults k j (items old.faults) (items new.faults) → TakesMember attributes k old new before after
member_taken attributes k old new before after j tokens values rows files skipped faults = grind (arith, common_steps, stepped)

-- a list was read
module _ {L : Type 0} (Says : List Member → L → Type 0) (n : MemberName) (k : List ℕ) (e : k ≡ member_name n)
    (old new : Option (Vec L Global)) (before after : List Token) (f : Fills Says old new before after) where
  list_filled : Step Says n k f.begins.value (items old) (items new)
  list_filled = inr (ap items f.none, equal_to k (member_name n) e, (f.lines, f.filled, f.begins.is))

-- the values are those of the members, since the name is that of none
values_kept : (k : List ℕ) (vs : List Member) (j : Json) → Apart k → (ms : List Member) (n : MemberName) → is_value n ≡ true
    → named n vs ≡ named n ms → named n vs ≡ named n (ms ++ (k, j) ∷ [])
values_kept k vs j differ ms n is same = same ∙ sym (kept (member_name n) ms k j (differ n is))

pub rows_filled : (attributes : List (List ℕ)) (k : List ℕ) → k ≡ member_name name.Rows → (old : Object) (rows : Option
    (Vec ReadRow Global)) (before after : List Token)
    → Fills IsRowOf old.rows rows before after → TakesMember attributes k old (record old { rows = rows }) before after
rows_filled attributes k e old rows before after f =
    grind (arith, common_steps, member_taken, values_kept, apart, list_filled, other_than)

pub files_filled : (attributes : List (List ℕ)) (k : List ℕ) → k ≡ member_name name.Files → (old : Object) (files : Option
    (Vec FileLineModel Global)) (before after : List Token)
    → Fills (IsFileOf attributes) old.files files before after → TakesMember attributes k old (record old { files = files }) before after
files_filled attributes k e old files before after f =
    grind (arith, common_steps, member_taken, values_kept, apart, other_than, list_filled)

pub skipped_filled : (attributes : List (List ℕ)) (k : List ℕ) → k ≡ member_name name.Left → (old : Object) (skipped : Option
    (Vec SkippedLineModel Global)) (before after : List Token)
    → Fills IsSkippedOf old.skipped skipped before after → TakesMember attributes k old (record old { skipped = skipped }) before after
skipped_filled attributes k e old skipped before after f =
    grind (arith, common_steps, member_taken, values_kept, apart, other_than, list_filled)

pub faults_filled : (attributes : List (List ℕ)) (k : List ℕ) → k ≡ member_name name.Faults
    → (old : Object) (faults : Option (Vec FaultLineModel Global)) (before after : List Token)
    → Fills IsFaultOf old.faults faults before after → TakesMember attributes k old (record old { faults = faults }) before after
faults_filled attributes k e old faults before after f =
    grind (arith, common_steps, member_taken, values_kept, apart, other_than, list_filled)

same_rest : (xs ys : List Json) (b : Bool) (j : Json) → xs ≡ ys → xs ++ cond b (j ∷ []) [] ≡ ys ++ cond b (j ∷ []) []
same_rest xs ys b j e = ap (λ (s : List Json). s ++ cond b (j ∷ []) []) e

pub lent_more : {A : Type 0} (vs : List (Bor (List ℕ) × Value A)) (v : Bor (List ℕ) × Value A)
    → members_of (vs ++ v ∷ []) ≡ members_of vs ++ (v.0.now, value_view v.1) ∷ []
lent_more [] v = refl
lent_more (w ∷ vs) v = ap (λ (s : List Member). (w.0.now, value_view w.1) ∷ s) (lent_more vs v)

-- a list's name is that of no value
list_apart : (l : List ℕ) → AllOf (λ n. bytes_eq (member_name n) l ≡ false) value_names → (n : MemberName) → is_value n ≡ true
    → (k : List ℕ) → k ≡ member_name n → bytes_eq k l ≡ false
list_apart l all n is k e = grind (arith, common_steps, each_of, value_names, value_in)

-- a member that is no list was read
pub small_taken : (attributes : List (List ℕ)) (n : MemberName) → is_value n ≡ true → (k : List ℕ) → k ≡ member_name n → (old : Object)
    (values : Vec (Bor (List ℕ) × Value Global) Global) (before after : List Token) (j : Json) → before ≡ json_tokens j ++ after
    → members_of values.items ≡ members_of old.values.items ++ (k, j) ∷ [] → TakesMember attributes k old
    (record old { values = values }) before after
small_taken attributes n is k e old values before after j tokens pushed =
    member_taken attributes k old (record old { values = values }) before after j tokens
    (λ ms m is_m same. ap (λ (s : List Member). named m s) pushed ∙ values_more (member_name m) (members_of old.values.items) k j
    ∙ same_rest _ _ (bytes_eq k (member_name m)) j same ∙ sym (values_more (member_name m) ms k j))
    (inl (list_apart (member_name name.Rows) (refl, (refl, (refl, (refl, (refl, (refl, tt)))))) n is k e, refl))
    (inl (list_apart (member_name name.Files) (refl, (refl, (refl, (refl, (refl, (refl, tt)))))) n is k e, refl))
    (inl (list_apart (member_name name.Left) (refl, (refl, (refl, (refl, (refl, (refl, tt)))))) n is k e, refl))
    (inl (list_apart (member_name name.Faults) (refl, (refl, (refl, (refl, (refl, (refl, tt)))))) n is k e, refl))

-- a member was passed over
pub other_taken : (attributes : List (List ℕ)) (k : List ℕ) → IsTopMember k Other → (o : Object) (before after : List Token)
    → IsPassed before after
    → TakesMember attributes k o o before after
other_taken attributes k other o before after passed =
    member_taken attributes k o o before after passed.value passed.tokens_are
    (values_kept k (members_of o.values.items) passed.value (λ n is. not_equal k (member_name n) (other.4 n is)))
    (inl (not_equal k (member_name name.Rows) other.0, refl)) (inl (not_equal k (member_name name.Files) other.1, refl))
    (inl (not_equal k (member_name name.Left) other.2, refl)) (inl (not_equal k (member_name name.Faults) other.3, refl))

-- ---- all members

-- some first members were read
pub record MembersSoFar (attributes : List (List ℕ)) (o : Object) (start now : List Token) : Type 0 where
  pub members : List Member
  pub tokens_are : start ≡ flat_map (λ (m : Member). key m.0 ∷ json_tokens m.1) members ++ now
  pub is : IsObjectOf attributes members o

abbrev member_tokens : Member → List Token
member_tokens m = key m.0 ∷ json_tokens m.1

tokens_of_members : (ms : List Member) → members_tokens (members_with ms) ≡ flat_map member_tokens ms ++ end_object ∷ []
tokens_of_members [] = refl
tokens_of_members (m ∷ ms) = grind (arith, common_steps, append_assoc, tokens_of_members ms)

pub members_none : (attributes : List (List ℕ)) (o : Object) (start : List Token) → IsObjectOf attributes [] o
    → MembersSoFar attributes o start start
members_none attributes o start none = record { members = []; tokens_are = refl; is = none }

pub member_more : (attributes : List (List ℕ)) (old new : Object) (start now between after : List Token) (k : List ℕ)
    → MembersSoFar attributes old start now → now ≡ key k ∷ between → TakesMember attributes k old new between after
    → MembersSoFar attributes new start after
member_more attributes old new start now between after k far next takes =
    grind (arith, common_steps, append_assoc, append-nil, flat_map-append)

pub all_members_read : (attributes : List (List ℕ)) (o : Object) (start now after : List Token) → MembersSoFar attributes o start now
    → now ≡ end_object ∷ after
    → TakesObject attributes o (begin_object ∷ start) after
all_members_read attributes o start now after far ended = grind (arith, common_steps, append_assoc, tokens_of_members)

pub on_ok : {A E : Type 0} {P Q : Type 0} (r : Result A E) → (P → Q) → OnOk r P → OnOk r Q
on_ok r f p = grind (arith, common_steps)
