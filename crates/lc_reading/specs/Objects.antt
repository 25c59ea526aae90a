-- The members of a report.
use Rattle.std.specs.Prelude.{◌≡◌, ◌≢◌, ◌++◌, ℕ, Bool, true, false, List, [], ◌∷◌, MatchOption, Option, Some, None, option_map, Vec}
use Rattle.std.specs.Global.{Global}
use Rattle.json.specs.{Json.{Json, object}, Token.Token, Tree.json_tokens}
use Rattle.lc_reading.specs.{Lines.{IsFaultOf, IsFileOf, IsSkippedOf}, Lists.{BeginsWith, IsListOf}, MemberNames.member_name}
use Rattle.lc_reading.specs.{Members.{Member, Has, Lacks, members_of, members_with, named}, Rows.IsRowOf}
use Rattle.lc_reading.specs.declared.{member_name.MemberName.MemberName, object.Object.Object, top_member.TopMember.TopMember}
use Rattle.lc_reading.specs.declared.member_name.MemberName.TheVariants as member
use Rattle.lc_reading.specs.declared.top_member.TopMember.TheVariants as top

-- whether a member of a report with this name is not a list
abbrev pub is_value : MemberName → Bool
is_value member.Others = true
is_value member.Total = true
is_value member.Text = true
is_value member.Binary = true
is_value member.Directories = true
is_value member.Entries = true
is_value _ = false

-- the member of a report that this name stands for
abbrev pub IsTopMember : List ℕ → TopMember → Type 0
IsTopMember k top.Rows = k ≡ member_name member.Rows
IsTopMember k top.Files = k ≡ member_name member.Files
IsTopMember k top.Left = k ≡ member_name member.Left
IsTopMember k top.Faults = k ≡ member_name member.Faults
IsTopMember k (top.Value n) = (is_value n ≡ true) × (k ≡ member_name n)
IsTopMember k top.Other =
    (k ≢ member_name member.Rows) × (k ≢ member_name member.Files) × (k ≢ member_name member.Left) × (k ≢ member_name member.Faults)
    × ((n : MemberName) → is_value n ≡ true → k ≢ member_name n)

-- the one member of this name is a list of these lines
pub record HasLines {L : Type 0} (Says : List Member → L → Type 0) (name : MemberName) (ms : List Member) (lines : List L) : Type 0 where
  pub value : Json
  pub has : Has name ms value
  pub list : IsListOf Says value lines

-- the one member of this name is a list of these lines; or, without lines, there is no such member
abbrev pub MayHaveLines : {L : Type 0} → (List Member → L → Type 0) → MemberName → List Member → Option (List L) → Type 0
MayHaveLines Says name ms lines = MatchOption lines (Lacks name ms) (HasLines Says name ms)

-- these members of a report were read as this object, its lists line by line; its files have the states of these attributes
pub record IsObjectOf (attributes : List (List ℕ)) (ms : List Member) (o : Object) : Type 0 where
  pub values : (n : MemberName) → is_value n ≡ true → named n (members_of o.values.items) ≡ named n ms
  pub rows : MayHaveLines IsRowOf member.Rows ms (option_map (λ v. v.items) o.rows)
  pub files : MayHaveLines (IsFileOf attributes) member.Files ms (option_map (λ v. v.items) o.files)
  pub skipped : MayHaveLines IsSkippedOf member.Left ms (option_map (λ v. v.items) o.skipped)
  pub faults : MayHaveLines IsFaultOf member.Faults ms (option_map (λ v. v.items) o.faults)

-- a list that was not there was read from the tokens
pub record Fills {L : Type 0} (Says : List Member → L → Type 0) (old new : Option (Vec L Global)) (before after : List Token) : Type 0
  where
    pub none : old ≡ None
    pub lines : List L
    pub filled : option_map (λ v. v.items) new ≡ Some lines
    pub begins : BeginsWith (IsListOf Says) before after lines

-- a member of this name was read from the tokens, and added to the object
pub record TakesMember (attributes : List (List ℕ)) (k : List ℕ) (old new : Object) (before after : List Token) : Type 0 where
  pub value : Json
  pub tokens_are : before ≡ json_tokens value ++ after
  pub adds : (ms : List Member) → IsObjectOf attributes ms old → IsObjectOf attributes (ms ++ (k, value) ∷ []) new

-- a value was skipped: the tokens begin with it
pub record IsPassed (before after : List Token) : Type 0 where
  pub value : Json
  pub tokens_are : before ≡ json_tokens value ++ after

-- an object was read from the tokens
pub record TakesObject (attributes : List (List ℕ)) (o : Object) (before after : List Token) : Type 0 where
  pub members : List Member
  pub tokens_are : before ≡ json_tokens (object (members_with members)) ++ after
  pub is : IsObjectOf attributes members o
