-- What reading a rule file of a directory may return.
use Rattle.std.specs.Prelude.{◌≡◌, ℕ, Bool, true, false, if◌then◌else◌, List, Vec, Option, Some, None, Result, Ok, Err, option_map}
use Rattle.std.specs.{Global.Global, declared.sync.Arc.Arc, Arc.arc_value}
use Rattle.lc_tree.specs.Trees.{Contents}
use Rattle.lc_level.specs.{FileReads.MayReadRules, declared.{fault_word.FaultWord.FaultWord, rule_files.IgnoreRead.IgnoreRead}}
use Rattle.lc_level.specs.declared.content_fault.ContentFault.{ContentFault}
use Rattle.lc_rules.specs.IgnoreRules.{rules_of}
use Rattle.lc_level.specs.declared.content_fault.ContentFault.TheVariants as content_fault

-- what reading a file may have returned: nothing if it is not there, otherwise its bytes or its error
abbrev pub MayGive : Contents → Bool → Option (Result (List ℕ) FaultWord) → Type 0
MayGive gives there None = there ≡ false
MayGive gives there (Some read) = (there ≡ true) × MayReadRules gives read

-- the result says whether the file is there, with these bytes if it is, or has the error of reading it
abbrev pub IsRead : Contents → Bool → Result Bool ContentFault → List ℕ → Type 0
IsRead gives there (Ok false) bytes = MayGive gives there None
IsRead gives there (Ok true) bytes = MayGive gives there (Some (Ok bytes))
IsRead gives there (Err (content_fault.Fault word)) bytes = MayGive gives there (Some (Err word))
IsRead gives there (Err content_fault.Memory) bytes = Unit {0}

-- the value that is shared, if there is one
abbrev pub shared : {R A : Type 0} → Option (Arc R A) → Option R
shared None = None
shared (Some file) = Some (arc_value file)

-- the result has the rule file of the bytes that were read, if it is there, or the error of reading it
abbrev pub IsParsed : {R A : Type 0} → Contents → Bool → (List ℕ → R) → Result (Option (Arc R A)) ContentFault → Type 0
IsParsed gives there parse (Ok file) =
    (bytes : Option (List ℕ)) × (shared file ≡ option_map parse bytes) × MayGive gives there (option_map Ok bytes)
IsParsed gives there parse (Err (content_fault.Fault word)) = MayGive gives there (Some (Err word))
IsParsed gives there parse (Err content_fault.Memory) = Unit {0}

-- the bytes of a text, if there is one
abbrev pub text_items : Option (Vec ℕ Global) → Option (List ℕ)
text_items text = option_map (λ (t : Vec ℕ Global). t.items) text

-- the text of a file, where texts are kept
abbrev pub text_if : Bool → Option (List ℕ) → Option (List ℕ)
text_if texts bytes = if texts then bytes else None

-- like `IsParsed` for an ignore file, whose text is kept if `texts` is set
abbrev pub IsIgnoreRead : Bool → Contents → Bool → Result IgnoreRead ContentFault → Type 0
IsIgnoreRead texts gives there (Ok read) =
    (bytes : Option (List ℕ)) × (shared read.file ≡ option_map rules_of bytes) × (text_items read.text ≡ text_if texts bytes)
    × MayGive gives there (option_map Ok bytes)
IsIgnoreRead texts gives there (Err (content_fault.Fault word)) = MayGive gives there (Some (Err word))
IsIgnoreRead texts gives there (Err content_fault.Memory) = Unit {0}
