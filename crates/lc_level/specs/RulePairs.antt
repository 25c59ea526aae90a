-- What reading the two rule files of one directory may return.
use Rattle.std.specs.Prelude.{◌≡◌, ℕ, Bool, not, ◌&&◌, ◌⊎◌, List, Option, Some, Result, Ok, Err, option_map, codes}
use Rattle.lc_glob.specs.Path.{path_in}
use Rattle.lc_rules.specs.{IgnoreRules.rules_of, AttrLines.attribute_file_of}
use Rattle.lc_level.specs.{EntryLooks.has_file, RuleFiles.{Pair, is_top}, RuleReads.{shared, text_items, text_if, MayGive}}
use Rattle.lc_level.specs.declared.rule_files.rule_pair.{RulePair.RulePair, PairNames.PairNames, PairRead.PairRead}
use Rattle.lc_level.specs.declared.open_fault.OpenFault.{OpenFault, TheVariants.{Faulted, Memory, TooDeep}}
use Rattle.lc_level.specs.declared.content_fault.ContentFault.{ContentFault}
use Rattle.lc_level.specs.declared.fault_site.FaultSite.{FaultSite, TheVariants.{Gitignore, Gitattributes}}
use Rattle.lc_level.specs.declared.fault_word.FaultWord.{FaultWord}
use Rattle.lc_tree.specs.{Listing.EntryModel, Trees.Contents}
use Rattle.lc_level.specs.declared.content_fault.ContentFault.TheVariants as content_fault

-- the error of a directory whose file at a site could not be read
abbrev pub open_fault_by : FaultSite → ContentFault → OpenFault
open_fault_by site (content_fault.Fault word) = Faulted site word
open_fault_by site content_fault.Memory = Memory

-- the two rule files are those of these bytes
pub record AreFilesOf (top : Bool) (files : RulePair) (bytes : Pair) : Type 0 where
  pub rules : shared files.rules ≡ option_map rules_of bytes.rules
  pub attributes : shared files.attributes ≡ option_map (attribute_file_of top) bytes.attributes

-- the two rule files were read from these bytes; the text of the ignore file is kept if `texts` is set
pub record IsReadOf (texts top : Bool) (read : PairRead) (bytes : Pair) : Type 0 where
  pub files : AreFilesOf top read.files bytes
  pub text : text_items read.text ≡ text_if texts bytes.rules

-- the name of a rule file, and the site that is reported if the file can't be read
pub record NameAsked : Type 0 where
  pub name : List ℕ
  pub site : FaultSite

-- which two rule files to read: in which directory, among which entries, whether its attributes may define macros, whether the ignore file
-- is not read, and whether its text is kept
pub record PairAsked : Type 0 where
  pub directory : List ℕ
  pub entries : List EntryModel
  pub rules : NameAsked
  pub attributes : NameAsked
  pub top : Bool
  pub no_ignore : Bool
  pub texts : Bool

-- the two rule files of these names in a directory
abbrev pub pair_asked : PairNames → Bool → List ℕ → List EntryModel → PairAsked
pair_asked names texts directory entries = record {
  directory = directory;
  entries = entries;
  rules = record { name = names.rules.name.now; site = names.rules.site };
  attributes = record { name = names.attributes.name.now; site = names.attributes.site };
  top = names.top;
  no_ignore = names.no_ignore;
  texts = texts;
}

-- a directory's own `.gitignore` and `.gitattributes`
abbrev pub own_asked : (no_ignore texts : Bool) → List ℕ → List EntryModel → PairAsked
own_asked no_ignore texts directory entries = record {
  directory = directory;
  entries = entries;
  rules = record { name = codes ".gitignore"; site = Gitignore };
  attributes = record { name = codes ".gitattributes"; site = Gitattributes };
  top = is_top directory;
  no_ignore = no_ignore;
  texts = texts;
}

module _ (gives : List ℕ → Contents) (asked : PairAsked) where
  -- what reading the ignore file may have returned, nothing if it is not there or is not read; and below, the attribute file
  abbrev pub MayGiveRules : Option (Result (List ℕ) FaultWord) → Type 0
  MayGiveRules read =
      MayGive (gives (path_in asked.directory asked.rules.name)) (not asked.no_ignore && has_file asked.rules.name asked.entries) read

  abbrev pub MayGiveAttributes : Option (Result (List ℕ) FaultWord) → Type 0
  MayGiveAttributes read =
      MayGive (gives (path_in asked.directory asked.attributes.name)) (has_file asked.attributes.name asked.entries) read

  -- reading both files may have returned these bytes
  pub record MayGiveBoth (bytes : Pair) : Type 0 where
    pub rules_given : MayGiveRules (option_map Ok bytes.rules)
    pub attributes_given : MayGiveAttributes (option_map Ok bytes.attributes)

  -- the result of reading both files, first the ignore file: what was read, the site of the first error, or a failed allocation
  abbrev pub ReadsBoth : Result PairRead OpenFault → Type 0
  ReadsBoth (Ok read) = (bytes : Pair) × IsReadOf asked.texts asked.top read bytes × MayGiveBoth bytes
  ReadsBoth (Err (Faulted site word)) =
      ((site ≡ asked.rules.site) × MayGiveRules (Some (Err word)))
      ⊎ ((site ≡ asked.attributes.site) × ((bytes : Option (List ℕ)) × MayGiveRules (option_map Ok bytes))
      × MayGiveAttributes (Some (Err word)))
  ReadsBoth (Err Memory) = Unit {0}
  ReadsBoth (Err TooDeep) = ⊥
