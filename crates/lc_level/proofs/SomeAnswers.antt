-- A directory has some answers that its tree may give.
use Rattle.std.proofs.Common.{ℕ, List, Result, Ok, Err, refl, unwrap_or, codes}
use Rattle.lc_level.specs.{Answers.{Items, Answers}, FaultWords.fault_word_of, TreeAnswers.{MayAnswer, MayList}, WellFormed.listed_in}
use Rattle.lc_level.specs.{WellFormed.IsWellFormed, declared.fault_word.FaultWord.TheVariants.Read}
use Rattle.lc_tree.specs.{Listing.{EntryModel, IsListing}, Trees.{Listings, Content, Contents, IsTold, MayHold, TellsSome}}
use Rattle.lc_tree.specs.declared.read_fault.ReadFault.{ReadFault, TheVariants.{Failed, Unnamed, BadName, Twice, TooMany, Memory}}
use Rattle.lc_level.proofs.{GitReads.{any_count, any_rules, may_rules, listed, is_listed}, GivenItems.items_at, WellFormed.no_entries}

-- those of a directory at a path
abbrev pub HasAnswers : (List ℕ → Listings) → (List ℕ → Contents) → List ℕ → Type 0
HasAnswers lists gives path = (a : Answers) × MayAnswer lists gives path a × IsWellFormed a

module _ (lists : List ℕ → Listings) (gives : List ℕ → Contents)
    (some_listing : (path : List ℕ) → TellsSome (lists path))
    (some_content : (path : List ℕ) → (c : Content) × MayHold (gives path) c) where
  -- the items of a listing, or the word of its fault
  abbrev told : List ℕ → Result (List EntryModel) ReadFault → Items
  told path (Ok es) = Ok (items_at (any_count lists gives some_content path) (any_rules lists gives some_content path) es)
  told path (Err fault) = Err (unwrap_or (fault_word_of fault) Read)

  may_be_told : (path : List ℕ) (answer : Result (List EntryModel) ReadFault) → IsTold answer → lists path answer
      → MayList lists gives path (told path answer)
  may_be_told path (Ok es) is may =
      listed lists gives some_content path es (any_rules lists gives some_content path) (may_rules lists gives some_content path) may
  may_be_told path (Err Failed) is may = (Failed, refl, may)
  may_be_told path (Err Unnamed) is may = (Unnamed, refl, may)
  may_be_told path (Err BadName) is may = (BadName, refl, may)
  may_be_told path (Err Twice) is may = (Twice, refl, may)
  may_be_told path (Err TooMany) is may = (TooMany, refl, may)
  may_be_told path (Err Memory) is may = absurd is

  told_well : (path : List ℕ) (answer : Result (List EntryModel) ReadFault) → IsTold answer → IsListing (listed_in (told path answer))
  told_well path (Ok es) is = is_listed lists gives some_content path es (any_rules lists gives some_content path) is
  told_well path (Err fault) is = no_entries

  abbrev some_items : List ℕ → Items
  some_items path = told path (some_listing path).0

  may_have : (path : List ℕ) → MayList lists gives path (some_items path)
  may_have path = may_be_told path (some_listing path).0 (some_listing path).1 (some_listing path).2

  some_well : (path : List ℕ) → IsListing (listed_in (some_items path))
  some_well path = told_well path (some_listing path).0 (some_listing path).1

  -- they are those of any listings and of any reads that may come
  pub some_answers : (path : List ℕ) → HasAnswers lists gives path
  some_answers path = (
    record { here = some_items path; git = some_items (codes ".git"); info = some_items (codes ".git/info") },
    record { here = may_have path; git = λ t. may_have (codes ".git"); info = λ t h. may_have (codes ".git/info") },
    record { here = some_well path; git = some_well (codes ".git"); info = some_well (codes ".git/info") },
  )
