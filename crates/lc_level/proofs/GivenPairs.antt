-- The items of a directory, by what reading its two rule files answered.
use Rattle.std.proofs.Common.{◌≡◌, ℕ, Bool, true, false, not, ◌&&◌, inl, inr, List, refl, sym, ◌∙◌, ap, Option, Some, None, Result, Ok}
use Rattle.std.proofs.Common.{Err, bytes_eq, option_map}
use Rattle.lc_glob.specs.Path.{path_in}
use Rattle.lc_level.specs.{EntryLooks.has_file, FaultLines.FaultLineModel, RuleFiles.{Pair, file_named, ignore_named, both_read}}
use Rattle.lc_level.specs.{RulePairs.{PairAsked, IsReadOf, ReadsBoth}, RuleReads.MayGive, FileReads.MayReadRules}
use Rattle.lc_level.specs.declared.rule_files.rule_pair.PairRead.{PairRead}
use Rattle.lc_level.specs.declared.open_fault.OpenFault.{OpenFault, TheVariants.{Faulted, Memory, TooDeep}}
use Rattle.lc_level.specs.declared.{fault_word.FaultWord.FaultWord, fault_site.FaultSite.FaultSite}
use Rattle.lc_tree.specs.{Listing.EntryModel, Trees.Contents}
use Rattle.lc_level.proofs.GivenItems.{Counted, AsRules, items_at, but, at_name, at_other, may_but, given_items}

both_ok : (p q : List ℕ) (x y : Option (List ℕ))
    → both_read p (option_map Ok x) q (option_map Ok y) ≡ Ok (record { rules = x; attributes = y })
both_ok p q None None = refl
both_ok p q None (Some y) = refl
both_ok p q (Some x) None = refl
both_ok p q (Some x) (Some y) = refl

second_fault : (p q : List ℕ) (x : Option (List ℕ)) (word : FaultWord)
    → both_read p (option_map Ok x) q (Some (Err word)) ≡ Err (record { path = q; word = word })
second_fault p q None word = refl
second_fault p q (Some x) word = refl

-- the ignore file of the name gave this, unless none is read
given_rules : (no_ignore : Bool) (gives : Contents) (counted : Counted) (rules : AsRules) (name : List ℕ)
    (read : Option (Result (List ℕ) FaultWord)) (es : List EntryModel) →
    MayGive gives (not no_ignore && has_file name es) read → ((x : Result (List ℕ) FaultWord) → read ≡ Some x → rules name ≡ x)
    → ignore_named no_ignore name (items_at counted rules es) ≡ read
given_rules true gives counted rules name None es may is = refl
given_rules true gives counted rules name (Some x) es may is = let h : false ≡ true = may.0 in absurd (cc h)
given_rules false gives counted rules name read es may is = given_items gives counted rules name read es may is

-- what is asked of the files of a tree, whose two names differ, and what all files of the directory give as rules
module _ (gives : List ℕ → Contents) (asked : PairAsked) (apart : bytes_eq asked.rules.name asked.attributes.name ≡ false)
    (rules : AsRules) (may_read : (n : List ℕ) → MayReadRules (gives (path_in asked.directory n)) (rules n)) where
  abbrev first_name : List ℕ
  first_name = asked.rules.name

  abbrev second_name : List ℕ
  second_name = asked.attributes.name

  abbrev es : List EntryModel
  es = asked.entries

  -- whether the ignore file is there and is read
  abbrev has_rules : Bool
  has_rules = not asked.no_ignore && has_file first_name es

  -- what the file of a name in the directory may give
  abbrev here : List ℕ → Contents
  here n = gives (path_in asked.directory n)

  -- what reading the two gives of these items
  abbrev pub read_of : List ℕ → List ℕ → AsRules → Counted → Result Pair FaultLineModel
  read_of p q given counted =
      both_read p (ignore_named asked.no_ignore first_name (items_at counted given es)) q
      (file_named second_name (items_at counted given es))

  -- what all files give as rules, so that reading the two gives what was answered
  abbrev pub PairGiven : Result PairRead OpenFault → Type 0
  PairGiven (Ok read) =
      (given : AsRules) × ((n : List ℕ) → MayReadRules (here n) (given n))
      × ((bytes : Pair) × IsReadOf asked.texts asked.top read bytes
      × ((p q : List ℕ) (counted : Counted) → read_of p q given counted ≡ Ok bytes))
  PairGiven (Err (Faulted site word)) =
      (given : AsRules) × ((n : List ℕ) → MayReadRules (here n) (given n))
      × ((path_at : FaultSite → List ℕ) (counted : Counted)
      → read_of (path_at asked.rules.site) (path_at asked.attributes.site) given counted
      ≡ Err (record { path = path_at site; word = word }))
  PairGiven (Err Memory) = Unit {0}
  PairGiven (Err TooDeep) = ⊥

  abbrev with_both : Option (Result (List ℕ) FaultWord) → Option (Result (List ℕ) FaultWord) → AsRules
  with_both x y = but second_name y (but first_name x rules)

  may_both : (x y : Option (Result (List ℕ) FaultWord)) → MayGive (here first_name) has_rules x
      → MayGive (here second_name) (has_file second_name es) y → (n : List ℕ) → MayReadRules (here n) (with_both x y n)
  may_both x y a b = may_but here second_name (has_file second_name es) y (but first_name x rules) b
      (may_but here first_name has_rules x rules a may_read)

  first_is : (x y : Option (Result (List ℕ) FaultWord)) (v : Result (List ℕ) FaultWord) → x ≡ Some v → with_both x y first_name ≡ v
  first_is x y v e = at_other second_name first_name y (but first_name x rules) apart ∙ ap (λ o. but first_name o rules first_name) e
      ∙ at_name first_name v rules

  second_is : (x y : Option (Result (List ℕ) FaultWord)) (v : Result (List ℕ) FaultWord) → y ≡ Some v → with_both x y second_name ≡ v
  second_is x y v e = ap (λ o. but second_name o (but first_name x rules) second_name) e ∙ at_name second_name v (but first_name x rules)

  both_are : (x y : Option (Result (List ℕ) FaultWord)) → MayGive (here first_name) has_rules x
      → MayGive (here second_name) (has_file second_name es) y →
      (p q : List ℕ) (counted : Counted) → read_of p q (with_both x y) counted ≡ both_read p x q y
  both_are x y a b p q counted =
      ap (λ o. both_read p o q (file_named second_name (items_at counted (with_both x y) es)))
      (given_rules asked.no_ignore (here first_name) counted (with_both x y) first_name x es a (first_is x y))
      ∙ ap (λ o. both_read p x q o) (given_items (here second_name) counted (with_both x y) second_name y es b (second_is x y))

  first_at : (x : Option (Result (List ℕ) FaultWord)) (v : Result (List ℕ) FaultWord) → x ≡ Some v → but first_name x rules first_name ≡ v
  first_at x v e = ap (λ o. but first_name o rules first_name) e ∙ at_name first_name v rules

  -- the answer for two files is one for the items
  pub pair_given : (r : Result PairRead OpenFault) → ReadsBoth gives asked r → PairGiven r
  pair_given (Ok read) (bytes, are, may) =
      let x : Option (Result (List ℕ) FaultWord) = option_map Ok bytes.rules in
      let y : Option (Result (List ℕ) FaultWord) = option_map Ok bytes.attributes in (
        with_both x y,
        may_both x y may.rules_given may.attributes_given,
        (
          bytes,
          are,
          λ p q counted. both_are x y may.rules_given may.attributes_given p q counted
              ∙ both_ok p q bytes.rules bytes.attributes,
        ),
      )
  pair_given (Err (Faulted site word)) (inl (is, may)) =
      let x : Option (Result (List ℕ) FaultWord) = Some (Err word) in (
        but first_name x rules,
        may_but here first_name has_rules x rules may may_read,
        λ path_at counted.
            ap (λ o. both_read (path_at asked.rules.site) o (path_at asked.attributes.site)
            (file_named second_name (items_at counted (but first_name x rules) es)))
            (given_rules asked.no_ignore (here first_name) counted (but first_name x rules) first_name x es may (first_at x))
            ∙ ap (λ (l : FaultSite). Err (record { path = path_at l; word = word })) (sym is),
      )
  pair_given (Err (Faulted site word)) (inr (is, before, may)) =
      let x : Option (Result (List ℕ) FaultWord) = option_map Ok before.0 in
      let y : Option (Result (List ℕ) FaultWord) = Some (Err word) in (
        with_both x y,
        may_both x y before.1 may,
        λ path_at counted.
            both_are x y before.1 may (path_at asked.rules.site) (path_at asked.attributes.site) counted
            ∙ second_fault (path_at asked.rules.site) (path_at asked.attributes.site) before.0 word
            ∙ ap (λ (l : FaultSite). Err (record { path = path_at l; word = word })) (sym is),
      )
  pair_given (Err Memory) r = tt
  pair_given (Err TooDeep) r = absurd r
