-- What the lowest file of a chain leaves as it is.
use Rattle.std.proofs.Common.{◌≡◌, ◌≤◌, ◌+◌, ℕ, zero, suc, Bool, true, false, cond, List, [], ◌∷◌, ◌++◌, length, Some, refl, sym, ◌∙◌, ap, arith}
use Rattle.std.proofs.{Common.{append_assoc, length-append, unwrap_or, is_some, Option}, lemmas.List.append-nil}
use Rattle.std.specs.Str.{bytes_eq}
use Rattle.lc_rules.specs.{Attributes.{AssignmentModel, MacroModel, unspecified}, AttrLaws.{EmptyFileLaw, LowestFileLaw}}
use Rattle.lc_rules.specs.{AttrLaws.without_lowest, AttrStates.{AttrChainModel, assignments_of, binary, file_assignments, file_macros}}
use Rattle.lc_rules.specs.{AttrStates.{macros_of, state_of, top_macros, tree_assignments}, AttrLines.AttrFileModel}
use Rattle.lc_rules.specs.Decision.{decide, decided, expansion, has, unread}
use Rattle.lc_rules.proofs.DecisionLaws.{decide_none, decide_skip, decide_take, expansion_less, same_bytes}

module _ (ms : List MacroModel) (n : List ℕ) where
  -- a name that is decided before another one keeps its state
  kept_by : (a : AssignmentModel) (d : List AssignmentModel) (b : Bool) → bytes_eq a.0 n ≡ b → has d a.0 ≡ false → has d n ≡ true
      → decided (a ∷ d) n ≡ decided d n
  kept_by a d true e f h = absurd (let g : true ≡ false = sym h ∙ ap (has d) (sym (same_bytes a.0 n e)) ∙ f in cc)
  kept_by a d false e f h = ap (λ b. cond b (Some a.1) (decided d n)) e

  -- what is decided stays so, whatever is read
  abbrev Keeps : ℕ → Type 0
  Keeps k = (todo d : List AssignmentModel) → length todo + unread ms d ≤ k → has d n ≡ true → decided (decide ms todo d) n ≡ decided d n

  keeps_step : (k : ℕ) → Keeps k → (a : AssignmentModel) (r d : List AssignmentModel) (b : Bool) → has d a.0 ≡ b
      → length r + unread ms d ≤ k → has d n ≡ true → decided (decide ms (a ∷ r) d) n ≡ decided d n
  keeps_step k keeps a r d true e l h = ap (λ x. decided x n) (decide_skip ms a r d e) ∙ keeps r d l h
  keeps_step k keeps a r d false e l h =
      let same = kept_by a d (bytes_eq a.0 n) refl e h in
      ap (λ x. decided x n) (decide_take ms a r d e)
      ∙ keeps (expansion ms a ++ r) (a ∷ d) (omega (arith, length-append (expansion ms a) r, expansion_less ms a d e, l))
      (ap is_some same ∙ h)
      ∙ same

  keeps_all : (k : ℕ) → Keeps k
  keeps_all k [] d l h = ap (λ x. decided x n) (decide_none ms d)
  keeps_all zero (a ∷ r) d l h = absurd (omega arith)
  keeps_all (suc k) (a ∷ r) d l h = keeps_step k (keeps_all k) a r d (has d a.0) refl (omega (arith, l)) h

  keeps : (todo d : List AssignmentModel) → has d n ≡ true → decided (decide ms todo d) n ≡ decided d n
  keeps todo d h = keeps_all (length todo + unread ms d) todo d (omega arith) h

  -- what the first assignments decide, the rest leave as it is
  module _ (rest : List AssignmentModel) where
    abbrev Decides : List AssignmentModel → List AssignmentModel → Type 0
    Decides todo d = has (decide ms todo d) n ≡ true → decided (decide ms (todo ++ rest) d) n ≡ decided (decide ms todo d) n

    abbrev DecidesWithin : ℕ → Type 0
    DecidesWithin k = (todo d : List AssignmentModel) → length todo + unread ms d ≤ k → Decides todo d

    decides_step : (k : ℕ) → DecidesWithin k → (a : AssignmentModel) (r d : List AssignmentModel) (b : Bool) → has d a.0 ≡ b
        → length r + unread ms d ≤ k → Decides (a ∷ r) d
    decides_step k decides a r d true e l h =
        let alone = decide_skip ms a r d e in
        ap (λ x. decided x n) (decide_skip ms a (r ++ rest) d e)
        ∙ decides r d l (ap (λ x. has x n) (sym alone) ∙ h) ∙ ap (λ x. decided x n) (sym alone)
    decides_step k decides a r d false e l h =
        let alone = decide_take ms a r d e in
        ap (λ x. decided x n) (decide_take ms a (r ++ rest) d e)
        ∙ ap (λ x. decided (decide ms x (a ∷ d)) n) (sym (append_assoc (expansion ms a) r rest))
        ∙ decides (expansion ms a ++ r) (a ∷ d) (omega (arith, length-append (expansion ms a) r, expansion_less ms a d e, l))
        (ap (λ x. has x n) (sym alone) ∙ h)
        ∙ ap (λ x. decided x n) (sym alone)

    decides_all : (k : ℕ) → DecidesWithin k
    decides_all k [] d l h =
        let none = decide_none ms d in
        keeps rest d (ap (λ x. has x n) (sym none) ∙ h) ∙ ap (λ x. decided x n) (sym none)
    decides_all zero (a ∷ r) d l h = absurd (omega arith)
    decides_all (suc k) (a ∷ r) d l h = decides_step k (decides_all k) a r d (has d a.0) refl (omega (arith, l)) h

    first_decide : (todo d : List AssignmentModel) → Decides todo d
    first_decide todo d h = decides_all (length todo + unread ms d) todo d (omega arith) h

-- of a chain, with and without its lowest file
module _ (c : AttrChainModel) (path : List ℕ) (is_dir : Bool) where
  abbrev above : List AssignmentModel
  above = file_assignments c.info path is_dir ++ tree_assignments c.tree path is_dir

  without : assignments_of (without_lowest c) path is_dir ≡ above
  without = append-nil above

pub lowest_file : LowestFileLaw
lowest_file c path is_dir name none h =
    let ms = macros_of (without_lowest c) in
    let same : macros_of c ≡ ms = ap (λ fs. binary ∷ fs ++ top_macros c.tree ++ file_macros c.info) none in
    let few = without c path is_dir in
    let state = λ (x : List AssignmentModel). unwrap_or (decided (decide ms x []) name) unspecified in
    ap (λ m. unwrap_or (decided (decide m (assignments_of c path is_dir) []) name) unspecified) same
    ∙ ap (λ o. unwrap_or o unspecified) (first_decide ms name (file_assignments c.lowest path is_dir) (above c path is_dir) []
    (ap (λ x. has (decide ms x []) name) (sym few) ∙ h))
    ∙ ap state (sym few)

pub empty_file : EmptyFileLaw
empty_file c path is_dir name is =
    ap (λ (f : Option AttrFileModel). state_of (record { lowest = f; tree = c.tree; info = c.info }) path is_dir name) is
