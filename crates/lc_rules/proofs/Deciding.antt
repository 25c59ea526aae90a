-- How the parts of what is read decide an attribute, one after another.
use Rattle.std.proofs.Common.{◌≡◌, ℕ, Bool, false, List, [], ◌∷◌, ◌++◌, Option, Some, None, refl, sym, ◌∙◌, ap, subst, unwrap_or}
use Rattle.std.specs.List.{list_any}
use Rattle.lc_rules.specs.{Attributes.{StateModel, unspecified, AssignmentModel}, AttrLines.AttrFileModel, AttrStates.AttrChainModel}
use Rattle.lc_rules.specs.AttrStates.{assignments_of, by_lines, file_assignments, macros_of, state_of, tree_assignments}
use Rattle.lc_rules.specs.{Models.{state_model, seen_state}, KnownMacros.{macros_for, matters}, Resolving.{IsReady, Moves}}
use Rattle.lc_rules.specs.{Resolving.{ReadsAssignments, Decides, names_in, stacked}, Verdicts.below}
use Rattle.lc_rules.specs.declared.{resolver.{Query.Query, Resolver.Resolver}, states.State.State}
use Rattle.lc_rules.proofs.Moving.{moves_answer, moves_more, moves_past, moves_then}

-- assignments of which none can matter decide nothing
pub none_decides : {query : Query} {todo : List AssignmentModel} {r : Resolver} → IsReady query r
    → list_any (λ a. matters (macros_for query) query.name.now a.0) todo ≡ false → Decides query todo r None r
none_decides {query} {todo} {r} ready none = record {
  moves = moves_past (macros_for query) query.name.now todo (names_in r.decided) ready.undecided none;
  empty = ready.empty;
}

-- what is found among the first is found among all
pub first_decides : {query : Query} {first : List AssignmentModel} (rest : List AssignmentModel) {old new : Resolver}
    {found : Option State} {state : State} → found ≡ Some state → Decides query first old found new
    → Decides query (first ++ rest) old (Some state) new
first_decides {query} {first} rest {old} {new} {found} {state} is d = record {
  moves = moves_more (macros_for query) query.name.now first [] rest (names_in old.decided) (names_in new.decided)
      (Some (state_model state)) (subst (λ (o : Option State). Decides query first old o new) is d).moves;
  empty = tt;
}

-- where the first find nothing, the rest decide
pub rest_decides : {query : Query} {first rest : List AssignmentModel} {old middle new : Resolver} {passed found : Option State}
    → passed ≡ None → Decides query first old passed middle → Decides query rest middle found new
    → Decides query (first ++ rest) old found new
rest_decides {query} {first} {rest} {old} {middle} {new} {passed} {found} is d e = record {
  moves = moves_then (macros_for query) query.name.now (first ++ rest) rest [] (names_in old.decided) (names_in middle.decided)
      (names_in new.decided) (seen_state found)
      (moves_more (macros_for query) query.name.now first [] rest (names_in old.decided) (names_in middle.decided) None
      (subst (λ (o : Option State). Decides query first old o middle) is d).moves)
      e.moves;
  empty = e.empty;
}

-- reading these assignments found nothing, and others are left; no macro's are still to be read
pub record Passes (query : Query) (todo : List AssignmentModel) (old : Resolver) (left : List AssignmentModel) (new : Resolver)
    : Type 0 where
  pub moves : ReadsAssignments query todo old None left new
  pub empty : new.pending.items ≡ []

-- nothing is read yet
pub none_passed : {query : Query} {todo left : List AssignmentModel} {r : Resolver} → IsReady query r → todo ≡ left
    → Passes query todo r left r
none_passed {query} {todo} {left} {r} ready same =
    subst (λ (l : List AssignmentModel). Passes query todo r l r) same
    (record { moves = (ready.undecided, λ rest. refl); empty = ready.empty })

-- nothing is left to be read
pub all_passed : {query : Query} {todo left : List AssignmentModel} {old new : Resolver} → Passes query todo old left new → left ≡ []
    → Decides query todo old None new
all_passed {query} {todo} {left} {old} {new} before none = record {
  moves = subst (λ (l : List AssignmentModel). ReadsAssignments query todo old None l new) none before.moves;
  empty = before.empty;
}

-- the next of what is left decides
pub next_decides : {query : Query} {whole todo next : List AssignmentModel} (rest : List AssignmentModel) {old middle new : Resolver}
    {found : Option State} {state : State} → Passes query whole old todo middle → todo ≡ next ++ rest → found ≡ Some state
    → Decides query next middle found new → Decides query whole old (Some state) new
next_decides {query} {whole} {todo} {next} rest {old} {middle} {new} {found} {state} before split is d = record {
  moves = moves_then (macros_for query) query.name.now whole todo [] (names_in old.decided) (names_in middle.decided)
      (names_in new.decided) (Some (state_model state)) before.moves
      (subst (λ (l : List AssignmentModel). Decides query l middle (Some state) new) (sym split) (first_decides rest is d)).moves;
  empty = tt;
}

-- the next of what is left is passed
pub next_passes : {query : Query} {whole todo next : List AssignmentModel} (rest : List AssignmentModel) {old middle new : Resolver}
    {found : Option State} → Passes query whole old todo middle → todo ≡ next ++ rest → found ≡ None
    → Decides query next middle found new → Passes query whole old rest new
next_passes {query} {whole} {todo} {next} rest {old} {middle} {new} {found} before split is d =
    let none = subst (λ (o : Option State). Decides query next middle o new) is d in
    record {
      moves = moves_then (macros_for query) query.name.now whole todo rest (names_in old.decided) (names_in middle.decided)
          (names_in new.decided) None before.moves
          (subst (λ (l : List AssignmentModel). ReadsAssignments query l middle None rest new) (sym split)
          (moves_more (macros_for query) query.name.now next [] rest (names_in middle.decided) (names_in new.decided) None none.moves));
      empty = none.empty;
    }

-- one assignment decides, where nothing else is left to be read
pub word_decides : {query : Query} {word : AssignmentModel} {old new : Resolver} {found : Option State} {state : State}
    → IsReady query old → found ≡ Some state
    → ReadsAssignments query (word ∷ stacked old.pending.items) old found (stacked new.pending.items) new
    → Decides query (word ∷ []) old (Some state) new
word_decides {query} {word} {old} {new} {found} {state} ready is moves = record {
  moves = subst (λ pending. ReadsAssignments query (word ∷ stacked pending) old (Some state) [] new) ready.empty
      (subst (λ (o : Option State). ReadsAssignments query (word ∷ stacked old.pending.items) old o
      (stacked new.pending.items) new) is moves);
  empty = tt;
}

-- where it doesn't, what it leads to decides
pub expansion_decides : {query : Query} {word : AssignmentModel} {old middle new : Resolver} {passed found : Option State}
    → IsReady query old → passed ≡ None
    → ReadsAssignments query (word ∷ stacked old.pending.items) old passed (stacked middle.pending.items) middle
    → Decides query (stacked middle.pending.items) middle found new → Decides query (word ∷ []) old found new
expansion_decides {query} {word} {old} {middle} {new} {passed} {found} ready is moves e = record {
  moves = moves_then (macros_for query) query.name.now (word ∷ []) (stacked middle.pending.items) [] (names_in old.decided)
      (names_in middle.decided) (names_in new.decided) (seen_state found)
      (subst (λ pending. ReadsAssignments query (word ∷ stacked pending) old None (stacked middle.pending.items) middle) ready.empty
      (subst (λ (o : Option State). ReadsAssignments query (word ∷ stacked old.pending.items) old o
      (stacked middle.pending.items) middle) is moves))
      e.moves;
  empty = e.empty;
}

-- of a tree whose first file stands at this depth
module _ (files nearer : List (ℕ × AttrFileModel)) (depth : ℕ) (file : AttrFileModel) (split : files ≡ (depth, file) ∷ nearer)
    (path inner : List ℕ) (same : inner ≡ path) (is_dir : Bool) where
  -- the nearer files decide
  pub nearer_files_decide : {query : Query} {old new : Resolver} {found : Option State} {state : State} → found ≡ Some state
      → Decides query (tree_assignments nearer inner is_dir) old found new
      → Decides query (tree_assignments files path is_dir) old (Some state) new
  nearer_files_decide {query} {old} {new} {found} {state} is d =
      subst (λ fs. Decides query (tree_assignments fs path is_dir) old (Some state) new) (sym split)
      (first_decides (by_lines file.lines (below depth path) is_dir) is
      (subst (λ p. Decides query (tree_assignments nearer p is_dir) old found new) same d))

  -- where they find nothing, the first does, which sees the path below its directory
  pub first_file_decides : {query : Query} {old middle new : Resolver} {passed found : Option State} (rest : List ℕ)
      → rest ≡ below depth path → passed ≡ None → Decides query (tree_assignments nearer inner is_dir) old passed middle
      → Decides query (by_lines file.lines rest is_dir) middle found new → Decides query (tree_assignments files path is_dir) old found new
  first_file_decides {query} {old} {middle} {new} {passed} {found} rest cut is d e =
      subst (λ fs. Decides query (tree_assignments fs path is_dir) old found new) (sym split)
      (rest_decides is (subst (λ p. Decides query (tree_assignments nearer p is_dir) old passed middle) same d)
      (subst (λ p. Decides query (by_lines file.lines p is_dir) middle found new) cut e))

-- of a chain by its parts: the lowest file, the files of the tree, and that of `.git/info`
module _ (files : AttrChainModel) (lowest : Option AttrFileModel) (tree : List (ℕ × AttrFileModel)) (info : Option AttrFileModel)
    (parts : record { lowest = lowest; tree = tree; info = info } ≡ files) (path : List ℕ) (is_dir : Bool) where
  -- the file of `.git/info` decides
  pub info_decides : {query : Query} {old new : Resolver} {found : Option State} {state : State} → found ≡ Some state
      → Decides query (file_assignments info path is_dir) old found new
      → Decides query (assignments_of files path is_dir) old (Some state) new
  info_decides {query} {old} {new} {found} {state} is d =
      subst (λ (f : AttrChainModel). Decides query (assignments_of f path is_dir) old (Some state) new) parts
      (first_decides (file_assignments lowest path is_dir) refl (first_decides (tree_assignments tree path is_dir) is d))

  -- where it finds nothing, the files of the tree do
  module _ (left : List (ℕ × AttrFileModel)) (whole : List ℕ) (all : left ≡ tree) (same : whole ≡ path) {query : Query}
      {old middle new : Resolver} {passed found : Option State} (none : passed ≡ None)
      (d : Decides query (file_assignments info path is_dir) old passed middle)
      (e : Decides query (tree_assignments left whole is_dir) middle found new) where
    by_tree : Decides query (tree_assignments tree path is_dir) middle found new
    by_tree =
        subst (λ fs. Decides query (tree_assignments fs path is_dir) middle found new) all
        (subst (λ p. Decides query (tree_assignments left p is_dir) middle found new) same e)

    pub tree_decides : {state : State} → found ≡ Some state → Decides query (assignments_of files path is_dir) old (Some state) new
    tree_decides {state} is =
        subst (λ (f : AttrChainModel). Decides query (assignments_of f path is_dir) old (Some state) new) parts
        (first_decides (file_assignments lowest path is_dir) is (rest_decides none d by_tree))

    -- where they find nothing, the lowest file does
    pub lowest_decides : {last : Resolver} {at_last : Option State} → found ≡ None
        → Decides query (file_assignments lowest path is_dir) new at_last last
        → Decides query (assignments_of files path is_dir) old at_last last
    lowest_decides {last} {at_last} is f =
        subst (λ (c : AttrChainModel). Decides query (assignments_of c path is_dir) old at_last last) parts
        (rest_decides is (rest_decides none d by_tree) f)

-- once all is read, the state of the attribute is found
pub state_decides : (files : AttrChainModel) (query : Query) (path : List ℕ) (is_dir : Bool) {old new : Resolver} {found : Option State}
    (seen : Option StateModel) → macros_for query ≡ macros_of files → names_in old.decided ≡ [] → seen_state found ≡ seen
    → Decides query (assignments_of files path is_dir) old found new
    → unwrap_or seen unspecified ≡ state_of files path is_dir query.name.now
state_decides files query path is_dir {old} {new} {found} seen known none is d =
    let todo = assignments_of files path is_dir in
    let after = names_in new.decided in
    let wanted = query.name.now in
    ap (λ o. unwrap_or o unspecified) (sym (moves_answer (macros_of files) wanted todo after (seen_state found)
    (subst (λ ms. Moves ms wanted todo [] (seen_state found) [] after) known
    (subst (λ ns. Moves (macros_for query) wanted todo ns (seen_state found) [] after) none d.moves)) ∙ is))
