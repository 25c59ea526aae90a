-- The steps of going through the rows' children.
use Rattle.std.proofs.Common.{rules, ◌≡◌, ◌≢◌, ℕ, zero, suc, ◌+◌, ◌<◌, ◌≤◌, Bool, true, false, List, [], length, slice_get, slice_set}
use Rattle.std.proofs.{Common.{refl, sym, ◌∙◌, ap, arith, subst, Some, ◌⊎◌, inl, inr}, lemmas.{Grind.common_steps, Option.slice_get_within}}
use Rattle.std.proofs.lemmas.Bool.{cases_lt, Decides.eqb_tells}
use Rattle.lc_board.proofs.Places.{get_set_same, get_set_other}
use Rattle.lc_board.specs.declared.answers.Ended.{Ended}
use Rattle.lc_glob.specs.Path.{path_in}
use Rattle.lc_walk.specs.{RowViews.ChildModel, Rows.{row_of, job_of, children_in}, Assembled.{IsEdge, IsLinkedOnce, IsPlaced}, Links.Seen}
use Rattle.lc_walk.specs.{Links.{IsLinkedSoFar, AreLinked, IsNext, IsPathAt}, declared.row.Row.Row}
use Rattle.lc_walk.proofs.Listings.{got_here}

-- what is seen with one child more is that child, or was seen
seen_more : (at j p i : ℕ) → Seen at (j + 1) p i → Seen at j p i ⊎ ((p ≡ at) × (i ≡ j))
seen_more at j p i seen = grind (arith, common_steps, cases_lt)

more_seen : (at j p i : ℕ) → Seen at j p i → Seen at (j + 1) p i
more_seen at j p i seen = grind (arith, common_steps)

not_seen : (at j p i : ℕ) → Seen at j p i → p ≡ at → i ≡ j → ⊥
not_seen at j p i seen e f = grind (arith, common_steps)

length_set : {A : Type 0} (xs : List A) (i : ℕ) (v : A) → length (slice_set xs i v) ≡ length xs
length_set xs i v = grind (arith, common_steps)

-- a list without length is empty
pub no_length : {A : Type 0} (xs : List A) → length xs ≡ 0 → xs ≡ []
no_length xs e = grind (arith, common_steps)

module _ (rows : List (Ended Row)) where
  abbrev next_edge : (at j : ℕ) (child : ChildModel) → IsNext rows at j child → IsEdge rows at j child.number
  next_edge at j child n = record { above = n.above; is = n.is; child = child; here = n.here; number = refl }

  -- the child at a place has one number
  one_number : (at j k : ℕ) (child : ChildModel) → IsNext rows at j child → IsEdge rows at j k → child.number ≡ k
  one_number at j k child n e = grind (arith, common_steps)

  -- what is linked so far is linked once more is seen, if no other edge to it is
  linked_on : (at j next k child : ℕ) (h : IsLinkedSoFar rows at j child) → Seen next k h.parent h.place
      → ((p i : ℕ) → Seen next k p i → IsEdge rows p i child → (p ≡ h.parent) × (i ≡ h.place)) → IsLinkedSoFar rows next k child
  linked_on at j next k child h seen only = search (rules, arith)

  -- one child more, of another number
  other_links : (at j k : ℕ) (child : ChildModel) → IsNext rows at j child → child.number ≢ k → IsLinkedSoFar rows at j k
      → IsLinkedSoFar rows at (j + 1) k
  other_links at j k child n o h =
      linked_on at j at (j + 1) k h (more_seen at j h.parent h.place h.seen) (λ p i s e. only p i e (seen_more at j p i s))
    where
      only : (p i : ℕ) → IsEdge rows p i k → Seen at j p i ⊎ ((p ≡ at) × (i ≡ j)) → (p ≡ h.parent) × (i ≡ h.place)
      only p i e (inl s) = h.only p i s e
      only p i e (inr x) =
          absurd (o (one_number at j k child n (subst (λ y. IsEdge rows at y k) x.1 (subst (λ y. IsEdge rows y i k) x.0 e))))

  other_unnamed : (at j k : ℕ) (child : ChildModel) → IsNext rows at j child → child.number ≢ k →
      ((p i : ℕ) → Seen at j p i → IsEdge rows p i k → ⊥) → (p i : ℕ) → Seen at (j + 1) p i → IsEdge rows p i k → ⊥
  other_unnamed at j k child n o u p i s e = at_place (seen_more at j p i s)
    where
      at_place : Seen at j p i ⊎ ((p ≡ at) × (i ≡ j)) → ⊥
      at_place (inl t) = u p i t e
      at_place (inr x) = o (one_number at j k child n (subst (λ y. IsEdge rows at y k) x.1 (subst (λ y. IsEdge rows y i k) x.0 e)))

  -- a child whose number is no row's marks nothing
  pub marks_skip : (at j : ℕ) (child : ChildModel) (linked : List Bool) → IsNext rows at j child
      → (child.number ≡ 0) ⊎ (length rows ≤ child.number) → AreLinked rows at j linked → AreLinked rows at (j + 1) linked
  marks_skip at j child linked n out m = record {
    long = m.long;
    unnamed = λ k some is. other_unnamed at j k child n (apart k some (slice_get_within linked k false is) out) (m.unnamed k some is);
    links = λ k some is. other_links at j k child n (apart k some (slice_get_within linked k true is) out) (m.links k some is);
  }
    where
      apart : (k : ℕ) → 1 ≤ k → k < length linked → (child.number ≡ 0) ⊎ (length rows ≤ child.number) → child.number ≢ k
      apart k some low (inl z) e = omega arith
      apart k some low (inr g) e = let same = m.long in omega arith

  -- why the rows make no tree at the child's number
  placed_at : (k : ℕ) (e : Ended Row) → 1 ≤ k → slice_get rows k ≡ Some e → IsPlaced rows k → IsLinkedOnce rows k (row_of e)
  placed_at k e some is p = grind (arith, common_steps)

  -- a number that is named twice isn't linked once
  pub torn_twice : (at j : ℕ) (child : ChildModel) (linked : List Bool) → IsNext rows at j child → 1 ≤ child.number →
      slice_get linked child.number ≡ Some true → AreLinked rows at j linked → IsPlaced rows child.number → ⊥
  torn_twice at j child linked n some is m p =
      let s = m.links child.number some is in
      let h = placed_at child.number s.row some s.its p in
      let mine = h.only at j (next_edge at j child n) in
      let theirs = h.only s.parent s.place s.edge in
      not_seen at j s.parent s.place s.seen (theirs.0 ∙ sym mine.0) (theirs.1 ∙ sym mine.1)

  -- nor does one that a later number names
  pub torn_low : (at j : ℕ) (child : ChildModel) → IsNext rows at j child → 1 ≤ child.number → child.number < length rows
      → child.number ≤ at → IsPlaced rows child.number → ⊥
  torn_low at j child n some low high p =
      let r = got_here rows child.number low in
      let h = placed_at child.number r.0 some r.1 p in
      let mine = (h.only at j (next_edge at j child n)).0 in
      let up = h.lower in
      omega arith

  -- nor one whose path is another
  pub torn_path : (at j : ℕ) (child : ChildModel) (d x : List ℕ) → IsNext rows at j child → IsPathAt rows at d
      → IsPathAt rows child.number x → 1 ≤ child.number →
      (x ≡ path_in d child.name → ⊥) → IsPlaced rows child.number → ⊥
  torn_path at j child d x n up its some other p =
      let h = placed_at child.number its.row some its.is p in
      let mine = h.only at j (next_edge at j child n) in
      let row : n.above ≡ up.row = cc in
      let dir : (job_of (row_of n.above)).path ≡ d = ap (λ r. (job_of (row_of r)).path) row ∙ up.path_is in
      let above : n.above ≡ h.edge.above = cc (h.edge.is, mine.0) in
      let child_is : child ≡ h.edge.child = cc (h.edge.here, mine.1) in
      other (sym its.path_is ∙ h.path ∙ ap (λ r. path_in (job_of (row_of r)).path h.edge.child.name) (sym above)
      ∙ ap (λ (c : ChildModel). path_in (job_of (row_of n.above)).path c.name) (sym child_is) ∙ ap (λ x. path_in x child.name) dir)

  -- the child's number gets its mark
  pub marks_set : (at j : ℕ) (child : ChildModel) (d x : List ℕ) (linked : List Bool) → IsNext rows at j child → IsPathAt rows at d
      → IsPathAt rows child.number x → 1 ≤ child.number → child.number < length rows → at < child.number →
      slice_get linked child.number ≡ Some false → x ≡ path_in d child.name →
      AreLinked rows at j linked → AreLinked rows at (j + 1) (slice_set linked child.number true)
  marks_set at j child d x linked n dir its some low up unmarked path m = record {
    long = length_set linked child.number true ∙ m.long;
    unnamed = λ k s f. unnamed k s f (which k);
    links = λ k s t. links k s t (which k);
  }
    where
      dir_is : (job_of (row_of n.above)).path ≡ d
      dir_is = let row : n.above ≡ dir.row = cc in ap (λ r. (job_of (row_of r)).path) row ∙ dir.path_is

      within : child.number < length linked
      within = let same = m.long in omega arith

      which : (k : ℕ) → (child.number ≡ k) ⊎ (child.number ≢ k)
      which k = elim (eqb_tells child.number k) [ inl e ↦ inl e.1 | inr e ↦ inr e.1 ]

      marked : slice_get (slice_set linked child.number true) child.number ≡ Some true
      marked = get_set_same linked child.number true within

      old : (k : ℕ) → child.number ≢ k → slice_get (slice_set linked child.number true) k ≡ slice_get linked k
      old k o = get_set_other linked child.number k true (λ e. o (sym e))

      unnamed : (k : ℕ) → 1 ≤ k → slice_get (slice_set linked child.number true) k ≡ Some false → (child.number ≡ k) ⊎ (child.number ≢ k)
          → (p i : ℕ) → Seen at (j + 1) p i → IsEdge rows p i k → ⊥
      unnamed k s f (inl e) p i z x = let t : Some true ≡ Some false = sym marked ∙ ap (slice_get (slice_set linked child.number true)) e
          ∙ f in cc
      unnamed k s f (inr o) p i z x = other_unnamed at j k child n o (m.unnamed k s (sym (old k o) ∙ f)) p i z x

      links : (k : ℕ) → 1 ≤ k → slice_get (slice_set linked child.number true) k ≡ Some true → (child.number ≡ k) ⊎ (child.number ≢ k)
          → IsLinkedSoFar rows at (j + 1) k
      links k s t (inr o) = other_links at j k child n o (m.links k s (sym (old k o) ∙ t))
      links k s t (inl e) = subst (IsLinkedSoFar rows at (j + 1)) e (record {
        row = its.row;
        its = its.is;
        parent = at;
        place = j;
        lower = up;
        seen = inr (refl, omega arith);
        edge = next_edge at j child n;
        path = its.path_is ∙ path ∙ ap (λ y. path_in y child.name) (sym dir_is);
        only = λ p i z edge. only p i edge (seen_more at j p i z);
      })
        where
          only : (p i : ℕ) → IsEdge rows p i child.number → Seen at j p i ⊎ ((p ≡ at) × (i ≡ j)) → (p ≡ at) × (i ≡ j)
          only p i edge (inl z) = absurd (m.unnamed child.number some unmarked p i z edge)
          only p i edge (inr x) = x

  -- all children of a row were seen
  pub marks_row : (at : ℕ) (e : Ended Row) (linked : List Bool) → slice_get rows at ≡ Some e
      → AreLinked rows at (length (children_in (row_of e))) linked → AreLinked rows (at + 1) 0 linked
  marks_row at e linked is m = record {
    long = m.long;
    unnamed = λ k s f p i z edge. m.unnamed k s f p i (back p i k edge z) edge;
    links = λ k s t. (
        let h = m.links k s t in
        linked_on at (length (children_in (row_of e))) (at + 1) 0 k h (on h.parent h.place h.seen)
        (λ p i z edge. h.only p i (back p i k edge z) edge)
        );
  }
    where
      on : (p i : ℕ) → Seen at (length (children_in (row_of e))) p i → Seen (at + 1) 0 p i
      on p i (inl l) = inl (omega arith)
      on p i (inr x) = let u = x.0 in inl (omega arith)

      inside : (p i k : ℕ) → IsEdge rows p i k → p ≡ at → i < length (children_in (row_of e))
      inside p i k edge same =
          let row : edge.above ≡ e = cc in
          slice_get_within (children_in (row_of e)) i edge.child (ap (λ r. slice_get (children_in (row_of r)) i) (sym row) ∙ edge.here)

      back : (p i k : ℕ) → IsEdge rows p i k → Seen (at + 1) 0 p i → Seen at (length (children_in (row_of e))) p i
      back p i k edge (inr x) = let u = x.1 in absurd (omega arith)
      back p i k edge (inl l) = split (cases_lt p at)
        where
          split : (p < at) ⊎ (at ≤ p) → Seen at (length (children_in (row_of e))) p i
          split (inl b) = inl b
          split (inr b) = let same : p ≡ at = omega arith in inr (same, inside p i k edge same)

  -- all rows were seen
  all_seen : (p i k : ℕ) → IsEdge rows p i k → Seen (length rows) 0 p i
  all_seen p i k edge = inl (slice_get_within rows p edge.above edge.is)

  -- a number that is not named is linked nowhere
  pub torn_unnamed : (k : ℕ) (linked : List Bool) → 1 ≤ k → k < length rows → slice_get linked k ≡ Some false
      → AreLinked rows (length rows) 0 linked → IsPlaced rows k → ⊥
  torn_unnamed k linked some low is m p =
      let r = got_here rows k low in
      let h = placed_at k r.0 some r.1 p in
      m.unnamed k some is h.parent h.at (all_seen h.parent h.at k h.edge) h.edge

  -- a marked number is linked once
  pub links_now : (k : ℕ) (linked : List Bool) (e : Ended Row) → 1 ≤ k → slice_get rows k ≡ Some e → slice_get linked k ≡ Some true
      → AreLinked rows (length rows) 0 linked → IsLinkedOnce rows k (row_of e)
  links_now k linked e some is t m =
      let h = m.links k some t in
      let row : h.row ≡ e = cc in
      record {
        parent = h.parent;
        at = h.place;
        lower = h.lower;
        edge = h.edge;
        path = ap (λ r. (job_of (row_of r)).path) (sym row) ∙ h.path;
        only = λ p i edge. h.only p i (all_seen p i k edge) edge;
      }

  -- where all are marked the rows make a tree
  pub all_placed : (linked : List Bool) (e : Ended Row) → slice_get rows 0 ≡ Some e → (job_of (row_of e)).path ≡ []
      → AreLinked rows (length rows) 0 linked →
      ((k : ℕ) → 1 ≤ k → k < length rows → slice_get linked k ≡ Some true) → (k : ℕ) → IsPlaced rows k
  all_placed linked e is top m all zero = (e, is, top)
  all_placed linked e is top m all (suc k) = λ d here. links_now (suc k) linked d (omega arith) here
      (all (suc k) (omega arith) (slice_get_within rows (suc k) d here)) m
