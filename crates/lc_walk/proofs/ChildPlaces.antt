-- Each child of a row is at one place, and was posted.
use Rattle.std.proofs.Common.{arith, ◌≡◌, ℕ, zero, suc, List, [], ◌∷◌, refl, sym, ◌∙◌, ap, Some, inl, inr, slice_get}
use Rattle.std.proofs.lemmas.Grind.{common_steps}
use Rattle.std.specs.List.{AllByRecursion}
use Rattle.lc_glob.specs.Path.{path_in}
use Rattle.lc_level.specs.Job.{JobModel}
use Rattle.lc_walk.specs.{RowViews.ChildModel, Lawful.{jobs_of, named}}
use Rattle.lc_board.proofs.Parents.{IsIn, IsOnce}
use Rattle.lc_walk.proofs.{Levels.IsChild, NumbersReached.{same_head, same_tail}}

-- ---- the children that a row names, by their places

first_child : (d : List ℕ × JobModel) (p : ℕ × JobModel) (c : ChildModel) → Some (record { name = d.0; number = p.0 }) ≡ Some c
    → p.0 ≡ c.number
first_child d p c x = let same : c ≡ record { name = d.0; number = p.0 } = cc in sym (ap (λ (k : ChildModel). k.number) same)

-- the number of a child was posted
pub child_posted : (cs : List (List ℕ × JobModel)) (ps : List (ℕ × JobModel)) (i : ℕ) (c : ChildModel)
    → slice_get (named cs ps) i ≡ Some c → IsIn c.number ps
child_posted [] ps i c x = cc
child_posted (d ∷ cs) [] i c x = cc
child_posted (d ∷ cs) (p ∷ ps) zero c x = inl (first_child d p c x)
child_posted (d ∷ cs) (p ∷ ps) (suc i) c x = inr (child_posted cs ps i c x)

-- and at one place alone
pub one_place : (cs : List (List ℕ × JobModel)) (ps : List (ℕ × JobModel)) (i k : ℕ) (c d : ChildModel) → IsOnce ps
    → slice_get (named cs ps) i ≡ Some c → slice_get (named cs ps) k ≡ Some d → c.number ≡ d.number → i ≡ k
one_place [] ps i k c d o x y e = cc
one_place (b ∷ cs) [] i k c d o x y e = cc
one_place (b ∷ cs) (p ∷ ps) zero zero c d o x y e = refl
one_place (b ∷ cs) (p ∷ ps) zero (suc k) c d o x y e = grind (arith, common_steps, first_child, child_posted)
one_place (b ∷ cs) (p ∷ ps) (suc i) zero c d o x y e = grind (arith, common_steps, first_child, child_posted)
one_place (b ∷ cs) (p ∷ ps) (suc i) (suc k) c d o x y e = ap suc (one_place cs ps i k c d o.1 x y e)

-- a posted number has a place in the row, and its path is the directory's with the name there
pub record PlaceOf (d : List ℕ) (job : ℕ → JobModel) (cs : List ChildModel) (k : ℕ) : Type 0 where
  -- its place
  pub at : ℕ
  -- the child there
  pub child : ChildModel
  -- it stands there
  pub here : slice_get cs at ≡ Some child
  -- with this number
  pub number : child.number ≡ k
  -- and its directory's path with its name is the path of its job
  pub path : (job k).path ≡ path_in d child.name

-- each posted number is that of a child
pub posted_child : (d : List ℕ) (job : ℕ → JobModel) (cs : List (List ℕ × JobModel)) (ps : List (ℕ × JobModel)) (k : ℕ)
    → jobs_of ps ≡ jobs_of cs → AllByRecursion (IsChild d) cs →
    AllByRecursion (λ p. job p.0 ≡ p.1) ps → IsIn k ps → PlaceOf d job (named cs ps) k
posted_child d job cs [] k e a b i = absurd i
posted_child d job [] (p ∷ ps) k e a b i = absurd (cc e)
posted_child d job (c ∷ cs) (p ∷ ps) k e a b (inl same) = record {
  at = 0;
  child = record { name = c.0; number = p.0 };
  here = refl;
  number = same;
  path = ap (λ i. (job i).path) (sym same) ∙ ap (λ (j : JobModel). j.path) (b.0 ∙ same_head p.1 c.1 (jobs_of ps) (jobs_of cs) e) ∙ a.0.1;
}
posted_child d job (c ∷ cs) (p ∷ ps) k e a b (inr i) =
    let r = posted_child d job cs ps k (same_tail p.1 c.1 (jobs_of ps) (jobs_of cs) e) a.1 b.1 i in
    record { at = suc r.at; child = r.child; here = r.here; number = r.number; path = r.path }
