-- Paths below, within and above others.
use Rattle.std.proofs.Common.{arith, ◌≡◌, ◌≢◌, ℕ, ◌==◌, true, false, List, [], ◌∷◌, ◌++◌, refl, sym, ◌∙◌, ap, subst, inl, inr, ◌⊎◌}
use Rattle.std.proofs.{Common.{append_assoc, eq-eqb}, lemmas.{Grind.common_steps, List.append_cancel_left}}
use Rattle.std.specs.List.{Contains, AllByRecursion}
use Rattle.lc_glob.specs.Path.{path_in, is_good_path}
use Rattle.lc_level.proofs.WellFormed.{IsGoodName, clash}
use Rattle.lc_tree.specs.declared.entry.Kind.{Kind, TheVariants.{File, Dir}}
use Rattle.lc_walk.specs.PartOfWalk.{IsBelow, IsWithin, IsAbove, EntryTakesPart, IsOnWay}
use Rattle.lc_walk.proofs.Elements.{In, is_in}

head_is : (b c : ℕ) (bs cs : List ℕ) → b ∷ bs ≡ c ∷ cs → b ≡ c
head_is b c bs cs e = cc

tail_is : (b c : ℕ) (bs cs : List ℕ) → b ∷ bs ≡ c ∷ cs → bs ≡ cs
tail_is b c bs cs e = cc

-- of two paths above one, one stands at or below the other
pub comparable : (c q r s : List ℕ) → c ++ 47 ∷ r ≡ q ++ 47 ∷ s → (c ≡ q) ⊎ (IsBelow c q ⊎ IsBelow q c)
comparable [] [] r s e = inl refl
comparable [] (b ∷ bs) r s e = inr (inr (bs, ap (λ x. x ∷ bs) (sym (head_is 47 b r (bs ++ 47 ∷ s) e))))
comparable (b ∷ bs) [] r s e = inr (inl (bs, ap (λ x. x ∷ bs) (head_is b 47 (bs ++ 47 ∷ r) s e)))
comparable (b ∷ bs) (c ∷ cs) r s e =
    grind (arith, common_steps, head_is, tail_is, comparable bs cs r s (tail_is b c (bs ++ 47 ∷ r) (cs ++ 47 ∷ s) e))

-- at or below a path
abbrev pub IsAtOrBelow : List ℕ → List ℕ → Type 0
IsAtOrBelow x c = (x ≡ c) ⊎ IsBelow x c

-- of two paths at or above a third one stands at, above or below the other
pub both_above : (x c q : List ℕ) → IsAtOrBelow x c → IsAtOrBelow x q → (c ≡ q) ⊎ (IsBelow c q ⊎ IsBelow q c)
both_above x c q a b = grind (arith, common_steps, comparable)

-- what stands below what stands below a path
pub below_below : (x y z : List ℕ) → IsBelow x y → IsBelow y z → IsBelow x z
below_below x y z a b = grind (arith, common_steps, append_assoc)

-- or at what does
pub below_at : (x y z : List ℕ) → IsAtOrBelow x y → IsBelow y z → IsBelow x z
below_at x y z a b = grind (arith, common_steps, below_below)

-- ---- names

no_slash_in : (n front rest : List ℕ) → AllByRecursion (λ b. (b == 47) ≡ false) n → n ≢ front ++ 47 ∷ rest
no_slash_in [] [] rest a e = absurd (cc e)
no_slash_in [] (c ∷ cs) rest a e = absurd (cc e)
no_slash_in (b ∷ bs) [] rest a e = clash (eq-eqb b 47 (head_is b 47 bs rest e)) a.0
no_slash_in (b ∷ bs) (c ∷ cs) rest a e = no_slash_in bs cs rest a.1 (tail_is b c bs (cs ++ 47 ∷ rest) e)

-- above the path of a name stands the directory, or what is above it
parent_cut : (d n q rest : List ℕ) → AllByRecursion (λ b. (b == 47) ≡ false) n → d ++ 47 ∷ n ≡ q ++ 47 ∷ rest → IsAtOrBelow d q
parent_cut d n q rest a e = grind (arith, common_steps, comparable, append_assoc, append_cancel_left, no_slash_in, tail_is)

-- a name stands below its directory, but for the top's
pub name_below : (d n : List ℕ) → d ≢ [] → IsBelow (path_in d n) d
name_below [] n some = absurd (some refl)
name_below (b ∷ bs) n some = (n, refl)

-- and is not the top
pub name_some : (d n : List ℕ) → IsGoodName n → path_in d n ≢ []
name_some d n good = grind (arith, common_steps)

-- what follows a name follows its path
pub path_more : (d n l : List ℕ) → path_in d (n ++ l) ≡ path_in d n ++ l
path_more d n l = grind (arith, common_steps, append_assoc)

-- ---- what takes part

-- a file takes part only within
pub within_file : (only : List (List ℕ)) (kind : Kind) (p : List ℕ) → kind ≡ File → EntryTakesPart only kind p → IsWithin only p
within_file only kind p file takes = grind (arith, common_steps)

-- a directory takes part within or above
pub directory_takes : (only : List (List ℕ)) (p : List ℕ) → IsWithin only p ⊎ IsAbove only p → EntryTakesPart only Dir p
directory_takes only p takes = grind (arith, common_steps)

-- and so is on the way
pub takes_on_way : (only : List (List ℕ)) (kind : Kind) (p : List ℕ) → EntryTakesPart only kind p → IsOnWay only p
takes_on_way only kind p takes = grind (arith, common_steps)

-- a path below another directory than the top is not the top's
pub path_some : (d n : List ℕ) → d ≢ [] → path_in d n ≢ []
path_some d n some = grind (arith, common_steps)

module _ (only : List (List ℕ)) where
  -- what stands within has its directory within, or is itself asked for
  pub within_child : (d n : List ℕ) → IsGoodName n → IsWithin only (path_in d n) → IsWithin only d ⊎ Contains only (path_in d n)
  within_child d n good (q, has, inl e) = inr (subst (Contains only) (sym e) has)
  within_child [] n good (q, has, inr (rest, e)) = absurd (no_slash_in n q rest good.1 e)
  within_child (b ∷ bs) n good (q, has, inr (rest, e)) = inl (q, has, parent_cut (b ∷ bs) n q rest good.1 e)

  -- what stands in a directory that is within is within
  pub child_within : (d n : List ℕ) → d ≢ [] → IsWithin only d → IsWithin only (path_in d n)
  child_within d n some (q, has, at) = (q, has, inr (below_down at))
    where
      below_down : IsAtOrBelow d q → IsBelow (path_in d n) q
      below_down (inl e) = let b = name_below d n some in (b.0, b.1 ∙ ap (λ l. l ++ 47 ∷ b.0) e)
      below_down (inr below) = below_below (path_in d n) d q (name_below d n some) below

  -- where an entry takes part, its directory is on the way
  pub on_way_of_child : (d n : List ℕ) (kind : Kind) → IsGoodName n → EntryTakesPart only kind (path_in d n) → IsOnWay only d
  on_way_of_child [] n kind good takes = inl refl
  on_way_of_child (b ∷ bs) n kind good (inl within) = at (within_child (b ∷ bs) n good within)
    where
      at : IsWithin only (b ∷ bs) ⊎ Contains only (path_in (b ∷ bs) n) → IsOnWay only (b ∷ bs)
      at (inl above) = inr (inl above)
      at (inr has) = inr (inr (path_in (b ∷ bs) n, has, (n, refl)))
  on_way_of_child (b ∷ bs) n kind good (inr (dir, (q, has, below))) =
      inr (inr (q, has, below_below q (path_in (b ∷ bs) n) (b ∷ bs) below (n, refl)))

  -- a directory above one that is on the way is within or above
  pub on_way_up : (x c : List ℕ) → c ≢ [] → IsAtOrBelow x c → IsOnWay only x → IsWithin only c ⊎ IsAbove only c
  on_way_up x c some (inl e) (inl top) = absurd (some (sym e ∙ top))
  on_way_up x [] some (inr below) (inl top) = absurd (some refl)
  on_way_up x (b ∷ bs) some (inr below) (inl top) = let h : [] ≡ b ∷ bs ++ 47 ∷ below.0 = sym top ∙ below.1 in absurd (cc h)
  on_way_up x c some at (inr (inl (q, has, within))) = side (both_above x c q at within)
    where
      side : (c ≡ q) ⊎ (IsBelow c q ⊎ IsBelow q c) → IsWithin only c ⊎ IsAbove only c
      side (inl same) = inl (q, has, inl same)
      side (inr (inl below)) = inl (q, has, inr below)
      side (inr (inr above)) = inr (q, has, above)
  on_way_up x c some at (inr (inr (q, has, below))) = inr (q, has, up at)
    where
      up : IsAtOrBelow x c → IsBelow q c
      up (inl e) = (below.0, below.1 ∙ ap (λ l. l ++ 47 ∷ below.0) e)
      up (inr deeper) = below_below q x c below deeper

  module _ (good : AllByRecursion (λ path. is_good_path path ≡ true) only) where
    asked_some : (paths : List (List ℕ)) → AllByRecursion (λ path. is_good_path path ≡ true) paths → In [] paths → ⊥
    asked_some [] a i = i
    asked_some (p ∷ ps) a (inl e) = let h : false ≡ true = subst (λ x. is_good_path x ≡ true) e a.0 in absurd (cc h)
    asked_some (p ∷ ps) a (inr i) = asked_some ps a.1 i

    -- the top is not within
    pub within_some : (d : List ℕ) → IsWithin only d → d ≢ []
    within_some d (q, has, inl e) top = asked_some only good (is_in [] only (subst (Contains only) (sym e ∙ top) has))
    within_some d ([], has, inr below) top = asked_some only good (is_in [] only has)
    within_some d (b ∷ bs, has, inr below) top = let h : [] ≡ b ∷ bs ++ 47 ∷ below.0 = sym top ∙ below.1 in absurd (cc h)
