use Rattle.std.proofs.{Common.{◌≡◌, ◌+◌, ℕ, nat_eq, eq-eqb, List, [], ◌∷◌, length, refl, sym, ◌∙◌, ap, arith}, lemmas.Bool.false≢true}
use Rattle.std.proofs.lemmas.List.{take_all, Splits.length-slice_split}
use Rattle.std.specs.List.{count_by}
use Rattle.lc_glob.specs.Path.{depth_of}
use Rattle.lc_glob.proofs.path.depth_of.Goals as goal

-- one segment more than there are slashes
depth-slashes : (path : List ℕ) → (length path ≡ 0 → ⊥) → count_by (λ b. nat_eq b 47) path + 1 ≡ depth_of path
depth-slashes [] some = absurd (some refl)
depth-slashes (b ∷ bs) some = sym (length-slice_split (λ (b : ℕ). nat_eq b 47) (b ∷ bs))

pub returns : goal.returns
returns c =
    c.loop-b.invariant.count
    ∙ ap (λ (l : List ℕ). count_by (λ b. nat_eq b 47) l + 1) (take_all c.loop-b.b-index c.args.path.now (omega arith))
    ∙ depth-slashes c.args.path.now (λ e. false≢true (sym c.if-is_empty.false ∙ c.is_empty.ensures ∙ eq-eqb _ _ e))
