-- What is dropped at the beginning of a line.
use Rattle.std.proofs.Common.{◌≡◌, ℕ, ◌+◌, ◌==◌, Bool, true, false, zero, suc, ◌&&◌, List, [], ◌∷◌, ◌++◌, if◌then◌else◌, refl, sym, ◌∙◌}
use Rattle.std.proofs.{Common.{ap, ap₂, flat_map, replicate, inl, inr, subst}, lemmas.{Bool.{eqb-true, and_parts}, List.append_assoc}}
use Rattle.lc_glob.specs.{Bytes.{dot, slash}, Path.is_good_path}
use Rattle.lc_text.specs.DotsBefore.{dot_slashes, begins_with_slash, begins_with_dot_slash, path_after, IsAfterDots, UndottedLaw, KeptLaw}
use Rattle.lc_text.specs.PathLines.{after_dot, or_dot, undotted}

-- what follows a `./`: slashes, more of them, and the rest
record IsTail (tail rest : List ℕ) : Type 0 where
  more : ℕ
  dots : List ℕ
  tail_is : tail ≡ replicate more slash ++ (flat_map dot_slashes dots ++ rest)
  no_dot : begins_with_dot_slash rest ≡ false
  no_slash : begins_with_slash rest ≡ false

-- a slash more
slash_more : (b : ℕ) (tail rest : List ℕ) → (b == slash) ≡ true → IsTail tail rest → IsTail (b ∷ tail) rest
slash_more b tail rest e t = record {
  more = suc t.more;
  dots = t.dots;
  tail_is = ap₂ (λ x xs. x ∷ xs) (eqb-true b slash e) t.tail_is;
  no_dot = t.no_dot;
  no_slash = t.no_slash;
}

-- a `./` more
dot_more : (b c : ℕ) (tail rest : List ℕ) → ((b == dot) && (c == slash)) ≡ true → IsTail tail rest → IsTail (b ∷ c ∷ tail) rest
dot_more b c tail rest e t =
    let both = and_parts (b == dot) (c == slash) e in
    record {
      more = 0;
      dots = t.more ∷ t.dots;
      tail_is = ap₂ (λ x xs. x ∷ xs) (eqb-true b dot both.0) (ap₂ (λ x xs. x ∷ xs) (eqb-true c slash both.1)
          (t.tail_is ∙ sym (append_assoc (replicate t.more slash) (flat_map dot_slashes t.dots) rest)))
          ∙ sym (append_assoc (dot_slashes t.more) (flat_map dot_slashes t.dots) rest ∙ sym
          (ap (λ (l : List ℕ). dot ∷ slash ∷ l) (append_assoc (replicate t.more slash) (flat_map dot_slashes t.dots) rest)));
      no_dot = t.no_dot;
      no_slash = t.no_slash;
    }

after_dot-is : (tail : List ℕ) → IsTail tail (after_dot tail)
after_dot-is [] = record { more = 0; dots = []; tail_is = refl; no_dot = refl; no_slash = refl }
after_dot-is (b ∷ []) = at (b == slash) refl
  where
    at : (q : Bool) → (b == slash) ≡ q → IsTail (b ∷ []) (if b == slash then [] else b ∷ [])
    at true e = rw e (slash_more b [] [] e (record { more = 0; dots = []; tail_is = refl; no_dot = refl; no_slash = refl }))
    at false e = rw e (record { more = 0; dots = []; tail_is = refl; no_dot = refl; no_slash = e })
after_dot-is (b ∷ c ∷ cs) = at (after_dot-is (c ∷ cs)) (after_dot-is cs) (b == slash) ((b == dot) && (c == slash)) refl refl
  where
    at : IsTail (c ∷ cs) (after_dot (c ∷ cs)) → IsTail cs (after_dot cs) → (q d : Bool) → (b == slash) ≡ q
        → ((b == dot) && (c == slash)) ≡ d
        → IsTail (b ∷ c ∷ cs)
        (if b == slash then after_dot (c ∷ cs) else if (b == dot) && (c == slash) then after_dot cs else b ∷ c ∷ cs)
    at next after true d e f = rw e (slash_more b (c ∷ cs) (after_dot (c ∷ cs)) e next)
    at next after false true e f = rw (e, f) (dot_more b c cs (after_dot cs) f after)
    at next after false false e f = rw (e, f) (record { more = 0; dots = []; tail_is = refl; no_dot = f; no_slash = e })

pub undotted_law : UndottedLaw
unfolding dot_more
undotted_law [] = record { dots = []; rest = []; line_is = refl; no_dot = refl; no_slash = inl refl; path_is = refl }
undotted_law (b ∷ []) = record { dots = []; rest = b ∷ []; line_is = refl; no_dot = refl; no_slash = inl refl; path_is = refl }
undotted_law (b ∷ c ∷ cs) = at ((b == dot) && (c == slash)) refl
  where
    at : (q : Bool) → ((b == dot) && (c == slash)) ≡ q
        → IsAfterDots (b ∷ c ∷ cs) (if (b == dot) && (c == slash) then or_dot (after_dot cs) else b ∷ c ∷ cs)
    at true e =
        let t = dot_more b c cs (after_dot cs) e (after_dot-is cs) in
        rw e (record {
          dots = t.dots;
          rest = after_dot cs;
          line_is = t.tail_is;
          no_dot = t.no_dot;
          no_slash = inr t.no_slash;
          path_is = refl;
        })
    at false e = rw e (record { dots = []; rest = b ∷ c ∷ cs; line_is = refl; no_dot = e; no_slash = inl refl; path_is = refl })

pub kept_law : KeptLaw
kept_law [] good = refl
kept_law (b ∷ []) good = refl
kept_law (b ∷ c ∷ cs) good = at ((b == dot) && (c == slash)) refl
  where
    at : (q : Bool) → ((b == dot) && (c == slash)) ≡ q
        → (if (b == dot) && (c == slash) then or_dot (after_dot cs) else b ∷ c ∷ cs) ≡ b ∷ c ∷ cs
    at true e =
        let both = and_parts (b == dot) (c == slash) e in
        let dotted : is_good_path (dot ∷ slash ∷ cs) ≡ true =
        subst (λ (y : ℕ). is_good_path (dot ∷ y ∷ cs) ≡ true) (eqb-true c slash both.1)
        (subst (λ (x : ℕ). is_good_path (x ∷ c ∷ cs) ≡ true) (eqb-true b dot both.0) good) in
        absurd (cc dotted)
    at false e = rw e refl
