-- A pattern with a literal at an end matches no path that has another byte there.
use Rattle.std.proofs.Common.{◌≡◌, ◌⊎◌, ◌≤◌, ◌+◌, ◌-◌, ◌*◌, ℕ, Bool, true, false, cond, nat_eq, List, [], ◌∷◌, ◌++◌, map, None, IsTrue}
use Rattle.std.proofs.{Common.{IsFalse, inl, inr, refl, sym, ◌∙◌, ap, subst, arith}, lemmas.{Bool.true_from_ne_false, List.map-append}}
use Rattle.std.specs.List.{onto_first, slice_split}
use Rattle.lc_glob.specs.{Tokens.{TokenModel, literal, any_byte, star, class}, ByteTests.StripsFirst, Costs.{tokens_with_ends, full_cost}}
use Rattle.lc_glob.specs.{Elements.{IsLiteral, EndsWithLiteral, BeginsWithLiteral}, EndLooks.{HasLiteralEnd, DiffersAtEnd}, Fits.Fits}
use Rattle.lc_glob.specs.{Matches.{MatchesPath, FitsLast}, TokenLists.{tokens_model, is_separator}, Path.segments_of, Patterns.SegmentModel}
use Rattle.lc_glob.specs.{Patterns.{plain, double_star}, Reading.{is_double_star, segment_from}, Simple.{byte_token, tokens_of_end}}
use Rattle.lc_glob.specs.{Simple.{bytes_segment, ends_segment, exact_segment}, declared.token.Token.{Token, TheVariants.Literal}}
use Rattle.lc_glob.proofs.{Bounds.path_some, Ends.tokens_with_ends-end, Fitting.{end_stuck, front_stuck}, Leading.plain_spelled}
use Rattle.lc_glob.proofs.{TokenLists.model_before, Naming.{last_part, first_part}}

pub token_literal : (t : Token) (b : ℕ) → t ≡ Literal b → IsLiteral tokens_model is_separator t b
token_literal t b e =
    subst (λ (u : Token). IsLiteral tokens_model is_separator u b) (sym e) (refl, λ ts. model_before ts (Literal b) [] refl, λ ts. refl)

-- such a byte is its own token
single_token : (c b : ℕ) → IsLiteral (map byte_token) (λ (d : ℕ). nat_eq d 47) c b → byte_token c ≡ literal b
single_token c b is = cc_head (is.2 [])
  where
    cc_head : byte_token c ∷ [] ≡ literal b ∷ [] → byte_token c ≡ literal b
    cc_head e = cc

-- so it is no star, and the literal itself
no_star : (c b : ℕ) → byte_token c ≡ literal b → (nat_eq c 42 ≡ false) × (c ≡ b)
no_star c b e = at (nat_eq c 42) (nat_eq c 63) e
  where
    at : (a q : Bool) → cond a star (cond q any_byte (literal c)) ≡ literal b → (a ≡ false) × (c ≡ b)
    at true q e = cc
    at false true e = cc
    at false false e = (refl, cc)

-- a segment with a literal at an end is no double star
single_after : (us : List TokenModel) (b : ℕ) → is_double_star (us ++ literal b ∷ []) ≡ false
single_after [] b = refl
single_after (literal c ∷ []) b = refl
single_after (any_byte ∷ []) b = refl
single_after (star ∷ []) b = refl
single_after (class n rs ∷ []) b = refl
single_after (u ∷ v ∷ []) b = refl
single_after (u ∷ v ∷ w ∷ us) b = refl

single_before : (b : ℕ) (us : List TokenModel) → is_double_star (literal b ∷ us) ≡ false
single_before b [] = refl
single_before b (u ∷ []) = refl
single_before b (u ∷ v ∷ us) = refl

-- what reads a part as a segment keeps a literal at its end, and at its front
module _ {A : Type 0} (tokens_in : List A → List TokenModel) (separates : A → Bool) where
  pub record KeepsEnds (segment : List A → SegmentModel) : Type 0 where
    pub at_end : (xs : List A) (e : A) (b : ℕ) → IsLiteral tokens_in separates e b
        → (us : List TokenModel) × (segment (xs ++ e ∷ []) ≡ plain (us ++ literal b ∷ []))
    pub at_front : (e : A) (xs : List A) (b : ℕ) → IsLiteral tokens_in separates e b
        → (us : List TokenModel) × (segment (e ∷ xs) ≡ plain (literal b ∷ us))

  pub tokens_keep : KeepsEnds (λ xs. segment_from true (tokens_in xs))
  tokens_keep = record {
    at_end = λ xs e b is. (
      tokens_in xs,
      ap (segment_from true) (is.1 xs)
          ∙ ap (λ (d : Bool). cond d double_star (plain (tokens_in xs ++ literal b ∷ []))) (single_after (tokens_in xs) b),
    );
    at_front = λ e xs b is. (
      tokens_in xs,
      ap (segment_from true) (is.2 xs)
          ∙ ap (λ (d : Bool). cond d double_star (plain (literal b ∷ tokens_in xs))) (single_before b (tokens_in xs)),
    );
  }

end_before : (c b : ℕ) (bs : List ℕ) → byte_token c ≡ literal b → tokens_of_end (c ∷ bs) ≡ literal b ∷ map literal bs
end_before c b bs e =
    ap (λ (d : Bool). cond d (star ∷ map literal bs) (map literal (c ∷ bs))) (no_star c b e).0
    ∙ ap (λ (x : ℕ). literal x ∷ map literal bs) (no_star c b e).1

literals_after : (bs : List ℕ) (c b : ℕ) → c ≡ b → map literal (bs ++ c ∷ []) ≡ map literal bs ++ literal b ∷ []
literals_after bs c b e = map-append literal bs (c ∷ []) ∙ ap (λ (x : ℕ). map literal bs ++ literal x ∷ []) e

end_after : (bs : List ℕ) (c b : ℕ) → byte_token c ≡ literal b
    → (us : List TokenModel) × (tokens_of_end (bs ++ c ∷ []) ≡ us ++ literal b ∷ [])
end_after [] c b e = ([], end_before c b [] e)
end_after (x ∷ xs) c b e = at (nat_eq x 42)
  where
    at : (t : Bool) → (us : List TokenModel)
        × (cond t (star ∷ map literal (xs ++ c ∷ [])) (map literal (x ∷ xs ++ c ∷ [])) ≡ us ++ literal b ∷ [])
    at true = (star ∷ map literal xs, ap (λ (us : List TokenModel). star ∷ us) (literals_after xs c b (no_star c b e).1))
    at false = (map literal (x ∷ xs), literals_after (x ∷ xs) c b (no_star c b e).1)

pub bytes_keep : KeepsEnds (map byte_token) (λ (c : ℕ). nat_eq c 47) bytes_segment
bytes_keep = tokens_keep (map byte_token) (λ (c : ℕ). nat_eq c 47)

pub ends_keep : KeepsEnds (map byte_token) (λ (c : ℕ). nat_eq c 47) ends_segment
ends_keep = record {
  at_end = λ bs c b is. let end = end_after bs c b (single_token c b is) in (
    end.0,
    ap (λ (d : Bool). cond d double_star (plain (tokens_of_end (bs ++ c ∷ []))))
        (ap is_double_star (is.1 bs) ∙ single_after (map byte_token bs) b) ∙ ap plain end.1,
  );
  at_front = λ c bs b is. (
    map literal bs,
    ap (λ (d : Bool). cond d double_star (plain (tokens_of_end (c ∷ bs))))
        (ap is_double_star (is.2 bs) ∙ single_before b (map byte_token bs)) ∙ ap plain (end_before c b bs (single_token c b is)),
  );
}

pub exact_keep : KeepsEnds (map byte_token) (λ (c : ℕ). nat_eq c 47) exact_segment
exact_keep = record {
  at_end = λ bs c b is. (map literal bs, ap plain (literals_after bs c b (no_star c b (single_token c b is)).1));
  at_front = λ c bs b is. (map literal bs, ap (λ (x : ℕ). plain (literal x ∷ map literal bs)) (no_star c b (single_token c b is)).1);
}

-- a path begins with the byte that its first segment begins with
begins_so : (path : List ℕ) (x : ℕ) (n : List ℕ) (ns : List (List ℕ)) → segments_of path ≡ (x ∷ n) ∷ ns
    → (rest : List ℕ) × (path ≡ x ∷ rest)
begins_so [] x n ns e = cc
begins_so (y ∷ ys) x n ns e = at (nat_eq y 47) e
  where
    onto : (parts : List (List ℕ)) → onto_first y parts ≡ (x ∷ n) ∷ ns → y ≡ x
    onto [] h = cc
    onto (q ∷ qs) h = cc

    at : (t : Bool) → cond t ([] ∷ segments_of ys) (onto_first y (segments_of ys)) ≡ (x ∷ n) ∷ ns → (rest : List ℕ) × (y ∷ ys ≡ x ∷ rest)
    at true h = cc
    at false h = (ys, ap (λ (c : ℕ). c ∷ ys) (onto (segments_of ys) h))

never_first : (s r : List SegmentModel) (us : List TokenModel) (b : ℕ) (path : List ℕ) → s ≡ plain (literal b ∷ us) ∷ r
    → StripsFirst (literal b) path None → MatchesPath s (segments_of path) → ⊥
never_first s r us b path e never m =
    at (segments_of path) refl (subst (λ (l : List SegmentModel). MatchesPath l (segments_of path)) e m)
  where
    at : (names : List (List ℕ)) → segments_of path ≡ names → MatchesPath (plain (literal b ∷ us) ∷ r) names → ⊥
    at [] q m = m
    at (n ∷ ns) q m = front_stuck (literal b ∷ us) us (literal b) n refl refl (λ x rest is.
        let begins = begins_so path x rest ns (q ∙ ap (λ (l : List ℕ). l ∷ ns) is) in never x begins.0 begins.1) m.0

-- lists that end with one element each end with the same
same_end : (above ends : List (List ℕ)) (name end : List ℕ) → above ++ name ∷ [] ≡ ends ++ end ∷ [] → name ≡ end
same_end [] [] name end e = cc
same_end [] (x ∷ []) name end e = cc
same_end [] (x ∷ y ∷ ends) name end e = cc
same_end (a ∷ []) [] name end e = cc
same_end (a ∷ b ∷ above) [] name end e = cc
same_end (a ∷ above) (x ∷ ends) name end e = same_end above ends name end (cc)

-- each token of a segment may be tested once at each byte
one_each : (a b : ℕ) → 1 ≤ a → 1 ≤ b → 1 ≤ a * b
one_each a b x y = grind arith

-- what is told by a look, and what it leaves
told_so : {Differs Matched : Type 0} (agrees : Bool) → (IsFalse agrees → Differs) → (Differs → Matched → ⊥) → Matched → IsTrue agrees
told_so agrees told never m = true_from_ne_false agrees (λ e. never (told e) m)

-- all but one of the byte tests
abbrev pub Leaves : ℕ → ℕ → ℕ → Type 0
Leaves t t' all = t' + (all - 1) ≤ t + all

look_leaves : {Looks : Type 0} (t t' all : ℕ) → (t' ≡ t) ⊎ (Looks × (t' ≤ t + 1)) → (Looks → 1 ≤ all) → Leaves t t' all
look_leaves t t' all (inl e) some = omega (arith, e)
look_leaves t t' all (inr h) some = omega (arith, h.1, some h.0)

module _ {A : Type 0} (tokens_in : List A → List TokenModel) (separates : A → Bool) (segment : List A → SegmentModel)
    (keeps : KeepsEnds tokens_in separates segment) where
  -- the last segment, and the first
  last_segment : (elements : List A) (b : ℕ) → EndsWithLiteral tokens_in separates elements b
      → (r : List SegmentModel) × (us : List TokenModel)
      × (map segment (slice_split separates elements) ≡ r ++ plain (us ++ literal b ∷ []) ∷ [])
  last_segment elements b ends =
      let part = last_part separates ends.0 ends.1 ends.3.0 in
      let tokens = keeps.at_end part.1 ends.1 b ends.3 in (
        map segment part.0,
        tokens.0,
        ap (λ (l : List A). map segment (slice_split separates l)) ends.2 ∙ ap (map segment) part.2
            ∙ map-append segment part.0 ((part.1 ++ ends.1 ∷ []) ∷ [])
            ∙ ap (λ (s : SegmentModel). map segment part.0 ++ s ∷ []) tokens.1,
      )

  first_segment : (elements : List A) (b : ℕ) → BeginsWithLiteral tokens_in separates elements b
      → (us : List TokenModel) × (r : List SegmentModel)
      × (map segment (slice_split separates elements) ≡ plain (literal b ∷ us) ∷ r)
  first_segment elements b begins =
      let part = first_part separates begins.0 begins.1 begins.3.0 in
      let tokens = keeps.at_front begins.0 part.0 b begins.3 in (
        tokens.0,
        map segment part.1,
        ap (λ (l : List A). map segment (slice_split separates l)) begins.2 ∙ ap (map segment) part.2
            ∙ ap (λ (s : SegmentModel). s ∷ map segment part.1) tokens.1,
      )

  path_differs : (elements : List A) (path : List ℕ) (above : List (List ℕ)) (name : List ℕ) → segments_of path ≡ above ++ name ∷ []
      → DiffersAtEnd tokens_in separates elements path name
      → MatchesPath (map segment (slice_split separates elements)) (segments_of path) → ⊥
  path_differs elements path above name q (inl d) m =
      let last = last_segment elements d.0 d.1 in
      end_stuck (last.1 ++ literal d.0 ∷ []) last.1 (literal d.0) name refl refl d.2
      ((plain_spelled _ last.0 (last.1 ++ literal d.0 ∷ []) (segments_of path) above name last.2 q).0 m).1
  path_differs elements path above name q (inr d) m =
      let first = first_segment elements d.0 d.1 in
      never_first _ first.1 first.0 d.0 path first.2 d.2 m

  path_allows : (elements : List A) (path : List ℕ) → HasLiteralEnd tokens_in separates elements
      → 1 ≤ full_cost (map segment (slice_split separates elements)) (segments_of path)
  path_allows elements path (inl d) =
      let last = last_segment elements d.0 d.1 in
      one_each _ _ (omega (arith, ap tokens_with_ends last.2 ∙ tokens_with_ends-end last.0 (last.1 ++ literal d.0 ∷ []))) (path_some path)
  path_allows elements path (inr d) =
      let first = first_segment elements d.0 d.1 in
      one_each _ _ (omega (arith, ap tokens_with_ends first.2)) (path_some path)

  -- so a look at a path is right, and is paid
  pub look_at_path : (elements : List A) (path : List ℕ) (above : List (List ℕ)) (name : List ℕ) (agrees : Bool) (t t' : ℕ)
      → segments_of path ≡ above ++ name ∷ [] → (IsFalse agrees → DiffersAtEnd tokens_in separates elements path name)
      → (t' ≡ t) ⊎ (HasLiteralEnd tokens_in separates elements × (t' ≤ t + 1))
      → (MatchesPath (map segment (slice_split separates elements)) (segments_of path) → IsTrue agrees)
      × Leaves t t' (full_cost (map segment (slice_split separates elements)) (segments_of path))
  look_at_path elements path above name agrees t t' q told paid = (
    told_so agrees told (path_differs elements path above name q),
    look_leaves t t' _ paid (path_allows elements path),
  )

-- and one at the last name
name_differs : (bytes name : List ℕ) → DiffersAtEnd (map byte_token) (λ (c : ℕ). nat_eq c 47) bytes name name
    → Fits (map byte_token bytes) name → ⊥
name_differs bytes name (inl d) f =
    end_stuck (map byte_token bytes) (map byte_token d.1.0) (literal d.0) name (ap (map byte_token) d.1.2 ∙ d.1.3.1 d.1.0) refl d.2 f
name_differs bytes name (inr d) f =
    front_stuck (map byte_token bytes) (map byte_token d.1.1) (literal d.0) name (ap (map byte_token) d.1.2 ∙ d.1.3.2 d.1.1) refl d.2 f

name_allows : (us : List TokenModel) (path : List ℕ) → 1 ≤ full_cost (plain us ∷ []) (segments_of path)
name_allows us path = one_each _ _ (omega arith) (path_some path)

pub look_at_name : (bytes path : List ℕ) (above : List (List ℕ)) (name : List ℕ) (agrees : Bool) (t t' : ℕ)
    → segments_of path ≡ above ++ name ∷ [] → (IsFalse agrees → DiffersAtEnd (map byte_token) (λ (c : ℕ). nat_eq c 47) bytes name name)
    → (t' ≡ t) ⊎ (HasLiteralEnd (map byte_token) (λ (c : ℕ). nat_eq c 47) bytes × (t' ≤ t + 1))
    → (FitsLast (plain (map byte_token bytes) ∷ []) (segments_of path) → IsTrue agrees)
    × Leaves t t' (full_cost (plain (map byte_token bytes) ∷ []) (segments_of path))
look_at_name bytes path above name agrees t t' q told paid = (
  told_so agrees told (λ d m. name_differs bytes name d (subst (Fits (map byte_token bytes)) (same_end _ _ _ _ (sym m.2 ∙ q)) m.3)),
  look_leaves t t' _ paid (λ h. name_allows (map byte_token bytes) path),
)
