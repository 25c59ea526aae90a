-- The rules that decide the directories above a path, and their names.
use Rattle.std.proofs.Common.{◌≡◌, ◌≢◌, ◌≤◌, ◌<◌, ◌+◌, ◌-◌, ℕ, suc, Bool, true, false, cond, List, [], ◌∷◌, ◌++◌, length, take, get_or}
use Rattle.std.proofs.Common.{Option, Some, None, Bor, is_some, refl, sym, ◌∙◌, ap, ap₂, subst, arith, append_assoc, ⊎_elim, set}
use Rattle.std.proofs.{Common.{take-take, not, ◌&&◌, ◌||◌}, Math.Seq.{take-suc-set, take-append_seam, take-length}, lemmas.Bool.cases_lt}
use Rattle.std.proofs.lemmas.List.{append_cancel_right, map-append, take-set-le, get_or-set_other, get_or-set_same, length-append}
use Rattle.std.proofs.lemmas.List.{length-take-le, get_or-take, take-map}
use Rattle.std.specs.{Prelude.{option_map, IfSome}, Option.option_or}
use Rattle.lc_glob.specs.{Above.{names_of, TellMatches}, IsMatch.{is_match, segments_match}, Path.segments_of, Patterns.PatternModel}
use Rattle.lc_glob.proofs.Naming.{segments_apart}
use Rattle.lc_rules.specs.{Above.{AreDecided, AreCut, AreFound, IsOwn}, IgnoreRules.RuleModel, Verdicts.{at_depth, last_match}}
use Rattle.lc_rules.specs.declared.rule_source.RuleSource.{RuleSource, TheVariants.Gitignore}
use Rattle.lc_rules.proofs.LastRule.{last_match-append, last_match_one}

-- what was cut off before a slash is one segment
pub one_segment : (left name rest : List ℕ) → segments_of left ≡ name ∷ segments_of rest → left ≡ name ++ 47 ∷ rest
    → segments_of name ≡ name ∷ []
one_segment left name rest pieces whole =
    append_cancel_right (segments_of name) (name ∷ []) (segments_of rest)
    (sym (segments_apart name rest) ∙ ap segments_of (sym whole) ∙ pieces)

-- one name more
module _ (path front left : List ℕ) (name rest : Bor (List ℕ)) (names : List (Bor (List ℕ))) (ends : List ℕ) (count end : ℕ)
    (whole : path ≡ front ++ left) (cut : left ≡ name.now ++ 47 ∷ rest.now) (one : segments_of name.now ≡ name.now ∷ [])
    (closed : (more : List ℕ) → segments_of (front ++ more) ≡ names_of (take count names) ++ segments_of more)
    (low : count < length names) (low_end : count < length ends) (is : end ≡ length path - length rest.now - 1) where
  names_more : names_of (take (count + 1) (set names count name)) ≡ names_of (take count names) ++ name.now ∷ []
  names_more =
      let next : count + 1 ≡ suc count = omega arith in
      ap (λ (n : ℕ). names_of (take n (set names count name))) next ∙ ap names_of (take-suc-set names count name low)
      ∙ map-append (λ n. n.now) (take count names) (name ∷ [])

  pub whole_more : path ≡ (front ++ (name.now ++ 47 ∷ [])) ++ rest.now
  whole_more =
      whole ∙ ap (λ (l : List ℕ). front ++ l) (cut ∙ sym (append_assoc name.now (47 ∷ []) rest.now))
      ∙ sym (append_assoc front (name.now ++ 47 ∷ []) rest.now)

  pub closed_more : (more : List ℕ)
      → segments_of ((front ++ (name.now ++ 47 ∷ [])) ++ more) ≡ names_of (take (count + 1) (set names count name)) ++ segments_of more
  closed_more more =
      ap segments_of (append_assoc front (name.now ++ 47 ∷ []) more
      ∙ ap (λ (l : List ℕ). front ++ l) (append_assoc name.now (47 ∷ []) more))
      ∙ closed (name.now ++ 47 ∷ more)
      ∙ ap (λ (l : List (List ℕ)). names_of (take count names) ++ l) (segments_apart name.now more ∙ ap (λ l. l ++ segments_of more) one)
      ∙ sym (append_assoc (names_of (take count names)) (name.now ∷ []) (segments_of more))
      ∙ ap (λ (l : List (List ℕ)). l ++ segments_of more) (sym names_more)

  to_name : take end path ≡ front ++ name.now
  to_name =
      let all : path ≡ (front ++ name.now) ++ 47 ∷ rest.now = whole ∙ ap (λ (l : List ℕ). front ++ l) cut
      ∙ sym (append_assoc front name.now (47 ∷ rest.now)) in
      let here : end ≡ length (front ++ name.now) =
      omega (arith, is, ap length all, length-append (front ++ name.now) (47 ∷ rest.now)) in
      ap₂ take here all ∙ take-append_seam (front ++ name.now) (47 ∷ rest.now)

  pub cut_more : AreCut path ends names count → AreCut path (set ends count end) (set names count name) (count + 1)
  cut_more before k within =
      ⊎_elim (λ earlier.
      let apart : k ≢ count = (λ e. absurd (omega (arith, e, earlier))) in
      ap (λ (n : ℕ). segments_of (take n path)) (get_or-set_other ends count k end 0 apart) ∙ before k earlier
      ∙ ap names_of (sym (take-set-le (k + 1) names count name (omega (arith, earlier)))))
      (λ later.
      let here : k ≡ count = omega (arith, within, later) in
      subst (λ (j : ℕ). segments_of (take (get_or (set ends count end) j 0) path)
      ≡ names_of (take (j + 1) (set names count name))) (sym here)
      (ap (λ (n : ℕ). segments_of (take n path)) (get_or-set_same ends count end 0 low_end) ∙ ap segments_of to_name ∙ closed name.now
      ∙ ap (λ (l : List (List ℕ)). names_of (take count names) ++ l) one ∙ sym names_more))
      (cases_lt k count)

-- a rule of the top, in the words of those that decide
abbrev tag : Option RuleModel → Option (RuleSource × RuleModel)
tag found = option_map (λ r. (Gitignore 0, r)) found

tagged : (found : Option (Bor RuleModel)) → option_map (λ r. (Gitignore 0, r.now)) found ≡ tag (option_map (λ r. r.now) found)
tagged None = refl
tagged (Some r) = refl

tag_or : (one other : Option RuleModel) → tag (option_or one other) ≡ option_or (tag one) (tag other)
tag_or None other = refl
tag_or (Some r) other = refl

tag_cond : (b : Bool) (r : RuleModel) → tag (cond b (Some r) None) ≡ cond b (Some (Gitignore 0, r)) None
tag_cond true r = refl
tag_cond false r = refl

-- one older rule decides what no newer one does
pub decided_more : (newer : List RuleModel) (r : RuleModel) (names : List (List ℕ)) (count : ℕ) (flags : List Bool)
    (old new : List (Option (Bor RuleModel))) → count ≤ length names → TellMatches r.pattern names flags
    → ((k : ℕ) → k < count → option_map (λ x. x.now) (get_or new k None)
    ≡ option_or (option_map (λ x. x.now) (get_or old k None)) (cond (get_or flags k false) (Some r) None))
    → AreDecided newer names count old → AreDecided (r ∷ newer) names count new
decided_more newer r names count flags old new within told filled before k dir low is =
    tagged (get_or new k None) ∙ ap tag (filled k low)
    ∙ tag_or (option_map (λ x. x.now) (get_or old k None)) (cond (get_or flags k false) (Some r) None)
    ∙ ap₂ option_or (sym (tagged (get_or old k None)) ∙ before k dir low is) (tag_cond (get_or flags k false) r
    ∙ sym (last_match_one (Gitignore 0, r) dir true (get_or flags k false) (sym (told k dir (omega (arith, within, low)) is))))
    ∙ sym (last_match-append ((Gitignore 0, r) ∷ []) (at_depth 0 newer) dir true)

-- what is filled in by the first flags
pub filled_front : (r : RuleModel) (count : ℕ) (flags : List Bool) (old new : List (Option (Bor RuleModel))) → count ≤ length flags
    → ((k : ℕ) → k < length (take count flags) → option_map (λ x. x.now) (get_or new k None)
    ≡ option_or (option_map (λ x. x.now) (get_or old k None)) (cond (get_or (take count flags) k false) (Some r) None))
    → (k : ℕ) → k < count → option_map (λ x. x.now) (get_or new k None)
    ≡ option_or (option_map (λ x. x.now) (get_or old k None)) (cond (get_or flags k false) (Some r) None)
filled_front r count flags old new within filled k low =
    filled k (omega (arith, low, length-take-le count flags within))
    ∙ ap (λ (b : Bool). option_or (option_map (λ x. x.now) (get_or old k None)) (cond b (Some r) None))
    (get_or-take count flags k false low)

-- what newer rules decide is decided, whatever the older ones say
pub decided_early : (rules older newer : List RuleModel) (names : List (List ℕ)) (count all : ℕ) (found : List (Option (Bor RuleModel)))
    → rules ≡ older ++ newer → all ≤ length found → AreFound (take all found) count → AreDecided newer names all found
    → AreDecided rules names count found
decided_early rules older newer names count all found whole room some before k dir low is =
    let within : k < all = omega (arith, low, some.0, length-take-le all found room) in
    at (get_or found k None) (ap is_some (sym (get_or-take all found k None within)) ∙ some.1 k low) (before k dir within is)
    ∙ sym (ap (λ l. last_match (at_depth 0 l) dir true) whole
    ∙ ap (λ l. last_match l dir true) (map-append (λ (x : RuleModel). (Gitignore 0, x)) older newer)
    ∙ last_match-append (at_depth 0 older) (at_depth 0 newer) dir true)
  where
    at : (o : Option (Bor RuleModel)) → is_some o ≡ true
        → option_map (λ r. (Gitignore 0, r.now)) o ≡ last_match (at_depth 0 newer) dir true
        → option_map (λ r. (Gitignore 0, r.now)) o
        ≡ option_or (last_match (at_depth 0 newer) dir true) (last_match (at_depth 0 older) dir true)
    at None some e = absurd (cc)
    at (Some r) some e = ap (λ o. option_or o (last_match (at_depth 0 older) dir true)) e

-- a pattern matches what is no directory where it matches directories and isn't for them only
kinds : (dead only is_dir told : Bool) → (not dead && (not only || is_dir) && told)
    ≡ ((not dead && (not only || true) && told) && (not only || is_dir))
kinds true only is_dir told = refl
kinds false false is_dir true = refl
kinds false false is_dir false = refl
kinds false true true true = refl
kinds false true true false = refl
kinds false true false true = refl
kinds false true false false = refl

match_kind : (p : PatternModel) (path : List ℕ) (is_dir : Bool) → is_match p path is_dir
    ≡ (is_match p path true && (not p.is_dir_only || is_dir))
unfolding is_match
match_kind p path is_dir = kinds p.is_dead p.is_dir_only is_dir (segments_match p.is_anchored p.segments (segments_of path))

-- one older rule decides the path, where no newer one does
pub own_more : (newer : List RuleModel) (r : RuleModel) (names : List (List ℕ)) (n : ℕ) (is_dir : Bool) (flags : List Bool)
    (old new : Option (Bor RuleModel)) → n + 1 ≡ length names → TellMatches r.pattern names flags
    → option_map (λ x. x.now) new ≡ option_or (option_map (λ x. x.now) old)
    (cond (get_or flags n false && (not r.pattern.is_dir_only || is_dir)) (Some r) None)
    → IsOwn newer names is_dir old → IsOwn (r ∷ newer) names is_dir new
own_more newer r names n is_dir flags old new last told filled before path is =
    let flag = told n path (omega (arith, last)) (is ∙ sym (ap (λ (k : ℕ). take k names) last ∙ take-length names)) in
    let matched : is_match r.pattern path is_dir ≡ (get_or flags n false && (not r.pattern.is_dir_only || is_dir)) =
    match_kind r.pattern path is_dir ∙ ap (λ (b : Bool). b && (not r.pattern.is_dir_only || is_dir)) (sym flag) in
    tagged new ∙ ap tag filled
    ∙ tag_or (option_map (λ x. x.now) old) (cond (get_or flags n false && (not r.pattern.is_dir_only || is_dir)) (Some r) None)
    ∙ ap₂ option_or (sym (tagged old) ∙ before path is) (tag_cond (get_or flags n false && (not r.pattern.is_dir_only || is_dir)) r
    ∙ sym (last_match_one (Gitignore 0, r) path is_dir (get_or flags n false && (not r.pattern.is_dir_only || is_dir)) matched))
    ∙ sym (last_match-append ((Gitignore 0, r) ∷ []) (at_depth 0 newer) path is_dir)

-- the directories that end at these places are decided
pub decided_above : (rules : List RuleModel) (path ends : List ℕ) (names : List (Bor (List ℕ))) (all count : ℕ)
    (found : List (Option (Bor RuleModel))) → all ≤ length names → count < all → AreCut path ends names (all - 1)
    → AreDecided rules (names_of (take all names)) count found → (k : ℕ) → k < count
    → option_map (λ r. (Gitignore 0, r.now)) (get_or found k None) ≡ last_match (at_depth 0 rules) (take (get_or ends k 0) path) true
decided_above rules path ends names all count found room within cut decided k low =
    decided k (take (get_or ends k 0) path) low
    (cut k (omega (arith, low, within)) ∙ ap names_of (sym (take-take (k + 1) all names (omega (arith, low, within))))
    ∙ sym (take-map (λ n. n.now) (k + 1) (take all names)))

-- the path is decided
pub decided_own : (rules : List RuleModel) (path : List ℕ) (names : List (List ℕ)) (is_dir : Bool) (own : Option (Option (Bor RuleModel)))
    → segments_of path ≡ names → IfSome own (λ o. IsOwn rules names is_dir o) → (o : Option (Bor RuleModel)) → own ≡ Some o
    → option_map (λ r. (Gitignore 0, r.now)) o ≡ last_match (at_depth 0 rules) path is_dir
decided_own rules path names is_dir None all told o is = absurd (cc)
decided_own rules path names is_dir (Some x) all told o is =
    let same : x ≡ o = cc in
    subst (λ (y : Option (Bor RuleModel)). option_map (λ r. (Gitignore 0, r.now)) y ≡ last_match (at_depth 0 rules) path is_dir) same
    (told path all)
