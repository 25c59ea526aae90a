-- Paths that are asked for, seen from directories.
use Rattle.std.proofs.Common.{◌≡◌, ◌≢◌, ℕ, ◌==◌, Bool, true, false, not, ◌||◌, cond, List, [], ◌∷◌, ◌++◌, map, refl, sym, ◌∙◌, ap, Option}
use Rattle.std.proofs.{Common.{Some, None, nat_eq, length, append_assoc, bytes_eq, eq-eqb, MatchOption}, lemmas.Bool.eqb-true}
use Rattle.std.proofs.Math.Dec.{eqb-suc-zero}
use Rattle.std.specs.{Borrow.Bor, List.{filter, filter_map, cons_option, list_any}, Option.is_some, Ordering.is_lt, Prelude.option_map}
use Rattle.lc_glob.specs.{Bytes.slash, Path.path_in}
use Rattle.lc_level.specs.Answers.{Item, entry_of, entries_of}
use Rattle.lc_level.specs.Narrowing.{after, rest_from, paths_in, put_among, each_once, leads_to, rests}
use Rattle.lc_level.specs.{Narrowing.{takes_part, part_of, absent_from}, PathSteps.{is_led_to, unled}}
use Rattle.lc_level.proofs.WellFormed.{same_bytes}
use Rattle.lc_tree.specs.{ByteOrder.bytes_cmp, Listing.EntryModel}

-- a test of mapped elements
pub list_any-map : {A B : Type 0} (test : B → Bool) (f : A → B) (xs : List A) → list_any test (map f xs) ≡ list_any (λ x. test (f x)) xs
list_any-map test f [] = refl
list_any-map test f (x ∷ xs) = ap (λ b. test (f x) || b) (list_any-map test f xs)

-- ---- what follows the first bytes of a text

-- a text that begins with these bytes is these and what follows
pub after_is : (front text rest : List ℕ) → after front text ≡ Some rest → text ≡ front ++ rest
after_is [] text rest e = let h : Some text ≡ Some rest = e in cc h
after_is (b ∷ bs) [] rest e = let h : None ≡ Some rest = e in absurd (cc h)
after_is (b ∷ bs) (c ∷ cs) rest e = at (b == c) refl e (after_is bs cs rest)
  where
    at : (t : Bool) → (b == c) ≡ t → cond t (after bs cs) None ≡ Some rest → (after bs cs ≡ Some rest → cs ≡ bs ++ rest)
        → c ∷ cs ≡ b ∷ bs ++ rest
    at true same h more = ap (λ x. x ∷ cs) (sym (eqb-true b c same)) ∙ ap (λ l. b ∷ l) (more h)
    at false other h more = let none : None ≡ Some rest = h in absurd (cc none)

-- and the other way round
pub after_front : (front rest : List ℕ) → after front (front ++ rest) ≡ Some rest
after_front [] rest = refl
after_front (b ∷ bs) rest = ap (λ t. cond t (after bs (bs ++ rest)) None) (eq-eqb b b refl) ∙ after_front bs rest

-- what is left of a text whose first bytes were cut off is what follows these
pub after_cut : (front text : List ℕ) (r : Option (Bor (List ℕ)))
    → MatchOption r ((rest : List ℕ) → text ≢ front ++ rest) (λ x. text ≡ front ++ x.now) → option_map (λ x. x.now) r ≡ after front text
after_cut front text (Some x) is = sym (ap (after front) is ∙ after_front front x.now)
after_cut front text None none = at (after front text) refl
  where
    at : (o : Option (List ℕ)) → after front text ≡ o → None ≡ o
    at None e = refl
    at (Some rest) e = absurd (none rest (after_is front text rest e))

-- what doesn't begin with some bytes doesn't with more
pub after_none : (a b text : List ℕ) → after a text ≡ None → after (a ++ b) text ≡ None
after_none [] b text e = let h : Some text ≡ None = e in absurd (cc h)
after_none (x ∷ xs) b [] e = refl
after_none (x ∷ xs) b (c ∷ cs) e = at (x == c) e (after_none xs b cs)
  where
    at : (t : Bool) → cond t (after xs cs) None ≡ None → (after xs cs ≡ None → after (xs ++ b) cs ≡ None)
        → cond t (after (xs ++ b) cs) None ≡ None
    at true h more = more h
    at false h more = refl

-- and of what does, more is looked for in what follows
pub after_some : (a b text rest : List ℕ) → after a text ≡ Some rest → after (a ++ b) text ≡ after b rest
after_some a b text rest e = ap (after (a ++ b)) (after_is a text rest e) ∙ front a
  where
    front : (xs : List ℕ) → after (xs ++ b) (xs ++ rest) ≡ after b rest
    front [] = refl
    front (x ∷ xs) = ap (λ t. cond t (after (xs ++ b) (xs ++ rest)) None) (eq-eqb x x refl) ∙ front xs

-- a map of what is there
pub is_some-map : {X Y : Type 0} (f : X → Y) (o : Option X) → is_some (option_map f o) ≡ is_some o
is_some-map f None = refl
is_some-map f (Some x) = refl

-- a path that is seen from a directory stands there
pub rest_is : (d path rest : List ℕ) → rest_from d path ≡ Some rest → path ≡ path_in d rest
rest_is [] [] rest e = let h : None ≡ Some rest = e in absurd (cc h)
rest_is [] (b ∷ bs) rest e = let h : Some (b ∷ bs) ≡ Some rest = e in cc h
rest_is (b ∷ bs) path rest e =
    after_is (b ∷ bs ++ slash ∷ []) path rest e ∙ ap (λ l. b ∷ l) (append_assoc bs (slash ∷ []) rest)

-- the empty path is seen from no directory
pub empty_unseen : (d path : List ℕ) → nat_eq (length path) 0 ≡ true → rest_from d path ≡ None
empty_unseen [] [] e = refl
empty_unseen (b ∷ bs) [] e = refl
empty_unseen d (c ∷ cs) e = let h : false ≡ true = sym (eqb-suc-zero (length cs)) ∙ e in absurd (cc h)

-- what another is, relative to a directory, is what is seen of it
pub seen_relative : (d path : List ℕ) (r : Option (Bor (List ℕ))) → nat_eq (length path) 0 ≡ false
    → MatchOption r ((rest : List ℕ) → path ≢ path_in d rest) (λ x. path ≡ path_in d x.now)
    → option_map (λ x. x.now) r ≡ rest_from d path
seen_relative d [] r some is = let h : true ≡ false = some in absurd (cc h)
seen_relative [] (c ∷ cs) None some none = absurd (none (c ∷ cs) refl)
seen_relative [] (c ∷ cs) (Some x) some is = ap Some (sym is)
seen_relative (b ∷ bs) (c ∷ cs) None some none = at (after (b ∷ bs ++ slash ∷ []) (c ∷ cs)) refl
  where
    at : (o : Option (List ℕ)) → after (b ∷ bs ++ slash ∷ []) (c ∷ cs) ≡ o → None ≡ o
    at None e = refl
    at (Some rest) e = absurd (none rest (rest_is (b ∷ bs) (c ∷ cs) rest e))
seen_relative (b ∷ bs) (c ∷ cs) (Some x) some is =
    sym (ap (after (b ∷ bs ++ slash ∷ [])) (is ∙ sym (append_assoc (b ∷ bs) (slash ∷ []) x.now))
    ∙ after_front (b ∷ bs ++ slash ∷ []) x.now)

-- ---- tests of paths

abbrev pub passes : {X : Type 0} → (X → Bool) → Option X → Bool
passes q None = false
passes q (Some x) = q x

-- a test of all that is seen
pub any_seen : {X Y : Type 0} (q : Y → Bool) (f : X → Option Y) (xs : List X)
    → list_any q (filter_map f xs) ≡ list_any (λ x. passes q (f x)) xs
any_seen q f [] = refl
any_seen {X} {Y} q f (x ∷ xs) = at (f x) (any_seen q f xs)
  where
    at : (o : Option Y) → list_any q (filter_map f xs) ≡ list_any (λ y. passes q (f y)) xs
        → list_any q (cons_option o (filter_map f xs)) ≡ (passes q o || list_any (λ y. passes q (f y)) xs)
    at None rest = rest
    at (Some y) rest = ap (λ b. q y || b) rest

-- a path more among others is one more that may pass a test
any_put : (q : List ℕ → Bool) (path : List ℕ) (paths : List (List ℕ)) → list_any q (put_among path paths) ≡ (q path || list_any q paths)
any_put q path [] = refl
any_put q path (p ∷ ps) = at (is_lt (bytes_cmp path p)) (bytes_eq path p) refl (any_put q path ps)
  where
    turned : (a b c : Bool) → (a || (b || c)) ≡ (b || (a || c))
    turned true true c = refl
    turned true false c = refl
    turned false b c = refl

    twice : (a b : Bool) → (a || b) ≡ (a || (a || b))
    twice true b = refl
    twice false b = refl

    at : (less same : Bool) → bytes_eq path p ≡ same → list_any q (put_among path ps) ≡ (q path || list_any q ps)
        → list_any q (cond less (path ∷ p ∷ ps) (p ∷ cond same ps (put_among path ps))) ≡ (q path || (q p || list_any q ps))
    at true same e more = refl
    at false true e more =
        twice (q p) (list_any q ps) ∙ ap (λ (x : List ℕ). q x || (q p || list_any q ps)) (sym (same_bytes path p e))
    at false false e more = ap (λ t. q p || t) more ∙ turned (q p) (q path) (list_any q ps)

-- each path once passes a test where one of them does
pub any_once : (q : List ℕ → Bool) (paths : List (List ℕ)) → list_any q (each_once paths) ≡ list_any q paths
any_once q [] = refl
any_once q (p ∷ ps) = any_put q p (each_once ps) ∙ ap (λ t. q p || t) (any_once q ps)

-- an entry leads to one of the paths, each once, where it leads to one of them
pub leads_once : (only : Option (List (List ℕ))) (d : List ℕ) (e : EntryModel)
    → list_any (leads_to e) (rests only d) ≡ list_any (leads_to e) (filter_map (rest_from d) (paths_in only))
leads_once only d e =
    any_seen (leads_to e) (rest_from d) (each_once (paths_in only))
    ∙ any_once (λ path. passes (leads_to e) (rest_from d path)) (paths_in only)
    ∙ sym (any_seen (leads_to e) (rest_from d) (paths_in only))

-- ---- entries that take part

-- two tests that answer alike keep the same elements
pub filter_as : {X : Type 0} (p q : X → Bool) → ((x : X) → p x ≡ q x) → (xs : List X) → filter p xs ≡ filter q xs
filter_as p q same [] = refl
filter_as p q same (x ∷ xs) =
    ap (λ b. cond b (x ∷ filter p xs) (filter p xs)) (same x) ∙ ap (λ l. cond (q x) (x ∷ l) l) (filter_as p q same xs)

-- all pass a test that passes all
pub filter_all : {X : Type 0} (p : X → Bool) → ((x : X) → p x ≡ true) → (xs : List X) → filter p xs ≡ xs
filter_all p all [] = refl
filter_all p all (x ∷ xs) = ap (λ b. cond b (x ∷ filter p xs) (filter p xs)) (all x) ∙ ap (λ l. x ∷ l) (filter_all p all xs)

-- the entries of the items that take part
pub entries_of_part : (p : EntryModel → Bool) (items : List Item)
    → entries_of (filter (λ item. p (entry_of item)) items) ≡ filter p (entries_of items)
entries_of_part p [] = refl
entries_of_part p (item ∷ items) = at (p (entry_of item)) (entries_of_part p items)
  where
    at : (b : Bool) → entries_of (filter (λ i. p (entry_of i)) items) ≡ filter p (entries_of items)
        → entries_of (cond b (item ∷ filter (λ i. p (entry_of i)) items) (filter (λ i. p (entry_of i)) items))
        ≡ cond b (entry_of item ∷ filter p (entries_of items)) (filter p (entries_of items))
    at true rest = ap (λ l. entry_of item ∷ l) rest
    at false rest = rest

-- where no paths are given all items take part
pub all_take_part : (d : List ℕ) (items : List Item) → part_of None d items ≡ items
all_take_part d items = filter_all (λ item. takes_part None d (entry_of item)) (λ item. refl) items

-- ---- paths that no entry leads to

led_by_items : (items : List Item) (rest : List ℕ)
    → list_any (λ item. leads_to (entry_of item) rest) items ≡ is_led_to (entries_of items) rest
led_by_items [] rest = refl
led_by_items (item ∷ items) rest = ap (λ b. leads_to (entry_of item) rest || b) (led_by_items items rest)

-- what is absent of the items of a directory is told by its entries
pub absent_is : (only : Option (List (List ℕ))) (d : List ℕ) (items : List Item) → unled (entries_of items) (rests only d) ≡ absent_from only d items
absent_is only d items = filter_as _ _ (λ rest. ap not (sym (led_by_items items rest))) (rests only d)
