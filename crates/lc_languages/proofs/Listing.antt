-- A line of a list that is kept in a map.
use Rattle.std.proofs.Common.{◌≡◌, ℕ, true, false, cond, List, option_map, Some, None, refl, sym, ◌∙◌, ap}
use Rattle.std.proofs.lemmas.Map.Text.{btree_map_updates_str}
use Rattle.std.specs.{BTreeMap.BTreeMap, Borrow.Bor, Cmp.Lexicographic.slice_cmp, Option.option_or, Ordering.nat_cmp, Str.bytes_eq}
use Rattle.std.specs.BTreeMap as tree
use Rattle.lc_languages.specs.Languages.{Adds, Pattern, language_in, same_pattern}

-- a text that is inserted has the language of the line, and each other text its own
pub added : (kind : List ℕ → Pattern) → ((a b : List ℕ) → same_pattern (kind a) (kind b) ≡ bytes_eq a b) → (key v : Bor (List ℕ))
    → (e : Pattern × List ℕ) → e.0 ≡ kind key.now → e.1 ≡ v.now → (old new : BTreeMap (Bor (List ℕ)) (Bor (List ℕ)))
    → tree.Updates (λ x y. slice_cmp nat_cmp x.now y.now) old new key (Some v) → Adds kind e old new
added kind same key v e p q old new h text =
    ap (option_map (λ (l : Bor (List ℕ)). l.now)) (btree_map_updates_str key.now old new (Some v) h text)
    ∙ elim (bytes_eq key.now text) as (λ b. option_map (λ (l : Bor (List ℕ)). l.now) (cond b (Some v)
    (tree.get_by (λ (k : Bor (List ℕ)). slice_cmp nat_cmp text k.now) old))
    ≡ option_or (cond b (Some v.now) None) (language_in old text)) [ true ↦ refl | false ↦ refl ]
    ∙ ap (λ b. option_or (cond b (Some v.now) None) (language_in old text))
    (sym (ap (λ k. same_pattern k (kind text)) p ∙ same key.now text))
    ∙ ap (λ l. option_or (cond (same_pattern e.0 (kind text)) (Some l) None) (language_in old text)) (sym q)
