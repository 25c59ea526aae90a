use Rattle.std.proofs.{Common.{rules, ◌≡◌, Some, None, MatchResult, get_or, sym, ◌∙◌, ap, subst, find}, lemmas.Fn.always_returns_same}
use Rattle.lc_tree.specs.Listing.{EntryModel}
use Rattle.lc_level.proofs.Searching.{order_of, is_named, searched}
use Rattle.lc_level.proofs.entry_looks.entry_named.Goals as goal

pub returns-in-Ok : goal.returns-in-Ok
returns-in-Ok c =
    let name = c.args.name.now in
    let es = c.args.entries.now in
    let place = c.binary_search_by.ensures.position (order_of name)
    (always_returns_same _ _ _ (λ a r f called. (search rules, search rules))) in
    let found = subst (λ r. MatchResult r (λ i. (d : EntryModel) → find (is_named name) es ≡ Some (get_or es i d))
    (λ i. find (is_named name) es ≡ None)) c.in-Ok.is
    (searched name es c.binary_search_by.result c.requires.order c.binary_search_by.ensures.bound place) in
    ap (λ (e : EntryModel). Some e) c.index-entries-at.is ∙ sym (found c.index-entries-at.result)

pub returns-in-Err : goal.returns-in-Err
returns-in-Err c =
    let name = c.args.name.now in
    let es = c.args.entries.now in
    let place = c.binary_search_by.ensures.position (order_of name)
    (always_returns_same _ _ _ (λ a r f called. (search rules, search rules))) in
    let none = subst (λ r. MatchResult r (λ i. (d : EntryModel) → find (is_named name) es ≡ Some (get_or es i d))
    (λ i. find (is_named name) es ≡ None)) c.in-Err.is
    (searched name es c.binary_search_by.result c.requires.order c.binary_search_by.ensures.bound place) in
    sym none
