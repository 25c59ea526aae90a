use Rattle.std.proofs.Common.{ap, sym, ◌∙◌, option_map, Bor}
use Rattle.lc_level.specs.EntryLooks.{has_dir}
use Rattle.lc_level.proofs.{AskedPaths.passes, Searching.kind_tells}
use Rattle.lc_tree.specs.{Kinds.is_dir, Listing.EntryModel}
use Rattle.lc_level.proofs.entry_looks.has_dir.Goals as goal

pub returns-in-Some : goal.returns-in-Some
returns-in-Some c =
    let name = c.args.name.now in
    c.is_dir.ensures ∙ ap (λ (e : EntryModel). is_dir e.kind) c.entry.view_is
    ∙ ap (passes (λ (e : EntryModel). is_dir e.kind))
    (ap (option_map (λ (e : Bor EntryModel). e.now)) (sym c.in-Some.is) ∙ c.entry_named.ensures)
    ∙ sym (kind_tells name is_dir c.entries.result.now c.entries.ensures.listing.order)
    ∙ ap (has_dir name) c.entries.ensures.same

pub returns-in-None : goal.returns-in-None
returns-in-None c =
    let name = c.args.name.now in
    ap (passes (λ (e : EntryModel). is_dir e.kind))
    (ap (option_map (λ (e : Bor EntryModel). e.now)) (sym c.in-None.is) ∙ c.entry_named.ensures)
    ∙ sym (kind_tells name is_dir c.entries.result.now c.entries.ensures.listing.order)
    ∙ ap (has_dir name) c.entries.ensures.same
