use Rattle.std.proofs.Common.{ap, sym, ◌∙◌, option_map, Bor}
use Rattle.lc_level.specs.EntryLooks.{has_file}
use Rattle.lc_level.proofs.{AskedPaths.passes, Searching.kind_tells}
use Rattle.lc_tree.specs.{Kinds.is_file, Listing.EntryModel}
use Rattle.lc_level.proofs.entry_looks.has_file.Goals as goal

pub returns-in-Some : goal.returns-in-Some
returns-in-Some c =
    let name = c.args.name.now in
    c.is_file.ensures ∙ ap (λ (e : EntryModel). is_file e.kind) c.entry.view_is
    ∙ ap (passes (λ (e : EntryModel). is_file e.kind))
    (ap (option_map (λ (e : Bor EntryModel). e.now)) (sym c.in-Some.is) ∙ c.entry_named.ensures)
    ∙ sym (kind_tells name is_file c.entries.result.now c.entries.ensures.listing.order)
    ∙ ap (has_file name) c.entries.ensures.same

pub returns-in-None : goal.returns-in-None
returns-in-None c =
    let name = c.args.name.now in
    ap (passes (λ (e : EntryModel). is_file e.kind))
    (ap (option_map (λ (e : Bor EntryModel). e.now)) (sym c.in-None.is) ∙ c.entry_named.ensures)
    ∙ sym (kind_tells name is_file c.entries.result.now c.entries.ensures.listing.order)
    ∙ ap (has_file name) c.entries.ensures.same
