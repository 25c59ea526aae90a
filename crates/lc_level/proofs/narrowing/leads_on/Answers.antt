use Rattle.std.proofs.Common.{rules, map, sym, ◌∙◌, ap, bytes_eq}
use Rattle.std.specs.List.{list_any}
use Rattle.lc_level.specs.Narrowing.{stands_below}
use Rattle.lc_level.proofs.Leading.{leads_by_name, leads_below}
use Rattle.lc_tree.specs.Listing.{EntryModel}
use Rattle.lc_level.proofs.narrowing.leads_on.Goals as goal

pub returns-then-is_among : goal.returns-then-is_among
returns-then-is_among c =
    let rests = map (λ rest. rest.now) c.args.rests.now in
    let name = c.deref.ensures.value ∙ ap (λ (e : EntryModel). e.name) c.entry.view_is in
    sym (leads_by_name c.args.entry.now rests (sym (c.if-is_among.ensures ∙ ap (λ n. list_any (bytes_eq n) rests) name)))

pub returns-in-Dir : goal.returns-in-Dir
returns-in-Dir c =
    let rests = map (λ rest. rest.now) c.args.rests.now in
    let name = c.deref.ensures.value ∙ ap (λ (e : EntryModel). e.name) c.entry.view_is in
    let same = c.deref-in-Dir.ensures.value ∙ ap (λ (e : EntryModel). e.name) c.entry.view_is in
    c.has_below.ensures ∙ ap (λ n. list_any (λ rest. stands_below rest n) rests) same
    ∙ sym (leads_below c.args.entry.now rests (sym (c.if-is_among.ensures ∙ ap (λ n. list_any (bytes_eq n) rests) name)) (search rules))
