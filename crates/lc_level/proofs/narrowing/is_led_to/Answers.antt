use Rattle.std.proofs.Common.{ap, sym, ◌∙◌, option_map, Bor}
use Rattle.lc_level.specs.Narrowing.{leads_to}
use Rattle.lc_level.proofs.{AskedPaths.passes, Leading.led_by_named}
use Rattle.lc_tree.specs.Listing.{EntryModel}
use Rattle.lc_level.proofs.narrowing.is_led_to.Goals as goal

pub returns-in-Some : goal.returns-in-Some
returns-in-Some c =
    let rest = c.args.rest.now in
    c.leads_to.ensures ∙ ap (passes (λ (e : EntryModel). leads_to e rest))
    (ap (option_map (λ (e : Bor EntryModel). e.now)) (sym c.in-Some.is) ∙ c.entry_named.ensures)
    ∙ sym (led_by_named c.args.entries.now rest c.cut_at_first.result.0.now c.requires c.cut_at_first.ensures.before)

pub returns-in-None : goal.returns-in-None
returns-in-None c =
    let rest = c.args.rest.now in
    ap (passes (λ (e : EntryModel). leads_to e rest))
    (ap (option_map (λ (e : Bor EntryModel). e.now)) (sym c.in-None.is) ∙ c.entry_named.ensures)
    ∙ sym (led_by_named c.args.entries.now rest c.cut_at_first.result.0.now c.requires c.cut_at_first.ensures.before)
