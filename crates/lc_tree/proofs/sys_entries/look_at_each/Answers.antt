use Rattle.std.proofs.Common.{◌∙◌, ◌++◌, ◌∷◌, [], ap, sym, subst, append_assoc, string_bytes, ℕ, List, Vec, Ok, Err}
use Rattle.std.proofs.lemmas.List.{map-append}
use Rattle.std.specs.Global.{Global}
use Rattle.lc_tree.specs.{Listing.EntryModel, Named.{bytes_of, entry_of, AreEntriesOf, IsFirstFault}, SysLooks.ShowsIn}
use Rattle.lc_tree.proofs.SomeNames.{entries_more, first_fault, memory_fault}
use Rattle.lc_tree.proofs.sys_entries.look_at_each.Goals as goal

pub returns-in_default : goal.returns-in_default
returns-in_default g c =
    memory_fault (ShowsIn (g.L.Look.may_answer c.args.looks.now) c.args.directory.now (string_bytes c.args.path))
    (bytes_of c.args.names.items)

-- one name more has its entry
pub loop-name-preserved : goal.loop-name-preserved
loop-name-preserved g c =
    let may = g.L.Look.may_answer c.args.looks.now in
    let directory = c.args.directory.now in
    let shows = ShowsIn may directory (string_bytes c.args.path) in
    let name = c.in-Some.name in
    let inv = c.loop-name.invariant in
    let look = c.in_default-look_at_one.ensures in
    let entries = c.loop-name.entries.items in
    let is : shows name.items (Ok look.entry.0)
    = subst (λ (t : List ℕ). ShowsIn may directory t name.items (Ok look.entry.0)) inv.3 look.entry.1 in (
      tt,
      tt,
      inv.2 ∙ ap (λ l. c.loop-name.yielded ++ l) c.in-Some.ensures.steps.0
          ∙ sym (append_assoc c.loop-name.yielded (name ∷ []) c.next.new.self.rest.items),
      look.path ∙ inv.3,
      subst (λ (l : List EntryModel). AreEntriesOf shows (bytes_of (c.loop-name.yielded ++ name ∷ [])) l) (sym look.entry.2)
          (subst (λ (ns : List (List ℕ)). AreEntriesOf shows ns (entries ++ entry_of name.items look.entry.0))
          (sym {A = List (List ℕ)} (map-append (λ (n : Vec ℕ Global). n.items) c.loop-name.yielded (name ∷ [])))
          (entries_more shows (bytes_of c.loop-name.yielded) entries name.items look.entry.0 inv.4 is)),
    )

-- the first name at fault
pub returns-in-Err : goal.returns-in-Err
returns-in-Err g c =
    let may = g.L.Look.may_answer c.args.looks.now in
    let directory = c.args.directory.now in
    let shows = ShowsIn may directory (string_bytes c.args.path) in
    let name = c.in-Some.name in
    let left = c.next.new.self.rest.items in
    let inv = c.loop-name.invariant in
    let all = inv.2 ∙ ap (λ l. c.loop-name.yielded ++ l) c.in-Some.ensures.steps.0 in
    let is : shows name.items (Err c.in-Err.fault)
    = subst (λ (t : List ℕ). ShowsIn may directory t name.items (Err c.in-Err.fault)) inv.3 c.in-Err.ensures.fault in
    subst (λ (ns : List (List ℕ)). IsFirstFault shows ns c.in-Err.fault)
    (sym (ap bytes_of all ∙ map-append (λ (n : Vec ℕ Global). n.items) c.loop-name.yielded (name ∷ left)))
    (first_fault shows (bytes_of c.loop-name.yielded) c.loop-name.entries.items name.items (bytes_of left) c.in-Err.fault inv.4 is)
