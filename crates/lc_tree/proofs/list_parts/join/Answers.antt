use Rattle.std.proofs.Common.{◌≡◌, ◌∙◌, ◌++◌, ◌∷◌, [], Ok, Err, List, ap, sym, subst, append_assoc}
use Rattle.lc_tree.specs.{Listing.EntryModel, Parts.{Part, AreJoined, IsFaultOfJoining}}
use Rattle.lc_tree.proofs.Joining.{first_at_fault, joined_more}
use Rattle.lc_tree.proofs.list_parts.join.Goals as goal

-- the first part that has a fault
pub returns-in-Err : goal.returns-in-Err
returns-in-Err c =
    let inv = c.loop-part.invariant in
    let left : List Part = c.next.new.self.rest.items in
    let all : c.args.parts.items ≡ c.loop-part.yielded ++ Err c.in-Err.fault ∷ left
    = inv.2 ∙ (ap (λ (l : List Part). c.loop-part.yielded ++ l) c.in-Some.ensures.steps.0
    ∙ ap (λ (p : Part). c.loop-part.yielded ++ p ∷ left) c.in-Err.is) in
    subst (λ (ps : List Part). IsFaultOfJoining ps c.in-Err.fault) (sym all)
    (first_at_fault c.loop-part.yielded left c.loop-part.entries.items c.in-Err.fault inv.3)

-- the entries of one part more
pub loop-part-preserved : goal.loop-part-preserved
loop-part-preserved c =
    let inv = c.loop-part.invariant in
    let left : List Part = c.next.new.self.rest.items in (
      tt,
      tt,
      inv.2 ∙ (ap (λ (l : List Part). c.loop-part.yielded ++ l) c.in-Some.ensures.steps.0
          ∙ sym (append_assoc c.loop-part.yielded (c.in-Some.part ∷ []) left)),
      subst (λ (p : Part). AreJoined (c.loop-part.yielded ++ p ∷ []) c.append.new.self.items) (sym c.in-Ok.is)
          (subst (λ (es : List EntryModel). AreJoined (c.loop-part.yielded ++ Ok c.in-Ok.part ∷ []) es) (sym c.in-Ok-append.ensures.items)
          (joined_more c.loop-part.yielded c.loop-part.entries.items c.in-Ok.part inv.3)),
    )
