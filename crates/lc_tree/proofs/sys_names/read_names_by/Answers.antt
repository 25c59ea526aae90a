use Rattle.std.proofs.{Common.{◌≡◌, ℕ, List, [], ◌∷◌, ◌++◌, length, take, sym, ap, subst, ◌∙◌, arith}, lemmas.Grind.flat_map-append}
use Rattle.std.proofs.lemmas.List.{append-nil}
use Rattle.std.specs.List.{flat_map}
use Rattle.lc_io.specs.Reads.{gave, at_end, AnyRoom}
use Rattle.lc_io.proofs.Runs.{reads_more, reads_stop, take_some}
use Rattle.lc_tree.specs.{Named.bytes_of, SysNames.names_in}
use Rattle.lc_tree.proofs.sys_names.read_names_by.Goals as goal

-- the names of one read more
names_more : (pieces : List (List ℕ)) (piece : List ℕ) (old new : List (List ℕ)) → old ≡ flat_map names_in pieces
    → new ≡ old ++ names_in piece → new ≡ flat_map names_in (pieces ++ piece ∷ [])
names_more pieces piece old new before more =
    more ∙ ap (λ l. l ++ names_in piece) before
    ∙ ap (λ l. flat_map names_in pieces ++ l) (sym (append-nil (names_in piece)))
    ∙ sym (flat_map-append names_in pieces (piece ∷ []))

pub returns-in-Ok-eq0 : goal.returns-in-Ok-eq0
returns-in-Ok-eq0 g c =
    let run = c.loop-turn.invariant in
    let may_give = g.S.Source.may_give in
    let bytes = c.read.new.buffer in
    let none : gave (take c.in-Ok-eq0.field-0 bytes) ≡ gave [] = ap (λ n. gave (take n bytes)) c.in-Ok-eq0.field-0-test in
    let given = subst (λ a. may_give c.loop-turn.dir (length c.loop-turn.buffer) a c.read.new.self) none c.in-Ok-eq0.ensures.given in (
      run.0,
      reads_stop may_give AnyRoom run.0 at_end c.args.dir.now c.loop-turn.dir c.read.new.self run.1
          (length c.loop-turn.buffer, omega (arith, c.loop-turn.auto.buffer, c.requires), tt, given),
      run.2,
    )

pub loop-turn-preserved : goal.loop-turn-preserved
loop-turn-preserved g c =
    let run = c.loop-turn.invariant in
    let may_give = g.S.Source.may_give in
    let len = c.in-Ok.len in
    let piece = take len c.read.new.buffer in
    let some = take_some len c.read.new.buffer (omega (arith, c.in-Ok.len-test))
    (omega (arith, c.in-Ok.ensures.within, c.read.auto.buffer)) in (
      run.0 ++ piece ∷ [],
      reads_more may_give AnyRoom run.0 piece c.args.dir.now c.loop-turn.dir c.read.new.self run.1 some
          (length c.loop-turn.buffer, omega (arith, c.loop-turn.auto.buffer, c.requires), tt, c.in-Ok.ensures.given),
      names_more run.0 piece (bytes_of c.loop-turn.all.items) (bytes_of c.add_names.new.all.items) run.2 c.in_ok-add_names-in-Ok.ensures,
    )
