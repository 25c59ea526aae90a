use Rattle.std.proofs.Common.{◌≡◌, ℕ, ◌+◌, ◌<◌, [], ◌∷◌, ◌++◌, length, take, refl, sym, ap, subst, ◌∙◌, arith, length-append, length-take}
use Rattle.std.proofs.lemmas.List.{append-nil, Folds.concat-append}
use Rattle.std.specs.List.{concat}
use Rattle.lc_census.specs.Fed.{LeadTo}
use Rattle.lc_io.specs.Reads.{Answer, gave, failed, at_end, at_failure, RoomOf, MayRead}
use Rattle.lc_io.proofs.Runs.{reads_more, reads_stop, take_some}
use Rattle.lc_census.proofs.counting.count_source.Goals as goal

-- a read into the whole buffer
read_of : {S : Type 0} (may_give : S → ℕ → Answer → S → Type 0) (room size : ℕ) (old new : S) (answer : Answer) → room ≡ size
    → 0 < size → may_give old room answer new
    → MayRead may_give (RoomOf size) old answer new
read_of may_give room size old new answer e some given = (size, some, refl, subst (λ n. may_give old n answer new) e given)

pub returns-in-Err-clause-counts : goal.returns-in-Err-clause-counts
returns-in-Err-clause-counts g c =
    let run = c.loop-turn.invariant in
    let may_give = g.S.Source.may_give in
    let size = length c.args.buffer.now in
    let read = read_of may_give
    (length c.loop-turn.buffer) size c.loop-turn.reader c.read.new.self failed c.loop-turn.auto.buffer c.requires.some
    c.in-Err.ensures.given in (
      run.0,
      reads_stop may_give (RoomOf size) run.0 at_failure c.args.reader.now c.loop-turn.reader c.read.new.self run.1 read,
      omega (arith, run.2),
    )

pub returns-in-Ok-eq0-clause-counts : goal.returns-in-Ok-eq0-clause-counts
returns-in-Ok-eq0-clause-counts g c =
    let run = c.loop-turn.invariant in
    let may_give = g.S.Source.may_give in
    let size = length c.args.buffer.now in
    let none : gave (take c.in-Ok-eq0.field-0 c.read.new.buffer) ≡ gave [] = ap (λ n. gave (take n c.read.new.buffer)) c.in-Ok-eq0.field-0-test in
    let given = subst (λ a. may_give c.loop-turn.reader (length c.loop-turn.buffer) a c.read.new.self) none c.in-Ok-eq0.ensures.given in
    let read = read_of may_give (length c.loop-turn.buffer) size c.loop-turn.reader c.read.new.self
    (gave []) c.loop-turn.auto.buffer c.requires.some given in (
      run.0,
      reads_stop may_give (RoomOf size) run.0 at_end c.args.reader.now c.loop-turn.reader c.read.new.self run.1 read,
      omega (arith, run.2),
      c.finish.ensures (concat run.0) run.3,
    )

pub loop-turn-preserved : goal.loop-turn-preserved
loop-turn-preserved g c =
    let run = c.loop-turn.invariant in
    let may_give = g.S.Source.may_give in
    let size = length c.args.buffer.now in
    let taken = c.in-Ok.taken in
    let piece = take taken c.read.new.buffer in
    let read = read_of may_give (length c.loop-turn.buffer) size c.loop-turn.reader c.read.new.self
    (gave piece) c.loop-turn.auto.buffer c.requires.some c.in-Ok.ensures.given in
    let some = take_some taken c.read.new.buffer (omega (arith, c.in-Ok.taken-test))
    (omega (arith, c.in-Ok.ensures.within, c.read.auto.buffer)) in
    let joined = concat-append run.0 (piece ∷ []) ∙ ap (λ t. concat run.0 ++ t) (append-nil piece) in (
      run.0 ++ piece ∷ [],
      reads_more may_give (RoomOf size) run.0 piece c.args.reader.now c.loop-turn.reader c.read.new.self run.1 some read,
      length-append run.0 (piece ∷ []) ∙ ap (λ n. n + 1) run.2,
      subst (λ bytes. LeadTo bytes c.feed.new.self) (sym joined) (c.feed.ensures.goes_on (concat run.0) run.3),
      omega (
        arith,
        c.feed.ensures.bytes,
        length-take taken c.read.new.buffer,
        c.in-Ok.ensures.within,
        c.loop-turn.auto.buffer,
        c.requires.room,
        run.4,
      ),
    )
