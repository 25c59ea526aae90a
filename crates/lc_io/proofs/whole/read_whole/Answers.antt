use Rattle.std.proofs.Common.{◌≡◌, ℕ, ◌+◌, ◌-◌, ◌<◌, ◌≤◌, List, [], ◌++◌, length, take, drop, min, sym, ap, subst, ◌∙◌, arith}
use Rattle.std.proofs.{Common.{length-append, length-take}, lemmas.List.take-append-le}
use Rattle.lc_io.specs.Reads.{Answer, gave, at_end, at_failure, at_neither, AnyRoom, GivesBytes}
use Rattle.lc_io.proofs.Runs.{gives_more, gives_stop, take_some}
use Rattle.lc_io.proofs.whole.read_whole.Goals as goal

-- the room of a read: some, and none past the first byte over the limit
some_room : (limit len room : ℕ) (buffer : List ℕ) → room ≡ min (limit + 1 - len) (length buffer) → len ≤ limit → 0 < length buffer
    → (0 < length (take room buffer)) × (length (take room buffer) ≤ limit + 1 - len)
some_room limit len room buffer is within some =
    let e = length-take room buffer in (omega (arith, e, is), omega (arith, e, is))

-- the bytes with the piece that a read put at the buffer's front
grown : {S : Type 0} (may_give : S → ℕ → Answer → S → Type 0) (old middle new : S) (size count : ℕ) (bytes longer front rest : List ℕ)
    → GivesBytes may_give AnyRoom old bytes at_neither middle → 0 < size → 0 < count → count ≤ length front
    → may_give middle size (gave (take count front)) new → longer ≡ bytes ++ take count (front ++ rest)
    → (length longer ≡ length bytes + count) × GivesBytes may_give AnyRoom old longer at_neither new
grown may_give old middle new size count bytes longer front rest so_far room some fits given is =
    let piece = take count front in
    let same : longer ≡ bytes ++ piece = is ∙ ap (λ l. bytes ++ l) (take-append-le count front rest fits) in
    let e = length-append bytes piece in
    let f = length-take count front in
    let h = ap length same in (
      omega (arith, e, f, h, fits),
      subst (λ (l : List ℕ). GivesBytes may_give AnyRoom old l at_neither new) (sym same)
          (gives_more may_give AnyRoom bytes piece old middle new so_far (take_some count front some fits) (size, room, tt, given)),
    )

pub returns-in_default : goal.returns-in_default
returns-in_default g c =
    let inv = c.reads.invariant in
    let room = some_room c.args.limit (length c.reads.bytes.items) c.min-room.result c.reads.buffer
    (omega (arith, c.min-room.ensures, c.len.ensures, c.reads.bytes.ok.0)) inv.within
    (omega (arith, c.reads.auto.buffer, c.requires.some)) in (
      inv.within,
      gives_stop g.S.Source.may_give AnyRoom c.reads.bytes.items at_failure c.args.reader.now c.reads.reader c.read.new.self inv.given
          (_, room.0, tt, c.in_default.ensures.given),
    )

pub returns-then-count-eq0 : goal.returns-then-count-eq0
returns-then-count-eq0 g c =
    let inv = c.reads.invariant in
    let room = some_room c.args.limit (length c.reads.bytes.items) c.min-room.result c.reads.buffer
    (omega (arith, c.min-room.ensures, c.len.ensures, c.reads.bytes.ok.0)) inv.within
    (omega (arith, c.reads.auto.buffer, c.requires.some)) in
    let size = length (take c.min-room.result c.reads.buffer) in
    let none : gave (take c.in-Ok.count c.read.new.buffer) ≡ gave [] = ap (λ n. gave (take n c.read.new.buffer)) c.if-count-eq0.true in
    let given = subst (λ a. g.S.Source.may_give c.reads.reader size a c.read.new.self) none c.in-Ok.ensures.given in (
      inv.within,
      gives_stop g.S.Source.may_give AnyRoom c.reads.bytes.items at_end c.args.reader.now c.reads.reader c.read.new.self inv.given
          (size, room.0, tt, given),
    )

pub returns-in_default-extend_from_slice : goal.returns-in_default-extend_from_slice
returns-in_default-extend_from_slice g c =
    let inv = c.reads.invariant in
    let room = some_room c.args.limit (length c.reads.bytes.items) c.min-room.result c.reads.buffer
    (omega (arith, c.min-room.ensures, c.len.ensures, c.reads.bytes.ok.0)) inv.within
    (omega (arith, c.reads.auto.buffer, c.requires.some)) in
    let piece = take c.in-Ok.count c.read.new.buffer in
    let some = take_some c.in-Ok.count c.read.new.buffer (omega (arith, c.if-count-eq0.false))
    (omega (arith, c.in-Ok.ensures.within, c.read.auto.buffer)) in
    let given = gives_more g.S.Source.may_give AnyRoom c.reads.bytes.items piece c.args.reader.now c.reads.reader c.read.new.self
    inv.given some (_, room.0, tt, c.in-Ok.ensures.given) in
    rw c.in_default-extend_from_slice.ensures.items (inv.within, (piece, some, given))

pub returns-then-len-limit : goal.returns-then-len-limit
returns-then-len-limit g c =
    let inv = c.reads.invariant in
    let room = some_room c.args.limit (length c.reads.bytes.items) c.min-room.result c.reads.buffer
    (omega (arith, c.min-room.ensures, c.len.ensures, c.reads.bytes.ok.0)) inv.within
    (omega (arith, c.reads.auto.buffer, c.requires.some)) in
    let more = grown g.S.Source.may_give c.args.reader.now c.reads.reader c.read.new.self _ c.in-Ok.count c.reads.bytes.items
    c.extend_from_slice.new.self.items c.read.new.buffer (drop c.min-room.result c.reads.buffer) inv.given room.0
    (omega (arith, c.if-count-eq0.false)) (omega (arith, c.in-Ok.ensures.within, c.read.auto.buffer)) c.in-Ok.ensures.given
    c.in-Ok-extend_from_slice.ensures.items in
    let past = c.if-len-limit.true in
    let long = c.len-in-reads.ensures in
    let whole = c.extend_from_slice.new.self.ok.0 in
    (omega (arith, more.0, room.1, c.in-Ok.ensures.within, inv.within, past, long, whole), more.1)

pub reads-preserved : goal.reads-preserved
reads-preserved g c =
    let inv = c.reads.invariant in
    let room = some_room c.args.limit (length c.reads.bytes.items) c.min-room.result c.reads.buffer
    (omega (arith, c.min-room.ensures, c.len.ensures, c.reads.bytes.ok.0)) inv.within
    (omega (arith, c.reads.auto.buffer, c.requires.some)) in
    let more = grown g.S.Source.may_give c.args.reader.now c.reads.reader c.read.new.self _ c.in-Ok.count c.reads.bytes.items
    c.extend_from_slice.new.self.items c.read.new.buffer (drop c.min-room.result c.reads.buffer) inv.given room.0
    (omega (arith, c.if-count-eq0.false)) (omega (arith, c.in-Ok.ensures.within, c.read.auto.buffer)) c.in-Ok.ensures.given
    c.in-Ok-extend_from_slice.ensures.items in
    record { within = omega (arith, c.if-len-limit.false, c.len-in-reads.ensures, c.extend_from_slice.new.self.ok.0); given = more.1 }
