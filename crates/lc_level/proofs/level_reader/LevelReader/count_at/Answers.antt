use Rattle.std.proofs.Common.{Some, subst}
use Rattle.lc_io.specs.{Buffers.buffer_len, Reads.{RoomOf, Reads, at_end, at_failure, at_neither}}
use Rattle.lc_level.proofs.level_reader.LevelReader.count_at.Goals as goal

pub returns-in-Ok-count_source : goal.returns-in-Ok-count_source
returns-in-Ok-count_source g c =
    let run = c.in-Ok-count_source.ensures.counts in (
      run.0,
      c.in-Ok.ensures (Some buffer_len) run.0 at_end c.count_source.new.reader
          (subst (λ size. Reads g.T.File.Source.may_give (RoomOf size) c.in-Ok.file run.0 at_end c.count_source.new.reader) c.requires
          run.1),
      run.3,
    )

pub returns-in-Err-Read : goal.returns-in-Err-Read
returns-in-Err-Read g c =
    let run = rw c.in-Err-Read.field-0-is at c.in-Err-Read.ensures.counts in (
      run.0,
      c.in-Ok.ensures (Some buffer_len) run.0 at_failure c.count_source.new.reader
          (subst (λ size. Reads g.T.File.Source.may_give (RoomOf size) c.in-Ok.file run.0 at_failure c.count_source.new.reader) c.requires
          run.1),
    )

pub returns-in-Err-Endless : goal.returns-in-Err-Endless
returns-in-Err-Endless g c =
    let run = rw c.in-Err-Endless.field-0-is at c.in-Err-Endless.ensures.counts in (
      run.0,
      c.in-Ok.ensures (Some buffer_len) run.0 at_neither c.count_source.new.reader
          (subst (λ size. Reads g.T.File.Source.may_give (RoomOf size) c.in-Ok.file run.0 at_neither c.count_source.new.reader) c.requires
          run.1),
      run.2,
    )
