use Rattle.std.proofs.Common.{None, List, ℕ, ◌≤◌, ◌+◌, ◌≡◌, length, subst, sym}
use Rattle.lc_io.specs.Reads.{at_end, at_failure, at_neither}
use Rattle.lc_rules.specs.Limits.{max_rule_bytes}
use Rattle.lc_level.proofs.level_reader.LevelReader.read_rules.Goals as goal

pub returns-in-Ok-read_whole : goal.returns-in-Ok-read_whole
returns-in-Ok-read_whole g c =
    let given = c.in-Ok-read_whole.ensures.1 in (
      given.pieces,
      c.in-Ok.ensures None given.pieces at_end c.read_whole.new.reader given.reads,
      given.joined,
      c.in-Ok-read_whole.ensures.0,
    )

pub returns-in-Err-Read : goal.returns-in-Err-Read
returns-in-Err-Read g c =
    let whole = rw c.in-Err-Read.field-0-is at c.in-Err-Read.ensures in
    let given = whole.1 in (
      given.pieces,
      c.in-Ok.ensures None given.pieces at_failure c.read_whole.new.reader given.reads,
      subst (λ (bytes : List ℕ). length bytes ≤ max_rule_bytes) (sym given.joined) whole.0,
    )

pub returns-in-Err-TooLong : goal.returns-in-Err-TooLong
returns-in-Err-TooLong g c =
    let whole = rw c.in-Err-TooLong.field-0-is at c.in-Err-TooLong.ensures in
    let given = whole.1 in (
      given.pieces,
      c.in-Ok.ensures None given.pieces at_neither c.read_whole.new.reader given.reads,
      subst (λ (bytes : List ℕ). length bytes ≡ max_rule_bytes + 1) (sym given.joined) whole.0,
    )
