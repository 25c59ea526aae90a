-- The buffer of reads.
use Rattle.std.specs.Prelude.{ℕ}

-- the number of bytes of a buffer, and so the greatest number of bytes of one read
abbrev pub buffer_len : ℕ
buffer_len = 65536
