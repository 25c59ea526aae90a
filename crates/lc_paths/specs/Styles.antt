-- How bytes are printed for a program, and for a terminal.
use Rattle.std.specs.Prelude.{ℕ, List}
use Rattle.lc_text.specs.{Escape.escape_bytes, Visible.visible_bytes}
use Rattle.lc_paths.specs.declared.style.PathStyle.{PathStyle, TheVariants.{Escaped, Visible}}

abbrev pub styled : PathStyle → List ℕ → List ℕ
styled Escaped = escape_bytes
styled Visible = visible_bytes
