use Rattle.std.proofs.Common.{◌≡◌, ◌++◌, length}
use Rattle.lc_formats.specs.MarkdownCells.{markdown, markdown_from}
use Rattle.lc_formats.proofs.markdown_escape.push_markdown.Given as goal

abbrev pub invariant-bytes : goal.invariant-bytes
invariant-bytes l =
    l.text.items ++ markdown_from l.first l.rest ≡ l.initial.text.items ++ markdown l.shown

abbrev pub decreases-bytes : goal.decreases-bytes
decreases-bytes l = length l.rest
