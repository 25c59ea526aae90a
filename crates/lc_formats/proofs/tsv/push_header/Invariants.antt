use Rattle.std.proofs.Common.{◌≡◌, ◌++◌, take}
use Rattle.std.specs.List.{flat_map}
use Rattle.lc_formats.specs.{Tsv.header_field, TsvParts.after_tab}
use Rattle.lc_formats.proofs.tsv.push_header.Given as goal

abbrev pub invariant-loop-column : goal.invariant-loop-column
invariant-loop-column l =
    l.text.items
    ≡ l.initial.text.items ++ flat_map (λ column. after_tab (header_field l.attributes column)) (take l.column-index l.rest)
