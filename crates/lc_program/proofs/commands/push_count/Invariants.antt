use Rattle.std.proofs.Common.{◌≡◌, ◌++◌, codes, flat_map, map, string_bytes, take}
use Rattle.lc_program.specs.Commands.{only_of}
use Rattle.lc_program.proofs.commands.push_count.Given as goal

abbrev pub invariant-loop-path : goal.invariant-loop-path
invariant-loop-path l =
    string_bytes l.text
    ≡ string_bytes l.fn.text ++ (codes "lc count " ++ flat_map only_of (map (λ path. path.now) (take l.path-index l.paths)))
