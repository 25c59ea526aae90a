use Rattle.std.proofs.Common.{◌≡◌, ◌++◌, codes, flat_map, string_bytes}
use Rattle.lc_arguments.specs.Refusals.{message_char}
use Rattle.lc_arguments.proofs.refusals.message.Given as goal

abbrev pub invariant-loop-c : goal.invariant-loop-c
invariant-loop-c l = string_bytes l.message ≡ codes "error: " ++ flat_map message_char l.yielded
