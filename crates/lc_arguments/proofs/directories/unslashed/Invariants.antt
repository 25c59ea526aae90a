use Rattle.std.proofs.Common.{◌≡◌, length}
use Rattle.lc_arguments.specs.Directories.{unslashed}
use Rattle.lc_arguments.proofs.directories.unslashed.Given as goal

abbrev pub invariant-slashes : goal.invariant-slashes
invariant-slashes l = unslashed l.left ≡ unslashed l.directory

abbrev pub decreases-slashes : goal.decreases-slashes
decreases-slashes l = length l.left
