use Rattle.std.proofs.Common.{◌||◌, ap₂, ◌∙◌, refl, rules}
use Rattle.lc_census.proofs.{Bits.Test.test-or, Words.block_is}
use Rattle.lc_census.proofs.simd.scan_marks.Goals as goal

pub blank_befores-blank-requires-clause-ends : goal.blank_befores-blank-requires-clause-ends
blank_befores-blank-requires-clause-ends c i h =
    test-or c.args.lf c.args.cr i ∙ ap₂ (λ a b. a || b) (c.requires.lf i h) (c.requires.cr i h)

pub returns : goal.returns
returns c =
    block_is c.args.scan.now c.args.v c.requires.long c.args.lf c.args.cr c.args.space c.args.nul c.cr_befores.result
    c.blank_befores-blank.result
    (search rules) (search rules) (search rules) (search rules) (search rules)
    c.requires.lf c.requires.cr c.requires.space c.requires.nul c.cr_befores.ensures c.blank_befores-blank.ensures
    _ (search rules) (search rules) (search rules) (search rules) (search rules) refl refl
