use Rattle.std.proofs.Common.{◌≡◌, ◌&&◌, false, sym, ◌∙◌, codes}
use Rattle.lc_level.specs.{EntryLooks.has_dir, RuleFiles.is_top}
use Rattle.lc_level.proofs.{Depths.below_top, GitReads.no_git}
use Rattle.lc_level.proofs.level_reader.LevelReader.read_info.Goals as goal

pub returns-then-not-is_empty : goal.returns-then-not-is_empty
returns-then-not-is_empty g c =
    let law = g.met.T.Tree g.world.𝓛 g.world.𝓜 g.world.𝓡 ((λ s x. x), (λ x. x), (λ x. x), λ x. x) in
    let there = is_top c.args.directory.now && has_dir (codes ".git") c.args.listing.now in
    let absent : there ≡ false = below_top c.args.directory.now (has_dir (codes ".git") c.args.listing.now)
    (sym c.is_empty.ensures ∙ c.if-not-is_empty.true) in
    no_git (g.T.Tree.lists c.args.self.now.tree.now) (g.T.Tree.gives c.args.self.now.tree.now) (law.some_content c.args.self.now.tree.now)
    c.args.no_ignore c.args.self.now.options.texts there c.none.result absent c.none.ensures
