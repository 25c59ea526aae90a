use Rattle.std.proofs.Common.{◌≡◌, ℕ, true, false, List, codes, subst}
use Rattle.lc_level.specs.{EntryLooks.has_dir, GitInfo.ReadsGit, RulePairs.ReadsBoth}
use Rattle.lc_tree.specs.Listing.{IsListing}
use Rattle.lc_level.proofs.{GitReads.{info_asked, no_git, git_refused, no_info, info_refused, both_files}, PassedOn.passed_on}
use Rattle.lc_level.proofs.level_reader.LevelReader.read_git_info.Goals as goal

pub returns-then-not-has_dir : goal.returns-then-not-has_dir
returns-then-not-has_dir g c =
    let texts = c.args.self.now.options.texts in
    let no_ignore = c.args.no_ignore in
    let law = g.met.T.Tree g.world.𝓛 g.world.𝓜 g.world.𝓡 ((λ s x. x), (λ x. x), (λ x. x), λ x. x) in
    let absent : has_dir (codes ".git") c.args.listing.now ≡ false = cc in
    no_git (g.T.Tree.lists c.args.self.now.tree.now) (g.T.Tree.gives c.args.self.now.tree.now) (law.some_content c.args.self.now.tree.now)
    no_ignore texts (has_dir (codes ".git") c.args.listing.now) c.none.result absent c.none.ensures

pub returns-in_err-git : goal.returns-in_err-git
returns-in_err-git g c =
    let texts = c.args.self.now.options.texts in
    let no_ignore = c.args.no_ignore in
    let law = g.met.T.Tree g.world.𝓛 g.world.𝓜 g.world.𝓡 ((λ s x. x), (λ x. x), (λ x. x), λ x. x) in
    let lists = g.T.Tree.lists c.args.self.now.tree.now in
    let gives = g.T.Tree.gives c.args.self.now.tree.now in
    let git = has_dir (codes ".git") c.args.listing.now in
    let there : git ≡ true = cc in
    passed_on (ReadsGit lists gives no_ignore texts git) c.from_residual.result c.in_err-git.field-0.0 c.from_residual.ensures.1
    (git_refused lists gives (law.some_content c.args.self.now.tree.now) no_ignore texts git
    c.in_err-git.field-0.0 there
    c.in_err-git.ensures)

pub returns-then-not-has_dir-2 : goal.returns-then-not-has_dir-2
returns-then-not-has_dir-2 g c =
    let texts = c.args.self.now.options.texts in
    let no_ignore = c.args.no_ignore in
    let law = g.met.T.Tree g.world.𝓛 g.world.𝓜 g.world.𝓡 ((λ s x. x), (λ x. x), (λ x. x), λ x. x) in
    let there : has_dir (codes ".git") c.args.listing.now ≡ true = cc in
    let absent : has_dir (codes "info") c.in_ok-git.git ≡ false = cc in
    no_info (g.T.Tree.lists c.args.self.now.tree.now) (g.T.Tree.gives c.args.self.now.tree.now) (law.some_content c.args.self.now.tree.now)
    no_ignore texts (has_dir (codes ".git") c.args.listing.now) c.in_ok-git.git c.none-then-not-has_dir-2.result there c.in_ok-git.ensures
    (subst IsListing c.git.view_is c.git.invariant) absent
    c.none-then-not-has_dir-2.ensures

pub returns-in_err-info : goal.returns-in_err-info
returns-in_err-info g c =
    let texts = c.args.self.now.options.texts in
    let no_ignore = c.args.no_ignore in
    let law = g.met.T.Tree g.world.𝓛 g.world.𝓜 g.world.𝓡 ((λ s x. x), (λ x. x), (λ x. x), λ x. x) in
    let lists = g.T.Tree.lists c.args.self.now.tree.now in
    let gives = g.T.Tree.gives c.args.self.now.tree.now in
    let git = has_dir (codes ".git") c.args.listing.now in
    let there : git ≡ true = cc in
    let present : has_dir (codes "info") c.in_ok-git.git ≡ true = cc in
    passed_on (ReadsGit lists gives no_ignore texts git) c.from_residual-in_err-info.result c.in_err-info.field-0.0
    c.from_residual-in_err-info.ensures.1
    (info_refused lists gives (law.some_content c.args.self.now.tree.now) no_ignore texts git c.in_ok-git.git
    c.in_err-info.field-0.0
    there c.in_ok-git.ensures (subst IsListing c.git.view_is c.git.invariant) present c.in_err-info.ensures)

pub returns : goal.returns
returns g c =
    let texts = c.args.self.now.options.texts in
    let no_ignore = c.args.no_ignore in
    let law = g.met.T.Tree g.world.𝓛 g.world.𝓜 g.world.𝓡 ((λ s x. x), (λ x. x), (λ x. x), λ x. x) in
    let there : has_dir (codes ".git") c.args.listing.now ≡ true = cc in
    let present : has_dir (codes "info") c.in_ok-git.git ≡ true = cc in
    let gives = g.T.Tree.gives c.args.self.now.tree.now in
    let in_directory : ReadsBoth gives (info_asked no_ignore texts (codes ".git/info") c.in_ok-info.info) c.read_pair.result =
    subst (λ (d : List ℕ). ReadsBoth gives (info_asked no_ignore texts d c.in_ok-info.info) c.read_pair.result)
    c.in-Ok.ensures c.read_pair.ensures.read in
    both_files (g.T.Tree.lists c.args.self.now.tree.now) gives (law.some_content c.args.self.now.tree.now)
    no_ignore texts (has_dir (codes ".git") c.args.listing.now) c.in_ok-git.git c.in_ok-info.info c.read_pair.result there
    c.in_ok-git.ensures (subst IsListing c.git.view_is c.git.invariant) present
    c.in_ok-info.ensures (subst IsListing c.info.view_is c.info.invariant) in_directory
