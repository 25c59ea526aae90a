use Rattle.std.proofs.Common.{◌≡◌, ℕ, ◌&&◌, List, Bool, Result, Ok, Err, refl, subst, codes}
use Rattle.lc_level.specs.{EntryLooks.has_dir, Enters.EntersLevel, GitInfo.{ListsFor, ReadsGit}, RuleFiles.is_top, RulePairs.own_asked}
use Rattle.lc_level.specs.{RulePairs.ReadsBoth, declared.{rule_files.rule_pair.PairRead.PairRead, open_fault.OpenFault.OpenFault}}
use Rattle.lc_level.specs.declared.fault_site.FaultSite.TheVariants.{Directory}
use Rattle.lc_tree.specs.{Listing.{EntryModel, IsListing}, Trees.{Listings, Contents}}
use Rattle.lc_level.proofs.{EnterLevels.{list_refused, info_refused, own_refused, has_read, entered}, PassedOn.passed_on}
use Rattle.lc_level.proofs.level_reader.LevelReader.enter_listed.Goals as goal

-- the same of a directory's path, and of whether ignore files are read
git_of : (lists : List ℕ → Listings) (gives : List ℕ → Contents) (texts n m : Bool) (p q : List ℕ) (es : List EntryModel)
    (r : Result PairRead OpenFault) → n ≡ m → p ≡ q → ReadsGit lists gives n texts (is_top p && has_dir (codes ".git") es) r
    → ReadsGit lists gives m texts (is_top q && has_dir (codes ".git") es) r
git_of lists gives texts n m p q es r b a k =
    subst (λ (o : Bool). ReadsGit lists gives o texts (is_top q && has_dir (codes ".git") es) r) b
    (subst (λ (d : List ℕ). ReadsGit lists gives n texts (is_top d && has_dir (codes ".git") es) r) a k)

own_of : (gives : List ℕ → Contents) (texts n m : Bool) (p q : List ℕ) (es : List EntryModel) (r : Result PairRead OpenFault) → n ≡ m
    → p ≡ q → ReadsBoth gives (own_asked n texts p es) r → ReadsBoth gives (own_asked m texts q es) r
own_of gives texts n m p q es r b a k =
    subst (λ (o : Bool). ReadsBoth gives (own_asked o texts q es) r) b
    (subst (λ (d : List ℕ). ReadsBoth gives (own_asked n texts d es) r) a k)

pub returns-in_err-listing-clause-enters : goal.returns-in_err-listing-clause-enters
returns-in_err-listing-clause-enters g c =
    let lists = g.T.Tree.lists c.args.self.now.tree.now in
    let gives = g.T.Tree.gives c.args.self.now.tree.now in
    let texts = c.args.self.now.options.texts in
    passed_on (EntersLevel lists gives c.args.job.now texts) c.from_residual.result c.in_err-listing.field-0.0 c.from_residual.ensures.1
    (list_refused lists gives c.args.job.now texts c.in_err-listing.field-0.0
    (subst (λ (p : List ℕ). ListsFor (lists p) Directory (Err c.in_err-listing.field-0.0)) c.path-path.ensures
    c.in_err-listing.ensures))

pub returns-in_err-info-clause-enters : goal.returns-in_err-info-clause-enters
returns-in_err-info-clause-enters g c =
    let law = g.met.T.Tree g.world.𝓛 g.world.𝓜 g.world.𝓡 ((λ s x. x), (λ x. x), (λ x. x), λ x. x) in
    let lists = g.T.Tree.lists c.args.self.now.tree.now in
    let gives = g.T.Tree.gives c.args.self.now.tree.now in
    let texts = c.args.self.now.options.texts in
    let is : IsListing c.in_ok-listing.listing = subst IsListing c.listing.view_is c.listing.invariant in
    passed_on (EntersLevel lists gives c.args.job.now texts) c.from_residual-in_err-info.result c.in_err-info.field-0.0
    c.from_residual-in_err-info.ensures.1
    (info_refused lists gives (law.some_content c.args.self.now.tree.now) c.args.job.now texts
    c.in_ok-listing.listing
    (subst (λ (p : List ℕ). lists p (Ok c.in_ok-listing.listing)) c.path-path.ensures c.in_ok-listing.ensures) is c.in_err-info.field-0.0
    (git_of lists gives texts c.no_ignore-no_ignore.result c.args.job.now.ignore.no_ignore c.path-path.result.now c.args.job.now.path
    c.in_ok-listing.listing
    (Err c.in_err-info.field-0.0) c.no_ignore-no_ignore.ensures c.path-path.ensures c.in_err-info.ensures))

pub returns-in_err-own-clause-enters : goal.returns-in_err-own-clause-enters
returns-in_err-own-clause-enters g c =
    let law = g.met.T.Tree g.world.𝓛 g.world.𝓜 g.world.𝓡 ((λ s x. x), (λ x. x), (λ x. x), λ x. x) in
    let lists = g.T.Tree.lists c.args.self.now.tree.now in
    let gives = g.T.Tree.gives c.args.self.now.tree.now in
    let texts = c.args.self.now.options.texts in
    let is : IsListing c.in_ok-listing.listing = subst IsListing c.listing.view_is c.listing.invariant in
    passed_on (EntersLevel lists gives c.args.job.now texts) c.from_residual-in_err-own.result c.in_err-own.field-0.0
    c.from_residual-in_err-own.ensures.1
    (own_refused lists gives (law.some_content c.args.self.now.tree.now) c.args.job.now texts
    c.in_ok-listing.listing
    (subst (λ (p : List ℕ). lists p (Ok c.in_ok-listing.listing)) c.path-path.ensures c.in_ok-listing.ensures) is c.in_ok-info.info
    (git_of lists gives texts c.no_ignore-no_ignore.result c.args.job.now.ignore.no_ignore c.path-path.result.now c.args.job.now.path
    c.in_ok-listing.listing
    (Ok c.in_ok-info.info) c.no_ignore-no_ignore.ensures c.path-path.ensures c.in_ok-info.ensures)
    c.in_err-own.field-0.0
    (own_of gives texts c.no_ignore-no_ignore.result c.args.job.now.ignore.no_ignore c.path-path.result.now c.args.job.now.path
    c.in_ok-listing.listing
    (Err c.in_err-own.field-0.0) c.no_ignore-no_ignore.ensures c.path-path.ensures c.in_err-own.ensures.read))

pub returns-clause-enters : goal.returns-clause-enters
returns-clause-enters g c =
    let law = g.met.T.Tree g.world.𝓛 g.world.𝓜 g.world.𝓡 ((λ s x. x), (λ x. x), (λ x. x), λ x. x) in
    let lists = g.T.Tree.lists c.args.self.now.tree.now in
    let gives = g.T.Tree.gives c.args.self.now.tree.now in
    let texts = c.args.self.now.options.texts in
    let j = c.args.job.now in
    let es = c.in_ok-listing.listing in
    let moved : c.into_entries.result.items ≡ es = cc in
    let is : IsListing es = subst IsListing moved c.into_entries.ensures.listing in
    let here = subst (λ (p : List ℕ). lists p (Ok es)) c.path-path.ensures c.in_ok-listing.ensures in
    let git = git_of lists gives texts c.no_ignore-no_ignore.result j.ignore.no_ignore c.path-path.result.now j.path es
    (Ok c.in_ok-info.info) c.no_ignore-no_ignore.ensures c.path-path.ensures c.in_ok-info.ensures in
    let own = own_of gives texts c.no_ignore-no_ignore.result j.ignore.no_ignore c.path-path.result.now j.path es (Ok c.in_ok-own.own)
    c.no_ignore-no_ignore.ensures c.path-path.ensures c.in_ok-own.ensures.read in
    let read = has_read lists gives (law.some_content c.args.self.now.tree.now) j texts es here is
    c.in_ok-info.info c.in_ok-own.own git own in
    entered lists gives (law.some_content c.args.self.now.tree.now) j texts es here is
    c.in_ok-info.info c.in_ok-own.own read _ c.in-Ok.ensures.files moved refl refl
