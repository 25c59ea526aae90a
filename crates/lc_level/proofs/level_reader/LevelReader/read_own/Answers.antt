use Rattle.std.proofs.{Common.{◌≡◌, ℕ, ◌==◌, Bool, List, [], ◌∷◌, length, refl, ◌∙◌, subst}, Math.Dec.eqb-suc-zero}
use Rattle.lc_level.specs.{RuleFiles.is_top, RulePairs.{PairAsked, own_asked, ReadsBoth}}
use Rattle.lc_tree.specs.Listing.{EntryModel}
use Rattle.lc_level.proofs.level_reader.LevelReader.read_own.Goals as goal

top_of_length : (p : List ℕ) → (length p == 0) ≡ is_top p
top_of_length [] = refl
top_of_length (b ∷ bs) = eqb-suc-zero (length bs)

-- a directory's own two files, where they are asked for as those of a top or not
abbrev asked : (top no_ignore texts : Bool) → List ℕ → List EntryModel → PairAsked
asked top no_ignore texts directory entries = record {
  directory = directory;
  entries = entries;
  rules = (own_asked no_ignore texts directory entries).rules;
  attributes = (own_asked no_ignore texts directory entries).attributes;
  top = top;
  no_ignore = no_ignore;
  texts = texts;
}

pub returns-clause-read : goal.returns-clause-read
returns-clause-read g c =
    let texts = c.args.self.now.options.texts in
    let gives = g.T.Tree.gives c.args.self.now.tree.now in
    let here = subst (λ (d : List ℕ). ReadsBoth gives (asked c.is_empty.result c.args.no_ignore texts d c.args.listing.now)
    c.read_pair.result)
    c.in-Ok.ensures c.read_pair.ensures.read in
    subst (λ (b : Bool). ReadsBoth gives (asked b c.args.no_ignore texts c.args.directory.now c.args.listing.now) c.read_pair.result)
    (c.is_empty.ensures ∙ top_of_length c.args.directory.now) here
