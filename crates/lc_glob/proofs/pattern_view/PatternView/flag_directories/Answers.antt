use Rattle.std.proofs.Common.{arith, ◌≡◌, ◌∙◌, length, ap, sym, subst, replicate, true, false, refl}
use Rattle.lc_glob.specs.{Above.{names_of, TellMatches}, Patterns.PatternModel, Views.{pattern_view_model, tokens_ref_model}}
use Rattle.lc_glob.proofs.Above.{told_dead, told_matches, matched_last, names_length}
use Rattle.lc_glob.proofs.pattern_view.PatternView.flag_directories.Goals as goal

pub returns-in-Dead-clause-told : goal.returns-in-Dead-clause-told
returns-in-Dead-clause-told c =
    let names = names_of c.args.names.names.now in
    let len = names_length c.args.names.names.now in
    let is = sym c.self.view_is ∙ ap (pattern_view_model c.self.inside.is_dir_only) c.in-Dead.is in
    subst (λ (p : PatternModel). TellMatches p names c.fill.new.self) (sym is)
    (told_dead _ names c.fill.new.self refl (c.fill.ensures.after (λ y e. e)
    ∙ ap (λ n. replicate n false) (omega (arith, len, c.requires))))

pub returns-in-LastSegment-clause-told : goal.returns-in-LastSegment-clause-told
returns-in-LastSegment-clause-told c =
    let names = names_of c.args.names.names.now in
    let len = names_length c.args.names.names.now in
    let full : length c.keep.new.flags ≡ length names =
    omega (arith, len, c.requires, c.keep.ensures.len, c.fill-in-LastSegment.ensures.len) in
    let is = sym c.self.view_is ∙ ap (pattern_view_model c.self.inside.is_dir_only) c.in-LastSegment.is in
    subst (λ (p : PatternModel). TellMatches p names c.keep.new.flags) (sym is)
    (told_matches _ names c.keep.new.flags full refl
    (matched_last (tokens_ref_model c.in-LastSegment.tokens) names c.fill-in-LastSegment.new.self c.keep.new.flags full
    (c.fill-in-LastSegment.ensures.after (λ y e. e) ∙ ap (λ n. replicate n true) (omega (arith, len, c.requires))) c.keep.ensures.set))

pub returns-in-WholePath-clause-told : goal.returns-in-WholePath-clause-told
returns-in-WholePath-clause-told c =
    let names = names_of c.args.names.names.now in
    let len = names_length c.args.names.names.now in
    let full : length c.match_above.new.flags ≡ length names = omega (arith, len, c.requires, c.match_above.ensures.len) in
    let is = sym c.self.view_is ∙ ap (pattern_view_model c.self.inside.is_dir_only) c.in-WholePath.is in
    subst (λ (p : PatternModel). TellMatches p names c.match_above.new.flags) (sym is)
    (told_matches _ names c.match_above.new.flags full refl c.match_above.ensures.set)
