use Rattle.std.proofs.Common.{◌∙◌, ◌∷◌, ◌++◌, ◌-◌, [], append_assoc, ap, arith, length, subst, Bool, cond, Some, None, get_or, false, not}
use Rattle.std.proofs.Common.{◌&&◌, ◌||◌}
use Rattle.std.specs.{Prelude.option_map, Option.option_or}
use Rattle.lc_glob.specs.Above.{names_of, TellMatches}
use Rattle.lc_glob.proofs.Above.{names_length}
use Rattle.lc_rules.proofs.{AboveRules.{decided_more, decided_early, own_more, filled_front}, RulePlaces.{place_below, pattern_placed}}
use Rattle.lc_rules.proofs.directories_above.decide.Goals as goal

pub returns-in-Some-told_count-clause-decided : goal.returns-in-Some-told_count-clause-decided
returns-in-Some-told_count-clause-decided c =
    let inv = c.rules.invariant in
    let names = names_of c.args.names.now in
    let len = names_length c.args.names.now in
    let above = length c.args.names.now - 1 in
    let pattern = pattern_placed _ _ inv.newer _ c.in-Some.rule.now inv.whole c.in-Some.ensures.cases.0 _ c.patterns-patterns.ensures in
    let told = subst (λ p. TellMatches p names c.match_directories.new.flags) pattern c.match_directories.ensures.told in
    decided_early c.args.file.now c.in-Some.older.now (c.in-Some.rule.now ∷ inv.newer) names c.in-Some-told_count.count above
    c.fill_undecided.new.found
    (inv.whole ∙ ap (λ l. l ++ inv.newer) c.in-Some.ensures.cases.0 ∙ append_assoc c.in-Some.older.now (c.in-Some.rule.now ∷ []) inv.newer)
    (omega (arith, c.requires.room, inv.found_len, c.fill_undecided.ensures.len)) c.in-Some-told_count.ensures
    (decided_more inv.newer c.in-Some.rule.now names above c.match_directories.new.flags c.rules.found c.fill_undecided.new.found
    (omega (arith, len)) told
    (filled_front c.in-Some.rule.now above c.match_directories.new.flags c.rules.found c.fill_undecided.new.found
    (omega (arith, c.requires.flags, inv.flags_len, c.match_directories.ensures.len)) c.fill_undecided.ensures.filled)
    inv.decided)

pub rules-preserved : goal.rules-preserved
rules-preserved c =
    let inv = c.rules.invariant in
    let names = names_of c.args.names.now in
    let len = names_length c.args.names.now in
    let above = length c.args.names.now - 1 in
    let pattern = pattern_placed _ _ inv.newer _ c.in-Some.rule.now inv.whole c.in-Some.ensures.cases.0 _ c.patterns-patterns.ensures in
    let told = subst (λ p. TellMatches p names c.match_directories.new.flags) pattern c.match_directories.ensures.told in
    record {
      newer = c.in-Some.rule.now ∷ inv.newer;
      whole = inv.whole ∙ ap (λ l. l ++ inv.newer) c.in-Some.ensures.cases.0
          ∙ append_assoc c.in-Some.older.now (c.in-Some.rule.now ∷ []) inv.newer;
      flags_len = c.match_directories.ensures.len ∙ inv.flags_len;
      found_len = c.fill_undecided.ensures.len ∙ inv.found_len;
      decided = decided_more inv.newer c.in-Some.rule.now names above c.match_directories.new.flags c.rules.found c.fill_undecided.new.found
          (omega (arith, len)) told
          (filled_front c.in-Some.rule.now above c.match_directories.new.flags c.rules.found c.fill_undecided.new.found
          (omega (arith, c.requires.flags, inv.flags_len, c.match_directories.ensures.len)) c.fill_undecided.ensures.filled)
          inv.decided;
      own = own_more inv.newer c.in-Some.rule.now names above c.args.is_dir c.match_directories.new.flags c.rules.own
          c.newest_match-own.result (omega (arith, c.requires.some, len)) told
          (c.newest_match-own.ensures
          ∙ ap (λ (b : Bool). option_or (option_map (λ r. r.now) c.rules.own) (cond b (Some c.in-Some.rule.now) None))
          (c.is_matched-is_own.ensures
          ∙ ap (λ (b : Bool). get_or c.match_directories.new.flags above false && (not b || c.args.is_dir))
          (c.is_dir_only.ensures ∙ ap (λ p. p.is_dir_only) pattern)))
          inv.own;
    }

pub match_directories-requires-clause-within : goal.match_directories-requires-clause-within
match_directories-requires-clause-within c =
    let inv = c.rules.invariant in
    place_below _ _ inv.newer _ c.in-Some.rule.now inv.whole c.in-Some.ensures.cases.0 _ c.patterns-patterns.ensures

pub is_dir_only-requires : goal.is_dir_only-requires
is_dir_only-requires c =
    let inv = c.rules.invariant in
    place_below _ _ inv.newer _ c.in-Some.rule.now inv.whole c.in-Some.ensures.cases.0 _ c.patterns-patterns.ensures
