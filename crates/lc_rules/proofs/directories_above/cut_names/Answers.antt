use Rattle.std.proofs.{Common.{◌∙◌, ◌++◌, ◌∷◌, ◌≡◌, [], ℕ, List, Option, Bor, ap, subst, arith, MatchOption, refl}, lemmas.List.length-set}
use Rattle.lc_glob.specs.Pieces.{pieces_left}
use Rattle.lc_rules.proofs.AboveRules.{one_segment, whole_more, closed_more, cut_more}
use Rattle.lc_rules.proofs.directories_above.cut_names.Goals as goal

pub names-preserved : goal.names-preserved
names-preserved c =
    let inv = c.names.invariant in
    let path = c.args.path.now in
    let left = c.names.rest.now in
    let name = c.cut_at_first.result.0 in
    let rest = c.in-Some.next in
    let pieces = c.cut_at_first.ensures.pieces ∙ ap (λ o. name.now ∷ pieces_left 47 o) c.in-Some.is in
    let cut : left ≡ name.now ++ 47 ∷ rest.now = subst
    (λ (o : Option (Bor (List ℕ))). MatchOption o (left ≡ name.now) (λ r. left ≡ name.now ++ 47 ∷ r.now)) c.in-Some.is
    c.cut_at_first.ensures.whole in
    let one = one_segment left name.now rest.now pieces cut in
    record {
      front = inv.front ++ (name.now ++ 47 ∷ []);
      whole = whole_more path inv.front left name rest c.names.names c.names.ends c.names.count _ inv.whole cut one inv.closed
          c.names-test.true (omega (arith, c.names-test.true, inv.names_len, inv.ends_len, c.requires)) refl;
      closed = closed_more path inv.front left name rest c.names.names c.names.ends c.names.count _ inv.whole cut one inv.closed
          c.names-test.true (omega (arith, c.names-test.true, inv.names_len, inv.ends_len, c.requires)) refl;
      within = omega (arith, c.names-test.true, length-set c.names.names c.names.count name);
      names_len = length-set c.names.names c.names.count name ∙ inv.names_len;
      ends_len = length-set c.names.ends c.names.count _ ∙ inv.ends_len;
      cut = cut_more path inv.front left name rest c.names.names c.names.ends c.names.count _ inv.whole cut one inv.closed
          c.names-test.true (omega (arith, c.names-test.true, inv.names_len, inv.ends_len, c.requires)) refl inv.cut;
    }
