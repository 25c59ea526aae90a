use Rattle.std.proofs.Common.{◌≡◌, ◌++◌, ◌∷◌, [], ◌∙◌, ℕ, List, Option, Some, None, Bor, MatchOption, unwrap_or, sym, ap, subst, refl}
use Rattle.std.specs.List.{join_with_byte}
use Rattle.lc_glob.specs.Pieces.{pieces_left}
use Rattle.lc_paths.proofs.Checks.Dashes.{rules_part-at, paths_part-at, plain_more, whole_more, pieces_more, paths_joined}
use Rattle.lc_paths.proofs.checking.joined.split_joined.Goals as goal

-- what follows the first line feed, joined from its pieces
later_joined : (others : Option (Bor (List ℕ))) (none : Bor (List ℕ)) → none.now ≡ []
    → (unwrap_or others none).now ≡ join_with_byte 10 (pieces_left 10 others)
later_joined None none nothing = nothing
later_joined (Some rest) none nothing = paths_joined rest.now

pub lines-preserved : goal.lines-preserved
lines-preserved c =
    let inv = c.lines.invariant in
    let rest = c.lines.rest.now in
    let line = c.cut_at_first.result.0.now in
    let others = c.cut_at_first.result.1 in
    let after = c.in-Some.after in
    let pieces = inv.pieces ∙ ap (λ ps. inv.front ++ ps) c.cut_at_first.ensures.pieces in
    let cut : rest ≡ line ++ 10 ∷ after.now = subst
    (λ (o : Option (Bor (List ℕ))). MatchOption o (rest ≡ line)
    (λ r. rest ≡ line ++ 10 ∷ r.now)) c.in-Some.is c.cut_at_first.ensures.whole in
    record {
      front = inv.front ++ line ∷ [];
      whole = whole_more c.args.bytes.now inv.front rest line (pieces_left 10 others) inv.whole pieces inv.plain after.now cut;
      pieces = pieces_more c.args.bytes.now inv.front rest line (pieces_left 10 others) inv.whole pieces inv.plain
          ∙ ap (λ o. (inv.front ++ line ∷ []) ++ pieces_left 10 o) c.in-Some.is;
      plain = plain_more c.args.bytes.now inv.front rest line (pieces_left 10 others) inv.whole pieces inv.plain
          (sym c.if-is_dashes.ensures);
    }

pub returns-then-is_dashes-clause-rules : goal.returns-then-is_dashes-clause-rules
returns-then-is_dashes-clause-rules c =
    let inv = c.lines.invariant in
    let pieces = inv.pieces ∙ ap (λ ps. inv.front ++ ps) c.cut_at_first.ensures.pieces in
    rules_part-at c.args.bytes.now inv.front c.lines.rest.now c.cut_at_first.result.0.now
    (pieces_left 10 c.cut_at_first.result.1) inv.whole pieces inv.plain (sym c.if-is_dashes.ensures)

pub returns-then-is_dashes-clause-paths : goal.returns-then-is_dashes-clause-paths
returns-then-is_dashes-clause-paths c =
    let inv = c.lines.invariant in
    let pieces = inv.pieces ∙ ap (λ ps. inv.front ++ ps) c.cut_at_first.ensures.pieces in
    ap (λ b. b.now) c.unwrap_or.ensures ∙ (later_joined c.cut_at_first.result.1 _ refl
    ∙ paths_part-at c.args.bytes.now inv.front c.lines.rest.now c.cut_at_first.result.0.now
    (pieces_left 10 c.cut_at_first.result.1) inv.whole pieces inv.plain (sym c.if-is_dashes.ensures))
