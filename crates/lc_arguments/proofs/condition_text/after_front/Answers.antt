use Rattle.std.proofs.Common.{◌≡◌, ℕ, true, false, cond, List, length, take, drop, Option, Some, None, option_map, ap, sym, ◌∙◌, ◌+◌}
use Rattle.std.specs.{Borrow.Bor, Prelude.MatchOption, Str.bytes_eq}
use Rattle.lc_arguments.specs.Texts.{after_front}
use Rattle.lc_arguments.proofs.condition_text.after_front.Goals as goal

stripped : (front text : List ℕ) (r : Option (Bor (List ℕ)))
    → MatchOption r (bytes_eq (take (length front) text) front ≡ false)
    (λ x. (bytes_eq (take (length front) text) front ≡ true) × (x.now ≡ drop (length front) text)
    × (length x.now + length front ≡ length text))
    → option_map (λ x. x.now) r ≡ after_front front text
stripped front text None is = ap (λ b. cond b (Some (drop (length front) text)) None) (sym is)
stripped front text (Some x) is =
    ap Some is.1 ∙ ap (λ b. cond b (Some (drop (length front) text)) None) (sym is.0)

pub returns : goal.returns
returns c = stripped c.args.front.now c.args.text.now c.strip_prefix.result c.strip_prefix.ensures.cases
