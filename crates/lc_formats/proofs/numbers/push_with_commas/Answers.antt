use Rattle.std.proofs.Common.{◌++◌, ◌∙◌, ap, encode_utf8, string_bytes}
use Rattle.lc_formats.proofs.Commas.{digit_pushed}
use Rattle.lc_formats.proofs.numbers.push_with_commas.Goals as goal

pub digits-preserved : goal.digits-preserved
digits-preserved c =
    let now = c.in-Some.ensures.cases.0 in
    digit_pushed (string_bytes c.args.text.now) (string_bytes c.digits.text) (string_bytes c.push.new.self)
    (string_bytes c.push_comma.new.text) c.args.digits.now c.digits.rest.now c.in-Some.others.now c.in-Some.digit.now now
    c.digits.invariant.1 c.digits.invariant.0
    (c.in_ok-push.ensures.bytes ∙ ap (λ d. string_bytes c.digits.text ++ encode_utf8 d) c.from.ensures) c.in_ok-push_comma.ensures
