use Rattle.std.proofs.Common.{ap, refl, ◌≡◌, length, arith, ◌++◌, ◌∷◌, []}
use Rattle.lc_glob.specs.{Above.names_of, Patterns.{plain, double_star}, Views.{segment_ref_model, tokens_ref_model}}
use Rattle.lc_glob.proofs.Above.{led_first, led_star, led_plain, passed, star_cost, plain_cost, names_length}
use Rattle.lc_glob.proofs.match_above.lead_above.Goals as goal

pub segments-init : goal.segments-init
segments-init c =
    let len = names_length c.args.names.names.now in
    (refl, [], refl, led_first _ _ (omega (arith, len, c.requires, c.flag_first.ensures.len)) c.flag_first.ensures.set, omega arith)

pub segments-preserved : goal.segments-preserved
segments-preserved c =
    let names = names_of c.args.names.names.now in
    let before = c.segments.invariant in
    let us = tokens_ref_model c.in-Plain.tokens in
    let old_len : length c.segments.flags ≡ length names =
    omega (arith, names_length c.args.names.names.now, c.requires, c.flag_first.ensures.len, before.0) in
    let kept_len : length c.keep.new.flags ≡ length names = omega (arith, old_len, c.keep.ensures.len) in
    let new_len : length c.shift.new.flags ≡ length names = omega (arith, kept_len, c.shift.ensures.len) in (
      omega (arith, before.0, c.keep.ensures.len, c.shift.ensures.len),
      before.1 ++ plain us ∷ [],
      passed _ before.1 _ _ _ (plain us) before.2 c.in-Some.ensures (ap segment_ref_model c.in-Plain.is),
      led_plain before.1 names c.segments.flags c.shift.new.flags old_len new_len before.3 us c.keep.new.flags kept_len c.keep.ensures.set
          c.shift.ensures.set,
      plain_cost _ before.1 us names _ _ _ refl before.4 c.keep.ensures.cost,
    )

pub segments-preserved-in-DoubleStar : goal.segments-preserved-in-DoubleStar
segments-preserved-in-DoubleStar c =
    let names = names_of c.args.names.names.now in
    let before = c.segments.invariant in
    let old_len : length c.segments.flags ≡ length names =
    omega (arith, names_length c.args.names.names.now, c.requires, c.flag_first.ensures.len, before.0) in
    let new_len : length c.spread.new.flags ≡ length names = omega (arith, old_len, c.spread.ensures.len) in (
      omega (arith, before.0, c.spread.ensures.len),
      before.1 ++ double_star ∷ [],
      passed _ before.1 _ _ _ double_star before.2 c.in-Some.ensures (ap segment_ref_model c.in-DoubleStar.is),
      led_star before.1 names c.segments.flags c.spread.new.flags old_len new_len before.3 c.spread.ensures.set,
      star_cost _ before.1 names _ _ refl before.4,
    )
