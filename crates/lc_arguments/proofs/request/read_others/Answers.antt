use Rattle.std.proofs.{Common.{◌≡◌, ◌∙◌, ◌==◌, ℕ, false, true, List, [], ◌∷◌, length, map, refl, sym, None, Ok}, Math.Dec.eqb-suc-zero}
use Rattle.clap.specs.Faults.{fault_of}
use Rattle.clap.proofs.OnLiterals.{clap_on_literals}
use Rattle.lc_arguments.specs.CommandLine.{lc_app}
use Rattle.lc_arguments.proofs.{Misnaming.nothing_by, WordFaults.{lc_is_free, fails_as, no_request_of}}
use Rattle.lc_arguments.proofs.request.read_others.Goals as goal

-- no words fail in no way
none_fail : {W : Type 0} (text : W → List ℕ) (words : List W) → (length words == 0) ≡ true → fault_of lc_app (map text words) ≡ []
unfolding clap_on_literals
none_fail text [] none = refl
none_fail text (word ∷ words) none = let bad : false ≡ true = sym (eqb-suc-zero (length words)) ∙ none in absurd (cc bad)

pub returns-then-is_empty : goal.returns-then-is_empty
returns-then-is_empty g c = (none_fail g.W.AsStr.text c.args.words.now (sym c.is_empty.ensures ∙ c.if-is_empty.true), refl)

pub returns-in-Ok-try_get_matches_from : goal.returns-in-Ok-try_get_matches_from
returns-in-Ok-try_get_matches_from g c = (
  fails_as c.in-Ok.command lc_app (map g.W.AsStr.text c.args.words.now) (Ok c.in-Ok-try_get_matches_from.field-0) c.in-Ok.ensures.0
      lc_is_free c.in-Ok-try_get_matches_from.ensures.kinds,
  refl,
)

pub returns-in-Ok-command : goal.returns-in-Ok-command
returns-in-Ok-command g c =
    nothing_by None (map g.W.AsStr.text c.args.words.now) c.explained.result
    (no_request_of c.in-Ok.command lc_app (map g.W.AsStr.text c.args.words.now) c.in-Err.error c.explained.result c.in-Ok.ensures.0
    lc_is_free c.in-Err.ensures.kinds c.explained.ensures)
