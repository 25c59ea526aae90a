use Rattle.std.proofs.{Common.{◌∙◌, ◌≡◌, ℕ, List, Option, Some, None, option_map, ap, refl, sym}}
use Rattle.clap.specs.{Matches.found_of, Walk.rows_of}
use Rattle.lc_arguments.specs.ReadNumbers.{IsNumberTo, number_to}
use Rattle.lc_arguments.proofs.{Misnaming.refused_for, WordFaults.text_of}
use Rattle.lc_arguments.proofs.numbers.number_of.Goals as goal

writes_none : (most : ℕ) (text : List ℕ) (value : Option (List ℕ)) (n : Option ℕ) → Some text ≡ value → None ≡ number_to most text
    → IsNumberTo most value n → ⊥
writes_none most text value None is none writes =
    let bad : None ≡ Some (number_to most text) = writes ∙ ap (option_map (number_to most)) (sym is) in
    cc
writes_none most text value (Some n) is none writes =
    let bad : Some (Some n) ≡ Some (number_to most text) = writes ∙ ap (option_map (number_to most)) (sym is) in
    cc

writes_one : (most : ℕ) (text : List ℕ) (value : Option (List ℕ)) (n : Option ℕ) → Some text ≡ value → n ≡ number_to most text
    → (n ≡ None → ⊥) → IsNumberTo most value n
writes_one most text value None is one some = absurd (some refl)
writes_one most text value (Some n) is one some = ap Some one ∙ ap (option_map (number_to most)) is

pub returns-in_default : goal.returns-in_default
returns-in_default c =
    let f = found_of c.args.matches.now in
    ap (option_map (number_to c.args.most))
    (rw c.in_default.is at (text_of (rows_of f) f c.args.option.now c.get_str.result refl c.get_str.ensures))

pub returns-in-None : goal.returns-in-None
returns-in-None c =
    let f = found_of c.args.matches.now in
    refused_for _ c.no_number.result c.no_number.ensures (λ n. writes_none c.args.most c.in-Some.text.now _ n
    (rw c.in-Some.is at (text_of (rows_of f) f c.args.option.now c.get_str.result refl c.get_str.ensures))
    (rw c.in-None.is at c.number_to.ensures))

pub returns-in_default-number_to : goal.returns-in_default-number_to
returns-in_default-number_to c =
    let f = found_of c.args.matches.now in
    writes_one c.args.most c.in-Some.text.now _ c.number_to.result
    (rw c.in-Some.is at (text_of (rows_of f) f c.args.option.now c.get_str.result refl c.get_str.ensures))
    c.number_to.ensures c.in_default-number_to.not-None
