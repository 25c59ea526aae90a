use Rattle.std.proofs.Common.{sym, ap, ◌∙◌, Bool, map}
use Rattle.lc_glob.specs.{Elements.trimmed_model, Pieces.is_byte, Reading.pattern_from, Simple.byte_token}
use Rattle.lc_glob.proofs.SimpleBytes.{simple_parts}
use Rattle.lc_glob.proofs.simple_pattern.SimplePattern.of_simple.Goals as goal

pub returns-in_default : goal.returns-in_default
returns-in_default c = c.new.ensures ∙ sym (ap pattern_from (simple_parts c.args.bytes.now c.requires) ∙ c.in_default.ensures)

pub returns-then-scope : goal.returns-then-scope
returns-then-scope c =
    let trimmed = λ (t : Bool). trimmed_model (map byte_token) (is_byte 47) c.in-Some.scope.is_dir_only t c.in-Some.segments.now in
    c.new-then-scope.ensures ∙ c.path_kind.ensures _
    ∙ sym (ap pattern_from (simple_parts c.args.bytes.now c.requires) ∙ c.in-Some.ensures ∙ ap trimmed c.if-scope.true)

pub returns : goal.returns
returns c =
    let trimmed = λ (t : Bool). trimmed_model (map byte_token) (is_byte 47) c.in-Some.scope.is_dir_only t c.in-Some.segments.now in
    c.new-2.ensures ∙ c.name_kind-kind.ensures _
    ∙ sym (ap pattern_from (simple_parts c.args.bytes.now c.requires) ∙ c.in-Some.ensures ∙ ap trimmed c.if-scope.false)
