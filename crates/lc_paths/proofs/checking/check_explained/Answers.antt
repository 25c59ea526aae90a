use Rattle.std.proofs.Common.{◌≡◌, ◌∙◌, ℕ, List, Err, ap₂, subst}
use Rattle.std.specs.List.{flat_map}
use Rattle.lc_paths.specs.{Checks.ExplainedText.{explained_line, explained_text_of}, Styles.styled}
use Rattle.lc_text.specs.Lines.{input_paths_of}
use Rattle.lc_io.specs.Pieces.{AnswersInPieces}
use Rattle.lc_paths.proofs.Stopping.{output_stops}
use Rattle.lc_paths.proofs.checking.check_explained.Goals as goal

pub returns-in_err-print_explained : goal.returns-in_err-print_explained
returns-in_err-print_explained g c =
    let text_of = explained_text_of (styled c.args.format.style) c.args.name.now c.args.rules.now c.args.format.end in
    let bytes = c.in_ok-paths.paths.items in
    let lines = c.in_ok-lines.lines in
    let fault = c.in_err-print_explained.field-0.0 in
    let AnswersText = λ (text : List ℕ). AnswersInPieces g.O.Sink.may_take c.args.out.now text in
    let text : flat_map (explained_line (styled lines.style) lines.name.now lines.rules.now)
    (input_paths_of c.args.format.end c.deref.result.now) ≡ text_of bytes =
    ap₂ (λ name rules. explained_text_of (styled lines.style) name rules c.args.format.end c.deref.result.now) c.in_ok-lines.ensures.0
    c.in_ok-lines.ensures.1
    ∙ ap₂ (λ style paths. explained_text_of (styled style) c.args.name.now c.args.rules.now c.args.format.end paths) c.in_ok-lines.ensures.2
    c.deref.ensures.value in
    output_stops g.S.Source.may_give (λ b out. AnswersInPieces g.O.Sink.may_take out (text_of b)) bytes c.args.input.now
    c.read_input.new.input c.args.out.now c.print_explained.new.out c.in_ok-paths.ensures fault
    c.from_residual-in_err-print_explained.result c.from_residual-in_err-print_explained.ensures.1
    (subst (λ (t : List ℕ). AnswersText t (Err fault) c.print_explained.new.out) text c.in_err-print_explained.ensures)
