use Rattle.std.proofs.{Common.{ℕ, [], ◌∷◌, ◌++◌, codes, ap, ◌∙◌}, lemmas.Result.on_ok_weaker}
use Rattle.lc_sheet.specs.Values.{number}
use Rattle.lc_formats.specs.{MarkdownText.line_with, declared.markdown_line.Weight.TheVariants.Plain}
use Rattle.lc_formats.proofs.Listed.{appended_more}
use Rattle.lc_formats.proofs.markdown.push_counts.Goals as goal

pub returns-in_default-entries : goal.returns-in_default-entries
returns-in_default-entries c =
    let headed = c.extend_from_slice.new.self.items in
    on_ok_weaker c.push_values.result
    (λ pushed. rw (c.in-Some.is, c.in_default-entries.is)
    (appended_more c.args.text.now.items (codes "\n| directories |\n| ---: |\n") (line_with Plain (number c.in-Some.directories ∷ []))
    headed c.push_values.new.text.items c.in_ok-extend_from_slice.ensures.items
    (pushed ∙ ap (λ (n : ℕ). headed ++ line_with Plain (number n ∷ [])) c.from.ensures)))
    c.push_values.ensures
