use Rattle.std.proofs.Common.{ap, ◌∙◌}
use Rattle.lc_picture.specs.{Boxes.titled}
use Rattle.lc_picture.proofs.report_page.page_boxes.Goals as goal

pub returns : goal.returns
returns c = record {
  begins = c.deref.result.now;
  are = c.put_title.ensures ∙ ap (titled c.args.title.now) c.in_ok-boxes.ensures;
}
