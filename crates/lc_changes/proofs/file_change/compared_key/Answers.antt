use Rattle.std.proofs.Common.{◌≡◌, ◌∙◌, None, ap, map, sym, take}
use Rattle.std.specs.List.{take-map}
use Rattle.lc_level.specs.FileAttributes.{owned_state}
use Rattle.lc_changes.proofs.file_change.compared_key.Goals as goal

pub returns : goal.returns
returns c =
    let n = c.args.attributes in
    let items = c.behind-file.inside.asked.items in
    let asked : map owned_state items ≡ c.args.file.now.asked =
    ap (λ a. a.asked) (c.behind-file.view_is ∙ c.deref.ensures) ∙ ap (λ f. f.asked) c.file.view_is in
    let first : c.split_at_top.result.0.now ≡ take n items =
    c.split_at_top.ensures.first ∙ (λ i. take (c.from.ensures i) (c.deref-2.ensures.value i)) in
    let states : map owned_state c.split_at_top.result.0.now ≡ take n c.args.file.now.asked =
    ap (map owned_state) first ∙ sym (take-map owned_state n items) ∙ ap (take n) asked in
    λ i. record {
      directory = None;
      key = record {
        attributes = states i;
        tally = record { extension = None; text = c.text.ensures i; eol = (c.file.view_is i).count.eol };
      };
    }
