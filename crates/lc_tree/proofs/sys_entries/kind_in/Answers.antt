use Rattle.std.proofs.{Common.{◌≡◌, sym, ◌∙◌, subst, string_bytes, length}, lemmas.Str.IsCharBoundary-at_seam}
use Rattle.std.specs.String.Boundary.{IsSplitPoint}
use Rattle.lc_tree.proofs.sys_entries.kind_in.Goals as goal

-- the name begins where the path ended, and a text may be cut before a text
pub truncate-requires : goal.truncate-requires
truncate-requires g c =
    let joined = string_bytes c.push_str.new.self in
    let seam = IsCharBoundary-at_seam joined (string_bytes c.args.path.now) c.args.name.now c.in_ok-push_str.ensures.bytes c.utf8.name in
    let base : c.len-base.result ≡ length (string_bytes c.args.path.now) = c.len-base.ensures ∙ c.args.path.now.bytes.ok.0 in
    λ _. subst (IsSplitPoint joined) (sym base) (seam.0, λ _. seam.1)
