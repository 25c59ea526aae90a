use Rattle.std.proofs.Common.{◌≡◌, ◌∙◌, ◌+◌, ℕ, take, sym, ap, subst, arith}
use Rattle.lc_paths.specs.Checks.{CheckText.{file_verdict, is_ignored_parent, IsClearTo}, Findings.ignoring_rule}
use Rattle.lc_paths.proofs.Checks.Directories.{has_ignored_parent-clear, clear-more, clear-take, clear-slash, clear-end, slash-within}
use Rattle.lc_paths.proofs.Checks.Directories.{slash-is}
use Rattle.lc_paths.proofs.Checks.Ignoring.{found_above, found_none}
use Rattle.lc_paths.proofs.checking.checker.Checker.ignoring_from.Goals as goal

pub invariant_of-self-clause-clear : goal.invariant_of-self-clause-clear
invariant_of-self-clause-clear c =
    let verdict = file_verdict c.args.self.now.rules.now in
    let path = c.args.path.now in
    let place = c.directories.at + c.in-Some.len in
    let to = clear-slash verdict path c.directories.at c.directories.invariant.clear c.in-Some.len c.in-Some.ensures in
    λ k low. ap (λ r. is_ignored_parent (file_verdict r) (take place path) k) c.directories.invariant.rules
    ∙ clear-take verdict path place to k low

pub returns-then-is_some-clause-above : goal.returns-then-is_some-clause-above
returns-then-is_some-clause-above c =
    let rules = c.args.self.now.rules.now in
    let path = c.args.path.now in
    let at = c.directories.at in
    let len = c.in-Some.len in
    let clear = c.directories.invariant.clear in
    let first = c.in-Some.ensures in
    found_above rules path (at + len) (clear-slash (file_verdict rules) path at clear len first)
    (slash-within (file_verdict rules) path at clear len first) (slash-is (file_verdict rules) path at clear len first)
    c.ignoring_among-excluded_by.result (sym c.is_some.ensures ∙ c.if-is_some.true)
    (c.ignoring_among-excluded_by.ensures ∙ ap (λ r. ignoring_rule r (take (at + len) path)) c.directories.invariant.rules)

pub directories-preserved : goal.directories-preserved
directories-preserved c =
    let rules = c.args.self.now.rules.now in
    let verdict = file_verdict rules in
    let path = c.args.path.now in
    let at = c.directories.at in
    let len = c.in-Some.len in
    let clear = c.directories.invariant.clear in
    let first = c.in-Some.ensures in
    let to = clear-slash verdict path at clear len first in
    let within = slash-within verdict path at clear len first in
    let more = clear-more verdict path (at + len) within to
    (found_none rules path (at + len) to within (slash-is verdict path at clear len first) c.ignoring_among-excluded_by.result
    (sym c.is_some.ensures ∙ c.if-is_some.false)
    (c.ignoring_among-excluded_by.ensures ∙ ap (λ r. ignoring_rule r (take (at + len) path)) c.directories.invariant.rules)) in
    let same : at + len + 1 ≡ at + (len + 1) = omega arith in
    record {
      rules = c.directories.invariant.rules;
      clear = subst (λ (n : ℕ). IsClearTo verdict path n) same more;
    }

pub returns-clause-above : goal.returns-clause-above
returns-clause-above c =
    let verdict = file_verdict c.args.self.now.rules.now in
    has_ignored_parent-clear verdict c.args.path.now
    (clear-end verdict c.args.path.now c.directories.at c.directories.invariant.clear c.in_default.ensures)
