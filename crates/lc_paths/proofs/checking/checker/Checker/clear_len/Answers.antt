use Rattle.std.proofs.{Common.{◌≡◌, ◌<◌, ◌∙◌, nat_eq, length, take, sym, ap, arith}, Math.Seq.take-length}
use Rattle.lc_paths.specs.Checks.{CheckText.file_verdict, Findings.ignoring_rule}
use Rattle.lc_paths.proofs.Checks.{Directories.{clear-shared, clear-more}, Ignoring.{found_above, found_none}}
use Rattle.lc_paths.proofs.checking.checker.Checker.clear_len.Goals as goal

pub returns-then-shared-eq0 : goal.returns-then-shared-eq0
returns-then-shared-eq0 c =
    let same = c.shared_len-shared.ensures in
    clear-shared (file_verdict c.args.self.now.rules.now) c.args.self.now.directory.now c.args.path.now c.shared_len-shared.result
    same.within_one same.within_other same.shared c.args.self.now.clear

pub returns-then-is_some : goal.returns-then-is_some
returns-then-is_some c =
    let rules = c.args.self.now.rules.now in
    let directory = c.args.self.now.directory.now in
    let path = c.args.path.now in
    let shared = c.shared_len-shared.result in
    let whole : shared ≡ length directory = omega (arith, c.if-shared-self.false, c.shared_len-shared.ensures.within_one) in
    let directory_is : directory ≡ take shared path = sym (ap (λ n. take n directory) whole ∙ take-length directory)
    ∙ c.shared_len-shared.ensures.shared in
    let told = c.args.self.now.told (omega (arith, c.if-shared-eq0.false, whole)) in
    found_above rules path shared
    (clear-shared (file_verdict rules) directory path shared c.shared_len-shared.ensures.within_one
    c.shared_len-shared.ensures.within_other c.shared_len-shared.ensures.shared c.args.self.now.clear)
    (omega (arith, c.if-shared-path.false, c.shared_len-shared.ensures.within_other))
    (ap (λ b. nat_eq b 47) c.if-path-shared-ne47.false) c.args.self.now.excluded_by
    (sym c.is_some.ensures ∙ c.if-is_some.true) (told ∙ ap (ignoring_rule rules) directory_is)

pub returns : goal.returns
returns c =
    let rules = c.args.self.now.rules.now in
    let directory = c.args.self.now.directory.now in
    let path = c.args.path.now in
    let shared = c.shared_len-shared.result in
    let whole : shared ≡ length directory = omega (arith, c.if-shared-self.false, c.shared_len-shared.ensures.within_one) in
    let directory_is : directory ≡ take shared path = sym (ap (λ n. take n directory) whole ∙ take-length directory)
    ∙ c.shared_len-shared.ensures.shared in
    let told = c.args.self.now.told (omega (arith, c.if-shared-eq0.false, whole)) in
    let low : shared < length path = omega (arith, c.if-shared-path.false, c.shared_len-shared.ensures.within_other) in
    let clear = clear-shared (file_verdict rules) directory path shared c.shared_len-shared.ensures.within_one
    c.shared_len-shared.ensures.within_other c.shared_len-shared.ensures.shared c.args.self.now.clear in
    clear-more (file_verdict rules) path shared low clear
    (found_none rules path shared clear low (ap (λ b. nat_eq b 47) c.if-path-shared-ne47.false) c.args.self.now.excluded_by
    (sym c.is_some.ensures ∙ c.if-is_some.false) (told ∙ ap (ignoring_rule rules) directory_is))
