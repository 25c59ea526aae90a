use Rattle.std.proofs.{Common.{◌≡◌, length, min, take, ap, ◌∙◌, arith}, lemmas.List.take_min}
use Rattle.lc_picture.specs.Faults.{faults_listed}
use Rattle.lc_picture.proofs.faults.first_faults.Goals as goal

pub returns : goal.returns
returns c =
    let fs = c.args.faults.now in
    let same : c.min.result ≡ min faults_listed (length fs) = omega (arith, c.min.ensures) in
    ap (λ n. take n fs) same ∙ take_min faults_listed fs
