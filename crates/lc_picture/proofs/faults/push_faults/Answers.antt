use Rattle.std.proofs.Common.{◌≡◌, ◌<◌, ◌++◌, List, [], ◌∷◌, length, take, ap, refl, ◌∙◌, arith, rules}
use Rattle.lc_level.specs.FaultLines.{FaultLineModel}
use Rattle.lc_picture.specs.{Faults.{fault_lines, faults_begin, faults_end, faults_listed, faults_part}, Pieces.text_of}
use Rattle.lc_picture.proofs.Texts.{two_texts}
use Rattle.lc_picture.proofs.faults.push_faults.Goals as goal

-- of some errors
some_faults : (fs : List FaultLineModel) → 0 < length fs
    → faults_begin (length fs) ++ (fault_lines (take faults_listed fs) ++ faults_end (length fs)) ≡ faults_part fs
some_faults [] some = absurd (omega arith)
some_faults (f ∷ fs) some = refl

pub returns : goal.returns
returns c =
    let t0 = c.args.text.now.items in
    let t1 = c.push_faults_begin.new.text.items in
    let t2 = c.push_fault_lines.new.text.items in
    let t3 = c.push_faults_end.new.text.items in
    let fs = c.args.faults.now in
    two_texts t0 t1 t3 (faults_begin (length fs)) (fault_lines (take faults_listed fs) ++ faults_end (length fs))
    c.in_ok-push_faults_begin.ensures
    (two_texts t1 t2 t3 (fault_lines (take faults_listed fs)) (faults_end (length fs))
    (c.in_ok-push_fault_lines.ensures ∙ ap (λ (gs : List FaultLineModel). t1 ++ text_of (fault_lines gs)) c.first_faults.ensures)
    c.in_ok-push_faults_end.ensures)
    ∙ ap (λ ps. t0 ++ text_of ps) (some_faults fs (search rules))
