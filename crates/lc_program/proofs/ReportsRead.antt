-- Reports that were read one after another.
use Rattle.std.proofs.Common.{◌≡◌, ◌∙◌, ◌++◌, ◌⊎◌, ◌+◌, ◌<◌, ◌≤◌, ℕ, List, [], ◌∷◌, Option, Result, Ok, Err, ap, append-nil, append_assoc}
use Rattle.std.proofs.{Common.{drop, get_or, inl, inr, length, map, refl, subst, sym}, lemmas.List.{drop_all, drop_more}}
use Rattle.std.specs.{Prelude.Vec, Global.Global, Result.IsErrAnd}
use Rattle.lc_arguments.specs.{Reports.report_model, declared.reports.NamedReport.NamedReport}
use Rattle.lc_io.specs.Reads.{Answer}
use Rattle.lc_program.specs.ReportFiles.{AnswersParts, ReadsAll, ReadsParts, Refuses, RefusesFirst, Typed}
use Rattle.lc_program.specs.declared.{cause.Cause.{Cause, TheVariants.Memory}, unread_reason.UnreadReason.UnreadReason}
use Rattle.lc_reports.specs.declared.part.Part.{Part}
use Rattle.lc_tree.specs.Trees.{Contents}

-- the error of a result is the one that it is
pub same_error : {A E : Type 0} (answer : Result A E) (fault other : E) → answer ≡ Err fault → answer ≡ Err other → fault ≡ other
same_error (Ok a) fault other was is = absurd (cc was)
same_error (Err e) fault other was is = cc

-- the reports from one on
pub reports_left : (rs : List NamedReport) (i : ℕ) (r : NamedReport) → i < length rs
    → map report_model (drop i rs) ≡ report_model (get_or rs i r) ∷ map report_model (drop (i + 1) rs)
reports_left rs i r low = ap (map report_model) (drop_more rs i r low)

pub none_left : (rs : List NamedReport) (i : ℕ) → length rs ≤ i → map report_model (drop i rs) ≡ []
none_left rs i high = ap (map report_model) (drop_all i rs high)

module _ {I : Type 0} (may_give : I → ℕ → Answer → I → Type 0) (holds : List ℕ → Contents)
    (may_unread : List ℕ → Option UnreadReason → Type 0) (attributes : List (List ℕ)) where
  -- with the parts of the rest, these are the parts of all; and if one of the rest is refused, so is one of all
  pub record IsReadTo (all : List Typed) (before : I) (rest : List Typed) (input : I) (parts : List Part) : Type 0 where
    pub reads : (more : List Part) (read : I) → ReadsAll may_give holds attributes rest input more read
        → ReadsAll may_give holds attributes all before (parts ++ more) read
    pub refuses : (cause : Cause) (read : I) → RefusesFirst may_give holds may_unread attributes rest input cause read
        → RefusesFirst may_give holds may_unread attributes all before cause read

  pub one_read : (all rest others : List Typed) (typed : Typed) (before input between : I) (parts first new : List Part)
      → IsReadTo all before rest input parts → rest ≡ typed ∷ others → ReadsParts may_give holds attributes typed input first between
      → new ≡ parts ++ first → IsReadTo all before others between new
  one_read all rest others typed before input between parts first new to next is same = record {
    reads = λ more read after.
        subst (λ ps. ReadsAll may_give holds attributes all before ps read)
        (sym (append_assoc parts first more) ∙ ap (λ ps. ps ++ more) (sym same))
        (to.reads (first ++ more) read
        (subst (λ rs. ReadsAll may_give holds attributes rs input (first ++ more) read) (sym next) (
          first,
          more,
          between,
          is,
          after,
          refl,
        )));
    refuses = λ cause read after.
        to.refuses cause read
        (subst (λ rs. RefusesFirst may_give holds may_unread attributes rs input cause read) (sym next) (inr (first, between, is, after)));
  }

  pub all_read : (all rest : List Typed) (before input : I) (parts : List Part) → IsReadTo all before rest input parts → rest ≡ []
      → ReadsAll may_give holds attributes all before parts input
  all_read all rest before input parts to none =
      subst (λ ps. ReadsAll may_give holds attributes all before ps input) (append-nil parts)
      (to.reads [] input (subst (λ rs. ReadsAll may_give holds attributes rs input [] input) (sym none) (refl, refl)))

  pub first_refused : (all rest others : List Typed) (typed : Typed) (before input read : I) (parts : List Part) (cause : Cause)
      → IsReadTo all before rest input parts → rest ≡ typed ∷ others
      → Refuses may_give holds may_unread attributes typed input cause read ⊎ (cause ≡ Memory)
      → RefusesFirst may_give holds may_unread attributes all before cause read ⊎ (cause ≡ Memory)
  first_refused all rest others typed before input read parts cause to next (inl refuses) =
      inl (to.refuses cause read (subst (λ rs. RefusesFirst may_give holds may_unread attributes rs input cause read) (sym next)
      (inl refuses)))
  first_refused all rest others typed before input read parts cause to next (inr memory) = inr memory

  -- a cause that was passed on
  pub parts_refused : (all : List Typed) (before read : I) (answer : Result (Vec Part Global) Cause) (cause : Cause)
      → IsErrAnd answer (λ given. given ≡ cause) → RefusesFirst may_give holds may_unread attributes all before cause read
      ⊎ (cause ≡ Memory)
      → AnswersParts may_give holds may_unread attributes all before answer read
  parts_refused all before read (Ok parts) cause is refused = absurd is
  parts_refused all before read (Err given) cause is refused =
      subst (λ (c : Cause). RefusesFirst may_give holds may_unread attributes all before c read ⊎ (c ≡ Memory)) (sym is) refused
