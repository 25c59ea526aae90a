-- Writes in turn.
use Rattle.std.proofs.Common.{◌≡◌, ℕ, ◌<◌, ◌≤◌, ◌++◌, List, [], ◌∷◌, length, drop, refl, ap, sym, subst, ◌∙◌, append-nil, append_assoc}
use Rattle.std.proofs.Math.Seq.{drop-length}
use Rattle.std.specs.{Prelude.{Result, Ok, Vec}, Global.Global, List.concat}
use Rattle.lc_io.specs.{declared.source.Failed.Failed, Pieces.{WritesPieces, WritesInPieces}, Writes.{AppendsAll, TakesCounts, Writes}}

-- one more write at the end
pub takes_more : {S : Type 0} (may_take : S → List ℕ → Result ℕ Failed → S → Type 0) (old : S) (text counts : List ℕ) (mid : S)
    (rest : List ℕ) (n : ℕ) (new : S)
    → TakesCounts may_take old text counts mid rest → 0 < n → n ≤ length rest → may_take mid rest (Ok n) new
    → TakesCounts may_take old text (counts ++ n ∷ []) new (drop n rest)
takes_more {S} may_take old text [] mid rest n new run some within took =
    let from_text : may_take mid text (Ok n) new = subst (λ (r : List ℕ). may_take mid r (Ok n) new) run.1 took in
    let here : may_take old text (Ok n) new = subst (λ (s : S). may_take s text (Ok n) new) run.0 from_text in
    let fits : n ≤ length text = subst (λ (r : List ℕ). n ≤ length r) run.1 within in
    (some, fits, (new, here, (refl, subst (λ (r : List ℕ). drop n rest ≡ drop n r) run.1 refl)))
takes_more may_take old text (c ∷ cs) mid rest n new run some within took =
    (run.0, run.1, (run.2.0, run.2.1, takes_more may_take run.2.0 (drop c text) cs mid rest n new run.2.2 some within took))

-- what a vector took stands at its end, before what is left
pub appends_all : (old : Vec ℕ Global) (text counts : List ℕ) (new : Vec ℕ Global) (rest : List ℕ)
    → TakesCounts AppendsAll old text counts new rest
    → new.items ++ rest ≡ old.items ++ text
appends_all old text [] new rest run = ap (λ (v : Vec ℕ Global). v.items ++ rest) run.0 ∙ ap (λ l. old.items ++ l) run.1
appends_all old text (n ∷ ns) new rest run =
    let step = run.2.1 in
    let gone : drop n text ≡ [] = ap (λ (k : ℕ). drop k text) step.0 ∙ drop-length text in
    appends_all run.2.0 (drop n text) ns new rest run.2.2
    ∙ (ap (λ l. run.2.0.items ++ l) gone ∙ (append-nil run.2.0.items ∙ step.1))

-- a text that was written to a vector stands at its end
pub appends_text : (old new : Vec ℕ Global) (text : List ℕ) → Writes AppendsAll old text new → new.items ≡ old.items ++ text
appends_text old new text wrote = sym (append-nil new.items) ∙ appends_all old text wrote.0 new [] wrote.1

appends_pieces : (old new : Vec ℕ Global) (pieces : List (List ℕ)) → WritesPieces AppendsAll old pieces new
    → new.items ≡ old.items ++ concat pieces
appends_pieces old new [] is = ap (λ (v : Vec ℕ Global). v.items) is ∙ sym (append-nil old.items)
appends_pieces old new (piece ∷ pieces) run =
    appends_pieces run.0 new pieces run.2
    ∙ (ap (λ l. l ++ concat pieces) (appends_text old run.0 piece run.1) ∙ append_assoc old.items piece (concat pieces))

-- and so does one that was written in pieces
pub appends_in_pieces : (old new : Vec ℕ Global) (text : List ℕ) → WritesInPieces AppendsAll old text new → new.items ≡ old.items ++ text
appends_in_pieces old new text wrote = appends_pieces old new wrote.0 wrote.2 ∙ ap (λ l. old.items ++ l) wrote.1
