-- Once a history is over, nothing but Over follows.
use Rattle.std.proofs.Common.{◌≡◌, ℕ, ◌==◌, cond, Bool, true, false, List, [], ◌∷◌, subst}
use Rattle.lc_board.specs.{Part.{worker_of, part}, LegalHistory.{IsAllowed, IsOver}, Laws.OverStays, declared.event.Event.Event}
use Rattle.lc_board.specs.declared.event.Event.TheVariants.{Post, Claim, Return, Fault, Over}

module _ {J R : Type 0} where
  -- one event more leaves a history over
  pub over_goes_on : (c : ℕ) (h : List (Event J R)) (e : Event J R) → IsAllowed c h e → IsOver h → IsOver (e ∷ h)
  over_goes_on c h (Post w p i j) a o = absurd ((o p).1 w a.0)
  over_goes_on c h (Claim w i j) a o = absurd ((o i).0 a.0)
  over_goes_on c h (Return w i r) a o = absurd ((o i).1 w a)
  over_goes_on c h (Fault w i r) a o = absurd ((o i).1 w a.0)
  over_goes_on c h (Over w) a o = o

  over_told : (c w : ℕ) (h : List (Event J R)) (e : Event J R) → e ≡ Over w → IsAllowed c h e → IsOver (e ∷ h)
  over_told c w h e is a = let o : IsOver h = subst (IsAllowed c h) is a in over_goes_on c h e a o

  over_by : (c w : ℕ) (h m : List (Event J R)) (e : Event J R) (b : Bool) → IsAllowed c h e → (part w h ≡ Over w ∷ m → IsOver h)
      → cond b (e ∷ part w h) (part w h) ≡ Over w ∷ m → IsOver (e ∷ h)
  over_by c w h m e true a before is = let x : e ∷ part w h ≡ Over w ∷ m = is in over_told c w h e (cc x) a
  over_by c w h m e false a before is = over_goes_on c h e a (before is)

  -- so do many
  pub over_stays : OverStays J R
  over_stays c n [] l w m is = absurd (cc is)
  over_stays c n (e ∷ h) l w m is = over_by c w h m e (worker_of e == w) l.2 (over_stays c n h l.0 w m) is
