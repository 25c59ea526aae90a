-- How the program ends once a request is answered, or a text is shown.
use Rattle.std.proofs.Common.{Bool, true, false, cond, List, ℕ, inl, inr}
use Rattle.lc_program.specs.{Program.{Ends, EndsAnswered, Shows, StreamsMay}, Systems.SystemMay}
use Rattle.lc_program.specs.declared.ending.Ending.{Ending, TheVariants.{AnyFile, Done, GaveUp, Misused, SomeFaults}}
use Rattle.lc_program.specs.declared.streams.{Streams.Streams, Terminals.Terminals}

module _ {I O E : Type 0} (system : SystemMay) (may : StreamsMay I O E) (words : List (List ℕ)) (terminals : Terminals) where
  -- an answer may end it in each way in which an answer ends
  pub ends_answered : (before after : Streams I O E) (fails faults : Bool)
      → EndsAnswered system may words terminals before (cond fails AnyFile (cond faults SomeFaults Done)) after
      → Ends system may words terminals before (cond fails AnyFile (cond faults SomeFaults Done)) after
  ends_answered before after true faults ends = ends
  ends_answered before after false false ends = inl ends
  ends_answered before after false true ends = ends

  -- and so may a text that the words ask for
  pub ends_shown : (before after : Streams I O E) (ending : Ending) → Shows system may words terminals before ending after
      → Ends system may words terminals before ending after
  ends_shown before after Done shows = inr shows
  ends_shown before after SomeFaults (may_show, same, (text, is_text, ends)) = absurd ends
  ends_shown before after AnyFile (may_show, same, (text, is_text, ends)) = absurd ends
  ends_shown before after Misused (may_show, same, (text, is_text, ends)) = absurd ends
  ends_shown before after (GaveUp cause) shows = inr (inl shows)
