use Rattle.std.proofs.Common.{inl, inr, map, refl, string_bytes, subst, sym}
use Rattle.lc_arguments.specs.{Naming.{IsNamingError, IsTextOf, named_command}, Refusals.IsMessage}
use Rattle.lc_program.specs.{Replies.AnswerModel, Tellings.Tells}
use Rattle.lc_program.proofs.Endings.{ends_answered, ends_shown}
use Rattle.lc_program.proofs.running.end_of.Goals as goal

pub returns-in-Err : goal.returns-in-Err
returns-in-Err g c =
    rw c.give_up-in-Err.ensures.ending
    (inl (
      c.in-Ok.request,
      c.introduce.new.err,
      record {
        free = c.in-Ok.ensures.answers.0;
        asks = c.in-Ok.ensures.answers.1;
        introduces = c.introduce.ensures;
        answers = c.in-Err.ensures;
      },
      c.give_up-in-Err.ensures.told,
    ))

pub returns-in-Err-Shown : goal.returns-in-Err-Shown
returns-in-Err-Shown g c =
    ends_shown _ _ _ _ _ _ c.show.result (
      rw c.in-Err-Shown.field-0-is at c.in-Err-Shown.ensures.answers,
      refl,
      (
        c.deref.result.now,
        subst (IsTextOf (named_command (map g.W.AsStr.text c.args.words.now))) (sym c.deref.ensures)
            (subst (λ text. IsTextOf (named_command (map g.W.AsStr.text c.args.words.now)) (string_bytes text)) (sym c.in-Err-Shown.text-is)
            (rw c.in-Err-Shown.field-0-is at c.in-Err-Shown.ensures.names)),
        c.show.ensures,
      ),
    )

pub returns-in-Err-Memory : goal.returns-in-Err-Memory
returns-in-Err-Memory g c = rw c.give_up.ensures.ending (inr (inr (refl, refl, refl, c.give_up.ensures.told)))

pub returns-in-Err-Refused : goal.returns-in-Err-Refused
returns-in-Err-Refused g c =
    rw c.misuse.ensures.ending (
      rw c.in-Err-Refused.field-0-is at c.in-Err-Refused.ensures.answers,
      refl,
      refl,
      (
        c.deref-in-Err-Refused.result.now,
        subst IsMessage (sym c.deref-in-Err-Refused.ensures)
            (subst (λ why. IsMessage (string_bytes why)) (sym c.in-Err-Refused.why-is)
            (rw c.in-Err-Refused.field-0-is at c.in-Err-Refused.ensures.visible)),
        subst (IsNamingError (map g.W.AsStr.text c.args.words.now)) (sym c.deref-in-Err-Refused.ensures)
            (subst (λ why. IsNamingError (map g.W.AsStr.text c.args.words.now) (string_bytes why)) (sym c.in-Err-Refused.why-is)
            (rw c.in-Err-Refused.field-0-is at c.in-Err-Refused.ensures.names)),
        c.misuse.ensures.told,
      ),
    )

pub returns : goal.returns
returns g c =
    rw c.ending.ensures (ends_answered _ _ _ _ _ _ _ _ (
      c.in-Ok.request,
      c.in-Ok-answer.answered,
      c.introduce.new.err,
      record {
        free = c.in-Ok.ensures.answers.0;
        asks = c.in-Ok.ensures.answers.1;
        introduces = c.introduce.ensures;
        answers = c.in-Ok-answer.ensures;
      },
      refl,
      subst (λ (a : AnswerModel). Tells g.E.Sink.may_take c.introduce.new.err a.told c.tell.new.err) c.answered.view_is
          (rw c.deref-2.ensures at c.tell.ensures),
    ))
