-- `journal::call::strike` meets its contract.
use mathlib.Core.Path.{sym}
use native.Mathlib.Omega.{arith}
use Rattle.std.proofs.lemmas.Result.{err_from_is_err_and}
use Rattle.journal.proofs.Ends.{some_words, end-small, struck-not, struck-stand, struck-more, struck-done}
use Rattle.journal.proofs.call.strike.Goals as goal

pub returns-in_err-survey : goal.returns-in_err-survey
returns-in_err-survey c =
    let p = err_from_is_err_and c.from_residual.result c.from_residual.ensures.1 in
    let t = struck-not _ _ (sym c.in_err-survey.ensures) in
    record { answer = rw (p.1, p.2) t.0; words_left = t.1 }

pub returns-then-survey-n : goal.returns-then-survey-n
returns-then-survey-n c =
    let t = struck-more _ _ _ _ _ _ (sym c.in_ok-survey.ensures) c.if-survey-n.true in
    record { answer = t.0; words_left = t.1 }

pub end_before-end-requires : goal.end_before-end-requires
end_before-end-requires c = struck-stand _ _ _ _ _ _ (sym c.in_ok-survey.ensures) c.if-survey-n.false

pub overflow_cast-journal : goal.overflow_cast-journal
overflow_cast-journal c = omega (arith, c.end_before-end.ensures, end-small _ _ (struck-stand _ _ _ _ _ _ (sym c.in_ok-survey.ensures) c.if-survey-n.false))

pub overflow_add-journal : goal.overflow_add-journal
overflow_add-journal c = omega (arith, c.end_before-end.ensures, end-small _ _ (struck-stand _ _ _ _ _ _ (sym c.in_ok-survey.ensures) c.if-survey-n.false))

pub bounds-journal-0 : goal.bounds-journal-0
bounds-journal-0 c = some_words _ _ (struck-stand _ _ _ _ _ _ (sym c.in_ok-survey.ensures) c.if-survey-n.false).reads

pub returns : goal.returns
returns c =
    let t = struck-done _ _ _ _ _ _ (sym c.in_ok-survey.ensures) c.if-survey-n.false _ c.end_before-end.ensures in
    record { answer = t.0; words_left = t.1 }
