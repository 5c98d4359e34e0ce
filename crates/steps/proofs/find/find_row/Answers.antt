-- `steps::find::find_row` meets its contract.
use mathlib.Core.Path.{sym, ◌∙◌}
use Rattle.std.proofs.lemmas.Result.{err_from_is_err_and}
use Rattle.decoder.proofs.KnownRows.{rows-stand}
use Rattle.steps.proofs.Earlier.{row-stands, found-not, found-unknown, found-past, found-row}
use Rattle.steps.proofs.find.find_row.Goals as goal

pub returns-in_err-survey : goal.returns-in_err-survey
returns-in_err-survey c =
    let p = err_from_is_err_and c.from_residual.result c.from_residual.ensures.1 in
    rw (p.1, p.2) (found-not _ _ _ (sym c.read_journal.ensures ∙ c.in_err-survey.was))

pub rows_known-requires : goal.rows_known-requires
rows_known-requires c = rows-stand _ _ (sym c.read_journal.ensures ∙ c.in_ok-survey.was)

pub returns-then-not-rows_known : goal.returns-then-not-rows_known
returns-then-not-rows_known c = found-unknown _ _ _ (sym c.read_journal.ensures ∙ c.in_ok-survey.was) (sym c.rows_known.ensures ∙ c.if-not-rows_known.true)

pub returns-then-survey-row : goal.returns-then-survey-row
returns-then-survey-row c = found-past _ _ _ (sym c.read_journal.ensures ∙ c.in_ok-survey.was) (sym c.rows_known.ensures ∙ c.if-not-rows_known.false) c.if-survey-row.true

pub find_predecessor-requires : goal.find_predecessor-requires
find_predecessor-requires c = row-stands c.args.known _ _ (sym c.read_journal.ensures ∙ c.in_ok-survey.was) c.if-survey-row.false

pub returns : goal.returns
returns c = found-row _ _ _ (sym c.read_journal.ensures ∙ c.in_ok-survey.was) (sym c.rows_known.ensures ∙ c.if-not-rows_known.false) c.if-survey-row.false c.find_predecessor.ensures
