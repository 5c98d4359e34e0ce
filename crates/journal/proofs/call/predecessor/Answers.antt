-- `journal::call::predecessor` meets its contract.
use native.Mathlib.Omega.{arith}
use mathlib.Core.Path.{sym, ap, ◌∙◌}
use Rattle.std.specs.Prelude.{Err}
use Rattle.journal.proofs.Ends.{survey-refused}
use Rattle.journal.proofs.Preceding.{preceding-not, preceding-told, row_fits}
use Rattle.journal.proofs.call.predecessor.Goals as goal

pub returns-in_default : goal.returns-in_default
returns-in_default c = ap Err (sym (survey-refused _ (sym c.in_default.ensures))) ∙ preceding-not _ (sym c.in_default.ensures)

pub overflow_cast-result : goal.overflow_cast-result
overflow_cast-result c = omega (arith, row_fits _ _ _ _ _ (sym c.in-Ok.ensures) _ _ _ c.in-Some.is)

pub returns-in-None : goal.returns-in-None
returns-in-None c = preceding-told _ _ _ _ _ (sym c.in-Ok.ensures) _ c.in-None.is

pub returns-in-Some : goal.returns-in-Some
returns-in-Some c = preceding-told _ _ _ _ _ (sym c.in-Ok.ensures) _ c.in-Some.is
