-- `journal::read::minute_reads` meets its contract.
use mathlib.Core.Bool.{true, false}
use mathlib.Core.Path.{◌∙◌}
use borrow.Author.Tests.{eq-eqb, ne_eqb}
use Rattle.journal.proofs.Tests.{minute-by}
use Rattle.journal.proofs.read.minute_reads.Goals as goal

pub returns-then-word-eq8 : goal.returns-then-word-eq8
returns-then-word-eq8 c = let s = c.args in
    minute-by s.since s.word true (eq-eqb _ _ c.if-word-eq8.true)

pub returns-else-word-eq8 : goal.returns-else-word-eq8
returns-else-word-eq8 c = let s = c.args in
    ne_eqb _ _ c.if-word-eq8.false ∙ minute-by s.since s.word false (ne_eqb _ _ c.if-word-eq8.false)
