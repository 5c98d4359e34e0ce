-- `journal::read::cell_reads` meets its contract.
use borrow.Author.Rules.{rules}
use Rattle.std.proofs.lemmas.Grind.{common_steps}
use Rattle.journal.proofs.Tests.{cell-at-test}
use native.Mathlib.Omega.{arith}
use Rattle.journal.proofs.read.cell_reads.Goals as goal

pub returns-then-parent_ok : goal.returns-then-parent_ok
returns-then-parent_ok c = let s = c.args in
    rw (cell-at-test s.p s.row s.at s.words.now (search rules) (omega arith)) (grind (arith, common_steps))

pub returns-else-parent_ok : goal.returns-else-parent_ok
returns-else-parent_ok c = let s = c.args in
    rw (cell-at-test s.p s.row s.at s.words.now (search rules) (omega arith)) (grind (arith, common_steps))
