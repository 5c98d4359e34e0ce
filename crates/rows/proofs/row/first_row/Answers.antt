-- `rows::row::first_row` meets its contract.
use native.Mathlib.Omega.{arith}
use Rattle.journal.proofs.Gathered.{count-in}
use Rattle.rows.proofs.Filled.{listed-turn, listed-done}
use Rattle.rows.proofs.row.first_row.Goals as goal

pub loop-i-preserved : goal.loop-i-preserved
loop-i-preserved c = listed-turn c.loop-i.invariant (omega arith) (rw c.own_candidate-b.ensures)

pub returns : goal.returns
returns c = listed-done c.loop-i.invariant (omega (arith, count-in _ c.requires))
