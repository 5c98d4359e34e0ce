-- `rows::row::score_row` meets its contract.
use mathlib.Core.Path.{ap}
use native.Mathlib.Omega.{arith}
use Rattle.rows.specs.declared.previous.Previous.{Previous}
use Rattle.journal.proofs.Gathered.{count-in}
use Rattle.rows.proofs.Filled.{filled_none, filled-turn, filled-done, listed-at}
use Rattle.rows.proofs.Rows.{first-scored, row-stored}
use Rattle.rows.proofs.row.score_row.Goals as goal
use Rattle.rows.proofs.row.score_row.Goals.{then-first, else-first}

pub loop-i-init : goal.loop-i-init
loop-i-init c = record {
  listed = elim c.if-first.branch [
    | then-first w ↦ rw w.row-is (first-scored _ _ _ _ w.if-first.true w.first_row-row.ensures)
    | else-first w ↦ rw w.row-is w.next_row-row.ensures
  ];
  filled = filled_none _ _ _;
}

pub loop-i-preserved : goal.loop-i-preserved
loop-i-preserved c =
    let many = count-in _ c.requires.entries16 in
    let asked = c.requires.scorable in
    let listed = c.loop-i.invariant.listed in
    record {
      listed = listed;
      filled = filled-turn _ _ c.loop-i.invariant.filled (omega (arith, many, asked.parents-long)) (omega (arith, many, asked.scores-long))
          (ap (λ (b : Previous). b.candidate) (listed-at _ listed (omega (arith, many)) asked.few))
          (ap (λ (b : Previous). b.score) (listed-at _ listed (omega (arith, many)) asked.few));
    }

pub returns : goal.returns
returns c = row-stored _ _ _ _ (filled-done c.loop-i.invariant.filled (omega (arith, count-in _ c.requires.entries16)))
