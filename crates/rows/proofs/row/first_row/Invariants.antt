-- What the loop of `rows::row::first_row` keeps.
use lib.ListN.{get_or}
use Rattle.rows.specs.inner.Scoring.{Listed}
use Rattle.journal.specs.Row.{no_parent, no_candidate}
use Rattle.journal.specs.inner.Fix.{candidates_in}
use Rattle.rows.proofs.row.first_row.Given as goal

abbrev pub invariant-loop-i : goal.invariant-loop-i
invariant-loop-i l = Listed l.i (λ k. (no_parent, (get_or (candidates_in l.fix) k no_candidate).raw_log)) l.row
