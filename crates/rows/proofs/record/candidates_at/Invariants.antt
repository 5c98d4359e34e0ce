-- What the loop of `rows::record::candidates_at` keeps.
use Rattle.journal.specs.Row.{fix_of}
use Rattle.journal.specs.Record.{read_row}
use Rattle.journal.proofs.Gathered.{Gathered}
use Rattle.rows.proofs.record.candidates_at.Given as goal

abbrev pub invariant-loop-i : goal.invariant-loop-i
invariant-loop-i l = Gathered (fix_of (read_row l.words)).candidates l.i l.list
