-- What the loop of `closing::walk::write_path` keeps.
use mathlib.Core.Path.{◌≡◌}
use Prim.Native.Nat.{◌+◌}
use lib.ListN.{length}
use Rattle.closing.specs.inner.Walk.{Reached, path_from, column}
use Rattle.closing.specs.Close.{pair_row, pair_candidate}
use Rattle.closing.proofs.Storing.{Column}
use Rattle.closing.proofs.walk.write_path.Given as goal

abbrev pub invariant-loop-b : goal.invariant-loop-b
invariant-loop-b l = Reached l.journal l.b
    × (l.b.pairs + length (path_from l.journal l.b) ≡ l.n)
    × Column l.journal l.n pair_row (column pair_row (path_from l.journal l.initial.b) l.n l.initial.rows) (length l.initial.rows) l.b l.rows
    × Column l.journal l.n pair_candidate (column pair_candidate (path_from l.journal l.initial.b) l.n l.initial.candidates) (length l.initial.candidates) l.b l.candidates

abbrev pub decreases-loop-b : goal.decreases-loop-b
decreases-loop-b l = l.b.rows
