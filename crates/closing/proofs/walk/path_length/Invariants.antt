-- What the loop of `closing::walk::path_length` keeps.
use mathlib.Core.Path.{◌≡◌}
use Prim.Native.Nat.{◌+◌}
use lib.ListN.{length}
use Rattle.closing.specs.inner.Walk.{Reached, path_from}
use Rattle.closing.proofs.walk.path_length.Given as goal

abbrev pub invariant-loop-b : goal.invariant-loop-b
invariant-loop-b l = Reached l.journal l.b × (l.b.pairs + length (path_from l.journal l.b) ≡ l.initial.b.pairs + length (path_from l.journal l.initial.b))

abbrev pub decreases-loop-b : goal.decreases-loop-b
decreases-loop-b l = l.b.rows
