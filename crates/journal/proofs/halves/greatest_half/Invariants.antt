-- What the loop of `journal::halves::greatest_half` keeps.
use Prim.Native.Nat.{ℕ, ◌+◌, ◌*◌, ◌<◌, ◌≤◌}
use lib.ListN.{get_or}
use Rattle.journal.proofs.halves.greatest_half.Given as goal

abbrev pub invariant-loop-k : goal.invariant-loop-k
invariant-loop-k l = (j : ℕ) → j < l.k → get_or l.words (l.at + 2 * j) 0 ≤ l.greatest
