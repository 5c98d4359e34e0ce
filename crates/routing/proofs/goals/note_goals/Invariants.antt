-- What the loop of `routing::goals::note_goals` keeps.
use mathlib.Core.Path.{◌≡◌}
use Prim.Native.Nat.{◌-◌, ◌≤◌}
use lib.ListN.{length}
use Rattle.routing.proofs.Noting.{Noting}
use Rattle.routing.proofs.goals.note_goals.Given as goal

abbrev pub invariant-loop-k : goal.invariant-loop-k
invariant-loop-k l = (l.k-end ≡ length l.goals) × (l.k ≤ l.k-end) × Noting l.goals l.v l.cost l.initial.found l.k l.found l.waiting

abbrev pub decreases-loop-k : goal.decreases-loop-k
decreases-loop-k l = l.k-end - l.k
