-- What the loop of `routing::states::write_back` keeps.
use mathlib.Core.Path.{◌≡◌}
use mathlib.Core.List.{reverse_aux}
use Prim.Native.Nat.{◌≤◌, ◌<◌}
use lib.ListN.{length, drop}
use Rattle.routing.specs.Route.{states_back}
use Rattle.routing.proofs.states.write_back.Given as goal

abbrev pub invariant-loop-i : goal.invariant-loop-i
invariant-loop-i l = (l.i ≤ l.n)
    × (l.at < 4096)
    × (length l.states ≡ length l.initial.states)
    × (reverse_aux (states_back l.preds l.i l.at) (drop l.i l.states) ≡ reverse_aux (states_back l.preds l.n l.s) (drop l.n l.initial.states))

abbrev pub decreases-loop-i : goal.decreases-loop-i
decreases-loop-i l = l.i
