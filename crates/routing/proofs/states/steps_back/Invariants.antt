-- What the loop of `routing::states::steps_back` keeps.
use mathlib.Core.Path.{◌≡◌}
use Prim.Native.Nat.{◌+◌, ◌-◌, ◌≤◌, ◌<◌}
use Rattle.routing.specs.Route.{steps_back}
use Rattle.routing.proofs.states.steps_back.Given as goal

abbrev pub invariant-loop-n : goal.invariant-loop-n
invariant-loop-n l = (l.n ≤ l.most) × (l.at < 4096) × (l.n + steps_back l.preds l.start (l.most - l.n) l.at ≡ steps_back l.preds l.start l.most l.s)

abbrev pub decreases-loop-n : goal.decreases-loop-n
decreases-loop-n l = l.most - l.n
