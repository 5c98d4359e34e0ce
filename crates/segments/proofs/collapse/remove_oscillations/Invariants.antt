-- What the loop of `segments::collapse::remove_oscillations` keeps.
use Rattle.std.proofs.Common.{◌≡◌}
use Rattle.segments.specs.Collapse.{collapsing}
use Rattle.segments.proofs.Invariant.{Inv, coming, turns_left}
use Rattle.segments.proofs.collapse.remove_oscillations.Given as goal

abbrev pub invariant-loop-at : goal.invariant-loop-at
invariant-loop-at l = Inv l.stage l.segments l.decisions × (coming l.stage l.segments l.decisions ≡ collapsing l.initial.segments l.initial.decisions)

abbrev pub decreases-loop-at : goal.decreases-loop-at
decreases-loop-at l = turns_left l.stage
