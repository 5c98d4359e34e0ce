-- What the loop of `transition::pair::within_full_turn` keeps: 45 * 2 ^ 3 is 360.
use Rattle.std.proofs.Common.{◌≡◌, ◌-◌}
use lib.IntN.{pos}
use lib.Ieee.{fin}
use mathlib.Core.Bool.{false}
use Rattle.transition.proofs.FullTurns.{Kept}
use Rattle.transition.proofs.pair.within_full_turn.Given as goal

abbrev pub invariant-loop-i : goal.invariant-loop-i
invariant-loop-i l = (l.turns ≡ fin false 45 (pos (1018 - l.i))) × Kept l.x l.rest (1016 - l.i)
