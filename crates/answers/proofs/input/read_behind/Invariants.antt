-- The loop of `answers::input::read_behind` ends: each turn reads at least one of the bytes that are left.
use Rattle.std.proofs.Common.{length, ◌-◌}
use Rattle.answers.proofs.input.read_behind.Given as goal

abbrev pub decreases-loop-end : goal.decreases-loop-end
decreases-loop-end l = length l.initial.text - l.end
