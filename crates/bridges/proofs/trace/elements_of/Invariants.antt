-- What the loop of `bridges::trace::elements_of` keeps.
use Rattle.bridges.proofs.Tracing.{Tracing}
use Rattle.bridges.proofs.trace.elements_of.Given as goal

abbrev pub invariant-loop-state : goal.invariant-loop-state
invariant-loop-state l = Tracing l.previous l.next l.states l.elements l.count l.state-index
