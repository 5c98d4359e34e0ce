-- What the loop of `text::list::read_relations` keeps.
use mathlib.Core.Path.{◌≡◌}
use Rattle.lists.specs.Loops.{up_to}
use Rattle.text.specs.inner.Lists.{relations_read_of, relation}
use Rattle.text.proofs.list.read_relations.Given as goal

abbrev pub invariant-loop-k : goal.invariant-loop-k
invariant-loop-k l = relations_read_of l.cursor l.from l.to l.from_side l.to_side l.forward l.backward ≡ up_to l.k (relation l.text) (relations_read_of l.initial.cursor l.initial.from l.initial.to l.initial.from_side l.initial.to_side l.initial.forward l.initial.backward)
