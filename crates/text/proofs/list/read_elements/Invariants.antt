-- What the loop of `text::list::read_elements` keeps.
use mathlib.Core.Path.{◌≡◌}
use Rattle.lists.specs.Loops.{up_to}
use Rattle.text.specs.inner.Lists.{elements_read_of, element}
use Rattle.text.proofs.list.read_elements.Given as goal

abbrev pub invariant-loop-k : goal.invariant-loop-k
invariant-loop-k l = elements_read_of l.cursor l.lengths l.headings l.flags ≡ up_to l.k (element l.text) (elements_read_of l.initial.cursor l.initial.lengths l.initial.headings l.initial.flags)
