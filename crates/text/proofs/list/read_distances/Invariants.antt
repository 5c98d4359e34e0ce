-- What the loop of `text::list::read_distances` keeps.
use mathlib.Core.Path.{◌≡◌}
use mathlib.Core.List.{List}
use lib.Ieee.{Float}
use Rattle.lists.specs.Loops.{up_to}
use Rattle.text.specs.inner.Lists.{float_into}
use Rattle.text.specs.declared.cursor.Cursor.{Cursor}
use Rattle.text.proofs.list.read_distances.Given as goal

abbrev pub invariant-loop-k : goal.invariant-loop-k
invariant-loop-k l = ◌≡◌ {A = Cursor × List Float} (l.cursor, l.distances) (up_to l.k (λ j s. float_into l.text j s.0 s.1) (l.initial.cursor, l.initial.distances))
