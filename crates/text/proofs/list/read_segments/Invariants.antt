-- What the loop of `text::list::read_segments` keeps.
use mathlib.Core.Path.{◌≡◌}
use Rattle.lists.specs.Loops.{up_to}
use Rattle.text.specs.inner.Lists.{segments_read_of, segment}
use Rattle.text.proofs.list.read_segments.Given as goal

abbrev pub invariant-loop-k : goal.invariant-loop-k
invariant-loop-k l = segments_read_of l.cursor l.elements l.starts l.ends l.firsts l.lasts ≡ up_to l.k (segment l.text) (segments_read_of l.initial.cursor l.initial.elements l.initial.starts l.initial.ends l.initial.firsts l.initial.lasts)
