-- What the loop of `text::list::read_candidates` keeps.
use mathlib.Core.Path.{◌≡◌}
use Rattle.lists.specs.Loops.{up_to}
use Rattle.text.specs.inner.Lists.{candidates_read_of, candidate}
use Rattle.text.proofs.list.read_candidates.Given as goal

abbrev pub invariant-loop-k : goal.invariant-loop-k
invariant-loop-k l = candidates_read_of l.cursor l.elements l.intrinsics l.near l.raw_logs ≡ up_to l.k (candidate l.text) (candidates_read_of l.initial.cursor l.initial.elements l.initial.intrinsics l.initial.near l.initial.raw_logs)
