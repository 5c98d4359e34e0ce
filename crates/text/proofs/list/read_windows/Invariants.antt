-- What the loop of `text::list::read_windows` keeps.
use mathlib.Core.Path.{◌≡◌}
use Rattle.lists.specs.Loops.{up_to}
use Rattle.text.specs.inner.Lists.{windows_read_of, window}
use Rattle.text.proofs.list.read_windows.Given as goal

abbrev pub invariant-loop-k : goal.invariant-loop-k
invariant-loop-k l = windows_read_of l.cursor l.firsts l.lasts ≡ up_to l.k (window l.text) (windows_read_of l.initial.cursor l.initial.firsts l.initial.lasts)
