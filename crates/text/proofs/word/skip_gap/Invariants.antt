-- What the loop of `text::word::skip_gap` keeps.
use Prim.Native.Nat.{◌+◌}
use mathlib.Core.Path.{◌≡◌}
use mathlib.Core.Bool.{false}
use lib.ListN.{drop}
use Rattle.text.specs.inner.Words.{gap}
use Rattle.text.proofs.word.skip_gap.Given as goal

abbrev pub invariant-loop-i : goal.invariant-loop-i
invariant-loop-i l = l.at + gap false (drop l.at l.text) ≡ l.i + gap l.comment (drop l.i l.text)
