-- What the loop of `text::number::read_whole` keeps.
use Prim.Native.Nat.{◌<◌}
use mathlib.Core.Path.{◌≡◌}
use lib.ListN.{drop}
use Rattle.text.specs.inner.Numbers.{value_below}
use Rattle.text.proofs.number.read_whole.Given as goal

abbrev pub invariant-loop-b : goal.invariant-loop-b
invariant-loop-b l = (l.value < l.limit) × (value_below l.base l.limit l.n l.bytes ≡ value_below l.base l.limit l.value (drop l.b-index l.bytes))
