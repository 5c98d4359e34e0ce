-- What the loop of `journal::buffer::copy_floats` keeps.
use mathlib.Core.Path.{◌≡◌}
use Prim.Native.Nat.{◌+◌, ◌*◌}
use lib.ListN.{length}
use Rattle.journal.specs.Record.{float_at}
use Rattle.journal.specs.inner.Buffer.{entries_stored}
use Rattle.journal.proofs.buffer.copy_floats.Given as goal

abbrev pub invariant-loop-k : goal.invariant-loop-k
invariant-loop-k l = (length l.buffer ≡ length l.initial.buffer)
    × (l.buffer ≡ entries_stored l.k (λ j. float_at l.words (l.place + l.apart * j)) l.initial.buffer)
