-- What the loop of `journal::buffer::copy_fields` keeps.
use mathlib.Core.Path.{◌≡◌}
use Prim.Native.Nat.{◌+◌, ◌*◌, ◌/◌, ◌%◌}
use lib.ListN.{length, get_or}
use Rattle.journal.specs.Record.{first_cell}
use Rattle.journal.specs.inner.Buffer.{entries_stored}
use Rattle.journal.proofs.buffer.copy_fields.Given as goal

abbrev pub invariant-loop-k : goal.invariant-loop-k
invariant-loop-k l = (length l.buffer ≡ length l.initial.buffer) × (l.buffer ≡ entries_stored l.k (λ j. get_or l.words (first_cell + 7 * j) 0 / l.unit % l.limit) l.initial.buffer)
