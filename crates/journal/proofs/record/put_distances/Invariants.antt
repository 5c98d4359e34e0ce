-- What the loop of `journal::record::put_distances` keeps.
use Prim.Native.Nat.{◌+◌}
use mathlib.Core.Path.{◌≡◌}
use lib.Seq.{sets}
use lib.ListN.{length, take}
use Rattle.journal.specs.Record.{float_words}
use Rattle.journal.specs.Lists.{flat}
use Rattle.journal.proofs.record.put_distances.Given as goal

abbrev pub invariant-loop-k : goal.invariant-loop-k
invariant-loop-k l = (length l.words ≡ length l.initial.words) × (l.words ≡ sets l.initial.words (l.at + 1) (flat float_words (take l.k l.distances)))
