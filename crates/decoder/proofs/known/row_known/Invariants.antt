-- What the loop of `decoder::known::row_known` keeps.
use mathlib.Core.Path.{◌≡◌}
use mathlib.Core.Bool.{true}
use Prim.Native.Nat.{◌+◌, ◌*◌, ◌%◌}
use lib.ListN.{get_or}
use lib.Dec.{ltb}
use Rattle.lists.specs.Loops.{every_below}
use Rattle.journal.specs.Record.{first_cell}
use Rattle.decoder.proofs.known.row_known.Given as goal

abbrev pub invariant-loop-i : goal.invariant-loop-i
invariant-loop-i l = every_below l.i (λ j. ltb (get_or l.words (first_cell + 7 * j) 0 % 1024) l.known) ≡ true
