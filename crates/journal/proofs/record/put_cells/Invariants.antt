-- What the loop of `journal::record::put_cells` keeps.
use mathlib.Core.Path.{◌≡◌}
use lib.Seq.{sets}
use lib.ListN.{length, take}
use Rattle.journal.specs.Record.{first_cell, cell_words}
use Rattle.journal.specs.inner.Row.{cells_of}
use Rattle.journal.specs.inner.Fix.{candidates_in}
use Rattle.journal.specs.Lists.{flat}
use Rattle.journal.proofs.record.put_cells.Given as goal

abbrev pub invariant-loop-k : goal.invariant-loop-k
invariant-loop-k l = (length l.words ≡ length l.initial.words)
    × (l.words ≡ sets l.initial.words first_cell (flat cell_words (take l.k (cells_of (candidates_in l.fix) l.parents l.scores))))
