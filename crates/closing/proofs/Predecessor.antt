-- The row of which the call `predecessor` tells, read back by its number, is the row that the next fix is scored on. Assumes nothing.
use Prim.Native.Nat.{ℕ}
use mathlib.Core.Path.{◌≡◌, ap, ◌∙◌}
use mathlib.Core.List.{List}
use mathlib.Core.Option.{some}
use borrow.Author.Tests.{lt-ltb}
use Rattle.journal.specs.Row.{Row, no_row, predecessor, predecessor_number}
use Rattle.journal.specs.Journal.{read_journal}
use Rattle.journal.proofs.Preceding.{number_at}
use Rattle.closing.specs.Row.{RowBuffers, row_fitted, reading_read, reading}

pub predecessor-read : (s : List ℕ) (rs : List Row) (p : Row) (b : RowBuffers) → read_journal s ≡ some rs → predecessor rs ≡ some p → reading s (predecessor_number rs) b ≡ row_fitted b p
unfolding reading
predecessor-read s rs p b e q =
    let v = number_at rs p no_row q in
    ap (reading_read (predecessor_number rs) b) e ∙ rw (lt-ltb _ _ v.0, v.1)
