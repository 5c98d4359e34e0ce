-- A row's record at the head of some words, as the walk reads it. Assumes nothing.
use Prim.Native.Nat.{ℕ, ◌+◌, ◌*◌, ◌<◌, ◌≤◌}
use native.Mathlib.Omega.{arith}
use mathlib.Core.List.{List}
use lib.ListN.{length}
use Rattle.journal.specs.Row.{row_size}
use Rattle.journal.specs.Record.{first_cell, read_row}
use Rattle.rows.specs.inner.Scoring.{CandidateStands}

pub row-candidate : (ws : List ℕ) → first_cell + 7 * row_size (read_row ws) ≤ length ws → (i : ℕ) → i < row_size (read_row ws) → CandidateStands ws i
row-candidate ws h i l = record { below = l; room = omega arith }
