-- The rows of a journal, newest first.
use Rattle.std.specs.Prelude.{ℕ, ◌-◌, List, [], length, drop}
use Rattle.std.proofs.Math.Option.{Option, none, some}
use Rattle.journal.specs.Row.{Row}
use Rattle.journal.specs.Journal.{read_journal}

-- those that were read, none where the words are not well formed
abbrev pub rows_read : Option (List Row) → List Row
rows_read none = []
rows_read (some rs) = rs

abbrev pub rows_in : List ℕ → List Row
rows_in s = rows_read (read_journal s)

-- those before row number n
abbrev pub rows_before : List Row → ℕ → List Row
rows_before rs n = drop (length rs - n) rs
