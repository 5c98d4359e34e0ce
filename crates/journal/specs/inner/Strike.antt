-- The records of the last rows, as striking finds them.
use Rattle.std.specs.Prelude.{ℕ, suc, ◌≤◌, ◌≡◌, List, length, drop}
use Rattle.std.proofs.Math.Option.{Option, none, some}
use Rattle.journal.specs.Row.{Row}
use Rattle.journal.specs.Journal.{words, read_journal}

-- at least n rows stand
pub record RowsAtLeast (s : List ℕ) (n : ℕ) : Type 0 where
  pub rows : List Row
  pub reads : read_journal s ≡ some rows
  pub enough : n ≤ length rows

abbrev pub end_read : ℕ → Option (List Row) → ℕ
end_read n none = 0
end_read n (some rs) = suc (length (words (drop n rs)))

-- where the records of the last n rows start
unfoldable pub end_of : List ℕ → ℕ → ℕ
end_of s n = end_read n (read_journal s)
