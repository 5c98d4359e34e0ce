-- What is asked of words and buffers where the fields of a record are read into buffers, and what the loops store.
use Rattle.std.specs.Prelude.{ℕ, ◌+◌, ◌*◌, ◌<◌, ◌≤◌, List, length, set, Float}
use Rattle.lists.specs.Loops.{up_to}
use Rattle.journal.specs.Row.{row_size}
use Rattle.journal.specs.Record.{first_cell, read_row, record_length}
use Rattle.journal.specs.Ranges.{candidate_limit}

-- the first n entries by their numbers, one after the other
abbrev pub entries_stored : {A : Type 0} → ℕ → (ℕ → A) → List A → List A
entries_stored n g buffer = up_to n (λ k l. set l k (g k)) buffer

-- the first words of n candidates, a field with a unit and a limit, and room
pub record FieldsStand (words : List ℕ) (n unit limit : ℕ) (buffer : List ℕ) : Type 0 where
  pub inside : first_cell + 7 * n ≤ length words
  pub some-unit : 0 < unit
  pub some-limit : 0 < limit
  pub room : n ≤ length buffer

-- n floats so many words apart, and room
pub record FloatsStand (words : List ℕ) (place apart n : ℕ) (buffer : List Float) : Type 0 where
  pub inside : (k : ℕ) → k < n → place + apart * k + 1 < length words
  pub small : place + apart * n < 4294967296
  pub room : n ≤ length buffer

-- the words begin with a row's record
pub record RecordWhole (words : List ℕ) : Type 0 where
  pub few : row_size (read_row words) ≤ candidate_limit
  pub few-before : (read_row words).before ≤ candidate_limit
  pub room : record_length (row_size (read_row words)) (read_row words).before ≤ length words
