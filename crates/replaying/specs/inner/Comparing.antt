-- Comparing rows as the code comes by it: record by record from the front of the journal, a stretch of rows of one minute at a time.
use Rattle.std.specs.Prelude.{ℕ, suc, ◌<◌, ◌≤◌, ◌≡◌, Bool, true, false, ◌&&◌, Some, None, List, T, eqb, length, Float}
use Rattle.std.proofs.Math.Option.{some}
use Rattle.std.specs.Float.{binary64}
use Rattle.std.specs.Float.Ieee.{to_bits}
use Rattle.network.specs.Graph.{element_count}
use Rattle.journal.specs.Lists.{each, starts}
use Rattle.journal.specs.Row.{Cell, Row, row_size, cell_of, row_number, fix_of, before_of}
use Rattle.journal.specs.Record.{record_of, read_row}
use Rattle.journal.specs.Journal.{words, used, read_journal}
use Rattle.journal.specs.inner.Buffer.{RecordWhole}
use Rattle.journal.specs.inner.Rows.{rows_before}
use Rattle.transition.specs.Track.{Track}
use Rattle.transition.specs.inner.Track.{TrackFits}
use Rattle.rows.specs.Row.{StepScore, StepsAt, row}
use Rattle.rows.specs.inner.Scoring.{RecordKnown, predecessor_in}
use Rattle.decoder.specs.Call.{known_row}
use Rattle.replaying.specs.Replay.{same_record, first_differing}
use Rattle.replaying.specs.declared.compare.Reached.{Reached}

-- ---- one row

-- a candidate has this parent and, in bits, this score
unfoldable pub same_cell : Cell → ℕ → Float → Bool
same_cell c parent score = eqb c.parent parent && eqb (to_bits binary64 c.score) (to_bits binary64 score)

-- what is asked of the words of a row's record and of its predecessor's, each at the head of some words: a track that fits, known elements, none
-- counted of a predecessor by an empty row, and a predecessor where the row counts candidates of one
pub record RecordsStand (t : Track) (own previous : List ℕ) : Type 0 where
  pub fits : TrackFits t
  pub whole : RecordWhole own
  pub element : (i : ℕ) → i < row_size (read_row own) → (cell_of (read_row own) i).candidate.element < element_count t.graph
  pub empty : (read_row own).before ≡ before_of (read_row own).before (row_size (read_row own))
  pub predecessor : 0 < (read_row own).before → RecordKnown (element_count t.graph) previous (read_row own).before

-- the row at the head of the words is that of its fix on its predecessor, word by word
unfoldable pub same_row : StepScore → List ℕ → List ℕ → Bool
same_row step own previous =
    let r = read_row own in
    starts (record_of 0 (row step (predecessor_in previous r.before) (fix_of r))) (record_of 0 r)

-- ---- row by row

-- the words s hold these rows, whose elements are known in a network of n elements, and their used words end at `end`
pub record Replayable (n : ℕ) (rs : List Row) (s : List ℕ) (end : ℕ) : Type 0 where
  pub reads : read_journal s ≡ some rs
  pub ends : used s ≡ end
  pub known : T (each (known_row n) rs)

-- the record of a row starts at `at`; past the last row the used words end there
pub record StandsAt (rs : List Row) (row at : ℕ) : Type 0 where
  pub within : row ≤ length rs
  pub placed : at ≡ suc (length (words (rows_before rs row)))

-- row number n is of this minute, and whether its record is what feeding writes by the steps at that minute
pub record SameAt (step : StepScore) (minute : ℕ) (rs : List Row) (n : ℕ) (same : Bool) : Type 0 where
  pub stands : n < length rs
  pub minute-is : (row_number rs n).minute ≡ minute
  pub is : same_record step (rows_before rs n) (row_number rs n) ≡ same

-- from the row `start` on, in a stretch of rows of one minute, all rows before the one reached are the same, at least one
pub record Stretch (step : StepScore) (minute : ℕ) (rs : List Row) (start : ℕ) (r : Reached) : Type 0 where
  pub stands : StandsAt rs r.row r.at
  pub onward : start < r.row
  pub same_rows : (n : ℕ) → start ≤ n → n < r.row → SameAt step minute rs n true

-- and where row number n differs, all before it are the same
pub record Differing (step : StepScore) (minute : ℕ) (rs : List Row) (start n : ℕ) : Type 0 where
  pub from_start : start ≤ n
  pub same_rows : (k : ℕ) → start ≤ k → k < n → SameAt step minute rs k true
  pub differs : SameAt step minute rs n false

-- from the first row on: no row before the one reached differs
pub record Compared (step : StepsAt) (rs : List Row) (r : Reached) : Type 0 where
  pub stands : StandsAt rs r.row r.at
  pub so_far : first_differing step (rows_before rs r.row) ≡ None

-- row number n is the first that differs
abbrev pub FirstDiffers : StepsAt → List Row → ℕ → Type 0
FirstDiffers step rs n = first_differing step rs ≡ Some n
