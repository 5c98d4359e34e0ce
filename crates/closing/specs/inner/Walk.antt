-- The walk back along the parents, record by record.
use Rattle.std.specs.Prelude.{ℕ, suc, ◌+◌, ◌-◌, ◌<◌, ◌≤◌, ◌≡◌, cond, ltb, length, drop, set, Some, Ok}
use mathlib.Core.List.{List, [], ◌∷◌, map, reverse, reverse_aux}
use Rattle.std.proofs.Math.Option.{some}
use Rattle.journal.specs.Row.{Row, no_parent, cell_of, scores, predecessor, size_of}
use Rattle.journal.specs.Journal.{words, predecessor_place, read_journal}
use Rattle.journal.specs.inner.Check.{survey}
use Rattle.journal.specs.inner.Rows.{rows_in}
use Rattle.journal.specs.declared.check.Predecessor.{Predecessor}
use Rattle.journal.specs.declared.check.Survey.{Survey}
use Rattle.decoder.specs.Closing.{Pairs, path, follow, closing}
use Rattle.closing.specs.Close.{PairField}
use Rattle.closing.specs.declared.start.Start.{Start}
use Rattle.closing.specs.declared.walk.Back.{Back}

-- the first n rows of a journal that is well formed
abbrev pub first_rows : List ℕ → ℕ → List Row
first_rows s n = drop (length (rows_in s) - n) (rows_in s)

-- the walk stands at a place of the journal s: so many rows are left, their records end there, the latest of them that scores has its place, and the
-- candidate is one of that row, or none
pub record Reached (s : List ℕ) (b : Back) : Type 0 where
  pub reads : read_journal s ≡ some (rows_in s)
  pub within : b.pairs + b.rows ≤ length (rows_in s)
  pub placed : b.end ≡ suc (length (words (first_rows s b.rows)))
  pub names : b.latest ≡ predecessor_place (first_rows s b.rows)
  pub enters : (b.candidate ≡ no_parent → ⊥) → b.candidate < size_of (predecessor (first_rows s b.rows))

-- and has a record to go over
pub record RecordLeft (s : List ℕ) (b : Back) : Type 0 where
  pub reached : Reached s b
  pub left : 0 < b.rows
  pub parent : b.candidate ≡ no_parent → ⊥

-- the pairs still to come, the last one first
abbrev pub path_from : List ℕ → Back → Pairs
path_from s b = follow (first_rows s b.rows) b.candidate

-- over the record of the newest of these rows: a pair where it scores
unfoldable pub over : List Row → Back → Back
over [] b = b
over (r ∷ rs) b =
    cond (scores r)
    (record { rows = length rs; end = suc (length (words rs)); latest = predecessor_place rs; candidate = (cell_of r b.candidate).parent; pairs = b.pairs + 1 })
    (record { rows = length rs; end = suc (length (words rs)); latest = predecessor_place rs; candidate = b.candidate; pairs = b.pairs })

-- a buffer for n pairs after a step from b to c, where x is the step's entry of it, if it gave a pair
unfoldable pub pair_stored : Back → Back → ℕ → ℕ → List ℕ → List ℕ
pair_stored b c n x buffer = cond (ltb b.pairs c.pairs) (set buffer (n - c.pairs) x) buffer

-- ---- what the buffers hold

-- n pairs, the last one first, from the last entry down, and past them what the buffer held
unfoldable pub column : PairField → Pairs → ℕ → List ℕ → List ℕ
column f w n buffer = reverse_aux (map f w) (drop n buffer)

-- ---- where the walk starts

-- check 7 found these rows, and the last of them that scores
pub record Scoring (s : List ℕ) (found : Survey) (last : Predecessor) : Type 0 where
  pub surveyed : survey s ≡ Ok found
  pub latest : found.latest ≡ Some last

-- at the end of the best path, before its last pair
pub record Started (s : List ℕ) (x : Start) : Type 0 where
  pub reached : Reached s x.back
  pub no_pairs : x.back.pairs ≡ 0
  pub closes : closing (rows_in s) ≡ path (reverse (path_from s x.back)) x.score
