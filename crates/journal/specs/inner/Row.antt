-- A row as the code writes it, and what is asked of it.
use Rattle.std.specs.Prelude.{ℕ, ◌*◌, ◌<◌, ◌≤◌, ◌≡◌, Bool, ◌&&◌, List, leb, length, get_or, Float}
use Rattle.std.specs.Float.{nan}
use Rattle.lists.specs.Lists.{number}
use Rattle.journal.specs.Lists.{each}
use Rattle.journal.specs.Row.{Fix, candidate_count, Cell, Row, row_size, cell_of, scores}
use Rattle.journal.specs.Ranges.{candidate_limit, distance_ok, candidate_ok, element_limit, minute_limit}
use Rattle.journal.specs.declared.record.Candidate.{Candidate}
use Rattle.journal.specs.declared.fix.Candidates.{Candidates}
use Rattle.journal.specs.inner.Fix.{fix_in, Entries16}

-- 0 to 16 candidates, each field of them and each distance in its range
abbrev pub fix_ok : ℕ → Fix → Bool
fix_ok n f = leb (candidate_count f) candidate_limit && (each (candidate_ok n) f.candidates && each distance_ok f.distances)

-- what is asked of a row that is to be written: at most 16 candidates and 16 predecessor candidates, a distance for each pair, each field in its bits
pub record CellWritable (c : Cell) : Type 0 where
  pub element : c.candidate.element < element_limit
  pub near : c.candidate.near < 2
  pub parent : c.parent < 32

pub record RowWritable (r : Row) : Type 0 where
  pub minute : r.minute < minute_limit
  pub few : row_size r ≤ candidate_limit
  pub before : r.before ≤ candidate_limit
  pub number : length r.distances ≡ row_size r * r.before
  pub cell : (k : ℕ) → k < row_size r → CellWritable (cell_of r k)

-- candidates with their parents and scores, a list of each
unfoldable pub cells_of : List Candidate → List ℕ → List Float → List Cell
cells_of cs parents scores = number (λ i c. record { candidate = c; parent = get_or parents i 0; score = get_or scores i nan }) 0 cs

-- the row of a fix with these parents, scores and p predecessor candidates
abbrev pub row_of : Fix → List ℕ → List Float → ℕ → Row
row_of f parents scores p = record { minute = f.minute; cells = cells_of f.candidates parents scores; before = p; distances = f.distances }

-- such a row of a fix by value
pub record RowGiven (fix : Candidates) (distances : List Float) (parents : List ℕ) (scores : List Float) (p : ℕ) : Type 0 where
  pub whole : Entries16 fix
  pub writable : RowWritable (row_of (fix_in fix distances) parents scores p)
