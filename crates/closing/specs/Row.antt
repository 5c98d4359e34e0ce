-- Reading a row of the journal back.
use Rattle.std.specs.Prelude.{ℕ, min, cond, List, map, leb, ltb, length, Float, Result, Ok, Err}
use Rattle.std.proofs.Math.Option.{Option, none, some}
use Rattle.refusals.specs.declared.Refusal.{Refusal}
use Rattle.journal.specs.Row.{Cell, Row, row_size, row_number}
use Rattle.journal.specs.Journal.{read_journal}
use Rattle.journal.specs.Buffer.{stored_first}
use Rattle.closing.specs.declared.row.RowRead.{RowRead}

-- the buffers that are lent for a row, one for each field of a candidate, and for the distances
pub record RowBuffers : Type 0 where
  pub elements : List ℕ
  pub intrinsics : List Float
  pub near : List ℕ
  pub raw_logs : List Float
  pub parents : List ℕ
  pub scores : List Float
  pub distances : List Float

abbrev pub row_buffers_of : List ℕ → List Float → List ℕ → List Float → List ℕ → List Float → List Float → RowBuffers
row_buffers_of elements intrinsics near raw_logs parents scores distances = record {
  elements = elements;
  intrinsics = intrinsics;
  near = near;
  raw_logs = raw_logs;
  parents = parents;
  scores = scores;
  distances = distances;
}

-- the smallest of the candidates' buffers
abbrev pub candidate_room : RowBuffers → ℕ
candidate_room b = min (min (length b.elements) (min (length b.near) (length b.parents))) (min (length b.intrinsics) (min (length b.raw_logs) (length b.scores)))

-- 15: the lists within the buffers
unfoldable pub row_fitted : RowBuffers → Row → Result Row Refusal
row_fitted b r = cond (leb (row_size r) (candidate_room b)) (cond (leb (length r.distances) (length b.distances)) (Ok r) (Err Refusal.Buffer)) (Err Refusal.Buffer)

abbrev pub reading_read : ℕ → RowBuffers → Option (List Row) → Result Row Refusal
reading_read n b none = Err Refusal.Journal
reading_read n b (some rs) = cond (ltb n (length rs)) (row_fitted b (row_number rs n)) (Err Refusal.Row)

-- checks 7, 13 and 15
unfoldable pub reading : List ℕ → ℕ → RowBuffers → Result Row Refusal
reading s n b = reading_read n b (read_journal s)

-- its candidates, predecessor candidates and minute, or a refusal
unfoldable pub row_answer : Result Row Refusal → Result RowRead Refusal
row_answer (Ok r) = Ok (record { candidates = row_size r; before = r.before; minute = r.minute })
row_answer (Err k) = Err k

-- the buffers after the call: as they were where no row is answered
unfoldable pub filled : Result Row Refusal → RowBuffers → RowBuffers
filled (Err k) b = b
filled (Ok r) b = record {
  elements = stored_first (map (λ (c : Cell). c.candidate.element) r.cells) b.elements;
  intrinsics = stored_first (map (λ (c : Cell). c.candidate.intrinsic) r.cells) b.intrinsics;
  near = stored_first (map (λ (c : Cell). c.candidate.near) r.cells) b.near;
  raw_logs = stored_first (map (λ (c : Cell). c.candidate.raw_log) r.cells) b.raw_logs;
  parents = stored_first (map (λ (c : Cell). c.parent) r.cells) b.parents;
  scores = stored_first (map (λ (c : Cell). c.score) r.cells) b.scores;
  distances = stored_first r.distances b.distances;
}
