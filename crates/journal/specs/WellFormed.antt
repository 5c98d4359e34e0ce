-- Document 01's "well formed" as a statement about rows: the used words are word 0 and the records of at most 65,535 rows that obey the rules.
use Rattle.std.specs.Prelude.{ℕ, ◌*◌, ◌<◌, ◌≤◌, ◌≡◌, List, [], ◌∷◌, ◌++◌, T, length, drop, Float}
use Rattle.std.proofs.Math.Option.{Option, none, some}
use Rattle.std.specs.Float.{binary64}
use Rattle.std.specs.Float.Ieee.{fits}
use Rattle.journal.specs.Row.{Cell, Row, row_size, predecessor, size_of, latest_minute}
use Rattle.journal.specs.Ranges.{candidate_limit, element_limit, row_limit, minute_limit}
use Rattle.journal.specs.Record.{predecessor_word, read_row}
use Rattle.journal.specs.Journal.{journal, row_ok}

abbrev pub Each : {A : Type 0} → (A → Type 0) → List A → Type 0
Each P [] = Unit {0}
Each P (a ∷ l) = P a × Each P l

-- a value that binary64 has
abbrev pub Fitting : Float → Type 0
Fitting x = T (fits binary64 x)

-- each field goes into its bits
pub record CellFits (c : Cell) : Type 0 where
  pub element : c.candidate.element < element_limit
  pub near : c.candidate.near < 2
  pub parent : c.parent < 32
  pub intrinsic : Fitting c.candidate.intrinsic
  pub raw_log : Fitting c.candidate.raw_log
  pub score : Fitting c.score

pub record RowFits (r : Row) : Type 0 where
  pub minute : r.minute < minute_limit
  pub few : row_size r ≤ candidate_limit
  pub few-before : r.before ≤ candidate_limit
  pub number : length r.distances ≡ row_size r * r.before
  pub cells : Each CellFits r.cells
  pub distances : Each Fitting r.distances

-- each row obeys the rules on those before it
abbrev pub Obey : List Row → Type 0
Obey [] = Unit {0}
Obey (r ∷ rs) = (RowFits r × T (row_ok (latest_minute rs) (size_of (predecessor rs)) (length rs) r)) × Obey rs

-- a word of kind 7 in the words s names this predecessor: a place where it is read from, or 0 for none
abbrev pub Names : List ℕ → ℕ → Option Row → Type 0
Names s w none = w ≡ predecessor_word 0
Names s w (some p) = (place : ℕ) × (0 < place) × (w ≡ predecessor_word place) × (read_row (drop place s) ≡ p)

-- the words s are well formed, with these rows
abbrev pub WellFormed : List ℕ → List Row → Type 0
WellFormed s rs = Obey rs × (length rs ≤ row_limit) × ((rest : List ℕ) × (s ≡ journal rs ++ rest))
