-- The row of a fix as the code comes by it: the predecessor is read from its record, and parents and scores go into two slices.
use Rattle.std.specs.Prelude.{ℕ, zero, suc, ◌+◌, ◌*◌, ◌<◌, ◌≤◌, ◌≡◌, Bool, true, false, cond, List, length, get_or, drop, Float, Option, Some, None}
use Rattle.std.proofs.Math.Option.{Option as Maybe, none, some}
use Rattle.std.specs.Option.{unwrap_or}
use Rattle.std.specs.Float.{nan, inf}
use Rattle.std.specs.Float.Ieee.{lt, le}
use Rattle.lists.specs.Loops.{any_below}
use Rattle.binary64.specs.Operators.{◌⊕◌}
use Rattle.network.specs.Graph.{element_count}
use Rattle.transition.specs.Track.{Track}
use Rattle.journal.specs.Row.{Fix, Row, no_parent, candidate_count, candidate_of, row_size, cell_of, before_of}
use Rattle.journal.specs.Record.{first_cell, read_row}
use Rattle.transition.specs.inner.Track.{TrackFits}
use Rattle.rows.specs.inner.Sides.{PairRoutes}
use Rattle.rows.specs.Row.{StepScore, Scored, first_best, break_score, floored_log, is_possible, offer, scored}
use Rattle.rows.specs.declared.previous.Previous.{Previous}

-- ---- the predecessor in its record, at the head of the words

-- its candidate j, with its words
pub record CandidateStands (words : List ℕ) (j : ℕ) : Type 0 where
  pub below : j < row_size (read_row words)
  pub room : first_cell + 7 * j + 7 ≤ length words

-- all its candidates, p of them
pub record RecordStands (words : List ℕ) (p : ℕ) : Type 0 where
  pub many : row_size (read_row words) ≡ p
  pub room : first_cell + 7 * p ≤ length words

-- and their elements are known in a network of n elements
pub record RecordKnown (n : ℕ) (words : List ℕ) (p : ℕ) : Type 0 where
  pub stands : RecordStands words p
  pub element : (j : ℕ) → j < p → (cell_of (read_row words) j).candidate.element < n

-- no predecessor where there are 0 candidates
abbrev pub predecessor_in : List ℕ → ℕ → Maybe Row
predecessor_in words zero = none
predecessor_in words (suc p) = some (read_row words)

-- ---- the best previous

abbrev pub previous_of : Scored → Previous
previous_of f = record { candidate = f.0; score = f.1 }

-- no candidate, and minus infinity
unfoldable pub no_previous : Previous
no_previous = record { candidate = no_parent; score = inf true }

-- the best so far and candidate j with its score: the later of equals
unfoldable pub later_best : Previous → ℕ → Float → Previous
later_best b j s = cond (le b.score s) (record { candidate = j; score = s }) b

-- ---- offers

-- what is asked: a track that fits, a fix and a predecessor with known elements, a distance for each pair, and a table that holds the routes
pub record Offerable (t : Track) (f : Fix) (words : List ℕ) (before : ℕ) (found : List Float) : Type 0 where
  pub fits : TrackFits t
  pub some-before : 0 < before
  pub element : (k : ℕ) → k < candidate_count f → (candidate_of f k).element < element_count t.graph
  pub distances : length f.distances ≡ candidate_count f * before
  pub predecessor : RecordKnown (element_count t.graph) words before
  pub room : 2 * before * (2 * candidate_count f) ≤ length found
  pub held : PairRoutes t.graph (read_row words) before f.candidates found

-- the best so far and the offer of candidate j: the first of equals
unfoldable pub better_offer : Option Previous → ℕ → Option Float → Option Previous
better_offer b j None = b
better_offer b j (Some v) =
    let so_far = unwrap_or b no_previous in
    Some (cond (lt so_far.score v) (record { candidate = j; score = v }) so_far)

-- the best of n offers, or none where none is possible
unfoldable pub best_offer : (ℕ → Option Float) → ℕ → Option Previous
best_offer g n = cond (any_below n (λ j. is_possible (g j))) (Some (previous_of (first_best g n))) None

-- whether one of the predecessor's `before` candidates has a possible offer to one of the fix's
abbrev pub any_offer : StepScore → Row → Fix → ℕ → Bool
any_offer step p f before = any_below (candidate_count f) (λ i. any_below before (λ j. is_possible (offer step p f i j)))

-- ---- a broken row

-- (best previous + -23.0) + floored log
unfoldable pub broken_score : Float → Float → Float
broken_score best raw_log = best ⊕ break_score ⊕ floored_log raw_log

-- ---- the candidates of a row, by value

-- a list of 16: where each of the first n comes through, and its score
pub record Listed (n : ℕ) (found : ℕ → Scored) (row : List Previous) : Type 0 where
  pub long : length row ≡ 16
  pub each : (k : ℕ) → k < n → get_or row k no_previous ≡ previous_of (found k)

-- as the best offers of the predecessor are; none if no offer is possible
abbrev pub BestOffers : StepScore → Row → Fix → ℕ → Option (List Previous) → Type 0
BestOffers step p f before None = any_offer step p f before ≡ false
BestOffers step p f before (Some row) = (any_offer step p f before ≡ true) × Listed (candidate_count f) (λ i. first_best (offer step p f i) before) row

-- ---- what the two slices hold

-- parents and scores of the first n candidates as `found` gives them, and past those what the slices held
pub record Filled (n : ℕ) (found : ℕ → Scored) (parents₀ : List ℕ) (scores₀ : List Float) (parents : List ℕ) (scores : List Float) : Type 0 where
  pub parents-length : length parents ≡ length parents₀
  pub scores-length : length scores ≡ length scores₀
  pub parent : (k : ℕ) → k < n → get_or parents k 0 ≡ (found k).0
  pub score : (k : ℕ) → k < n → get_or scores k nan ≡ (found k).1
  pub parents-past : drop n parents ≡ drop n parents₀
  pub scores-past : drop n scores ≡ drop n scores₀

-- ---- scoring a row

-- what is asked: a track that fits, a fix of at most 16 candidates with known elements, the predecessor's record at the head of the words with `before`
-- candidates, 16 at most, and known elements (0: no predecessor), a distance for each pair, and room for the candidates
pub record Scorable (t : Track) (f : Fix) (words : List ℕ) (before : ℕ) (parents : List ℕ) (scores : List Float) : Type 0 where
  pub fits : TrackFits t
  pub few : candidate_count f ≤ 16
  pub few-before : before ≤ 16
  pub element : (k : ℕ) → k < candidate_count f → (candidate_of f k).element < element_count t.graph
  pub distances : length f.distances ≡ candidate_count f * before_of before (candidate_count f)
  pub predecessor : 0 < before → RecordKnown (element_count t.graph) words before
  pub parents-long : candidate_count f ≤ length parents
  pub scores-long : candidate_count f ≤ length scores

-- what is left: parents and scores as the row of the fix on that predecessor has them, parents that go into their bits, and past the candidates what
-- the slices held
pub record RowScored (step : StepScore) (f : Fix) (words : List ℕ) (before : ℕ) (parents₀ : List ℕ) (scores₀ : List Float) (parents : List ℕ) (scores : List Float) : Type 0 where
  pub filled : Filled (candidate_count f) (λ i. scored step (predecessor_in words before) f i (candidate_of f i)) parents₀ scores₀ parents scores
  pub parent : (k : ℕ) → k < candidate_count f → get_or parents k 0 < 32
