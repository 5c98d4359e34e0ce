-- The steps of the pairs by the routes of one table, in a table by pair number: pair k is own candidate k / p with candidate k % p of the p of the
-- predecessor.
use Rattle.std.specs.Prelude.{ℕ, ◌*◌, ◌/◌, ◌%◌, ◌<◌, ◌≤◌, ◌≡◌, List, [], ◌∷◌, ◌++◌, map, leb, length, get_or, take, count_by, Float, Option, None, Result, Ok, Err}
use Rattle.std.specs.Option.{is_some}
use Rattle.std.proofs.lemmas.List.Edits.{sets}
use Rattle.lists.specs.Loops.{up_to}
use Rattle.refusals.specs.declared.Refusal.{Refusal}
use Rattle.journal.specs.Row.{Row, row_size}
use Rattle.journal.specs.Record.{read_row}
use Rattle.journal.specs.Call.{first_failed}
use Rattle.transition.specs.inner.Costs.{routes_at}
use Rattle.transition.specs.inner.Track.{step_through}
use Rattle.rows.specs.Row.{StepScore}
use Rattle.steps.specs.Steps.{Entry, pair_step, entry_of}
use Rattle.steps.specs.inner.Find.{TwoRows}
use Rattle.steps.specs.Listing.{StepBuffers, StepsListing, listed_unless}
use Rattle.steps.specs.declared.table.RowSteps.{RowSteps}

-- ---- the routes between two rows' candidates

-- a pair's step by a table of routes, two rows for each candidate of the predecessor and two columns for each own one
abbrev pub pair_by_table : TwoRows → List Float → ℕ → ℕ → Option Float
pair_by_table x found i j =
    let r = read_row x.own in
    pair_step (step_through x.track x.settings (routes_at found (2 * row_size r) j i)) (read_row x.previous) r i j

-- ---- the table of steps

abbrev pub step_at : List (Option Float) → ℕ → Option Float
step_at steps k = get_or steps k None

-- the step of pair k between the rows p and r
abbrev pub step_of_pair : StepScore → Row → Row → ℕ → Option Float
step_of_pair step p r k = pair_step step p r (k / row_size p) (k % row_size p)

-- the table holds the first n of these steps
pub record Holds (g : ℕ → Option Float) (n : ℕ) (steps : List (Option Float)) : Type 0 where
  pub wide : length steps ≡ 256
  pub step : (k : ℕ) → k < n → step_at steps k ≡ g k

-- how many of the first n are possible
unfoldable pub possible_count : List (Option Float) → ℕ → ℕ
possible_count steps n = count_by is_some (take n steps)

-- ---- the buffers

-- the entries of the first n pairs
unfoldable pub entries_of : (ℕ → Option Float) → ℕ → ℕ → ℕ → ℕ → List Entry
entries_of g m row p n = up_to n (λ k l. l ++ entry_of m row (k / p) (k % p) (g k)) []

-- entries stored from place `at` on
unfoldable pub put_entries : List Entry → ℕ → StepBuffers → StepBuffers
put_entries l at b =
    record {
      predecessor_rows = sets b.predecessor_rows at (map (λ (e : Entry). e.predecessor_row) l);
      predecessors = sets b.predecessors at (map (λ (e : Entry). e.predecessor) l);
      rows = sets b.rows at (map (λ (e : Entry). e.row) l);
      candidates = sets b.candidates at (map (λ (e : Entry). e.candidate) l);
      steps = sets b.steps at (map (λ (e : Entry). e.step) l);
    }

-- n entries fit
pub record Room (n : ℕ) (b : StepBuffers) : Type 0 where
  pub predecessor_rows : n ≤ length b.predecessor_rows
  pub predecessors : n ≤ length b.predecessors
  pub rows : n ≤ length b.rows
  pub candidates : n ≤ length b.candidates
  pub steps : n ≤ length b.steps

-- ---- the steps of a row by value

-- 15: in buffers of so much room
abbrev pub steps_fitted : List Entry → ℕ → StepsListing
steps_fitted l room = listed_unless l (first_failed ((Refusal.Buffer, leb (length l) room) ∷ []))

-- what they list, into buffers of so much room
abbrev pub row_listed : RowSteps → ℕ → StepsListing
row_listed x room = steps_fitted (entries_of (step_at x.steps) x.predecessor_row x.row x.count x.n) room

-- or the refusal of the checks before
abbrev pub found_listed : Result RowSteps Refusal → ℕ → StepsListing
found_listed (Ok x) room = row_listed x room
found_listed (Err k) room = Err k
