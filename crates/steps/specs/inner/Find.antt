-- A row and its predecessor in the journal, as the code finds them.
use Rattle.std.specs.Prelude.{ℕ, suc, ◌+◌, ◌*◌, ◌<◌, ◌≤◌, ◌≡◌, List, [], ◌∷◌, ltb, length, Option, Some, None, Result, Ok, Err}
use Rattle.std.proofs.Math.Option.{Option as Maybe, none, some}
use Rattle.refusals.specs.declared.Refusal.{Refusal}
use Rattle.journal.specs.Lists.{each}
use Rattle.journal.specs.Row.{Row, row_size, cell_of}
use Rattle.journal.specs.Record.{first_cell, record_length, read_row}
use Rattle.journal.specs.Journal.{words, read_journal}
use Rattle.journal.specs.inner.Check.{latest_of}
use Rattle.journal.specs.inner.Rows.{rows_before}
use Rattle.journal.specs.Call.{first_failed}
use Rattle.journal.specs.declared.check.Predecessor.{Predecessor}
use Rattle.transition.specs.inner.Track.{TrackLists, track_in, TrackFits}
use Rattle.transition.specs.declared.step.Settings.{Settings}
use Rattle.decoder.specs.Call.{known_row}
use Rattle.steps.specs.declared.find.Linked.{Linked}

-- ---- their places

-- a row's place and its predecessor, or a refusal
abbrev pub Found : Type 0
Found = Result (Option Linked) Refusal

-- a row whose record starts at a place, by its predecessor
abbrev pub linked : ℕ → Option Predecessor → Option Linked
linked place None = None
linked place (Some p) = Some (record { place = place; before = p.place; predecessor = p.row })

abbrev pub found_passed : List Row → ℕ → Maybe Refusal → Found
found_passed rs n none = Ok (linked (suc (length (words (rows_before rs n)))) (latest_of (rows_before rs n)))
found_passed rs n (some k) = Err k

abbrev pub found_read : ℕ → ℕ → Maybe (List Row) → Found
found_read known n none = Err Refusal.Journal
found_read known n (some rs) = found_passed rs n (first_failed ((Refusal.Candidate, each (known_row known) rs) ∷ (Refusal.Row, ltb n (length rs)) ∷ []))

-- checks 7, 9 and 13, in a network of `known` elements, then the places
unfoldable pub rows_found : ℕ → List ℕ → ℕ → Found
rows_found known s n = found_read known n (read_journal s)

-- and checks 1 to 5, 16 and 6 before them, with what they refuse
abbrev pub found_checked : Maybe Refusal → ℕ → List ℕ → ℕ → Found
found_checked none known s n = rows_found known s n
found_checked (some k) known s n = Err k

-- row number n stands among so many
pub record RowStands (s : List ℕ) (rows n : ℕ) : Type 0 where
  pub standing : List Row
  pub reads : read_journal s ≡ some standing
  pub counted : length standing ≡ rows
  pub below : n < rows

-- the place of its record, and its predecessor
abbrev pub found_at : ℕ → Maybe (List Row) → Found
found_at n none = Err Refusal.Journal
found_at n (some rs) = found_passed rs n none

-- ---- their records, each at the head of some words

-- candidates and distances of both, of elements that are known in a network of n elements
pub record TwoRecords (n : ℕ) (own previous : List ℕ) : Type 0 where
  pub few : row_size (read_row own) ≤ 16
  pub few-before : row_size (read_row previous) ≤ 16
  pub before : 0 < row_size (read_row own) → (read_row own).before ≡ row_size (read_row previous)
  pub room : record_length (row_size (read_row own)) (read_row own).before ≤ length own
  pub room-before : first_cell + 7 * row_size (read_row previous) ≤ length previous
  pub element : (i : ℕ) → i < row_size (read_row own) → (cell_of (read_row own) i).candidate.element < n
  pub element-before : (j : ℕ) → j < row_size (read_row previous) → (cell_of (read_row previous) j).candidate.element < n

-- own candidate i and predecessor candidate j, with their distance
pub record PairStands (own : List ℕ) (i j : ℕ) : Type 0 where
  pub few : row_size (read_row own) ≤ 16
  pub few-before : (read_row own).before ≤ 16
  pub room : record_length (row_size (read_row own)) (read_row own).before ≤ length own
  pub below : i < row_size (read_row own)
  pub below-before : j < (read_row own).before

-- a row and its predecessor at the head of some words, a track and settings
pub record TwoRows : Type 0 where
  pub track : TrackLists
  pub settings : Settings
  pub own : List ℕ
  pub previous : List ℕ

-- on which a step between each pair of them can be scored
pub record TwoRowsFit (x : TwoRows) : Type 0 where
  pub track : TrackFits (track_in x.track)
  pub records : TwoRecords (length x.track.graph.lengths) x.own x.previous
