-- Document 02, K5: replaying a journal, as a function on a slice's words. Checks are in the order of document 02. Rows are newest first.
use Rattle.std.specs.Prelude.{ℕ, Bool, Option, Some, None, Result, Ok, Err, cond, List, [], ◌∷◌, length}
use Rattle.std.proofs.Math.Option.{Option as Maybe, none, some}
use Rattle.refusals.specs.declared.Refusal.{Refusal}
use Rattle.journal.specs.Lists.{each, starts}
use Rattle.journal.specs.Row.{Row, fix_of, predecessor}
use Rattle.journal.specs.Journal.{record_on, read_journal}
use Rattle.rows.specs.Row.{StepScore, StepsAt, row}
use Rattle.decoder.specs.Call.{known_row}

module _ (step : StepScore) where
  -- the row that feeding the fix that a row records gives on the rows before it
  abbrev pub refed : List Row → Row → Row
  refed rs r = row step (predecessor rs) (fix_of r)

  -- the words of the row's record are those that feeding would write
  unfoldable pub same_record : List Row → Row → Bool
  same_record rs r = starts (record_on rs (refed rs r)) (record_on rs r)

-- the first of two numbers of differing rows
abbrev pub first_of : Option ℕ → Option ℕ → Option ℕ
first_of (Some n) later = Some n
first_of None later = later

-- the number of the first row whose words differ; each takes the steps at its own minute
unfoldable pub first_differing : StepsAt → List Row → Option ℕ
first_differing step [] = None
first_differing step (r ∷ rs) = first_of (first_differing step rs) (cond (same_record (step r.minute) rs r) None (Some (length rs)))

-- One network and one group of settings: what checks 1 to 6 and 16 refuse them with, if they do; the number of elements; the step score at each
-- minute.
module _ (refusal : Maybe Refusal) (known : ℕ) (step : StepsAt) where
  abbrev pub replay_read : Maybe (List Row) → Result (Option ℕ) Refusal
  replay_read none = Err Refusal.Journal
  replay_read (some rs) = cond (each (known_row known) rs) (Ok (first_differing step rs)) (Err Refusal.Candidate)

  abbrev pub replay_checked : List ℕ → Maybe Refusal → Result (Option ℕ) Refusal
  replay_checked s (some r) = Err r
  replay_checked s none = replay_read (read_journal s)

  -- checks 1 to 5, 16, 6, 7 and 9, then row by row: the number of the first row that differs, if one does
  unfoldable pub replaying : List ℕ → Result (Option ℕ) Refusal
  replaying s = replay_checked s refusal
