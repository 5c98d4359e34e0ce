-- Feeding as the code comes by it: what the checks find, and what is asked of a fix that is written.
use Rattle.std.specs.Prelude.{ℕ, ◌+◌, ◌*◌, ◌<◌, ◌≤◌, ◌≡◌, Bool, true, ◌&&◌, Option, Result, Ok, Err, List, T, leb, ltb, eqb, length}
use Rattle.std.proofs.Math.Option.{Option as Maybe, none, some}
use Rattle.refusals.specs.declared.Refusal.{Refusal}
use Rattle.refusals.specs.Refusals.{or_refuse}
use Rattle.network.specs.Graph.{element_count}
use Rattle.transition.specs.Track.{Track}
use Rattle.transition.specs.inner.Track.{TrackFits}
use Rattle.transition.specs.Step.{step_on}
use Rattle.transition.specs.declared.step.Settings.{Settings}
use Rattle.journal.specs.Lists.{each}
use Rattle.journal.specs.Row.{Fix, Row, Given, fix_given, candidate_count, predecessor, size_of, latest_minute, before_of}
use Rattle.journal.specs.Ranges.{candidate_limit, row_limit, minute_limit, distance_ok, candidate_ok}
use Rattle.journal.specs.Record.{record_length}
use Rattle.journal.specs.Journal.{record_on, journal, put, used, read_journal}
use Rattle.journal.specs.inner.Check.{latest_of, candidates_of}
use Rattle.journal.specs.Call.{first_failed}
use Rattle.journal.specs.declared.check.Predecessor.{Predecessor}
use Rattle.journal.specs.declared.check.Survey.{Survey}
use Rattle.rows.specs.Row.{StepScore, StepsAt, row}
use Rattle.decoder.specs.Call.{counts_ok, known_row, feed_checks}
use Rattle.decoder.specs.declared.plan.Plan.{Plan}

-- ---- standing rows

-- the words hold n rows, and those used end at `end`
pub record RowsStand (s : List ℕ) (n end : ℕ) : Type 0 where
  pub rows : List Row
  pub reads : read_journal s ≡ some rows
  pub counted : length rows ≡ n
  pub ends : used s ≡ end

-- the elements of all rows that were read are known in a network of n elements
abbrev pub known_read : ℕ → Maybe (List Row) → Bool
known_read n none = true
known_read n (some rs) = each (known_row n) rs

-- ---- what the checks find

module _ (refusal : Maybe Refusal) (known : ℕ) (step : StepsAt) (s : List ℕ) (g : Given) where
  abbrev pub plan_passed : List Row → Maybe Refusal → Result Plan Refusal
  plan_passed rs (some r) = Err r
  plan_passed rs none = Ok (record { end = used s; latest = latest_of rs })

  abbrev pub plan_read : Maybe (List Row) → Result Plan Refusal
  plan_read none = Err Refusal.Journal
  plan_read (some rs) = plan_passed rs (first_failed (feed_checks refusal known step rs g (length s)))

  abbrev pub plan_checked : Maybe Refusal → Result Plan Refusal
  plan_checked (some r) = Err r
  plan_checked none = plan_read (read_journal s)

  -- checks 1 to 12, 16 and 17: the first that fails, or where the record goes and its predecessor
  unfoldable pub plan : Result Plan Refusal
  plan = plan_checked refusal

-- checks 8 to 10, 17, 11 and 12, test by test, on a journal that check 7 surveyed: no step score changes them
unfoldable pub fix_plan : ℕ → List ℕ → Survey → Given → Result Plan Refusal
fix_plan known s v g =
    let n = length g.elements in
    let p = before_of (candidates_of v.latest) n in
    or_refuse Refusal.CandidateCount (counts_ok g)
    (or_refuse Refusal.Candidate (each (candidate_ok known) (fix_given g).candidates && known_read known (read_journal s))
    (or_refuse Refusal.Distances (eqb (length g.distances) (n * p) && each distance_ok g.distances)
    (or_refuse Refusal.Minute (ltb g.minute minute_limit && leb v.minute g.minute)
    (or_refuse Refusal.RowLimit (ltb v.rows row_limit)
    (or_refuse Refusal.Room (leb (v.used + record_length n p) (length s)) (Ok (record { end = v.used; latest = v.latest })))))))

-- ---- a fix that is written

-- what the checks leave: a track at the minute of the fix, whose lists fit, and rows on which the fix passes, with this predecessor
pub record Feedable (t : Track) (settings : Settings) (s : List ℕ) (f : Fix) (latest : Option Predecessor) : Type 0 where
  pub fits : TrackFits t
  pub rows : List Row
  pub reads : read_journal s ≡ some rows
  pub last : latest_of rows ≡ latest
  pub few : candidate_count f ≤ candidate_limit
  pub candidates : T (each (candidate_ok (element_count t.graph)) f.candidates)
  pub known : T (each (known_row (element_count t.graph)) rows)
  pub distances : length f.distances ≡ candidate_count f * before_of (size_of (predecessor rows)) (candidate_count f)
  pub minute : f.minute < minute_limit
  pub not-before : latest_minute rows ≤ f.minute
  pub further : length rows < row_limit
  pub room : length (journal rows) + length (record_on rows (row (step_on t settings) (predecessor rows) f)) ≤ length s

abbrev pub written_on : StepScore → List ℕ → Fix → Maybe (List Row) → List ℕ
written_on step s f none = s
written_on step s f (some rs) = put s (used s) (record_on rs (row step (predecessor rs) f))

-- the record of the fix's row on those that stand, and word 0 with it counted
unfoldable pub written : StepScore → List ℕ → Fix → List ℕ
written step s f = written_on step s f (read_journal s)
