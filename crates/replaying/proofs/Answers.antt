-- What the checks and the comparison of the rows say of the answer of replaying. Assumes nothing.
use Prim.Native.Nat.{ℕ}
use native.Mathlib.Omega.{arith}
use mathlib.Core.Path.{◌≡◌, ap}
use mathlib.Core.Bool.{Bool, true, false}
use mathlib.Core.List.{List}
use mathlib.Core.Option.{Option as Maybe, none, some}
use Rattle.std.specs.Prelude.{Ok, Err}
use Rattle.refusals.specs.declared.Refusal.{Refusal}
use Rattle.binary64.proofs.Order.{taken}
use Rattle.journal.specs.Lists.{each}
use Rattle.journal.specs.Row.{Row}
use Rattle.journal.specs.Journal.{used, read_journal}
use Rattle.journal.specs.inner.Check.{survey_of, survey}
use Rattle.journal.specs.inner.Rows.{rows_read, rows_in}
use Rattle.journal.specs.declared.check.Survey.{Survey}
use Rattle.journal.proofs.Ends.{Surveyed, survey-rows}
use Rattle.rows.specs.Row.{StepsAt}
use Rattle.decoder.specs.Call.{known_row}
use Rattle.decoder.specs.inner.Plan.{known_read}
use Rattle.replaying.specs.Replay.{first_differing, replay_read}
use Rattle.replaying.specs.inner.Comparing.{Replayable}

-- ---- checks 7 and 9, and the rows

-- check 7 fails
pub replay-not : (known : ℕ) (step : StepsAt) (s : List ℕ) (r : Refusal) → survey s ≡ Err r → replay_read none known step (read_journal s) ≡ Err r
unfolding survey
replay-not known step s r e = go (read_journal s) e
  where
    go : (o : Maybe (List Row)) → survey_of (used s) o ≡ Err r → replay_read none known step o ≡ Err r
    go none q = let same : Refusal.Journal ≡ r = cc in rw same
    go (some rs) q = let z : ◌≡◌ {A = ℕ} 0 1 = cc in absurd (omega arith)

module _ (s : List ℕ) (v : Survey) (e : survey s ≡ Ok v) where
  surveyed : Surveyed s v.rows v.used v.latest v.minute
  surveyed = survey-rows s v.rows v.used v.latest v.minute e

  rows_are : rows_in s ≡ surveyed.rows
  rows_are = ap rows_read surveyed.reads

  module _ (known : ℕ) where
    tested : (b : Bool) → known_read known (read_journal s) ≡ b → each (known_row known) surveyed.rows ≡ b
    tested b h = rw surveyed.reads at h

    -- check 9 fails
    pub replay-unknown : (step : StepsAt) → known_read known (read_journal s) ≡ false → Err Refusal.Candidate ≡ replay_read none known step (read_journal s)
    replay-unknown step h = rw (surveyed.reads, tested false h)

    module _ (h : known_read known (read_journal s) ≡ true) where
      pub replayable : Replayable known (rows_in s) s v.used
      replayable = let q = surveyed in rw rows_are (record { reads = q.reads; ends = q.ends; known = taken (tested true h) })

      pub replay-compared : (step : StepsAt) → Ok (first_differing step (rows_in s)) ≡ replay_read none known step (read_journal s)
      replay-compared step = rw (surveyed.reads, tested true h)
