-- The range that the theorem about two lists of calls asks of a step score.
use Rattle.std.specs.Prelude.{ℕ, ◌≤◌, ◌≡◌, Some, T, Float}
use Rattle.journal.specs.Ranges.{element_limit, candidate_ok, distance_ok}
use Rattle.journal.specs.declared.record.Candidate.{Candidate}
use Rattle.transition.specs.inner.Range.{ScoreOk}
use Rattle.rows.specs.Row.{StepScore, StepsAt}

-- what is asked of the step score in a network of n elements: in range a possible one is at most 0, and at least -745.0
abbrev pub StepInRange : StepScore → ℕ → Type 0
StepInRange step n =
    (a b : Candidate) (d v : Float) → T (candidate_ok n a) → T (candidate_ok n b) → T (distance_ok d) → step a b d ≡ Some v → ScoreOk v

-- what holds, at every minute, of a network and settings that are not refused
abbrev pub ChecksHold : ℕ → StepsAt → Type 0
ChecksHold known step = (known ≤ element_limit) × ((minute : ℕ) → StepInRange (step minute) known)
