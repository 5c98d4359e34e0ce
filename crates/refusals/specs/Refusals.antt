-- The refusals of documents 01 and 02, and checks that are made one after the other.
use Rattle.std.specs.Prelude.{ℕ, Bool, true, false, Result, Ok, Err}
use Rattle.refusals.specs.declared.Refusal.{Refusal}

-- the number that a host is told
abbrev pub refusal_number : Refusal → ℕ
refusal_number Refusal.Counts = 1
refusal_number Refusal.Length = 2
refusal_number Refusal.Heading = 3
refusal_number Refusal.Side = 4
refusal_number Refusal.SelfRelation = 5
refusal_number Refusal.Setting = 6
refusal_number Refusal.Journal = 7
refusal_number Refusal.CandidateCount = 8
refusal_number Refusal.Candidate = 9
refusal_number Refusal.Distances = 10
refusal_number Refusal.RowLimit = 11
refusal_number Refusal.Room = 12
refusal_number Refusal.Row = 13
refusal_number Refusal.Segment = 14
refusal_number Refusal.Buffer = 15
refusal_number Refusal.Window = 16
refusal_number Refusal.Minute = 17

-- what checks answer: accepted, or a refusal
abbrev pub Checked : Type 0
Checked = Result (Unit {0}) Refusal

-- where the test fails, the refusal; else what comes after it
unfoldable pub or_refuse : {A : Type 0} → Refusal → Bool → Result A Refusal → Result A Refusal
or_refuse r true rest = rest
or_refuse r false rest = Err r

-- what checks refuse is refused; where they accept, what comes after them
unfoldable pub once_accepted : {A : Type 0} → Checked → Result A Refusal → Result A Refusal
once_accepted (Ok _) a = a
once_accepted (Err r) a = Err r
