-- A fix as the code has it, but for its distances: its minute, and its candidates in a list of 16, of which the first count.
use Rattle.std.specs.Prelude.{◌≤◌, ◌≡◌, List, length, take, Float}
use Rattle.journal.specs.Row.{Fix, Given}
use Rattle.journal.specs.declared.record.Candidate.{Candidate}
use Rattle.journal.specs.declared.fix.Candidates.{Candidates}

abbrev pub candidates_in : Candidates → List Candidate
candidates_in x = take x.count x.list

abbrev pub fix_in : Candidates → List Float → Fix
fix_in x distances = record { minute = x.minute; candidates = candidates_in x; distances = distances }

-- the list is whole
pub record Entries16 (x : Candidates) : Type 0 where
  pub few : x.count ≤ 16
  pub long : length x.list ≡ 16

-- four slices of one count, 16 at most
pub record OneCount (g : Given) : Type 0 where
  pub few : length g.elements ≤ 16
  pub intrinsics : length g.intrinsics ≡ length g.elements
  pub near : length g.near ≡ length g.elements
  pub raw_logs : length g.raw_logs ≡ length g.elements
