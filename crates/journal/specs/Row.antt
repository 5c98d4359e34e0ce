-- Document 01, "Fix and row" (the minute: document 02, K4): fixes, and rows as the journal holds them. Lists of fixes and of rows are newest
-- first, so that a feed is ∷ and a strike is drop.
use Rattle.std.specs.Prelude.{ℕ, suc, ◌+◌, ◌-◌, ◌*◌, Bool, true, cond, List, [], ◌∷◌, map, eqb, length, get_or, Float}
use Rattle.std.proofs.Math.Option.{Option, none, some}
use Rattle.std.specs.Float.{nan, inf}
use Rattle.std.specs.Float.Ieee.Scale.{finite}
use Rattle.lists.specs.Loops.{any_below}
use Rattle.binary64.specs.Values.{pzero}
use Rattle.lists.specs.Lists.{number}
use Rattle.journal.specs.declared.record.Candidate.{Candidate}

-- a distance for each pair, predecessor candidate outer, own candidate inner
pub record Fix : Type 0 where
  pub minute : ℕ
  pub candidates : List Candidate
  pub distances : List Float

-- a candidate with its parent and its score
pub record Cell : Type 0 where
  pub candidate : Candidate
  pub parent : ℕ
  pub score : Float

-- its minute, its cells, the number of predecessor candidates and the distances
pub record Row : Type 0 where
  pub minute : ℕ
  pub cells : List Cell
  pub before : ℕ
  pub distances : List Float

-- ---- reading a fix and a row

-- the parent of a candidate that has none
abbrev pub no_parent : ℕ
no_parent = 31

abbrev pub no_candidate : Candidate
no_candidate = record { element = 0; intrinsic = pzero; near = 0; raw_log = inf true }

abbrev pub no_cell : Cell
no_cell = record { candidate = no_candidate; parent = no_parent; score = inf true }

-- the row past the end of a list of rows
abbrev pub no_row : Row
no_row = record { minute = 0; cells = []; before = 0; distances = [] }

abbrev pub candidate_count : Fix → ℕ
candidate_count f = length f.candidates

abbrev pub candidate_of : Fix → ℕ → Candidate
candidate_of f i = get_or f.candidates i no_candidate

-- from candidate j of the predecessor to candidate i of the fix
abbrev pub distance_of : Fix → ℕ → ℕ → Float
distance_of f j i = get_or f.distances (j * candidate_count f + i) pzero

abbrev pub row_size : Row → ℕ
row_size r = length r.cells

abbrev pub cell_of : Row → ℕ → Cell
cell_of r i = get_or r.cells i no_cell

abbrev pub score_of : Row → ℕ → Float
score_of r i = (cell_of r i).score

-- row number n, from 0, of these, the newest first
abbrev pub row_number : List Row → ℕ → Row
row_number rs n = get_or rs (length rs - suc n) no_row

-- ---- the predecessor

-- one of its scores is finite
unfoldable pub scores : Row → Bool
scores r = any_below (row_size r) (λ i. finite (score_of r i))

-- of a further row: the latest of these rows that scores
unfoldable pub predecessor : List Row → Option Row
predecessor [] = none
predecessor (r ∷ rs) = cond (scores r) (some r) (predecessor rs)

-- its number, from 0; 0 without one
unfoldable pub predecessor_number : List Row → ℕ
predecessor_number [] = 0
predecessor_number (r ∷ rs) = cond (scores r) (length rs) (predecessor_number rs)

-- how many candidates it has, 0 without one
abbrev pub size_of : Option Row → ℕ
size_of none = 0
size_of (some p) = row_size p

-- the minute of the latest of these rows, which may be an empty one; 0 without any
abbrev pub latest_minute : List Row → ℕ
latest_minute [] = 0
latest_minute (r ∷ rs) = r.minute

-- how many predecessor candidates a row of c candidates counts where its predecessor has q: none without candidates
abbrev pub before_of : ℕ → ℕ → ℕ
before_of q c = cond (eqb c 0) 0 q

-- ---- a fix as it is handed over, a minute and a list for each field

pub record Given : Type 0 where
  pub minute : ℕ
  pub elements : List ℕ
  pub intrinsics : List Float
  pub near : List ℕ
  pub raw_logs : List Float
  pub distances : List Float

-- its candidate number i, which has the element e
abbrev pub candidate_given : Given → ℕ → ℕ → Candidate
candidate_given g i e = record { element = e; intrinsic = get_or g.intrinsics i nan; near = get_or g.near i 0; raw_log = get_or g.raw_logs i nan }

unfoldable pub fix_given : Given → Fix
fix_given g = record { minute = g.minute; candidates = number (candidate_given g) 0 g.elements; distances = g.distances }

abbrev pub given_of : ℕ → List ℕ → List Float → List ℕ → List Float → List Float → Given
given_of minute elements intrinsics near raw_logs distances =
    record { minute = minute; elements = elements; intrinsics = intrinsics; near = near; raw_logs = raw_logs; distances = distances }

-- the minute and the lists that a fix was made of
unfoldable pub handed : Fix → Given
handed f = record {
  minute = f.minute;
  elements = map (λ (c : Candidate). c.element) f.candidates;
  intrinsics = map (λ (c : Candidate). c.intrinsic) f.candidates;
  near = map (λ (c : Candidate). c.near) f.candidates;
  raw_logs = map (λ (c : Candidate). c.raw_log) f.candidates;
  distances = f.distances;
}

-- the fix that a row records
abbrev pub fix_of : Row → Fix
fix_of r = record { minute = r.minute; candidates = map (λ (c : Cell). c.candidate) r.cells; distances = r.distances }
