-- Document 01, "Segment" (the minute: document 02, K4): the groups of a path.
use Rattle.std.specs.Prelude.{ℕ, cond, List, [], ◌∷◌, map, eqb, Float}
use Rattle.std.specs.Float.Ieee.{lt}
use Rattle.journal.specs.Row.{Row, cell_of, row_number}
use Rattle.journal.specs.declared.record.Candidate.{Candidate}
use Rattle.decoder.specs.Closing.{Closed, nothing, path}
use Rattle.groups.specs.declared.group.NetelementGroup.{NetelementGroup}
pub use Rattle.groups.specs.declared.group.State.{State}

-- the state of a candidate at a row of that minute
abbrev pub state_of : ℕ → ℕ → Candidate → State
state_of row minute c = record { row = row; minute = minute; element = c.element; intrinsic = c.intrinsic }

-- of a pair of a row and a candidate, where these are the rows, the newest first
abbrev pub state_at : List Row → ℕ × ℕ → State
state_at rs p = state_of p.0 (row_number rs p.0).minute (cell_of (row_number rs p.0) p.1).candidate

unfoldable pub lesser : Float → Float → Float
lesser x y = cond (lt x y) x y

unfoldable pub greater : Float → Float → Float
greater x y = cond (lt x y) y x

-- a group of one state
abbrev pub alone : State → NetelementGroup
alone s =
    record { element = s.element; minute = s.minute; min_intrinsic = s.intrinsic; max_intrinsic = s.intrinsic; first_row = s.row; last_row = s.row }

-- a group with the state before it
unfoldable pub with_state : State → NetelementGroup → NetelementGroup
with_state s g = record {
  element = g.element;
  minute = s.minute;
  min_intrinsic = lesser s.intrinsic g.min_intrinsic;
  max_intrinsic = greater s.intrinsic g.max_intrinsic;
  first_row = s.row;
  last_row = g.last_row;
}

-- a state before some groups: it joins the first one if that has its element
unfoldable pub before : State → List NetelementGroup → List NetelementGroup
before s [] = alone s ∷ []
before s (g ∷ gs) = cond (eqb s.element g.element) (with_state s g ∷ gs) (alone s ∷ g ∷ gs)

-- consecutive states of one element make a group
unfoldable pub groups : List State → List NetelementGroup
groups [] = []
groups (s ∷ later) = before s (groups later)

-- the groups of what closing these rows gives
unfoldable pub groups_closed : List Row → Closed → List NetelementGroup
groups_closed rs nothing = []
groups_closed rs (path w score) = groups (map (state_at rs) w)
