-- Building turn by turn: the last of the segments that are left is stored in each.
use Rattle.std.specs.Prelude.{ℕ, suc, ◌≤◌, ◌≡◌, List, [], ◌∷◌, ◌++◌, map, length, take, Option, Some, None, Ok}
use Rattle.network.specs.Network.{Network}
use Rattle.closing.specs.inner.Walk.{Reached}
use Rattle.bridges.specs.inner.Found.{bridges_of}
use Rattle.groups.specs.declared.group.NetelementGroup.{NetelementGroup}
use Rattle.segments.specs.declared.segment.Segment.{Segment}
use Rattle.segments.specs.declared.build.Building.{Building}
use Rattle.segments.specs.Segment.{zero_segment}
use Rattle.segments.specs.inner.Trail.{groups_left}
use Rattle.segments.specs.Build.{bridge, built, building}

-- bridges that begin at a group
abbrev pub bridges_at : Option NetelementGroup → List ℕ → List Segment
bridges_at None elements = []
bridges_at (Some g) elements = map (bridge g.last_row) elements

-- the segments still to be stored, in row order
abbrev pub to_come : Network → List ℕ → Building → List Segment
to_come net s b = built net (groups_left s b.trail) ++ bridges_at b.trail.group (take b.waiting b.trail.bridges.elements)

-- there are no segments
unfoldable pub nothing_left : Building
nothing_left = record {
  left = 0;
  waiting = 0;
  trail = record { group = None; bridges = bridges_of []; back = record { rows = 0; end = 0; latest = 0; candidate = 0; pairs = 0 } };
  out = zero_segment;
}

-- as many are left as are to come, and the walk stands at a place of the journal
pub record BuildingStands (net : Network) (s : List ℕ) (b : Building) : Type 0 where
  pub reached : (g : NetelementGroup) → b.trail.group ≡ Some g → Reached s b.trail.back
  pub left : b.left ≡ length (to_come net s b)
  pub waits : b.waiting ≤ length b.trail.bridges.elements
  pub few : b.waiting ≤ 1024

-- and some are, up to this group
pub record SegmentsLeft (net : Network) (s : List ℕ) (b : Building) (group : NetelementGroup) : Type 0 where
  pub stands : BuildingStands net s b
  pub more : b.trail.group ≡ Some group

-- before the first turn: the call's outcome is the list that is to come, and the buffer has room for it
pub record Opened (net : Network) (s : List ℕ) (room : ℕ) (b : Building) : Type 0 where
  pub stands : BuildingStands net s b
  pub within : b.left ≤ room
  pub whole : building net s room ≡ Ok (to_come net s b)

-- a turn: the last of those to come is worked out
pub record SegmentTaken (net : Network) (s : List ℕ) (b r : Building) : Type 0 where
  pub stands : BuildingStands net s r
  pub split : to_come net s b ≡ to_come net s r ++ (r.out ∷ [])
  pub less : b.left ≡ suc r.left
