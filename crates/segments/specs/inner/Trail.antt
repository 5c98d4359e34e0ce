-- The groups of the best path from the last one back.
use Rattle.std.specs.Prelude.{ℕ, ◌<◌, ◌≡◌, List, [], ◌∷◌, ◌++◌, Option, Some, None}
use Rattle.network.specs.Network.{Network}
use Rattle.closing.specs.declared.walk.Back.{Back}
use Rattle.closing.specs.inner.Walk.{Reached}
use Rattle.bridges.specs.Bridges.{elements_between}
use Rattle.bridges.specs.inner.Found.{bridges_of}
use Rattle.groups.specs.declared.group.NetelementGroup.{NetelementGroup}
use Rattle.groups.specs.inner.Gather.{groups_from}
use Rattle.segments.specs.declared.trail.Trail.{Trail}

-- the groups from a place on, and a last one after them
abbrev pub groups_with : List ℕ → Back → Option NetelementGroup → List NetelementGroup
groups_with s back None = []
groups_with s back (Some g) = groups_from s back ++ (g ∷ [])

-- the groups up to the one that it stands at, in row order
abbrev pub groups_left : List ℕ → Trail → List NetelementGroup
groups_left s t = groups_with s t.back t.group

-- the elements from a group to the next one, at the minute of that one's first row; none where there is no group
abbrev pub bridges_to : Network → NetelementGroup → Option NetelementGroup → List ℕ
bridges_to net next None = []
bridges_to net next (Some g) = elements_between net next.minute g.element next.element

-- at the last of the groups from a place on; no group comes after it, so there are no bridges
pub record Begun (s : List ℕ) (start : Back) (r : Trail) : Type 0 where
  pub reached : Reached s r.back
  pub whole : groups_from s start ≡ groups_left s r
  pub none_after : r.bridges ≡ bridges_of []

-- at the group before the next one, which stands at a place
pub record Stepped (net : Network) (s : List ℕ) (next : NetelementGroup) (back : Back) (r : Trail) : Type 0 where
  pub reached : Reached s r.back
  pub whole : groups_from s back ≡ groups_left s r
  pub bridged : r.bridges ≡ bridges_of (bridges_to net next r.group)
  pub fewer : {g : NetelementGroup} → r.group ≡ Some g → r.back.rows < back.rows
