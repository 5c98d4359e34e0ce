-- The walk back along the parents, a group at a time.
use Rattle.std.specs.Prelude.{ℕ, ◌<◌, ◌≡◌, Bool, true, false, not, ◌&&◌, List, [], ◌∷◌, ◌++◌, map, eqb, Some, None, option_to_list}
use Rattle.journal.specs.Row.{no_parent}
use Rattle.closing.specs.declared.walk.Back.{Back}
use Rattle.journal.specs.inner.Rows.{rows_in}
use Rattle.closing.specs.inner.Walk.{path_from, Reached}
use Rattle.groups.specs.declared.group.NetelementGroup.{NetelementGroup}
use Rattle.groups.specs.declared.gather.Gathering.{Gathering}
use Rattle.groups.specs.Groups.{State, state_at, before}

-- the states still to come, the last one first
abbrev pub states_from : List ℕ → Back → List State
states_from s b = map (state_at (rows_in s)) (path_from s b)

-- some groups and the states before them, the last one first
unfoldable pub onto : List NetelementGroup → List State → List NetelementGroup
onto gs [] = gs
onto gs (s ∷ l) = onto (before s gs) l

-- the groups still to come
abbrev pub groups_from : List ℕ → Back → List NetelementGroup
groups_from s b = onto [] (states_from s b)

-- the group as far as it was read
abbrev pub group_read : Gathering → List NetelementGroup
group_read g = option_to_list g.group

-- it, and the groups still to come, where the first of their states may join it
abbrev pub pending : List ℕ → Gathering → List NetelementGroup
pending s g = onto (group_read g) (states_from s g.back)

unfoldable pub goes_on : Gathering → Bool
goes_on g = not g.ended && (not (eqb g.back.rows 0) && not (eqb g.back.candidate no_parent))

-- no state joins the group any more: it stands for itself after those to come
pub record GroupEnded (s : List ℕ) (g : Gathering) : Type 0 where
  pub group : NetelementGroup
  pub begun : g.group ≡ Some group
  pub apart : pending s g ≡ groups_from s g.back ++ (group ∷ [])

-- one record was read: from g to r
pub record RecordTaken (s : List ℕ) (g r : Gathering) : Type 0 where
  pub reached : Reached s r.back
  pub same : pending s r ≡ pending s g
  pub ends : r.ended ≡ true → GroupEnded s r × ((r.group ≡ g.group) × (r.back ≡ g.back))
  pub fewer : r.ended ≡ false → r.back.rows < g.back.rows

-- the last of the groups still to come from b on, if there is one, and where the walk stands before it
pub record Gathered (s : List ℕ) (b : Back) (r : Gathering) : Type 0 where
  pub reached : Reached s r.back
  pub whole : groups_from s b ≡ groups_from s r.back ++ group_read r
  pub nothing : r.group ≡ None → groups_from s b ≡ []
  pub fewer : {g : NetelementGroup} → r.group ≡ Some g → r.back.rows < b.rows
