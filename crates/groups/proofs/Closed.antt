-- The groups of the best path are those that the walk back reads. Assumes nothing.
use Prim.Native.Nat.{ℕ}
use mathlib.Core.Path.{◌≡◌, sym, ap, ◌∙◌}
use mathlib.Core.List.{List, [], reverse}
use lib.Ieee.{Float}
use Rattle.lists.proofs.Lists.{map_back}
use Rattle.decoder.specs.Closing.{Closed, path}
use Rattle.closing.specs.declared.walk.Back.{Back}
use Rattle.journal.specs.inner.Rows.{rows_in}
use Rattle.closing.specs.inner.Walk.{path_from}
use Rattle.groups.specs.Groups.{state_at, groups, groups_closed}
use Rattle.groups.specs.inner.Gather.{states_from, groups_from}
use Rattle.groups.proofs.Onto.{onto-groups}

pub closed-groups : (s : List ℕ) (b : Back) (score : Float) {c : Closed} → c ≡ path (reverse (path_from s b)) score → groups_closed (rows_in s) c ≡ groups_from s b
unfolding groups_closed
closed-groups s b score e = rw e (ap groups (map_back (state_at (rows_in s)) (path_from s b) []) ∙ sym (onto-groups (states_from s b)))
