-- Groups of states whose rows rise: the rows and intrinsics of each are those of its states. Assumes nothing.
use Prim.Native.Nat.{ℕ, ◌≤◌}
use native.Mathlib.Omega.{arith}
use mathlib.Core.Bool.{Bool, true, false, cond}
use mathlib.Core.List.{List, [], ◌∷◌}
use lib.Dec.{eqb}
use lib.Ieee.{Float, lt}
use Rattle.journal.specs.WellFormed.{Each}
use Rattle.groups.specs.declared.group.NetelementGroup.{NetelementGroup}
use Rattle.groups.specs.Groups.{State, lesser, greater, alone, with_state, before, groups}

-- what is asked of intrinsics, and the highest row
module _ (P : Float → Type 0) (top : ℕ) where
  -- a state from row n on
  pub record StateFrom (n : ℕ) (s : State) : Type 0 where
    pub from : n ≤ s.row
    pub below : s.row ≤ top
    pub intrinsic : P s.intrinsic

  -- states from row n on, in row order
  abbrev pub Rising : ℕ → List State → Type 0
  Rising n [] = Unit {0}
  Rising n (s ∷ l) = StateFrom n s × Rising s.row l

  pub rising-sooner : (n m : ℕ) → n ≤ m → (l : List State) → Rising m l → Rising n l
  rising-sooner n m k [] h = tt
  rising-sooner n m k (s ∷ l) h = (record { from = omega (arith, h.0.from); below = h.0.below; intrinsic = h.0.intrinsic }, h.1)

  -- a group from row n on
  pub record GroupFrom (n : ℕ) (g : NetelementGroup) : Type 0 where
    pub from : n ≤ g.first_row
    pub order : g.first_row ≤ g.last_row
    pub below : g.last_row ≤ top
    pub lowest : P g.min_intrinsic
    pub highest : P g.max_intrinsic

  groups-sooner : (n m : ℕ) → n ≤ m → (gs : List NetelementGroup) → Each (GroupFrom m) gs → Each (GroupFrom n) gs
  groups-sooner n m l [] h = tt
  groups-sooner n m l (g ∷ gs) h =
      let k = h.0 in
      (record { from = omega (arith, k.from); order = k.order; below = k.below; lowest = k.lowest; highest = k.highest }, groups-sooner n m l gs h.1)

  either : (b : Bool) (x y : Float) → P x → P y → P (cond b x y)
  either true x y p q = p
  either false x y p q = q

  module _ (n : ℕ) (s : State) (h : StateFrom n s) where
    alone-from : GroupFrom n (alone s)
    alone-from = record { from = h.from; order = omega arith; below = h.below; lowest = h.intrinsic; highest = h.intrinsic }

    join-from : (g : NetelementGroup) → GroupFrom s.row g → GroupFrom n (with_state s g)
    unfolding with_state lesser greater
    join-from g k = record {
      from = h.from;
      order = omega (arith, k.from, k.order);
      below = k.below;
      lowest = either (lt s.intrinsic g.min_intrinsic) s.intrinsic g.min_intrinsic h.intrinsic k.lowest;
      highest = either (lt s.intrinsic g.max_intrinsic) g.max_intrinsic s.intrinsic k.highest h.intrinsic;
    }

    before-from : (gs : List NetelementGroup) → Each (GroupFrom s.row) gs → Each (GroupFrom n) (before s gs)
    unfolding before
    before-from [] k = (alone-from, tt)
    before-from (g ∷ gs) k = go (eqb s.element g.element)
      where
        go : (b : Bool) → Each (GroupFrom n) (cond b (with_state s g ∷ gs) (alone s ∷ g ∷ gs))
        go true = (join-from g k.0, groups-sooner n s.row h.from gs k.1)
        go false = (alone-from, groups-sooner n s.row h.from (g ∷ gs) k)

  pub groups-from : (n : ℕ) (l : List State) → Rising n l → Each (GroupFrom n) (groups l)
  unfolding groups
  groups-from n [] h = tt
  groups-from n (s ∷ l) h = before-from n s h.0 (groups l) (groups-from s.row l h.1)
