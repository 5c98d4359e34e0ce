-- The groups of the best path through rows that obey the rules: rows that there are, and intrinsics from 0 to 1. Assumes nothing.
use Prim.Native.Nat.{ℕ, suc, ◌<◌, ◌≤◌}
use native.Mathlib.Omega.{arith}
use mathlib.Core.Bool.{Bool, true, false, cond}
use mathlib.Core.List.{List, [], ◌∷◌, map, reverse_aux}
use mathlib.Core.Option.{Option, none, some}
use lib.Dec.{T, eqb}
use lib.ListN.{length}
use lib.Ieee.{Float, le}
use Rattle.binary64.specs.Ranges.{in_range, in_clear_range}
use Rattle.journal.specs.Row.{Cell, Row, no_parent, no_cell, no_row, cell_of, scores, predecessor}
use Rattle.journal.specs.Ranges.{element_limit, intrinsic_ok}
use Rattle.journal.specs.WellFormed.{Each, Obey}
use Rattle.journal.proofs.Lists.{each_at, each-intro}
use Rattle.journal.proofs.Rules.{candidate-rules}
use Rattle.rows.specs.Row.{best_of}
use Rattle.decoder.specs.Closing.{Pairs, follow, close_at, closing}
use Rattle.closing.proofs.Steps.{rules}
use Rattle.groups.specs.Groups.{state_at, groups_closed}
use Rattle.groups.proofs.Rising.{Rising, rising-sooner, GroupFrom, groups-from}

abbrev pub InRange : Float → Type 0
InRange x = T (intrinsic_ok x)

-- ---- intrinsics

-- every candidate of the row; one that it does not have reads as 0
abbrev CellsInRange : Row → Type 0
CellsInRange r = (i : ℕ) → InRange (cell_of r i).candidate.intrinsic

none-in-range : InRange no_cell.candidate.intrinsic
unfolding intrinsic_ok in_clear_range in_range le
none-in-range = tt

cells-in-range : (r : Row) (rs : List Row) → Obey (r ∷ rs) → CellsInRange r
cells-in-range r rs o i =
    each_at (λ (c : Cell). InRange c.candidate.intrinsic) r.cells i no_cell
    (each-intro (λ (c : Cell). InRange c.candidate.intrinsic) r.cells no_cell
    (λ k l. (candidate-rules element_limit (cell_of r k).candidate (rules r rs o k l).candidate).intrinsic)) none-in-range

rows-in-range : (rs : List Row) → Obey rs → Each CellsInRange rs
rows-in-range [] o = tt
rows-in-range (r ∷ rs) o = (cells-in-range r rs o, rows-in-range rs o.1)

-- ---- rows

-- pairs below row n, the last one first
abbrev Falling : ℕ → Pairs → Type 0
Falling n [] = Unit {0}
Falling n (p ∷ w) = (p.0 < n) × Falling p.0 w

later : (n : ℕ) (w : Pairs) → Falling n w → Falling (suc n) w
later n [] h = tt
later n (p ∷ w) h = (omega (arith, h.0), h.1)

follow-falls : (rs : List Row) (i : ℕ) → Falling (length rs) (follow rs i)
unfolding follow
follow-falls [] i = tt
follow-falls (r ∷ rs) i = go (eqb i no_parent) (scores r) (follow-falls rs (cell_of r i).parent) (follow-falls rs i)
  where
    go : (a b : Bool) → Falling (length rs) (follow rs (cell_of r i).parent) → Falling (length rs) (follow rs i)
        → Falling (suc (length rs)) (cond a [] (cond b ((length rs, i) ∷ follow rs (cell_of r i).parent) (follow rs i)))
    go true b h k = tt
    go false true h k = (omega arith, h)
    go false false h k = later (length rs) (follow rs i) k

-- ---- states and groups

module _ (rs : List Row) (o : Obey rs) (top : ℕ) (few : length rs ≤ suc top) where
  abbrev Up : ℕ → Pairs → Type 0
  Up n w = Rising InRange top n (map (state_at rs) w)

  state-in-range : (p : ℕ × ℕ) → InRange (state_at rs p).intrinsic
  state-in-range p = each_at CellsInRange rs _ no_row (rows-in-range rs o) (λ i. none-in-range) p.1

  -- the pairs in row order
  back-up : (n : ℕ) → n ≤ suc top → (w rest : Pairs) → Falling n w → Up n rest → Up 0 (reverse_aux w rest)
  back-up n l [] rest h k = rising-sooner InRange top 0 n (omega arith) (map (state_at rs) rest) k
  back-up n l (p ∷ w) rest h k =
      back-up p.0 (omega (arith, h.0)) w (p ∷ rest) h.1
      (record { from = omega arith; below = omega (arith, h.0); intrinsic = state-in-range p }, rising-sooner InRange top p.0 n (omega (arith, h.0)) (map (state_at rs) rest) k)

  pub path-groups : Each (GroupFrom InRange top 0) (groups_closed rs (closing rs))
  unfolding groups_closed closing
  path-groups = go (predecessor rs)
    where
      go : (q : Option Row) → Each (GroupFrom InRange top 0) (groups_closed rs (close_at rs q))
      go none = tt
      go (some r) =
          groups-from InRange top 0 (map (state_at rs) (reverse_aux (follow rs (best_of r).0) []))
          (back-up (length rs) few (follow rs (best_of r).0) [] (follow-falls rs (best_of r).0) tt)
