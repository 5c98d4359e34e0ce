-- What bounds the numbers of a search.
use Rattle.std.specs.Prelude.{ℕ, zero, suc, ◌+◌, ◌<◌, ◌≤◌, ◌≡◌, Bool, false, cond, List, Option, Some, None, length, get_or}
use Rattle.std.specs.Float.{nan, inf}
use Rattle.routing.specs.Search.{Tables, Search, search_of, no_costs, no_preds, no_marks}

-- a pick is a state below n
abbrev pub Within : ℕ → Option ℕ → Type 0
Within n (Some j) = j < n
Within n None = Unit {0}

-- how many of the first n states are unsettled: as many turns are left at most
unfoldable pub unsettled : List Bool → ℕ → ℕ
unsettled marks zero = 0
unsettled marks (suc n) = cond (get_or marks n false) 0 1 + unsettled marks n

-- tables of 4,096 states, of which none from n on is reached
pub record ReachedBelow (n : ℕ) (q : Search) : Type 0 where
  pub few : n ≤ 4096
  pub marks : 4096 ≤ length q.marks
  pub rest : (i : ℕ) → n ≤ i → i < 4096 → get_or q.tables.costs i nan ≡ inf false

-- other costs and predecessors
abbrev pub with_tables : Tables → Search → Search
with_tables t q = record { tables = t; marks = q.marks }

-- no state is reached, and none settled
abbrev pub blank : Search
blank = search_of no_costs no_preds no_marks
