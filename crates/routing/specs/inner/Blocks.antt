-- The leader of each group of 16 states and of each block of 16 groups, kept beside the tables of a search with what it costs: a pick looks at the
-- blocks' leaders and not at every state, and two leaders are compared by their costs alone. What is picked is `pick_of` of specs/Search.antt still.
use Rattle.std.specs.Prelude.{ℕ, ◌+◌, ◌*◌, ◌<◌, ◌≤◌, Bool, false, cond, not, ◌||◌, ◌&&◌, List, ◌≡◌, T, ltb, length, get_or, replicate, Float}
use Rattle.std.specs.Float.{nan, inf}
use Rattle.std.specs.Float.Ieee.{lt, le, is_nan}
use Rattle.routing.specs.declared.blocks.Leader.{Leader}

-- ---- the leader of some states

-- what a state counts for in a pick: its cost, and infinity where it is settled
unfoldable pub key_of : List Float → List Bool → ℕ → Float
key_of costs marks i = cond (get_or marks i false) (inf false) (get_or costs i nan)

abbrev pub leader_of : ℕ → Float → Leader
leader_of state key = record { state = state; key = key }

-- where there is none to pick
abbrev pub no_leader : Leader
no_leader = leader_of 0 (inf false)

-- of the states from `low` to before `end` the leader has the least key, and is the first that has it; where that is infinity, none of them can be
-- picked, and the leader may be any
pub record Least (key : ℕ → Float) (low end : ℕ) (l : Leader) : Type 0 where
  pub number : T (not (is_nan l.key))
  pub least : (i : ℕ) → low ≤ i → i < end → T (le l.key (key i))
  pub led : T (lt l.key (inf false)) → (low ≤ l.state) × (l.state < end) × (key l.state ≡ l.key) × ((i : ℕ) → low ≤ i → i < l.state → T (lt l.key (key i)))

-- the leader a of some states and the leader b of states behind them
unfoldable pub earlier : Leader → Leader → Leader
earlier a b = cond (lt b.key a.key) b a

-- the earliest of 4 leaders from number `low` on, and of 16: two by two, so that few comparisons wait for another
unfoldable pub earliest_four : (ℕ → Leader) → ℕ → Leader
earliest_four leader low = earlier (earlier (leader low) (leader (low + 1))) (earlier (leader (low + 2)) (leader (low + 3)))

unfoldable pub earliest : (ℕ → Leader) → ℕ → Leader
earliest leader low =
    earlier (earlier (earliest_four leader low) (earliest_four leader (low + 4))) (earlier (earliest_four leader (low + 8)) (earliest_four leader (low + 12)))

-- a state leads itself
unfoldable pub state_leader : List Float → List Bool → ℕ → Leader
state_leader costs marks i = leader_of i (key_of costs marks i)

-- the leader l of some states, one of which, i, has a lower cost than before
unfoldable pub lowered : Leader → ℕ → Float → Leader
lowered l i cost = cond (lt cost l.key || (le cost l.key && ltb i l.state)) (leader_of i cost) l

-- ---- the leaders of all groups and blocks

-- entry b, below 16, is of block b, and entry 16 + g of group g
unfoldable pub leader_at : List Leader → ℕ → Leader
leader_at leaders at = get_or leaders at (leader_of 0 nan)

-- before a search no state can be picked
unfoldable pub no_leaders : List Leader
no_leaders = replicate 272 no_leader

abbrev pub GroupsLed : (ℕ → Float) → List Leader → Type 0
GroupsLed key leaders = (g : ℕ) → g < 256 → Least key (16 * g) (16 * g + 16) (leader_at leaders (16 + g))

abbrev pub BlocksLed : (ℕ → Float) → List Leader → Type 0
BlocksLed key leaders = (b : ℕ) → b < 16 → Least key (256 * b) (256 * b + 256) (leader_at leaders b)

-- tables of 4,096 states, in which no cost is NaN, with the leaders of all groups and blocks
pub record Led (costs : List Float) (marks : List Bool) (leaders : List Leader) : Type 0 where
  pub tables : (4096 ≤ length costs) × (4096 ≤ length marks)
  pub entries : 272 ≤ length leaders
  pub numbers : (i : ℕ) → i < 4096 → T (not (is_nan (get_or costs i nan)))
  pub groups : GroupsLed (key_of costs marks) leaders
  pub blocks : BlocksLed (key_of costs marks) leaders
