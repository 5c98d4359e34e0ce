-- Document 02, K4: "With no windows every route, path and segment is the old one", whatever the minutes. Assumes nothing.
use Prim.Native.Nat.{ℕ, suc, ◌-◌}
use mathlib.Core.Path.{◌≡◌, refl, sym, ap, fun_ext, ◌∙◌}
use mathlib.Core.Bool.{Bool, true, false, cond}
use mathlib.Core.List.{List, [], ◌∷◌, ◌++◌, map}
use mathlib.Core.Option.{Option, none, some}
use lib.Dec.{eqb}
use lib.ListN.{length, length-map, get_or-map}
use Rattle.network.specs.Network.{Network, NoWindows, checked}
use Rattle.network.specs.Graph.{Graph, graph}
use Rattle.network.specs.Triple.{consistent}
use Rattle.network.proofs.NoWindows.{graph-open}
use Rattle.routing.specs.Route.{route, route_states, distance_by, distance_answer}
use Rattle.journal.specs.Row.{Fix, Row, no_row, cell_of, scores, predecessor, row_number}
use Rattle.transition.specs.Routes.{routes_by}
use Rattle.transition.specs.Step.{step_on, transition}
use Rattle.transition.specs.declared.step.Settings.{Settings}
use Rattle.rows.specs.Row.{StepScore, StepsAt, offer, broken, scored, row, rows}
use Rattle.bridges.specs.Bridges.{cheapest_of, between_sides, known_route, elements_between}
use Rattle.decoder.specs.Closing.{Pairs, Closed, nothing, path, follow, close_at, closing}
use Rattle.groups.specs.declared.group.NetelementGroup.{NetelementGroup}
use Rattle.groups.specs.declared.group.State.{State}
use Rattle.groups.specs.Groups.{state_at, alone, with_state, before, groups, groups_closed}
use Rattle.segments.specs.declared.segment.Segment.{Segment}
use Rattle.segments.specs.Build.{segment_of, bridge, built, path_segments}
use Rattle.segments.specs.Plain.{timeless_fix, timeless_row, plain_graph, plain_track, plain_steps, plain_between, plain_built, plain_segments, AsBefore}

-- ---- rows: neither the row rule nor the predecessor looks at a minute

abbrev timeless_option : Option Row → Option Row
timeless_option none = none
timeless_option (some r) = some (timeless_row r)

row-timeless : (step : StepScore) (o : Option Row) (f : Fix) → timeless_row (row step o f) ≡ row step (timeless_option o) (timeless_fix f)
unfolding row scored broken offer
row-timeless step none f = refl
row-timeless step (some p) f = refl

scores-timeless : (r : Row) → scores (timeless_row r) ≡ scores r
unfolding scores
scores-timeless r = refl

predecessor-timeless : (rs : List Row) → predecessor (map timeless_row rs) ≡ timeless_option (predecessor rs)
unfolding predecessor
predecessor-timeless [] = refl
predecessor-timeless (r ∷ rs) = rw (scores-timeless r) (go (scores r) (predecessor-timeless rs))
  where
    go : (b : Bool) → predecessor (map timeless_row rs) ≡ timeless_option (predecessor rs)
        → cond b (some (timeless_row r)) (predecessor (map timeless_row rs)) ≡ timeless_option (cond b (some r) (predecessor rs))
    go true ih = refl
    go false ih = ih

rows-timeless : (step : StepScore) (fs : List Fix) → map timeless_row (rows (λ minute. step) fs) ≡ rows (λ minute. step) (map timeless_fix fs)
unfolding rows
rows-timeless step [] = refl
rows-timeless step (f ∷ fs) =
    let rs = rows (λ minute. step) fs in
    rw (row-timeless step (predecessor rs) f, ← predecessor-timeless rs, rows-timeless step fs)

-- ---- the path

follow-timeless : (rs : List Row) (i : ℕ) → follow (map timeless_row rs) i ≡ follow rs i
unfolding follow
follow-timeless [] i = refl
follow-timeless (r ∷ rs) i =
    rw (scores-timeless r, length-map rs timeless_row, follow-timeless rs i, follow-timeless rs (cell_of r i).parent)

closing-timeless : (rs : List Row) → closing (map timeless_row rs) ≡ closing rs
unfolding closing
closing-timeless rs = rw (predecessor-timeless rs) (go (predecessor rs))
  where
    go : (o : Option Row) → close_at (map timeless_row rs) (timeless_option o) ≡ close_at rs o
    go none = refl
    go (some r) = rw (follow-timeless rs)

-- ---- the groups of the path, but for their minutes

abbrev timeless_state : State → State
timeless_state s = record { row = s.row; minute = 0; element = s.element; intrinsic = s.intrinsic }

abbrev timeless_group : NetelementGroup → NetelementGroup
timeless_group g = record {
  element = g.element;
  minute = 0;
  min_intrinsic = g.min_intrinsic;
  max_intrinsic = g.max_intrinsic;
  first_row = g.first_row;
  last_row = g.last_row;
}

before-timeless : (s : State) (gs : List NetelementGroup) → before (timeless_state s) (map timeless_group gs) ≡ map timeless_group (before s gs)
unfolding before with_state
before-timeless s [] = refl
before-timeless s (g ∷ gs) = go (eqb s.element g.element)
  where
    go : (b : Bool)
        → cond b (with_state (timeless_state s) (timeless_group g) ∷ map timeless_group gs) (alone (timeless_state s) ∷ timeless_group g ∷ map timeless_group gs)
        ≡ map timeless_group (cond b (with_state s g ∷ gs) (alone s ∷ g ∷ gs))
    go true = unfold with_state in refl
    go false = refl

groups-timeless : (l : List State) → groups (map timeless_state l) ≡ map timeless_group (groups l)
unfolding groups
groups-timeless [] = refl
groups-timeless (s ∷ l) = rw (groups-timeless l) (before-timeless s (groups l))

number-timeless : (rs : List Row) (n : ℕ) → row_number (map timeless_row rs) n ≡ timeless_row (row_number rs n)
number-timeless rs n = rw (length-map rs timeless_row) (get_or-map timeless_row rs (length rs - suc n) no_row)

states-timeless : (rs : List Row) (w : Pairs) → map (state_at (map timeless_row rs)) w ≡ map timeless_state (map (state_at rs) w)
states-timeless rs [] = refl
states-timeless rs (p ∷ w) = rw (number-timeless rs p.0, states-timeless rs w)

closed-timeless : (rs : List Row) (c : Closed) → groups_closed (map timeless_row rs) c ≡ map timeless_group (groups_closed rs c)
unfolding groups_closed
closed-timeless rs nothing = refl
closed-timeless rs (path w x) = rw (states-timeless rs w) (groups-timeless (map (state_at rs) w))

-- ---- the segments of the groups

plain-timeless : (net : Network) (gs : List NetelementGroup) → plain_built net (map timeless_group gs) ≡ plain_built net gs
unfolding plain_built
plain-timeless net [] = refl
plain-timeless net (g ∷ []) = refl
plain-timeless net (g ∷ h ∷ gs) =
    ap (λ (l : List Segment). segment_of g ∷ map (bridge g.last_row) (plain_between net g.element h.element) ++ l) (plain-timeless net (h ∷ gs))

module _ (net : Network) (none : NoWindows net.windows) where
  graph-plain : (minute : ℕ) → graph net minute ≡ plain_graph net
  graph-plain = graph-open net none

  steps-plain : (settings : Settings) → transition net settings ≡ plain_steps net settings
  steps-plain settings =
      fun_ext (λ minute. ap (λ (g : Graph). step_on (record { graph = g; headings = net.headings; flags = net.flags }) settings) (graph-plain minute))

  between-plain : (minute previous next : ℕ) → elements_between net minute previous next ≡ plain_between net previous next
  unfolding elements_between distance_answer
  between-plain minute previous next =
      ap (λ (g : Graph). between_sides g previous next (cheapest_of (routes_by (λ side side'. known_route (distance_by (checked net) (route g previous side next side'))))))
      (graph-plain minute)

  built-plain : (gs : List NetelementGroup) → built net gs ≡ plain_built net gs
  unfolding built plain_built
  built-plain [] = refl
  built-plain (g ∷ []) = refl
  built-plain (g ∷ h ∷ gs) = rw (between-plain h.minute g.element h.element, built-plain (h ∷ gs))

  rows-plain : (settings : Settings) (fs : List Fix) → map timeless_row (rows (transition net settings) fs) ≡ rows (plain_steps net settings) (map timeless_fix fs)
  rows-plain settings fs =
      ap (λ (s : StepsAt). map timeless_row (rows s fs)) (steps-plain settings) ∙ rows-timeless (step_on (plain_track net) settings) fs

  segments-plain : (rs : List Row) → path_segments net rs ≡ plain_segments net (map timeless_row rs)
  unfolding path_segments
  segments-plain rs =
      built-plain (groups_closed rs (closing rs))
      ∙ sym (plain-timeless net (groups_closed rs (closing rs)))
      ∙ ap (plain_built net) (sym (closed-timeless rs (closing rs)) ∙ ap (groups_closed (map timeless_row rs)) (sym (closing-timeless rs)))

  -- where no relation has a window
  pub without-windows : AsBefore net
  without-windows = record {
    route-cost = λ minute element side element' side'. ap (λ (g : Graph). route g element side element' side') (graph-plain minute);
    route-states = λ minute element side element' side'. ap (λ (g : Graph). route_states g element side element' side') (graph-plain minute);
    triple = λ minute a b c. ap (λ (g : Graph). consistent g.links a b c) (graph-plain minute);
    fixes-rows = rows-plain;
    best-path = λ settings fs. sym (closing-timeless (rows (transition net settings) fs)) ∙ ap closing (rows-plain settings fs);
    segments = λ settings fs. segments-plain (rows (transition net settings) fs) ∙ ap (plain_segments net) (rows-plain settings fs);
  }
