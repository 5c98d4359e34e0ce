-- `routing::states::states_between` meets its contract.
use mathlib.Core.Path.{refl, ap}
use native.Mathlib.Omega.{arith}
use Rattle.network.specs.inner.Compiled.{Compiled, graph_in}
use Rattle.routing.specs.Search.{Search, no_preds, no_marks}
use Rattle.routing.specs.Route.{states_stored}
use Rattle.routing.proofs.Leaders.{led-none}
use Rattle.routing.proofs.Reached.{reached-begun}
use Rattle.routing.proofs.Routes.{is-searched, found-listing, found-stored, found_below, found-states-below, none-listing}
use Rattle.routing.proofs.states.states_between.Goals as goal

pub invariant_of-search : goal.invariant_of-search
unfolding no_marks
invariant_of-search c = rw (c.no_costs.ensures, c.no_leaders.ensures) led-none

pub begin-requires-clause-blank : goal.begin-requires-clause-blank
unfolding no_preds no_marks
begin-requires-clause-blank c = rw c.no_costs.ensures refl

pub find-requires-clause-reached : goal.find-requires-clause-reached
find-requires-clause-reached c = rw c.begin.ensures (reached-begun (graph_in c.args.graph.now) c.requires.sound_graph _ c.requires.start_bound)

pub bounds-search-inside-s : goal.bounds-search-inside-s
bounds-search-inside-s c = found_below _ c.args.start c.args.goal (is-searched _ _ c.args.goal c.begin.ensures c.find.ensures) _ c.in-Some.is c.requires.sound_graph

pub offset_bounds-search-inside-s : goal.offset_bounds-search-inside-s
offset_bounds-search-inside-s c = omega (arith, found_below _ c.args.start c.args.goal (is-searched _ _ c.args.goal c.begin.ensures c.find.ensures) _ c.in-Some.is c.requires.sound_graph)

pub list_back-requires-clause-s_bound : goal.list_back-requires-clause-s_bound
list_back-requires-clause-s_bound c = found_below _ c.args.start c.args.goal (is-searched _ _ c.args.goal c.begin.ensures c.find.ensures) _ c.in-Some.is c.requires.sound_graph

pub list_back-requires-clause-preds_bound : goal.list_back-requires-clause-preds_bound
list_back-requires-clause-preds_bound c = λ k.
    rw (ap (λ (q : Search). q.tables.preds) c.search.view_is)
    (found-states-below _ c.args.start c.args.goal (is-searched _ _ c.args.goal c.begin.ensures c.find.ensures) c.requires.sound_graph k)

pub returns-in-Some-clause-value : goal.returns-in-Some-clause-value
returns-in-Some-clause-value c =
    found-listing _ c.args.start c.args.goal (rw (← c.search.view_is) at (is-searched _ _ c.args.goal c.begin.ensures c.find.ensures)) _ c.in-Some.is _ _
    (rw (ap (λ (g : Compiled). g.lengths) c.graph.view_is) at c.list_back.ensures.value)

pub returns-in-Some-clause-states_after : goal.returns-in-Some-clause-states_after
returns-in-Some-clause-states_after c =
    found-stored _ c.args.start c.args.goal (rw (← c.search.view_is) at (is-searched _ _ c.args.goal c.begin.ensures c.find.ensures)) _ c.in-Some.is 0 _ _
    (rw (ap (λ (g : Compiled). g.lengths) c.graph.view_is) at c.list_back.ensures.states_after)

pub returns-in-None-clause-value : goal.returns-in-None-clause-value
returns-in-None-clause-value c = none-listing _ c.args.start c.args.goal (is-searched _ _ c.args.goal c.begin.ensures c.find.ensures) c.in-None.is _ _

pub returns-in-None-clause-states_after : goal.returns-in-None-clause-states_after
unfolding states_stored
returns-in-None-clause-states_after c = refl
