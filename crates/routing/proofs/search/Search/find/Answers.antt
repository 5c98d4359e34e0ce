-- `routing::search::Search::find` meets its contract.
use mathlib.Core.Path.{sym, ◌∙◌}
use Rattle.network.specs.inner.Compiled.{graph_in}
use Rattle.routing.specs.Search.{next}
use Rattle.routing.proofs.Turns.{below, turn-found, turn-less, turn_on, run_none}
use Rattle.routing.proofs.Reached.{reached-fit, reached-settled}
use Rattle.routing.proofs.search.Search.find.Goals as goal

pub returns-then-s-goal : goal.returns-then-s-goal
unfolding next
returns-then-s-goal c = turn-found _ _ _ _ (reached-fit c.loop-s.invariant.0) (sym (c.next_state.ensures _ c.loop-s.invariant.0) ∙ c.in-Some.is) c.if-s-goal.true ∙ c.loop-s.invariant.1

pub settle-requires-clause-s_bound : goal.settle-requires-clause-s_bound
unfolding next
settle-requires-clause-s_bound c = below (graph_in c.args.graph.now) 0 c.loop-s.self _ (reached-fit c.loop-s.invariant.0) (sym (c.next_state.ensures _ c.loop-s.invariant.0) ∙ c.in-Some.is)

pub loop-s-smaller : goal.loop-s-smaller
unfolding next
loop-s-smaller c = turn-less _ 0 _ _ (reached-fit c.loop-s.invariant.0) (sym (c.next_state.ensures _ c.loop-s.invariant.0) ∙ c.in-Some.is) c.settle.ensures

pub loop-s-preserved : goal.loop-s-preserved
unfolding next
loop-s-preserved c =
    let picked = sym (c.next_state.ensures _ c.loop-s.invariant.0) ∙ c.in-Some.is in
    let fits = reached-fit c.loop-s.invariant.0 in (
      reached-settled (graph_in c.args.graph.now) c.requires.sound_graph _ _ c.settle.ensures (below (graph_in c.args.graph.now) 0 c.loop-s.self _ fits picked) c.loop-s.invariant.0,
      turn_on _ _ _ _ fits picked c.settle.ensures c.if-s-goal.false ∙ c.loop-s.invariant.1,
    )

pub returns : goal.returns
unfolding next
returns c = run_none _ _ _ _ (sym (c.next_state.ensures _ c.loop-s.invariant.0) ∙ c.in_default.is) ∙ c.loop-s.invariant.1
