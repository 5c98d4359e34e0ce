-- `routing::goals::serve_goals` meets its contract.
use mathlib.Core.Path.{refl, sym, ap, ◌∙◌}
use native.Mathlib.Omega.{arith}
use Rattle.network.specs.inner.Compiled.{graph_in}
use Rattle.routing.specs.Search.{Search, next}
use Rattle.routing.proofs.Turns.{below, turn-less}
use Rattle.routing.proofs.Reached.{reached-fit, reached-settled}
use Rattle.routing.proofs.Noting.{costs-all}
use Rattle.routing.proofs.Served.{served-begins, served-reached, served-none, served-on}
use Rattle.routing.proofs.goals.serve_goals.Goals as goal

pub loop-waiting-init : goal.loop-waiting-init
loop-waiting-init c = (c.requires.reached, refl, λ k h. served-begins _ _ _ (c.requires.unfound k h), λ z k h. absurd (omega (arith, z, h)), refl)

pub bounds-search-inside-s : goal.bounds-search-inside-s
unfolding next
bounds-search-inside-s c = omega (arith, below (graph_in c.args.graph.now) 0 c.loop-waiting.search c.in-Some.s (reached-fit c.loop-waiting.invariant.0) (sym (c.next_state.ensures _ c.loop-waiting.invariant.0) ∙ c.in-Some.is), c.requires.sound_graph.few)

pub offset_bounds-search-inside-s : goal.offset_bounds-search-inside-s
unfolding next
offset_bounds-search-inside-s c = omega (arith, below (graph_in c.args.graph.now) 0 c.loop-waiting.search c.in-Some.s (reached-fit c.loop-waiting.invariant.0) (sym (c.next_state.ensures _ c.loop-waiting.invariant.0) ∙ c.in-Some.is), c.requires.sound_graph.few)

pub settle-requires : goal.settle-requires
unfolding next
settle-requires c =
    record {
      sound_graph = c.requires.sound_graph;
      s_bound = below (graph_in c.args.graph.now) 0 c.loop-waiting.search c.in-Some.s (reached-fit c.loop-waiting.invariant.0) (sym (c.next_state.ensures _ c.loop-waiting.invariant.0) ∙ c.in-Some.is);
    }

pub loop-waiting-smaller : goal.loop-waiting-smaller
unfolding next
loop-waiting-smaller c = turn-less _ 0 _ _ (reached-fit c.loop-waiting.invariant.0) (sym (c.next_state.ensures _ c.loop-waiting.invariant.0) ∙ c.in-Some.is) c.settle.ensures

pub loop-waiting-preserved : goal.loop-waiting-preserved
unfolding next
loop-waiting-preserved c =
    let picked = sym (c.next_state.ensures _ c.loop-waiting.invariant.0) ∙ c.in-Some.is in
    let fits = reached-fit c.loop-waiting.invariant.0 in (
      reached-settled (graph_in c.args.graph.now) c.requires.sound_graph _ _ c.settle.ensures (below (graph_in c.args.graph.now) 0 c.loop-waiting.search _ fits picked) c.loop-waiting.invariant.0,
      omega (arith, c.loop-waiting.invariant.1),
      λ k h. rw (c.note_goals-waiting.ensures.each k h, ap (λ (q : Search). q.tables.costs) c.search.view_is) (served-on _ _ _ _ (c.loop-waiting.invariant.2 k h) _ fits picked c.settle.ensures),
      c.note_goals-waiting.ensures.reached,
      c.note_goals-waiting.ensures.past ∙ c.loop-waiting.invariant.4,
    )

pub returns-in_default : goal.returns-in_default
unfolding next
returns-in_default c = costs-all _ c.args.goals.now c.args.found.now c.loop-waiting.found (omega (arith, c.loop-waiting.invariant.1, c.requires.goals_in_bounds)) (λ k h. served-none _ _ _ _ (c.loop-waiting.invariant.2 k h) (sym (c.next_state.ensures _ c.loop-waiting.invariant.0) ∙ c.in_default.is)) c.loop-waiting.invariant.4

pub returns : goal.returns
returns c = costs-all _ c.args.goals.now c.args.found.now c.loop-waiting.found (omega (arith, c.loop-waiting.invariant.1, c.requires.goals_in_bounds)) (λ k h. served-reached _ _ _ _ (c.loop-waiting.invariant.2 k h) (c.loop-waiting.invariant.3 (omega (arith, c.loop-waiting-test.false)) k h)) c.loop-waiting.invariant.4
