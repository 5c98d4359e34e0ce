-- `routing::goals::distances_from` meets its contract.
use mathlib.Core.Path.{◌≡◌, ap, ap₂, refl, ◌∙◌}
use mathlib.Core.List.{List, ◌++◌}
use Prim.Native.Nat.{ℕ, ◌≤◌}
use lib.ListN.{length, take, replicate}
use lib.Seq.{length-take-le}
use lib.Ieee.{Float, of_bits}
use Rattle.network.specs.inner.Compiled.{graph_in}
use Rattle.routing.specs.Route.{cost_of_end}
use Rattle.routing.specs.Search.{no_preds, no_marks}
use Rattle.routing.proofs.Leaders.{led-none}
use Rattle.routing.proofs.Noting.{filled-front, filled-rest, costs-same}
use Rattle.routing.proofs.Reached.{reached-begun}
use Rattle.routing.proofs.Routes.{is-searched, node-route}
use Rattle.routing.proofs.goals.distances_from.Goals as goal

filled : (before : List Float) {n : ℕ} {x : Float} {after : List Float} → n ≤ length before →
    (((y : Float) → y ≡ x → y ≡ x) → after ≡ replicate (length (take n before)) x) → after ≡ replicate n x
filled before {n} {x} room h = h (λ y e. e) ∙ ap (λ (k : ℕ). replicate k x) (length-take-le n before room)

pub invariant_of-search : goal.invariant_of-search
unfolding no_marks
invariant_of-search c = rw (c.no_costs.ensures, c.no_leaders.ensures) led-none

pub begin-requires-clause-blank : goal.begin-requires-clause-blank
unfolding no_preds no_marks
begin-requires-clause-blank c = rw c.no_costs.ensures refl

pub serve_goals-requires-clause-unfound : goal.serve_goals-requires-clause-unfound
unfolding of_bits
serve_goals-requires-clause-unfound c = λ k h. rw (filled c.args.found.now c.requires.goals_in_bounds c.fill.ensures.after) (filled-front _ _ (length c.args.goals.now) k h)

pub serve_goals-requires-clause-reached : goal.serve_goals-requires-clause-reached
serve_goals-requires-clause-reached c = rw c.begin.ensures (reached-begun (graph_in c.args.graph.now) c.requires.sound_graph _ c.requires.start_bound)

pub returns : goal.returns
returns c =
    c.serve_goals.ensures
    ∙ ap₂ ◌++◌ (costs-same (λ u. ap cost_of_end (is-searched _ c.args.start u c.begin.ensures refl) ∙ node-route _ c.args.start u c.requires.start_bound) c.args.goals.now) (rw (filled c.args.found.now c.requires.goals_in_bounds c.fill.ensures.after) (filled-rest _ _ (length c.args.goals.now)))
