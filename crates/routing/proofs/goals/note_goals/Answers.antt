-- `routing::goals::note_goals` meets its contract.
use mathlib.Core.Path.{refl, sym, ◌∙◌}
use native.Mathlib.Omega.{arith}
use Rattle.routing.proofs.Noting.{noting-none, noting-on, noting-done}
use Rattle.routing.proofs.goals.note_goals.Goals as goal
use Rattle.routing.proofs.goals.note_goals.Goals.{then-not-is_reached, else-not-is_reached}

pub loop-k-init : goal.loop-k-init
loop-k-init c = (refl, omega arith, noting-none _ _ _ _)

pub loop-k-preserved : goal.loop-k-preserved
loop-k-preserved c = (
  c.loop-k.invariant.0,
  omega arith,
  elim c.if-not-is_reached.branch [
    | then-not-is_reached w ↦ noting-on _ _ _ _ _ _ _ c.loop-k.invariant.2 (omega (arith, c.loop-k-test.true, c.loop-k.invariant.0)) (omega (arith, c.loop-k-test.true, c.loop-k.invariant.0, c.requires)) c.noted_cost-known.ensures (omega (arith, w.waiting-is, c.loop-k.invariant.2.few)) (λ z. absurd (omega (arith, w.waiting-is)))
    | else-not-is_reached w ↦ noting-on _ _ _ _ _ _ _ c.loop-k.invariant.2 (omega (arith, c.loop-k-test.true, c.loop-k.invariant.0)) (omega (arith, c.loop-k-test.true, c.loop-k.invariant.0, c.requires)) c.noted_cost-known.ensures (omega (arith, w.waiting-is, c.loop-k.invariant.2.few)) (λ z. (omega (arith, w.waiting-is), sym c.is_reached.ensures ∙ w.if-not-is_reached.false))
  ],
)

pub returns : goal.returns
returns c = noting-done _ _ _ _ _ _ _ c.loop-k.invariant.2 (omega arith)
