-- `transition::costs::fill_routes` meets its contract.
use mathlib.Core.Path.{refl}
use Rattle.lists.specs.Loops.{up_to}
use Rattle.transition.specs.inner.Costs.{rows_filled}
use Rattle.transition.proofs.Held.{rows-turn}
use Rattle.transition.proofs.costs.fill_routes.Goals as goal

pub loop-r-init : goal.loop-r-init
unfolding rows_filled up_to
loop-r-init c = refl

pub loop-r-preserved : goal.loop-r-preserved
loop-r-preserved c = rows-turn _ _ _ c.loop-r.r _ c.loop-r.invariant c.fill_row.ensures
