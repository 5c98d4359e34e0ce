-- `routing::states::write_back` meets its contract.
use mathlib.Core.Path.{refl, ◌∙◌}
use mathlib.Core.List.{reverse_aux-eq}
use native.Mathlib.Omega.{arith}
use lib.ListN.{drop, length-set}
use Rattle.routing.specs.Route.{states_back}
use Rattle.routing.proofs.Back.{write-turn, write-end}
use Rattle.routing.proofs.states.write_back.Goals as goal

pub loop-i-init : goal.loop-i-init
loop-i-init c = (omega arith, c.requires.s_bound, refl, refl)

pub loop-i-preserved : goal.loop-i-preserved
loop-i-preserved c = (omega arith, c.requires.preds_bound _, simp length-set c.loop-i.invariant.2, write-turn _ _ _ _ c.loop-i.invariant.3 c.loop-i-test.true (omega arith))

pub returns : goal.returns
returns c = write-end _ _ _ _ c.loop-i.invariant.3 (omega arith) ∙ reverse_aux-eq (states_back c.args.preds.now c.args.n c.args.s) (drop c.args.n c.args.states.now)
