-- `journal::buffer::copy_floats` meets its contract.
use mathlib.Core.Path.{refl}
use lib.ListN.{length-set}
use Rattle.lists.proofs.Loops.{up_to-none, up_to-turn}
use Rattle.journal.proofs.buffer.copy_floats.Goals as goal

pub loop-k-init : goal.loop-k-init
loop-k-init c = (refl, up_to-none _ _)

pub loop-k-preserved : goal.loop-k-preserved
loop-k-preserved c = (simp length-set c.loop-k.invariant.0, up_to-turn c.loop-k.k _ _ (rw c.float_at.ensures) c.loop-k.invariant.1)
