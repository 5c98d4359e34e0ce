-- `journal::buffer::copy_fields` meets its contract.
use mathlib.Core.Path.{refl}
use lib.ListN.{length-set}
use Rattle.lists.proofs.Loops.{up_to-none, up_to-turn}
use Rattle.journal.proofs.buffer.copy_fields.Goals as goal

pub loop-k-init : goal.loop-k-init
loop-k-init c = (refl, up_to-none _ _)

pub loop-k-preserved : goal.loop-k-preserved
loop-k-preserved c = (simp length-set c.loop-k.invariant.0, up_to-turn _ _ _ refl c.loop-k.invariant.1)
