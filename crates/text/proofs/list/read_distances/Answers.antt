-- `text::list::read_distances` meets its contract.
use native.Mathlib.Omega.{arith}
use mathlib.Core.Path.{ap}
use Rattle.lists.proofs.Loops.{up_to-none, up_to-turn, up_to-done}
use Rattle.text.specs.inner.Lists.{read_distances}
use Rattle.text.proofs.Lists.{paired}
use Rattle.text.proofs.list.read_distances.Goals as goal

pub loop-k-init : goal.loop-k-init
loop-k-init c = up_to-none _ _

pub loop-k-preserved : goal.loop-k-preserved
loop-k-preserved c = up_to-turn c.loop-k.k _ _ (paired (c.float_into-cursor.ensures.value, c.float_into-cursor.ensures.floats_after)) c.loop-k.invariant

pub returns : goal.returns
unfolding read_distances
returns c =
    let e = up_to-done c.loop-k.k c.args.n _ _ c.loop-k.invariant (omega arith) in
    record {
      value = ap (λ s. s.0) e;
      distances_after = ap (λ s. s.1) e;
    }
