-- `journal::record::put_distances` meets its contract.
use native.Mathlib.Omega.{arith}
use mathlib.Core.Path.{refl, ◌∙◌}
use lib.Ieee.{nan}
use Rattle.journal.specs.Record.{float_words}
use Rattle.journal.proofs.Stores.{stored-turn}
use Rattle.journal.proofs.record.put_distances.Goals as goal

pub loop-k-preserved : goal.loop-k-preserved
loop-k-preserved c = let i = c.loop-k in
    let ds = c.args.distances.now in (
      c.put_float.auto.words ∙ i.invariant.0,
      c.put_float.ensures ∙ rw i.invariant.1 (stored-turn _ _ 2 i.k float_words ds nan (λ x. refl) (omega arith)),
    )
