-- What the loop of `steps::fill::TwoRows::pair_steps` keeps.
use Prim.Native.Nat.{◌/◌, ◌%◌}
use Rattle.steps.specs.inner.Tables.{pair_by_table, Holds}
use Rattle.steps.proofs.fill.TwoRows.pair_steps.Given as goal

abbrev pub invariant-loop-k : goal.invariant-loop-k
invariant-loop-k l = Holds (λ m. pair_by_table l.self l.found (m / l.count) (m % l.count)) l.k l.steps
