-- What the loop of `network::compile::compile_network` keeps.
use Rattle.network.proofs.Compiling.{Added}
use Rattle.network.proofs.compile.compile_network.Given as goal

abbrev pub invariant-loop-k : goal.invariant-loop-k
invariant-loop-k l = Added l.net l.minute l.k l.compiled
