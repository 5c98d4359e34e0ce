-- What the loop of `routing::search::Search::relax_external` keeps.
use mathlib.Core.Path.{◌≡◌}
use Prim.Native.Nat.{◌-◌, ◌≤◌}
use Rattle.network.specs.inner.Compiled.{chain}
use Rattle.routing.specs.Search.{relax_external}
use Rattle.routing.proofs.Following.{Left}
use Rattle.routing.proofs.search.Search.relax_external.Given as goal

-- what is left to follow makes of the tables what the whole does
abbrev pub invariant-loop-i : goal.invariant-loop-i
invariant-loop-i l = (l._i ≤ 8192)
    × (l.self.marks ≡ l.initial.self.marks)
    × Left 1024 l.graph.links l.s l.d (8192 - l._i) l.e l.self.tables (relax_external l.s l.d (chain l.graph.links 8192 l.first) l.initial.self.tables)

abbrev pub decreases-loop-i : goal.decreases-loop-i
decreases-loop-i l = 8192 - l._i
