-- `routing::search::Search::relax_external` meets its contract.
use mathlib.Core.Path.{refl, ap, ◌∙◌}
use Prim.Native.Nat.{◌+◌, ◌-◌}
use native.Mathlib.Omega.{arith}
use lib.Ieee.{of_bits}
use Rattle.network.specs.inner.Compiled.{Compiled}
use Rattle.routing.specs.Search.{Search}
use Rattle.routing.proofs.Following.{left-all, left-lands, left-on, left-none, left_out}
use Rattle.routing.proofs.search.Search.relax_external.Goals as goal

pub loop-i-init : goal.loop-i-init
loop-i-init c = (omega arith, refl, left-all _ _ _ _ _ _ _ c.requires.lands)

pub returns-then-e-ge8192 : goal.returns-then-e-ge8192
returns-then-e-ge8192 c = let t = left-none _ _ _ _ _ _ _ _ c.loop-i.invariant.2 c.if-e-ge8192.true in let m = c.loop-i.invariant.1 in rw (← t, ← m)

pub lower-requires : goal.lower-requires
lower-requires c = (
  c.requires.s_bound,
  rw (ap (λ (g : Compiled). g.links) c.graph.view_is) (left-lands _ _ _ _ _ _ _ _ c.loop-i.invariant.2 c.if-e-ge8192.false (8192 - (c.loop-i._i + 1)) (omega arith)),
)

pub loop-i-preserved : goal.loop-i-preserved
unfolding of_bits
loop-i-preserved c =
    let links = ap (λ (g : Compiled). g.links) c.graph.view_is in (
      omega arith,
      ap (λ (q : Search). q.marks) c.lower.ensures ∙ c.loop-i.invariant.1,
      rw links (left-on _ _ _ _ _ _ _ _ c.loop-i.invariant.2 c.if-e-ge8192.false _ (omega arith) (rw links at (ap (λ (q : Search). q.tables) c.lower.ensures))),
    )

pub returns : goal.returns
returns c = let t = left_out _ _ _ _ _ _ _ _ c.loop-i.invariant.2 (omega arith) in let m = c.loop-i.invariant.1 in rw (← t, ← m)
