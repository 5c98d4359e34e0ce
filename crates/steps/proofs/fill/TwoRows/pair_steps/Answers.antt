-- `steps::fill::TwoRows::pair_steps` meets its contract.
use native.Mathlib.Omega.{arith}
use mathlib.Core.Path.{refl}
use Rattle.transition.proofs.Held.{routes-many}
use Rattle.steps.proofs.Pairs.{pair_below}
use Rattle.steps.proofs.Records.{own-some, pairs-few}
use Rattle.steps.proofs.Tables.{holds-none, holds-turn, holds-done}
use Rattle.steps.proofs.Routes.{table-holds}
use Rattle.steps.proofs.fill.TwoRows.pair_steps.Goals as goal

pub find_routes-requires : goal.find_routes-requires
find_routes-requires c = omega (arith, routes-many c.no_routes-found.ensures)

pub candidate_count-requires : goal.candidate_count-requires
candidate_count-requires c = own-some c.self.invariant.records

pub loop-k-init : goal.loop-k-init
loop-k-init c = holds-none _ _ refl

pub nonzero_div-k : goal.nonzero_div-k
nonzero_div-k c = omega (arith, pair_below c.candidate_count.ensures c.candidate_count-count.ensures c.distance_count-k-end.ensures.pairs c.loop-k-test.true, c.candidate_count-count.ensures)

pub pair_step-requires : goal.pair_step-requires
pair_step-requires c =
    record {
      pair = rw (← c.self.view_is) (pair_below c.candidate_count.ensures c.candidate_count-count.ensures c.distance_count-k-end.ensures.pairs c.loop-k-test.true);
      routes = omega (arith, routes-many c.no_routes-found.ensures);
    }

pub loop-k-preserved : goal.loop-k-preserved
loop-k-preserved c =
    let few = pairs-few c.self.invariant.records c.candidate_count.ensures c.candidate_count-count.ensures c.distance_count-k-end.ensures.pairs in
    holds-turn _ _ _ c.loop-k.invariant (omega (arith, few)) c.pair_step.ensures

pub returns : goal.returns
returns c =
    table-holds c.args.self.now c.find_routes.ensures (rw (← c.self.view_is) c.candidate_count-count.ensures)
    (holds-done _ _ _ _ c.loop-k.invariant (rw (← c.self.view_is, ← c.candidate_count.ensures, ← c.candidate_count-count.ensures, ← c.distance_count-k-end.ensures.pairs) (omega arith)))
