-- `rows::offers::best_offer` meets its contract.
use native.Mathlib.Omega.{arith}
use Rattle.rows.proofs.Best.{offers-none, offers-turn}
use Rattle.rows.proofs.Records.{size-narrow}
use Rattle.rows.proofs.offers.best_offer.Goals as goal

pub loop-j-init : goal.loop-j-init
loop-j-init c = offers-none _

pub overflow_cast-j : goal.overflow_cast-j
overflow_cast-j c = omega (arith, c.args.o.now.offerable.predecessor.stands.many, size-narrow c.args.o.now.words.now)

pub loop-j-preserved : goal.loop-j-preserved
loop-j-preserved c = offers-turn _ c.loop-j.j c.loop-j.invariant c.offer.ensures c.better_offer-best.ensures
