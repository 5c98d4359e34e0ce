-- `rows::previous::best_previous` meets its contract.
use mathlib.Core.Path.{◌≡◌}
use native.Mathlib.Omega.{arith}
use Rattle.rows.specs.Row.{last_best}
use Rattle.rows.specs.inner.Scoring.{no_previous}
use Rattle.rows.proofs.Best.{previous-turn}
use Rattle.rows.proofs.Records.{size-narrow, stands_at}
use Rattle.rows.proofs.previous.best_previous.Goals as goal

pub loop-j-init : goal.loop-j-init
unfolding last_best no_previous
loop-j-init c = c.no_previous-best.ensures

pub overflow_cast-j : goal.overflow_cast-j
overflow_cast-j c = omega (arith, size-narrow c.args.words.now)

pub score_of-requires : goal.score_of-requires
score_of-requires c = stands_at _ _ _ c.requires c.loop-j-test.true

pub loop-j-preserved : goal.loop-j-preserved
loop-j-preserved c = previous-turn _ _ c.loop-j.invariant c.score_of.ensures c.later_best-best.ensures

pub returns : goal.returns
returns c = let all : c.loop-j.j ≡ c.args.before = omega arith in rw (c.requires.many, ← all) c.loop-j.invariant
