-- `groups::gather::gather_group` meets its contract.
use mathlib.Core.Path.{sym, ◌∙◌}
use Rattle.groups.proofs.Reading.{going-begin, going-onward, going-turn, going_end, turn-less}
use Rattle.groups.proofs.gather.gather_group.Goals as goal

pub loop-g-init : goal.loop-g-init
loop-g-init c = going-begin _ _ c.requires

pub gather_one-g-requires : goal.gather_one-g-requires
gather_one-g-requires c = going-onward _ _ _ c.loop-g.invariant (sym c.goes_on.ensures ∙ c.loop-g-test.true)

pub loop-g-smaller : goal.loop-g-smaller
loop-g-smaller c = turn-less _ _ _ (sym c.goes_on.ensures ∙ c.loop-g-test.true) c.gather_one-g.ensures

pub loop-g-preserved : goal.loop-g-preserved
loop-g-preserved c = going-turn _ _ _ c.loop-g.invariant _ c.gather_one-g.ensures

pub returns : goal.returns
returns c = going_end _ _ _ c.loop-g.invariant (sym c.goes_on.ensures ∙ c.loop-g-test.false)
