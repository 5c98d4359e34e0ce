-- `routing::blocks::lower_cost` meets its contract.
use mathlib.Core.Path.{refl}
use Rattle.routing.specs.inner.Blocks.{leader_at}
use Rattle.routing.proofs.Leaders.{led-settled, led-lowered}
use Rattle.routing.proofs.blocks.lower_cost.Goals as goal

pub returns-then-marks-i : goal.returns-then-marks-i
returns-then-marks-i c =
    record {
      lowered = refl;
      led_after = led-settled c.requires.led _ c.requires.i_bound _ c.requires.less c.if-marks-i.true;
    }

pub returns : goal.returns
unfolding leader_at
returns c =
    record {
      lowered = refl;
      led_after = led-lowered c.requires.led _ c.requires.i_bound _ c.requires.less c.if-marks-i.false _ c.lowered_by.ensures _ c.lowered_by-2.ensures;
    }
