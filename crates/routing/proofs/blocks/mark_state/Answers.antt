-- `routing::blocks::mark_state` meets its contract.
use mathlib.Core.Path.{refl}
use Rattle.routing.proofs.Leaders.{led-marked}
use Rattle.routing.proofs.blocks.mark_state.Goals as goal

pub returns : goal.returns
returns c =
    record {
      marked = refl;
      led_after = led-marked c.requires.led _ c.requires.s_bound _ c.lead_states.ensures _ c.lead_entries.ensures;
    }
