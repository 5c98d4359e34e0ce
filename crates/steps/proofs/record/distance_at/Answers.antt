-- `steps::record::distance_at` meets its contract.
use native.Mathlib.Omega.{arith}
use mathlib.Core.Path.{◌∙◌}
use Rattle.journal.specs.Record.{record_length}
use Rattle.steps.proofs.Records.{pair-room, pair-distance}
use Rattle.steps.proofs.record.distance_at.Goals as goal

pub candidate_count-count-requires : goal.candidate_count-count-requires
unfolding record_length
candidate_count-count-requires c = omega (arith, c.requires.room)

pub float_at-requires : goal.float_at-requires
float_at-requires c = pair-room _ _ _ _ _ c.requires c.candidate_count-count.ensures c.distance_count.ensures.pairs

pub returns : goal.returns
returns c = c.float_at.ensures ∙ pair-distance _ _ _ _ _ c.requires c.candidate_count-count.ensures c.distance_count.ensures.pairs
