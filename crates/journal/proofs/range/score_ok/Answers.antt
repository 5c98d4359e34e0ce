-- `journal::range::score_ok` meets its contract.
use mathlib.Core.Path.{sym, ◌∙◌}
use lib.Ieee.{of_bits}
use Rattle.journal.specs.Ranges.{score_ok}
use Rattle.journal.proofs.range.score_ok.Goals as goal

pub returns-then-is_minus_infinity : goal.returns-then-is_minus_infinity
unfolding score_ok
returns-then-is_minus_infinity c = rw (sym c.is_minus_infinity.ensures ∙ c.if-is_minus_infinity.true) c.if-is_minus_infinity.true

pub returns-else-is_minus_infinity : goal.returns-else-is_minus_infinity
unfolding score_ok of_bits
returns-else-is_minus_infinity c = rw (sym c.is_minus_infinity.ensures ∙ c.if-is_minus_infinity.false, ← c.lowest_score.ensures) c.in_range.ensures
