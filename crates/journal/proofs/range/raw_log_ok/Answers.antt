-- `journal::range::raw_log_ok` meets its contract.
use mathlib.Core.Path.{sym, ◌∙◌}
use lib.Ieee.{of_bits, neg}
use Rattle.journal.specs.Ranges.{raw_log_ok}
use Rattle.journal.proofs.range.raw_log_ok.Goals as goal

pub returns-then-is_minus_infinity : goal.returns-then-is_minus_infinity
unfolding raw_log_ok
returns-then-is_minus_infinity c = rw (sym c.is_minus_infinity.ensures ∙ c.if-is_minus_infinity.true) c.if-is_minus_infinity.true

pub returns-else-is_minus_infinity : goal.returns-else-is_minus_infinity
unfolding raw_log_ok of_bits neg
returns-else-is_minus_infinity c = rw (sym c.is_minus_infinity.ensures ∙ c.if-is_minus_infinity.false) c.in_range.ensures
