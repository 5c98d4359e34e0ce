-- `binary64::in_clear_range` meets its contract.
use Rattle.std.proofs.Common.{rules, sym, ◌∙◌}
use Rattle.binary64.specs.Ranges.{in_clear_range}
use Rattle.binary64.proofs.Ranges.{range-number, sign_bit}
use Rattle.binary64.proofs.in_clear_range.Goals as goal

pub float_to_bits-result : goal.float_to_bits-result
float_to_bits-result c = range-number c.args.low c.args.high c.args.x (search rules)

pub returns-then-in_range : goal.returns-then-in_range
unfolding in_clear_range
returns-then-in_range c =
    rw (sym c.in_range.ensures ∙ c.if-in_range.true) (sign_bit _ (search rules) (range-number c.args.low c.args.high c.args.x (search rules)))
