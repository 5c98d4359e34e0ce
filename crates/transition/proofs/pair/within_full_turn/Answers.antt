-- `transition::pair::within_full_turn` meets its contract.
use lib.Ieee.{nan_bits}
use Rattle.std.proofs.Common.{rules, sym, ◌∙◌}
use Rattle.transition.proofs.FullTurns.{turn-first, turns-begin, turned-half, turned-less, turned-more, turned-end, none-left, own-left}
use Rattle.transition.proofs.pair.within_full_turn.Goals as goal
use Rattle.transition.proofs.pair.within_full_turn.Goals.{then-turns-rest, else-turns-rest}

pub returns-then-not-is_finite : goal.returns-then-not-is_finite
returns-then-not-is_finite c = none-left c.args.x (sym c.is_finite.ensures ∙ c.if-not-is_finite.true)

pub returns-then-x : goal.returns-then-x
returns-then-x c = own-left c.args.x c.requires (sym c.is_finite.ensures ∙ c.if-not-is_finite.false) (search rules) c.if-x.true

pub float_from_bits-turns : goal.float_from_bits-turns
float_from_bits-turns c = unfold nan_bits in tt

pub loop-i-init : goal.loop-i-init
loop-i-init c = (turn-first, turns-begin c.args.x c.requires (sym c.is_finite.ensures ∙ c.if-not-is_finite.false) (search rules))

pub loop-i-preserved : goal.loop-i-preserved
loop-i-preserved c = (
  turned-half c.args.x c.loop-i.rest c.loop-i.turns c.loop-i.i c.loop-i-test.true c.loop-i.invariant.0,
  elim c.if-turns-rest.branch [
    | then-turns-rest w ↦ rw w.rest-is (turned-less c.args.x c.loop-i.rest c.loop-i.turns c.loop-i.i c.loop-i-test.true c.loop-i.invariant.0 c.loop-i.invariant.1 w.if-turns-rest.true)
    | else-turns-rest w ↦ rw w.rest-is (turned-more c.args.x c.loop-i.rest c.loop-i.turns c.loop-i.i c.loop-i-test.true c.loop-i.invariant.0 c.loop-i.invariant.1 w.if-turns-rest.false)
  ],
)

pub returns : goal.returns
returns c = turned-end c.args.x c.loop-i.rest c.loop-i.i c.loop-i-test.false c.loop-i.invariant.1
