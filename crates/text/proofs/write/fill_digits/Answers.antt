-- `text::write::fill_digits` meets its contract.
use Rattle.text.proofs.Written.{digits-none, digits-turn, digits-done}
use Rattle.text.proofs.write.fill_digits.Goals as goal

pub loop-k-init : goal.loop-k-init
loop-k-init c = let d = digits-none c.args.out.now c.args.base c.args.n in record { rest_is = d.0; stored = d.1 }

pub loop-k-preserved : goal.loop-k-preserved
loop-k-preserved c =
    let d = digits-turn _ _ _ _ _ _ _ c.loop-k-test.true c.loop-k.auto.k c.loop-k.auto.out c.glyph.ensures c.loop-k.invariant.rest_is c.loop-k.invariant.stored in
    record { rest_is = d.0; stored = d.1 }

pub returns : goal.returns
returns c = digits-done _ _ _ _ _ c.loop-k-test.false c.loop-k.invariant.stored
