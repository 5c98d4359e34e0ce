-- `journal::fix::gather` meets its contract.
use mathlib.Core.Path.{refl, sym, ap, ◌∙◌}
use native.Mathlib.Omega.{arith}
use lib.ListN.{length}
use Rattle.journal.specs.Row.{Given}
use Rattle.journal.proofs.Gathered.{gathered-turn, gathered-done, count-given, own-given}
use Rattle.journal.proofs.fix.gather.Goals as goal

pub loop-i-preserved : goal.loop-i-preserved
loop-i-preserved c = let loop = c.loop-i in
    let l = c.loop-i-test.true in
    let many = ap (λ (g : Given). length g.elements) c.fix.view_is in
    gathered-turn _ loop.list loop.i loop.invariant (omega (arith, l, c.requires.few, many)) (rw (← c.fix.view_is) (sym (own-given _ loop.i l)))

pub returns : goal.returns
returns c =
    let loop = c.loop-i in
    let many = ap (λ (g : Given). length g.elements) c.fix.view_is ∙ sym (count-given c.args.fix.now) in
    gathered-done _ loop.list loop.invariant (omega (arith, many)) (omega (arith, count-given c.args.fix.now, c.requires.few)) _ refl many (ap (λ (g : Given). g.minute) c.fix.view_is)
