-- `decoder::known::row_known` meets its contract.
use native.Mathlib.Omega.{arith}
use mathlib.Core.Path.{◌∙◌}
use borrow.Author.Tests.{lt-ltb, le-ltb}
use Rattle.lists.proofs.Loops.{every-none, every-turn, every-done, every-stop}
use Rattle.journal.proofs.RecordRead.{row-size}
use Rattle.decoder.proofs.KnownRows.{row-tested}
use Rattle.decoder.proofs.known.row_known.Goals as goal

pub loop-i-init : goal.loop-i-init
loop-i-init c = every-none _

pub bounds-words-i : goal.bounds-words-i
bounds-words-i c = omega (arith, row-size c.args.words.now)

pub returns-then-known-element : goal.returns-then-known-element
returns-then-known-element c = every-stop c.loop-i.i _ _ (omega arith) (le-ltb _ _ c.if-known-element.true) ∙ row-tested c.args.known c.args.words.now

pub loop-i-preserved : goal.loop-i-preserved
loop-i-preserved c = every-turn _ _ c.loop-i.invariant (lt-ltb _ _ c.if-known-element.false)

pub returns : goal.returns
returns c = every-done _ _ _ c.loop-i.invariant (omega arith) ∙ row-tested c.args.known c.args.words.now
