-- `decoder::fix::candidates_ok` meets its contract.
use native.Mathlib.Omega.{arith}
use mathlib.Core.Path.{sym, ◌∙◌}
use Rattle.journal.specs.Ranges.{candidate_ok}
use Rattle.lists.proofs.Loops.{every-none, every-turn, every-done, every-stop}
use Rattle.decoder.proofs.Tests.{all-given}
use Rattle.decoder.proofs.fix.candidates_ok.Goals as goal

pub loop-i-init : goal.loop-i-init
loop-i-init c = every-none _

pub returns-then-not-candidate_ok : goal.returns-then-not-candidate_ok
returns-then-not-candidate_ok c = rw (← c.fix.view_is) (every-stop c.loop-i.i _ _ (omega arith) (sym c.candidate_ok.ensures ∙ c.if-not-candidate_ok.true) ∙ all-given (candidate_ok c.args.known) _)

pub loop-i-preserved : goal.loop-i-preserved
loop-i-preserved c = rw (← c.fix.view_is) (every-turn _ _ (rw (← c.fix.view_is) at c.loop-i.invariant) (sym c.candidate_ok.ensures ∙ c.if-not-candidate_ok.false))

pub returns : goal.returns
returns c = rw (← c.fix.view_is) (every-done _ _ _ (rw (← c.fix.view_is) at c.loop-i.invariant) (omega arith) ∙ all-given (candidate_ok c.args.known) _)
