-- `journal::read::distance_reads` meets its contract.
use borrow.Author.Rules.{rules}
use native.Mathlib.Omega.{arith}
use Rattle.journal.proofs.Tests.{distance-at-test}
use Rattle.journal.proofs.read.distance_reads.Goals as goal

pub returns : goal.returns
returns c = let s = c.args in
    rw (distance-at-test s.at s.words.now (search rules) (omega arith), ← c.float_at.ensures) c.distance_ok.ensures
