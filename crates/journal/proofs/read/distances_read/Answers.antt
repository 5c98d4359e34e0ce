-- `journal::read::distances_read` meets its contract.
use borrow.Author.Rules.{rules}
use borrow.Author.Tests.{lt-ltb}
use Prim.Native.Nat.{ℕ, ◌<◌, ◌+◌, ◌*◌}
use Rattle.journal.proofs.HighHalf.{distance-half}
use Rattle.journal.proofs.Tests.{distance-at-test}
use Rattle.lists.proofs.Loops.{every-all}
use mathlib.Core.Path.{sym, ◌∙◌}
use lib.ListN.{get_or}
use native.Mathlib.Omega.{arith}
use Rattle.journal.proofs.read.distances_read.Goals as goal

pub returns-then-small : goal.returns-then-small
returns-then-small c = let s = c.args in
    let word : (k : ℕ) → get_or c.args.words.now k 0 < 4294967296 = search rules in
    lt-ltb _ _ c.if-small.true ∙ sym (every-all _ _ (λ k h. distance-at-test (s.at + 2 * k) s.words.now (λ j. omega (arith, word j)) (omega arith)
    ∙ distance-half _ _ (omega (arith, word (s.at + 2 * k + 1))) (omega (arith, c.greatest_half-small.ensures k h))))
