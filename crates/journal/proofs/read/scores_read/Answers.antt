-- `journal::read::scores_read` meets its contract.
use Rattle.std.proofs.Common.{rules, arith, ℕ, ◌+◌, ◌*◌, ◌∙◌}
use Rattle.std.proofs.lemmas.Iterator.{YieldsList-from_range}
use Rattle.std.proofs.lemmas.Iterator.Search.{any_from_yields_List}
use Rattle.std.specs.Float.Ieee.Scale.{finite}
use Rattle.lists.proofs.Chains.{any-numbers}
use Rattle.journal.specs.Record.{first_cell, float_at}
use Rattle.journal.proofs.read.scores_read.Goals as goal

pub returns : goal.returns
returns c =
    let a = c.args in
    let test = λ (k : ℕ). finite (float_at a.words.now (first_cell + 7 * k + 5)) in
    any_from_yields_List test _ _ _ c.any.ensures.ran (YieldsList-from_range 0 a.c a.c (search rules) (omega arith)) (λ k b q called. (search rules, search rules)) ∙ any-numbers test a.c
