-- `journal::read::cells_read` meets its contract.
use Rattle.std.proofs.Common.{rules, arith, drop, ℕ, ◌+◌, ◌*◌, ◌∙◌}
use Rattle.std.proofs.lemmas.Iterator.{YieldsList-from_range}
use Rattle.std.proofs.lemmas.Iterator.Search.{all_from_yields_List}
use Rattle.journal.specs.Ranges.{cell_ok}
use Rattle.journal.specs.Record.{first_cell, cell_words, read_cell}
use Rattle.journal.specs.inner.Check.{well_read}
use Rattle.lists.proofs.Chains.{all-numbers}
use Rattle.journal.proofs.read.cells_read.Goals as goal

pub returns : goal.returns
returns c =
    let a = c.args in
    let test = λ (k : ℕ). well_read cell_words read_cell (cell_ok a.p a.row) (drop (first_cell + 7 * k) a.words.now) in
    all_from_yields_List test _ _ _ c.all.ensures.ran (YieldsList-from_range 0 a.c a.c (search rules) (omega arith)) (λ k b q called. (search rules, search rules)) ∙ all-numbers test a.c
