-- `replaying::cells::cells_same` meets its contract.
use Rattle.std.proofs.Common.{rules, arith, get_or, ℕ, ◌∙◌}
use Rattle.std.specs.Float.{nan}
use Rattle.std.proofs.lemmas.Iterator.{YieldsList-from_range}
use Rattle.std.proofs.lemmas.Iterator.Search.{all_from_yields_List}
use Rattle.journal.specs.Row.{cell_of}
use Rattle.journal.specs.Record.{read_row}
use Rattle.lists.proofs.Chains.{all-numbers}
use Rattle.replaying.specs.inner.Comparing.{same_cell}
use Rattle.replaying.proofs.cells.cells_same.Goals as goal

pub returns : goal.returns
returns c =
    let a = c.args in
    let test = λ (i : ℕ). same_cell (cell_of (read_row a.words.now) i) (get_or a.parents.now i 0) (get_or a.scores.now i nan) in
    all_from_yields_List test _ _ _ c.all.ensures.ran (YieldsList-from_range 0 a.count a.count (search rules) (omega arith)) (λ i b q called. (search rules, search rules)) ∙ all-numbers test a.count
