-- What the loop of `rows::sides::start_nodes` keeps.
use Rattle.journal.specs.Row.{cell_of}
use Rattle.journal.specs.Record.{read_row}
use Rattle.rows.specs.inner.Sides.{SideNodes, asks_from}
use Rattle.rows.proofs.sides.start_nodes.Given as goal

abbrev pub invariant-loop-j : goal.invariant-loop-j
invariant-loop-j l = let p = read_row l.words in
    SideNodes l.j (asks_from p l.own_near) (λ j. (cell_of p j).candidate.element) l.starts
