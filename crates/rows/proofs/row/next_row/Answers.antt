-- `rows::row::next_row` meets its contract.
use Rattle.rows.proofs.Rows.{offers-scored, broken-scored}
use Rattle.rows.proofs.row.next_row.Goals as goal

pub returns-in-Some : goal.returns-in-Some
returns-in-Some c = let asked = c.args.o.now.offerable in
    offers-scored _ _ _ _ asked.some-before asked.predecessor.stands c.in-Some.ensures.0 c.in-Some.ensures.1

pub returns-in-None : goal.returns-in-None
returns-in-None c = let asked = c.args.o.now.offerable in
    broken-scored _ _ _ _ asked.some-before asked.predecessor.stands c.in-None.ensures c.best_previous.ensures c.broken_row.ensures
