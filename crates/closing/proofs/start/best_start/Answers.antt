-- `closing::start::best_start` meets its contract.
use native.Mathlib.Omega.{arith}
use Rattle.journal.proofs.Stores.{take_rest}
use Rattle.closing.proofs.Closing.{last-inside, last-stands, started}
use Rattle.closing.proofs.start.best_start.Goals as goal

pub offset_bounds-journal-last : goal.offset_bounds-journal-last
offset_bounds-journal-last c = omega (arith, last-inside _ _ _ c.requires)

pub slice_bounds-best_previous-count : goal.slice_bounds-best_previous-count
slice_bounds-best_previous-count c = last-inside _ _ _ c.requires

pub slice_bounds-best_previous-start : goal.slice_bounds-best_previous-start
slice_bounds-best_previous-start c = last-inside _ _ _ c.requires

pub best_previous-best-requires : goal.best_previous-best-requires
best_previous-best-requires c = rw take_rest (last-stands _ _ _ c.requires)

pub returns : goal.returns
returns c = started _ _ _ c.requires (rw take_rest at c.best_previous-best.ensures)
