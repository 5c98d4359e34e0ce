-- `journal::record::add_row` meets its contract.
use native.Mathlib.Omega.{arith}
use Rattle.journal.specs.inner.Row.{row_of}
use Rattle.journal.specs.inner.Fix.{fix_in}
use Rattle.journal.specs.Record.{record_of}
use Rattle.journal.proofs.Stores.{row_put}
use Rattle.journal.proofs.record.add_row.Goals as goal

pub bounds-journal-0 : goal.bounds-journal-0
unfolding record_of
bounds-journal-0 c = omega (arith, c.requires.row_in_bounds, c.put_row-n.ensures.length_told)

pub returns : goal.returns
returns c = let row = row_of (fix_in c.args.fix c.args.distances.now) c.args.parents.now c.args.scores.now c.args.p in
    row_put c.args.journal.now _ (record_of c.args.place row) c.args.used _ (omega arith) c.put_row-n.ensures.record_put c.put_row-n.ensures.length_told
