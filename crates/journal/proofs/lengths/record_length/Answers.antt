-- `journal::lengths::record_length` meets its contract.
use Prim.Native.Nat.{◌+◌, ◌*◌}
use mathlib.Core.Path.{◌≡◌}
use lib.ListN.{get_or}
use Rattle.journal.specs.Record.{record_length}
use Rattle.journal.specs.declared.lengths.TheConstants.{RECORD_LENGTHS}
use Rattle.journal.specs.inner.LengthTable.{LengthTable}
use Rattle.journal.proofs.LengthTable.{lengths-right, length-small}
use Rattle.journal.proofs.lengths.record_length.Goals as goal

pub returns : goal.returns
unfolding LengthTable
returns c =
    let entry : get_or RECORD_LENGTHS (17 * c.args.c + c.args.p) 0 ≡ record_length c.args.c c.args.p = lengths-right c.args.c c.args.p c.requires.0 c.requires.1 in
    (entry, rw entry (length-small c.requires.0 c.requires.1))
