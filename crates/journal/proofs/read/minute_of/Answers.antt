-- `journal::read::minute_of` meets its contract.
use mathlib.Core.Path.{sym}
use Rattle.journal.proofs.RecordRead.{row-minute}
use Rattle.journal.proofs.read.minute_of.Goals as goal

pub returns : goal.returns
returns c = sym (row-minute c.args.words.now)
