-- `rows::record::before_count` meets its contract.
use mathlib.Core.Path.{sym}
use Rattle.journal.proofs.RecordRead.{row_before}
use Rattle.rows.proofs.record.before_count.Goals as goal

pub returns : goal.returns
returns c = sym (row_before _)
