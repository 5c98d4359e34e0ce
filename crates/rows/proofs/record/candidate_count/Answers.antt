-- `rows::record::candidate_count` meets its contract.
use mathlib.Core.Path.{sym}
use Rattle.journal.proofs.RecordRead.{row-size}
use Rattle.rows.proofs.record.candidate_count.Goals as goal

pub returns : goal.returns
returns c = sym (row-size _)
