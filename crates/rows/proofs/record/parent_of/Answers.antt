-- `rows::record::parent_of` meets its contract.
use mathlib.Core.Path.{sym}
use Rattle.rows.proofs.Records.{row-parent}
use Rattle.rows.proofs.record.parent_of.Goals as goal

pub returns : goal.returns
returns c = sym (row-parent c.args.words.now c.args.i c.requires.below)
