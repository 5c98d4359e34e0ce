-- `rows::previous::score_of` meets its contract.
use mathlib.Core.Path.{sym, ◌∙◌}
use Rattle.journal.proofs.RecordRead.{row-score}
use Rattle.rows.proofs.previous.score_of.Goals as goal

pub returns : goal.returns
returns c = c.float_at.ensures ∙ sym (row-score c.args.words.now c.args.j c.requires.below)
