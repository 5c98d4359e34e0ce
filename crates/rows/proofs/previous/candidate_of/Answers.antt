-- `rows::previous::candidate_of` meets its contract.
use mathlib.Core.Path.{sym, ap, ◌∙◌}
use Rattle.journal.specs.Row.{Cell}
use Rattle.journal.proofs.RecordRead.{row-cell}
use Rattle.rows.proofs.previous.candidate_of.Goals as goal

pub returns : goal.returns
returns c = c.candidate_at.ensures ∙ sym (ap (λ (x : Cell). x.candidate) (row-cell c.args.words.now c.args.j c.requires.below))
