-- `journal::halves::raw_log_reads` meets its contract.
use borrow.Author.Rules.{rules}
use Rattle.journal.proofs.HighHalf.{above, raw-log-half}
use mathlib.Core.Path.{sym, ◌∙◌}
use Rattle.journal.proofs.halves.raw_log_reads.Goals as goal

pub returns-then-is_above : goal.returns-then-is_above
returns-then-is_above c = let t = above _ _ (sym c.is_above.ensures ∙ c.if-is_above.true) in
    c.if-is_above.true ∙ sym (raw-log-half _ _ (search rules) t.set t.below)
