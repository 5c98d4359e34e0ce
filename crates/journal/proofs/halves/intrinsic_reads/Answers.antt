-- `journal::halves::intrinsic_reads` meets its contract.
use borrow.Author.Rules.{rules}
use Rattle.journal.proofs.HighHalf.{intrinsic-half}
use borrow.Author.Tests.{lt-ltb}
use mathlib.Core.Path.{sym, ◌∙◌}
use Rattle.journal.proofs.halves.intrinsic_reads.Goals as goal

pub returns-then-words-at-lt1072693248 : goal.returns-then-words-at-lt1072693248
returns-then-words-at-lt1072693248 c = lt-ltb _ _ c.if-words-at-lt1072693248.true ∙ sym (intrinsic-half _ _ (search rules) c.if-words-at-lt1072693248.true)
