-- `text::word::skip_gap` meets its contract.
use mathlib.Core.Path.{sym, ◌∙◌}
use Rattle.text.proofs.Words.{gap-stop, gap-turn, gap-end}
use Rattle.text.proofs.word.skip_gap.Goals.{else-not-comment-via-then-not-comment+else-not-breaks, else-not-comment-via-else-not-comment}
use Rattle.text.proofs.word.skip_gap.Goals as goal

pub returns-then-not-breaks : goal.returns-then-not-breaks
returns-then-not-breaks c = sym (c.loop-i.invariant ∙ gap-stop _ _ _ c.loop-i-test.true (rw c.if-not-comment.true (sym c.breaks.ensures ∙ c.if-not-breaks.true)))

pub loop-i-preserved : goal.loop-i-preserved
loop-i-preserved c =
    elim c.else-not-comment.branch [
      | else-not-comment-via-then-not-comment+else-not-breaks w ↦ c.loop-i.invariant ∙ gap-turn _ _ _ c.loop-i-test.true (rw w.if-not-comment.true (sym w.breaks.ensures ∙ w.if-not-breaks.false)) ∙ rw c.commented-comment.ensures
      | else-not-comment-via-else-not-comment w ↦ c.loop-i.invariant ∙ gap-turn _ _ _ c.loop-i-test.true (rw w.if-not-comment.false) ∙ rw c.commented-comment.ensures
    ]

pub returns : goal.returns
returns c = gap-end _ _ _ _ _ c.max.ensures c.loop-i.auto.i-end c.loop-i-test.false c.loop-i.invariant
