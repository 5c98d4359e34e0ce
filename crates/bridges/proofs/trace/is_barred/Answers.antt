-- `bridges::trace::is_barred` meets its contract.
use mathlib.Core.Path.{◌∙◌}
use mathlib.Core.Logic.{⊎_elim}
use borrow.Author.Tests.{eq-eqb, ne_eqb}
use Rattle.bridges.specs.Bridges.{barred}
use Rattle.bridges.proofs.Among.{among-any}
use Rattle.bridges.proofs.trace.is_barred.Goals.{then-element-previous, else-element-previous}
use Rattle.bridges.proofs.trace.is_barred.Goals as goal

pub returns-then-element-next : goal.returns-then-element-next
unfolding barred
returns-then-element-next c = elim c.if-element-previous.branch [
  | then-element-previous w ↦ rw (w.t-7-is, eq-eqb _ _ w.if-element-previous.true)
  | else-element-previous w ↦
      rw (w.t-7-is, ne_eqb _ _ w.if-element-previous.false)
      (⊎_elim (λ e. absurd (w.if-element-previous.false e)) (λ e. rw (eq-eqb _ _ e.1)) c.if-element-next.either)
]

pub returns-else-element-next : goal.returns-else-element-next
unfolding barred
returns-else-element-next c = rw (ne_eqb _ _ c.if-element-next.false.0, ne_eqb _ _ c.if-element-next.false.1) (c.contains.ensures.value ∙ among-any _ _)
