-- `text::keyword::entry_for` meets its contract.
use mathlib.Core.Path.{refl, sym, ◌∙◌}
use Rattle.text.proofs.Keywords.{entry-found, entry-next, entry-none}
use Rattle.text.proofs.keyword.entry_for.Goals as goal

pub loop-name-init : goal.loop-name-init
loop-name-init g c = refl

pub returns-then-eq : goal.returns-then-eq
returns-then-eq g c = entry-found (λ e. (e.0.now, e.1)) _ _ _ _ _ _ c.loop-name-item.is c.eq.ensures c.loop-name-test.true c.if-eq.true ∙ sym c.loop-name.invariant

pub loop-name-preserved : goal.loop-name-preserved
loop-name-preserved g c = c.loop-name.invariant ∙ entry-next (λ e. (e.0.now, e.1)) _ _ _ _ _ _ c.loop-name-item.is c.eq.ensures c.loop-name-test.true c.if-eq.false

pub returns : goal.returns
returns g c = entry-none (λ e. (e.0.now, e.1)) _ _ _ _ c.loop-name-test.false ∙ sym c.loop-name.invariant
