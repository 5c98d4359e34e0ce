-- `rows::row::best_row` meets its contract.
use mathlib.Core.Path.{refl, sym}
use native.Mathlib.Omega.{arith}
use Rattle.lists.proofs.Loops.{any_none}
use Rattle.rows.proofs.Filled.{listed_none}
use Rattle.rows.proofs.Offered.{any-turn, offers-listed}
use Rattle.rows.proofs.row.best_row.Goals as goal

pub loop-i-init : goal.loop-i-init
loop-i-init c = record { any = sym (any_none _); listed = listed_none refl }

pub loop-i-preserved : goal.loop-i-preserved
loop-i-preserved c = record {
  any = any-turn _ _ _ _ c.loop-i.i c.loop-i.invariant.any c.best_offer-best.ensures (rw c.is_some-possible.ensures);
  listed = offers-listed _ _ _ _ c.loop-i.i c.loop-i.invariant.listed (omega (arith, c.args.o.now.entries16.few)) c.best_offer-best.ensures (rw (← c.no_previous.ensures) c.unwrap_or.ensures);
}
