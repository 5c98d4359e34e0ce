-- `text::float::read_decimal` meets its contract.
use Rattle.std.proofs.Common.{sym}
use lib.Seq.{length-take-le}
use Rattle.text.proofs.Floats.{behind-part, decimal-empty, decimal-pointed, decimal-long, decimal-front-bad, decimal-behind-bad, decimal-good}
use Rattle.text.proofs.float.read_decimal.Goals.{then-p-eq0-via-then-p-eq0, then-p-eq0-via-else-p-eq0+then-p-word}
use Rattle.text.proofs.float.read_decimal.Goals as goal

pub returns-then-p-eq0 : goal.returns-then-p-eq0
returns-then-p-eq0 c =
    elim c.then-p-eq0.branch [
      | then-p-eq0-via-then-p-eq0 w ↦ decimal-empty _ _ _ c.point_at-p.ensures.value w.if-p-eq0.true
      | then-p-eq0-via-else-p-eq0+then-p-word w ↦ decimal-pointed _ _ _ c.point_at-p.ensures.value w.if-p-eq0.false w.if-p-word.true
    ]

pub returns-then-p-behind-gt15 : goal.returns-then-p-behind-gt15
returns-then-p-behind-gt15 c = decimal-long _ _ _ _ c.point_at-p.ensures.value (behind-part _ _ _ c.min.ensures) c.if-p-eq0.false c.if-p-word.false c.if-p-behind-gt15.true

pub slice_bounds-read_whole-end : goal.slice_bounds-read_whole-end
slice_bounds-read_whole-end c = sym (length-take-le _ c.args.word.now c.point_at-p.ensures.within)

pub returns-in_err-front : goal.returns-in_err-front
returns-in_err-front c = rw c.from_residual.ensures (decimal-front-bad _ _ _ _ c.point_at-p.ensures.value (behind-part _ _ _ c.min.ensures) c.if-p-eq0.false c.if-p-word.false c.if-p-behind-gt15.false c.in_err-front.ensures.value)

pub returns-in_err-n : goal.returns-in_err-n
returns-in_err-n c = rw c.from_residual-in_err-n.ensures (decimal-behind-bad _ _ _ _ c.point_at-p.ensures.value (behind-part _ _ _ c.min.ensures) c.if-p-eq0.false c.if-p-word.false c.if-p-behind-gt15.false _ c.in_ok-front.ensures.value c.in_err-n.ensures.value)

pub returns : goal.returns
returns c = decimal-good _ _ _ _ c.point_at-p.ensures.value (behind-part _ _ _ c.min.ensures) c.if-p-eq0.false c.if-p-word.false c.if-p-behind-gt15.false _ c.in_ok-front.ensures.value _ _ c.in_ok-n.ensures.value c.quotient.ensures
