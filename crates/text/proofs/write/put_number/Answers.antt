-- `text::write::put_number` meets its contract.
use native.Mathlib.Omega.{arith}
use mathlib.Core.Path.{ap, ◌∙◌}
use Rattle.text.specs.inner.Written.{last_digits}
use Rattle.text.proofs.Written.{zeros-le, decimal-part}
use Rattle.text.proofs.write.put_number.Goals as goal

pub slice_bounds-put_bytes-count : goal.slice_bounds-put_bytes-count
slice_bounds-put_bytes-count c = omega (arith, c.count_zeros-first.ensures, zeros-le c.fill_digits.new.out, c.fill_digits.auto.out)

pub slice_bounds-put_bytes-start : goal.slice_bounds-put_bytes-start
slice_bounds-put_bytes-start c = omega (arith, c.count_zeros-first.ensures, zeros-le c.fill_digits.new.out, c.fill_digits.auto.out)

pub returns : goal.returns
returns c =
    record {
      value = rw (decimal-part _ c.args.n _ (c.fill_digits.ensures ∙ ap (last_digits 10 10) c.from.ensures) c.count_zeros-first.ensures) at c.put_bytes.ensures.value;
      out_after = rw (decimal-part _ c.args.n _ (c.fill_digits.ensures ∙ ap (last_digits 10 10) c.from.ensures) c.count_zeros-first.ensures) at c.put_bytes.ensures.out_after;
    }
