-- What the loop of `text::write::fill_digits` keeps.
use Prim.Native.Nat.{◌-◌, ◌/◌, ◌^◌}
use mathlib.Core.Path.{◌≡◌}
use lib.ListN.{length, drop}
use Rattle.text.specs.inner.Written.{last_digits}
use Rattle.text.proofs.write.fill_digits.Given as goal

abbrev pub invariant-loop-k : goal.invariant-loop-k
invariant-loop-k l =
    record {
      rest_is : l.rest ≡ l.n / l.base ^ (length l.initial.out - l.k);
      stored : drop l.k l.out ≡ last_digits l.base (length l.initial.out - l.k) l.n;
    }
