-- What a loop `for k in 0..n` leaves, by what it does in a turn.
use Rattle.std.specs.Prelude.{ℕ, zero, suc, Bool, true, false, ◌&&◌, ◌||◌}

-- the step at 0, then at 1, and so on up to n - 1
unfoldable pub up_to : {X : Type 0} → ℕ → (ℕ → X → X) → X → X
up_to zero step x = x
up_to (suc n) step x = step n (up_to n step x)

-- every number below n passes the test
unfoldable pub every_below : ℕ → (ℕ → Bool) → Bool
every_below zero test = true
every_below (suc n) test = every_below n test && test n

-- some number below n passes the test
unfoldable pub any_below : ℕ → (ℕ → Bool) → Bool
any_below zero test = false
any_below (suc n) test = any_below n test || test n
