-- When a relation with one window is shut: from the window's first minute on, and no longer at its last. One without windows never is. Assumes nothing.
use mathlib.Core.Path.{◌≡◌}
use mathlib.Core.Bool.{true, false, ◌&&◌}
use Prim.Native.Nat.{ℕ, ◌-◌, ◌<◌, ◌≤◌}
use native.Mathlib.Omega.{arith}
use lib.Dec.{leb, ltb}
use lib.ListN.{length, get_or-eq_default}
use borrow.Author.Tests.{lt-ltb, le-ltb, le-leb, lt-leb}
use Rattle.lists.specs.Loops.{any_below}
use Rattle.lists.proofs.Loops.{any_none}
use Rattle.network.specs.Network.{Windows, window_count, first_minute, last_minute}
use Rattle.network.specs.Graph.{is_shut}

pub never-shut : (w : Windows) (k : ℕ) → window_count w k ≡ 0 → (minute : ℕ) → is_shut w minute k ≡ false
unfolding is_shut
never-shut w k none minute = rw (none, any_none)

-- the lists have no entry of it
pub open-past : (w : Windows) (minute k : ℕ) → length w.counts ≤ k → is_shut w minute k ≡ false
open-past w minute k past = never-shut w k (get_or-eq_default w.counts 0 past) minute

module _ (w : Windows) (k : ℕ) (one : window_count w k ≡ 1) where
  pub shut-by-window : (minute : ℕ) → is_shut w minute k ≡ leb (first_minute w k 0) minute && ltb minute (last_minute w k 0)
  unfolding is_shut any_below
  shut-by-window minute = rw one

  pub open-before : (minute : ℕ) → minute < first_minute w k 0 → is_shut w minute k ≡ false
  open-before minute h = rw (shut-by-window minute, lt-leb (first_minute w k 0) minute h)

  pub shut-at-first : first_minute w k 0 < last_minute w k 0 → is_shut w (first_minute w k 0) k ≡ true
  shut-at-first h = rw (shut-by-window (first_minute w k 0), le-leb (first_minute w k 0) (first_minute w k 0) (omega arith), lt-ltb (first_minute w k 0) (last_minute w k 0) h)

  pub shut-until-last : first_minute w k 0 < last_minute w k 0 → is_shut w (last_minute w k 0 - 1) k ≡ true
  shut-until-last h =
      rw (shut-by-window (last_minute w k 0 - 1), le-leb (first_minute w k 0) (last_minute w k 0 - 1) (omega arith), lt-ltb (last_minute w k 0 - 1) (last_minute w k 0) (omega arith))

  pub open-at-last : first_minute w k 0 < last_minute w k 0 → is_shut w (last_minute w k 0) k ≡ false
  open-at-last h =
      rw (shut-by-window (last_minute w k 0), le-leb (first_minute w k 0) (last_minute w k 0) (omega arith), le-ltb (last_minute w k 0) (last_minute w k 0) (omega arith))
