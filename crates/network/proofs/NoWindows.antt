-- A network without windows has the same graph at every minute: that of its relations as they were handed over. Assumes nothing.
use mathlib.Core.Path.{◌≡◌, ap, fun_ext}
use mathlib.Core.List.{[]}
use Prim.Native.Nat.{ℕ}
use Rattle.lists.proofs.Loops.{any_none}
use Rattle.lists.proofs.Lists.{number-self}
use Rattle.network.specs.Network.{Relations, Windows, Network, NoWindows}
use Rattle.network.specs.Graph.{is_shut, flag_at, relations_at, graph_of, graph}

pub empty-lists : (w : Windows) → w.counts ≡ [] → NoWindows w
empty-lists w none k = rw none

module _ (w : Windows) (none : NoWindows w) (minute : ℕ) where
  flag-open : (k flag : ℕ) → flag_at w minute k flag ≡ flag
  unfolding flag_at is_shut
  flag-open k flag = rw (none k, any_none)

  flags-open : flag_at w minute ≡ (λ (k flag : ℕ). flag)
  flags-open = fun_ext (λ k. fun_ext (λ flag. flag-open k flag))

  pub relations-open : (rs : Relations) → relations_at w minute rs ≡ rs
  unfolding relations_at
  relations-open rs = rw (flags-open, number-self 0 rs.forward, number-self 0 rs.backward)

pub graph-open : (net : Network) → NoWindows net.windows → (minute : ℕ) → graph net minute ≡ graph_of net.lengths net.relations
graph-open net none minute = ap (graph_of net.lengths) (relations-open net.windows none minute net.relations)
