-- Relations at a minute: as many as there are and with the same ends, so they fit; and what each is then. Assumes nothing.
use mathlib.Core.Path.{◌≡◌, ◌∙◌}
use Prim.Native.Nat.{ℕ, ◌<◌}
use native.Mathlib.Omega.{arith}
use lib.ListN.{length, get_or}
use Rattle.lists.proofs.Lists.{length-number, get_or-number}
use Rattle.network.specs.Network.{Relations, Windows}
use Rattle.network.specs.Graph.{relation_at, flag_at, relations_at}
use Rattle.network.specs.inner.Sound.{RelationsFit}

module _ (w : Windows) (minute : ℕ) (rs : Relations) (fit : RelationsFit rs) where
  pub relations-at-fit : RelationsFit (relations_at w minute rs)
  unfolding relations_at
  relations-at-fit =
      record {
        few = fit.few;
        to = fit.to;
        from_side = fit.from_side;
        to_side = fit.to_side;
        forward = length-number _ 0 rs.forward ∙ fit.forward;
        backward = length-number _ 0 rs.backward ∙ fit.backward;
        from_sides = fit.from_sides;
        to_sides = fit.to_sides;
      }

  -- the flags alone are other than those of the relation as it was handed over
  pub relation-at-minute : (k : ℕ) → k < length rs.from → relation_at (relations_at w minute rs) k
      ≡ record {
        from = get_or rs.from k 0;
        to = get_or rs.to k 0;
        from_side = get_or rs.from_side k 0;
        to_side = get_or rs.to_side k 0;
        forward = flag_at w minute k (get_or rs.forward k 0);
        backward = flag_at w minute k (get_or rs.backward k 0);
      }
  unfolding relation_at relations_at
  relation-at-minute k h =
      rw (get_or-number (flag_at w minute) rs.forward k 0 0 (omega (arith, h, fit.forward)), get_or-number (flag_at w minute) rs.backward k 0 0 (omega (arith, h, fit.backward)))
