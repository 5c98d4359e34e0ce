-- A search reaches no state past those of its graph: it reaches none before it begins, and settling one keeps it so. Assumes nothing.
use mathlib.Core.Path.{◌≡◌, refl}
use mathlib.Core.Bool.{Bool, true, false, cond}
use mathlib.Core.List.{List, [], ◌∷◌, Memᴰ}
use Prim.Native.Nat.{ℕ, ◌+◌, ◌*◌, ◌/◌, ◌%◌, ◌<◌, ◌≤◌}
use native.Mathlib.Omega.{arith}
use lib.Dec.{eqb}
use lib.ListN.{length, get_or, length-set, length-replicate}
use lib.Seq.{get_or-set_other}
use lib.Ieee.{Float, nan, inf, lt}
use Rattle.network.specs.Graph.{Graph, element_count}
use Rattle.network.specs.inner.Sound.{SoundGraph}
use Rattle.network.proofs.Links.{opposite-lands}
use Rattle.routing.specs.Search.{Tables, Search, lower_cost, relax_external, relax_internal, relax, settled, no_marks, begun}
use Rattle.routing.specs.inner.Search.{ReachedBelow}
use Rattle.routing.proofs.Leaders.{none-cost}

abbrev Rest : ℕ → Tables → Type 0
Rest n t = (i : ℕ) → n ≤ i → i < 4096 → get_or t.costs i nan ≡ inf false

module _ (n : ℕ) where
  rest-cond : (b : Bool) (x y : Tables) → Rest n x → Rest n y → Rest n (cond b x y)
  rest-cond true x y p q = p
  rest-cond false x y p q = q

  rest-lowered : (from to : ℕ) (cost : Float) (t : Tables) → to < n → Rest n t → Rest n (lower_cost from to cost t)
  unfolding lower_cost
  rest-lowered from to cost t h R =
      rest-cond (lt cost (get_or t.costs to nan)) _ t (λ i l k. rw (get_or-set_other t.costs to i cost nan (λ e. omega arith)) (R i l k)) R

  rest-external : (s : ℕ) (d : Float) (us : List ℕ) (t : Tables) → ((u : ℕ) → Memᴰ u us → 2 * u + 1 < n) → Rest n t → Rest n (relax_external s d us t)
  unfolding relax_external
  rest-external s d [] t h R = R
  rest-external s d (u ∷ us) t h R =
      rest-external s d us _ (λ v m. h v (Memᴰ.tail m)) (rest-lowered s (2 * u + 1) _ t (h u (Memᴰ.head refl)) R)

module _ (g : Graph) (sound : SoundGraph g) where
  pub reached-begun : (from : ℕ) → from < 2 * element_count g → ReachedBelow (4 * element_count g) (begun from)
  unfolding begun no_marks
  reached-begun from h =
      record {
        few = omega (arith, sound.few);
        marks = omega (arith, length-replicate 4096 false);
        rest = λ i l k. rw (get_or-set_other _ (2 * from) i _ nan (λ e. omega arith)) (none-cost i k);
      }

  pub reached-settled : (s : ℕ) (q : Search) {q' : Search} → q' ≡ settled g s q → s < 4 * element_count g → ReachedBelow (4 * element_count g) q → ReachedBelow (4 * element_count g) q'
  unfolding settled relax relax_internal
  reached-settled s q e h R =
      rw e (
      let inner = rest-lowered (4 * element_count g) s _ _ q.tables (opposite-lands _ _ h) R.rest in
      record {
        few = R.few;
        marks = simp length-set R.marks;
        rest = rest-cond (4 * element_count g) (eqb (s % 2) 0) _ _
            (rest-external (4 * element_count g) s _ (g.links (s / 2)) _ (λ u m. omega (arith, sound.lands (s / 2) u m)) inner) inner;
      })

-- there is a mark for each of the states
pub reached-fit : {n : ℕ} {q : Search} → ReachedBelow n q → n ≤ length q.marks
reached-fit R = omega (arith, R.few, R.marks)
