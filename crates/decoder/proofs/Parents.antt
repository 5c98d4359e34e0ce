-- The latest row that scores, the path by the parents, and sums with minus infinity. Assumes nothing.
use Prim.Native.Nat.{ℕ, ◌<◌}
use native.Mathlib.Omega.{arith}
use mathlib.Core.Path.{◌≡◌, refl, sym, ap, ◌∙◌}
use mathlib.Core.Bool.{Bool, true, false, not, cond}
use mathlib.Core.List.{List, [], ◌∷◌}
use mathlib.Core.Option.{none, some}
use borrow.Author.Tests.{ne_eqb}
use lib.Dec.{T, eqb, eqb→eq}
use lib.ListN.{length}
use lib.Ieee.{Float, nan, inf, fin, binary64, le}
use lib.Ieee.Scale.{finite}
use lib.Ieee.Bits.{is_true, is_false}
use Rattle.std.specs.Prelude.{Some}
use Rattle.binary64.specs.Values.{pzero}
use Rattle.binary64.specs.Operators.{◌⊕◌}
use Rattle.binary64.proofs.Order.{taken, missed}
use Rattle.binary64.proofs.Sum.{add_comm}
use Rattle.binary64.proofs.Costs.{score-sum, score-inf, score-mono-left}
use Rattle.journal.specs.Row.{Fix, Row, no_parent, candidate_of, distance_of, cell_of, score_of, scores, predecessor}
use Rattle.journal.proofs.Lists.{some-none}
use Rattle.rows.specs.Row.{StepScore, floored, offer}
use Rattle.decoder.specs.Closing.{follow}
use Rattle.decoder.proofs.Cells.{through-inv}

-- ---- the latest scoring row
pub latest-new : (r : Row) (rs : List Row) → T (scores r) → predecessor (r ∷ rs) ≡ some r
unfolding predecessor
latest-new r rs t = go (scores r) t
  where
    go : (b : Bool) → T b → cond b (some r) (predecessor rs) ≡ some r
    go true t = refl
    go false t = absurd t

pub latest-old : (r : Row) (rs : List Row) → T (not (scores r)) → predecessor (r ∷ rs) ≡ predecessor rs
unfolding predecessor
latest-old r rs t = go (scores r) t
  where
    go : (b : Bool) → T (not b) → cond b (some r) (predecessor rs) ≡ predecessor rs
    go true t = absurd t
    go false t = refl

-- ---- by the parents

follow-by : (r : Row) (rs : List Row) (i : ℕ) → i < no_parent → follow (r ∷ rs) i ≡ cond (scores r) ((length rs, i) ∷ follow rs (cell_of r i).parent) (follow rs i)
unfolding follow
follow-by r rs i h = rw (ne_eqb i no_parent (λ (e : i ≡ no_parent). omega arith))

pub follow-new : (r : Row) (rs : List Row) (i : ℕ) → i < no_parent → T (scores r) → follow (r ∷ rs) i ≡ (length rs, i) ∷ follow rs (cell_of r i).parent
follow-new r rs i h t = follow-by r rs i h ∙ rw (is_true (scores r) t)

-- none is left where the parent is none
follow-stop : (rs : List Row) → follow rs no_parent ≡ []
unfolding follow
follow-stop [] = refl
follow-stop (r ∷ rs) = refl

pub follow-old : (r : Row) (rs : List Row) (i : ℕ) → T (not (scores r)) → follow (r ∷ rs) i ≡ follow rs i
unfolding follow
follow-old r rs i t = go (eqb i no_parent) refl
  where
    go : (b : Bool) → eqb i no_parent ≡ b → cond b [] (cond (scores r) ((length rs, i) ∷ follow rs (cell_of r i).parent) (follow rs i)) ≡ follow rs i
    go true e = sym (ap (λ (n : ℕ). follow rs n) (eqb→eq i no_parent (taken e)) ∙ follow-stop rs)
    go false e = rw (is_false (scores r) t)

pub follow-none : (rs : List Row) (i : ℕ) → predecessor rs ≡ none → follow rs i ≡ []
follow-none [] i e = unfold follow in refl
follow-none (r ∷ rs) i e = go (scores r) refl (follow-none rs i)
  where
    go : (b : Bool) → scores r ≡ b → (predecessor rs ≡ none → follow rs i ≡ []) → follow (r ∷ rs) i ≡ []
    go true q ih = some-none (sym (latest-new r rs (taken q)) ∙ e)
    go false q ih = follow-old r rs i (missed q) ∙ ih (sym (latest-old r rs (missed q)) ∙ e)

-- ---- minus infinity stays
pub stays : (x u l : Float) → T (le x (inf true)) → T (le u pzero) → T (le l pzero) → x ⊕ u ⊕ l ≡ inf true
stays nan u l h p q = absurd (unfold le in h)
stays (inf false) u l h p q = absurd (unfold le in h)
stays (fin s m e) u l h p q = absurd (unfold le in h)
stays (inf true) u l h p q =
    ap (λ (z : Float). z ⊕ l) (add_comm binary64 (inf true) u ∙ score-inf binary64 u p) ∙ add_comm binary64 (inf true) l ∙ score-inf binary64 l q

pub mono-three : (x y u l : Float) → T (le y pzero) → T (le u pzero) → T (le l pzero) → T (le x y) → T (le (x ⊕ u ⊕ l) (y ⊕ u ⊕ l))
mono-three x y u l q p r h = score-mono-left binary64 (x ⊕ u) (y ⊕ u) l (score-sum binary64 y u q p) r (score-mono-left binary64 x y u q p h)

pub offer-inv : (step : StepScore) (p : Row) (f : Fix) (i j : ℕ) (v : Float) → offer step p f i j ≡ Some v
    → (u : Float) × T (finite (score_of p j)) × (step (cell_of p j).candidate (candidate_of f i) (distance_of f j i) ≡ Some u) × (v ≡ score_of p j ⊕ u ⊕ floored (candidate_of f i))
unfolding offer
offer-inv step p f i j v e = through-inv (score_of p j) (step (cell_of p j).candidate (candidate_of f i) (distance_of f j i)) (floored (candidate_of f i)) v e
