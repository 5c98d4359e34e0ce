-- Two classes of floats that a sum does not leave, with the laws of `Order`, `Sum` and `Same` at each:
-- a cost is `clear` (no NaN, sign clear, +inf included), and grows by what is added; a score is at most +0 (-inf and both zeros included), and falls.
-- `grows` and `falls` are the general forms, for a value of any sign. Assumes nothing.
use mathlib.Core.Path.{◌≡◌, refl, subst}
use Prim.Native.Nat.{◌+◌, ◌*◌}
use native.Mathlib.Omega.{arith}
use mathlib.Core.Bool.{true, false, not}
use lib.Dec.{T, T_not}
use lib.Ieee.{Float, nan, inf, fin, Format, up, down, sum, add, le, fits, is_nan}
use Rattle.binary64.specs.Values.{clear, pzero}
use Rattle.binary64.specs.inner.Values.{sign, is_zero, nzero}
use Rattle.binary64.proofs.Order.{same_test, cross→le, le_trans}
use Rattle.binary64.proofs.Sum.{clear-number, round-clear, finite-sum-number, add-mono, add-mono-left, add-mono-right}
use Rattle.binary64.proofs.Same.{le_antisym, add-nzero, add-pzero}

-- ---- a value of any sign, and what is added to it
left-number : (f : Format) (x y : Float) → T (not (is_nan (add f x y))) → T (not (is_nan x))
unfolding add is_nan
left-number f nan y p = absurd p
left-number f (inf s) y p = tt
left-number f (fin s m e) y p = tt

nzero-number : (f : Format) (x : Float) → T (fits f x) → T (not (is_nan x)) → T (not (is_nan (add f x nzero)))
nzero-number f x p q = rw (add-nzero f x p) q

zeros : T (le nzero pzero) × T (le pzero nzero)
unfolding le
zeros = (tt, tt)

pub grows : (f : Format) (x w : Float) → T (fits f x) → T (not (is_nan (add f x w))) → T (le pzero w) → T (le x (add f x w))
grows f x w p q h =
    subst (λ (v : Float). T (le v (add f x w))) (add-nzero f x p)
    (add-mono-right f nzero w x (nzero-number f x p (left-number f x w q)) q (le_trans nzero pzero w zeros.0 h))

pub falls : (f : Format) (x w : Float) → T (fits f x) → T (not (is_nan (add f x w))) → T (le w pzero) → T (le (add f x w) x)
falls f x w p q h =
    subst (λ (v : Float). T (le (add f x w) v)) (add-nzero f x p)
    (add-mono-right f w nzero x q (nzero-number f x p (left-number f x w q)) (le_trans w pzero nzero h zeros.1))

-- ---- costs
pub clear-le : (x : Float) → T (clear x) → T (le pzero x)
clear-le nan p = absurd p
clear-le (inf true) p = absurd p
clear-le (inf false) p = unfold le in tt
clear-le (fin true m e) p = absurd p
clear-le (fin false m e) p = cross→le pzero (fin false m e) tt tt (omega arith)

pub cost-sum : (f : Format) (x y : Float) → T (clear x) → T (clear y) → T (clear (add f x y))
unfolding add sum
cost-sum f nan y p q = absurd p
cost-sum f (inf true) y p q = absurd p
cost-sum f (inf false) nan p q = absurd q
cost-sum f (inf false) (inf true) p q = absurd q
cost-sum f (inf false) (inf false) p q = tt
cost-sum f (inf false) (fin t n d) p q = tt
cost-sum f (fin true m e) y p q = absurd p
cost-sum f (fin false m e) nan p q = absurd q
cost-sum f (fin false m e) (inf true) p q = absurd q
cost-sum f (fin false m e) (inf false) p q = tt
cost-sum f (fin false m e) (fin true n d) p q = absurd q
cost-sum f (fin false m e) (fin false n d) p q = round-clear f (m * up e * down d + n * up d * down e) (down e * down d)

pub cost-number : (f : Format) (x y : Float) → T (clear x) → T (clear y) → T (not (is_nan (add f x y)))
cost-number f x y p q = clear-number (add f x y) (cost-sum f x y p q)

pub cost-mono-left : (f : Format) (x y z : Float) → T (clear x) → T (clear y) → T (clear z) → T (le x y) → T (le (add f x z) (add f y z))
cost-mono-left f x y z p q r h = add-mono-left f x y z (cost-number f x z p r) (cost-number f y z q r) h

pub cost-mono-right : (f : Format) (x y z : Float) → T (clear x) → T (clear y) → T (clear z) → T (le x y) → T (le (add f z x) (add f z y))
cost-mono-right f x y z p q r h = add-mono-right f x y z (cost-number f z x r p) (cost-number f z y r q) h

pub cost-grows : (f : Format) (x w : Float) → T (fits f x) → T (clear x) → T (clear w) → T (le x (add f x w))
cost-grows f x w p q r = grows f x w p (cost-number f x w q r) (clear-le w r)

clear-sign : (x : Float) → T (clear x) → T (not (sign x))
clear-sign nan p = absurd p
clear-sign (inf s) p = p
clear-sign (fin s m e) p = p

pub cost-antisym : (f : Format) (x y : Float) → T (fits f x) → T (fits f y) → T (clear x) → T (clear y) → T (le x y) → T (le y x) → x ≡ y
cost-antisym f x y p q a b h k = le_antisym f x y p q (λ (z : T (is_zero x)). same_test (sign x) (sign y) (λ (u : T (sign x)). absurd (T_not (sign x) (clear-sign x a) u)) (λ (u : T (sign y)). absurd (T_not (sign y) (clear-sign y b) u))) h k

pub cost-pzero : (f : Format) (x : Float) → T (fits f x) → T (clear x) → add f x pzero ≡ x
cost-pzero f x p q = add-pzero f x p (clear-sign x q)

-- +inf, the cost of what is not reached, stays
pub cost-inf : (f : Format) (x : Float) → T (clear x) → add f x (inf false) ≡ inf false
unfolding add
cost-inf f nan p = absurd p
cost-inf f (inf true) p = absurd p
cost-inf f (inf false) p = refl
cost-inf f (fin s m e) p = refl

-- ---- scores
pub score-number : (f : Format) (x y : Float) → T (le x pzero) → T (le y pzero) → T (not (is_nan (add f x y)))
score-number f nan y p q = absurd (unfold le in p)
score-number f (inf false) y p q = absurd (unfold le in p)
score-number f (inf true) nan p q = absurd (unfold le in q)
score-number f (inf true) (inf false) p q = absurd (unfold le in q)
score-number f (inf true) (inf true) p q = unfold add is_nan in tt
score-number f (inf true) (fin t n d) p q = unfold add is_nan in tt
score-number f (fin s m e) nan p q = absurd (unfold le in q)
score-number f (fin s m e) (inf t) p q = unfold add is_nan in tt
score-number f (fin s m e) (fin t n d) p q = finite-sum-number f (fin s m e) (fin t n d) tt tt

pub score-sum : (f : Format) (x y : Float) → T (le x pzero) → T (le y pzero) → T (le (add f x y) pzero)
score-sum f x y p q =
    subst (λ (v : Float). T (le (add f x y) v)) (add-pzero f pzero (unfold fits in tt) tt)
    (add-mono f x pzero y pzero (score-number f x y p q) (cost-number f pzero pzero tt tt) p q)

pub score-mono-left : (f : Format) (x y z : Float) → T (le y pzero) → T (le z pzero) → T (le x y) → T (le (add f x z) (add f y z))
score-mono-left f x y z q r h = add-mono-left f x y z (score-number f x z (le_trans x y pzero h q) r) (score-number f y z q r) h

pub score-mono-right : (f : Format) (x y z : Float) → T (le y pzero) → T (le z pzero) → T (le x y) → T (le (add f z x) (add f z y))
score-mono-right f x y z q r h = add-mono-right f x y z (score-number f z x r (le_trans x y pzero h q)) (score-number f z y r q) h

pub score-falls : (f : Format) (x w : Float) → T (fits f x) → T (le x pzero) → T (le w pzero) → T (le (add f x w) x)
score-falls f x w p q r = falls f x w p (score-number f x w q r) r

-- -inf, the score of what cannot be, stays
pub score-inf : (f : Format) (x : Float) → T (le x pzero) → add f x (inf true) ≡ inf true
score-inf f nan p = absurd (unfold le in p)
score-inf f (inf true) p = unfold add in refl
score-inf f (inf false) p = absurd (unfold le in p)
score-inf f (fin s m e) p = unfold add in refl
