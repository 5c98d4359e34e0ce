-- Two words that are the same. Assumes nothing.
use Prim.Native.Nat.{ℕ}
use mathlib.Core.Path.{◌≡◌, refl, sym, ap, ◌∙◌}
use mathlib.Core.Bool.{Bool, true, false, ◌&&◌}
use mathlib.Core.List.{List, [], ◌∷◌}
use lib.Dec.{eqb}
use Rattle.std.specs.Cmp.Lexicographic.{pointwise}
use Rattle.text.specs.inner.Bytes.{same}

pub and-false : (a : Bool) → a && false ≡ false
and-false true = refl
and-false false = refl

-- what `==` says of two words
pub same_pointwise : (a b : List ℕ) → pointwise eqb a b ≡ same a b
unfolding same
same_pointwise [] [] = refl
same_pointwise [] (y ∷ b) = refl
same_pointwise (x ∷ a) [] = refl
same_pointwise (x ∷ a) (y ∷ b) = ap (λ t. eqb x y && t) (same_pointwise a b)

pub same_told : (a b c : List ℕ) {r t : Bool} → r ≡ pointwise eqb a b → b ≡ c → r ≡ t → same a c ≡ t
same_told a b c e i h = sym (same_pointwise a c) ∙ sym (ap (pointwise eqb a) i) ∙ sym e ∙ h
