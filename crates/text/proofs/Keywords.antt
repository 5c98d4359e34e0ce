-- A turn of the loop that looks a word up in a table, and its ends. Assumes nothing.
use Prim.Native.Nat.{ℕ, ◌+◌, ◌≤◌, ◌<◌}
use native.Mathlib.Numerals.{add-one}
use mathlib.Core.Path.{◌≡◌, sym, ◌∙◌}
use mathlib.Core.Bool.{Bool, true, false}
use mathlib.Core.List.{List, map}
use lib.ListN.{length, get_or, drop, drop_of_length-le}
use lib.Seq.{drop-cons}
use Rattle.std.specs.Cmp.Lexicographic.{pointwise}
use lib.Dec.{eqb}
use Rattle.text.specs.inner.Bytes.{same}
use Rattle.text.specs.inner.Keywords.{entry_for}
use Rattle.text.proofs.Bytes.{same_pointwise}

-- e is entry i of the table, and t is whether the word is its name
module _ {E A : Type 0} (view : E → List ℕ × A) (other : A) (w : List ℕ) (table : List E) (i : ℕ) (e : E) (t : Bool) (is : e ≡ get_or table i e) (told : t ≡ pointwise eqb w (view e).0) where
  pub entry-found : i < length table → t ≡ true → (view e).1 ≡ entry_for other (map view (drop i table)) w
  unfolding entry_for
  entry-found h y = let s : same w (view e).0 ≡ true = sym (same_pointwise w (view e).0) ∙ sym told ∙ y in rw (drop-cons table i e h, ← is, s)

  pub entry-next : i < length table → t ≡ false → entry_for other (map view (drop i table)) w ≡ entry_for other (map view (drop (i + 1) table)) w
  unfolding entry_for
  entry-next h y = let s : same w (view e).0 ≡ false = sym (same_pointwise w (view e).0) ∙ sym told ∙ y in rw (add-one, drop-cons table i e h, ← is, s)

pub entry-none : {E A : Type 0} (view : E → List ℕ × A) (other : A) (w : List ℕ) (table : List E) (i : ℕ) → length table ≤ i → other ≡ entry_for other (map view (drop i table)) w
unfolding entry_for
entry-none view other w table i h = rw (drop_of_length-le table h)
