-- Lists entry by entry.
use Rattle.std.specs.Prelude.{ℕ, suc, List, [], ◌∷◌}

-- each entry with its number, from k
unfoldable pub number : {A B : Type 0} → (ℕ → A → B) → ℕ → List A → List B
number g k [] = []
number g k (a ∷ l) = g k a ∷ number g (suc k) l
