-- Lists taken apart from the front.
use Rattle.std.specs.Prelude.{ℕ, Bool, true, false, ◌&&◌, List, [], ◌∷◌, ◌++◌, eqb}

-- every entry passes the test
abbrev pub each : {A : Type 0} → (A → Bool) → List A → Bool
each test [] = true
each test (a ∷ l) = test a && each test l

-- the words of each entry, one after the other
abbrev pub flat : {A : Type 0} → (A → List ℕ) → List A → List ℕ
flat part [] = []
flat part (a ∷ l) = part a ++ flat part l

-- the words ws begin with xs
abbrev pub starts : List ℕ → List ℕ → Bool
starts [] ws = true
starts (x ∷ xs) [] = false
starts (x ∷ xs) (w ∷ ws) = eqb x w && starts xs ws
