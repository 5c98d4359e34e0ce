-- A window on a text that is longer than it.
use Rattle.std.specs.Prelude.{ℕ, List, ◌++◌, length, take, drop}

-- what is left from a place on of the bytes that the window holds
abbrev pub rest : List ℕ → ℕ → ℕ → List ℕ
rest window at filled = drop at (take filled window)

-- the same moved to the front
unfoldable pub moved : List ℕ → ℕ → ℕ → List ℕ
moved window at filled = let left = rest window at filled in left ++ drop (length left) window
