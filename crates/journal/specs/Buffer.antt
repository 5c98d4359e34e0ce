-- What is stored in the first entries of a buffer.
use Rattle.std.specs.Prelude.{List, ◌++◌, length, drop}

-- a list in the first entries, and past it what the buffer held
abbrev pub stored_first : {A : Type 0} → List A → List A → List A
stored_first xs buffer = xs ++ drop (length xs) buffer
