-- What is written: digits, and bytes stored from a place on.
use Rattle.std.specs.Prelude.{ℕ, zero, suc, ◌+◌, ◌-◌, ◌/◌, ◌%◌, ◌^◌, cond, List, [], ◌∷◌, eqb, leb, ltb, length, drop, Float}
use Rattle.std.proofs.lemmas.List.Edits.{sets}
use Rattle.std.specs.Float.{binary64}
use Rattle.std.specs.Float.Ieee.{to_bits}

-- the digit that counts d: `0` to `9`, then `A` to `F`
unfoldable pub glyph : ℕ → ℕ
glyph d = cond (ltb d 10) (48 + d) (65 + (d - 10))

-- the last k digits of n
unfoldable pub last_digits : ℕ → ℕ → ℕ → List ℕ
last_digits base zero n = []
last_digits base (suc k) n = glyph (n / base ^ k % base) ∷ last_digits base k n

-- how many zeros stand before another digit
unfoldable pub zeros : List ℕ → ℕ
zeros [] = 0
zeros (b ∷ []) = 0
zeros (b ∷ c ∷ l) = cond (eqb b 48) (suc (zeros (c ∷ l))) 0

-- a number of 32 bits in decimal, without zeros in front
unfoldable pub decimal : ℕ → List ℕ
decimal n = let ten = last_digits 10 10 n in drop (zeros ten) ten

-- a word in hexadecimal, and a float by its bits
abbrev pub hex_word : ℕ → List ℕ
hex_word w = last_digits 16 8 w

abbrev pub hex_float : Float → List ℕ
hex_float x = last_digits 16 16 (to_bits binary64 x)

-- bytes are stored from a place on where there is room for all of them, and nothing is stored where there is not
unfoldable pub bytes_stored : List ℕ → ℕ → List ℕ → List ℕ
bytes_stored out at bs = cond (leb (at + length bs) (length out)) (sets out at bs) out

-- the place behind them, and 2 to the 64 less 1, a place that has no room, where they were not stored
unfoldable pub place_behind : List ℕ → ℕ → List ℕ → ℕ
place_behind out at bs = cond (leb (at + length bs) (length out)) (at + length bs) 18446744073709551615
