-- Whole numbers by their digits.
use Rattle.std.specs.Prelude.{ℕ, ◌+◌, ◌-◌, ◌*◌, Bool, true, ◌&&◌, cond, List, [], ◌∷◌, eqb, leb, ltb, length, Option, Some, None}

-- what a digit counts: `0` to `9`, then `A` to `F`; 16 for any other byte
unfoldable pub figure : ℕ → ℕ
figure b = cond (leb 48 b && leb b 57) (b - 48) (cond (leb 65 b && leb b 70) (b - 65 + 10) 16)

-- every byte is a digit of the base
unfoldable pub all_digits : ℕ → List ℕ → Bool
all_digits base [] = true
all_digits base (b ∷ l) = ltb (figure b) base && all_digits base l

-- the number that starts with n and goes on with the digits
unfoldable pub value : ℕ → ℕ → List ℕ → ℕ
value base n [] = n
value base n (b ∷ l) = value base (n * base + figure b) l

-- this number where every byte is a digit and it is below the limit
unfoldable pub value_below : ℕ → ℕ → ℕ → List ℕ → Option ℕ
value_below base limit n l = cond (all_digits base l && ltb (value base n l) limit) (Some (value base n l)) None

-- at least one decimal digit, and a number of 32 bits; zeros in front are allowed
unfoldable pub number_of : List ℕ → Option ℕ
number_of w = cond (eqb (length w) 0) None (value_below 10 4294967296 0 w)

-- eight hexadecimal digits, no more and no fewer
unfoldable pub hex_word_of : List ℕ → Option ℕ
hex_word_of w = cond (eqb (length w) 8) (value_below 16 4294967296 0 w) None
