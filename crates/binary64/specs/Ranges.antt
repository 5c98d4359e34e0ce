-- Which floats lie in a range. A NaN lies in none: `le` and `lt` are false of it.
use Rattle.std.specs.Prelude.{Bool, ◌&&◌, Float}
use Rattle.std.specs.Float.Ieee.{le, lt}
use Rattle.binary64.specs.Values.{clear}

-- from low to high; -0.0 is equal to 0.0 here
unfoldable pub in_range : Float → Float → Float → Bool
in_range low high x = le low x && le x high

-- from low to high with the sign bit clear, so that -0.0 is outside
unfoldable pub in_clear_range : Float → Float → Float → Bool
in_clear_range low high x = in_range low high x && clear x

-- from low up to, and without, high
unfoldable pub in_open_range : Float → Float → Float → Bool
in_open_range low high x = le low x && lt x high
