-- Examples, computed from the definitions. Assumes nothing.
use mathlib.Core.Path.{◌≡◌, refl}
use mathlib.Core.Bool.{true, false}
use mathlib.Core.List.{[], ◌∷◌}
use lib.IntN.{pos, negsuc}
use lib.Ieee.{inf, fin, nan, round, of_bits}
use Rattle.text.specs.inner.Bytes.{bytes, same}
use Rattle.text.specs.inner.Words.{breaks, commented, gap, word_length, next_word, words_from, all_words}
use Rattle.text.specs.inner.Numbers.{figure, all_digits, value, value_below, number_of, hex_word_of}
use Rattle.text.specs.inner.Floats.{bits_of, point, decimal_of, signed_of, float_of}
use Rattle.text.specs.inner.Written.{glyph, last_digits, zeros, decimal, hex_word}
use Rattle.text.specs.inner.Keywords.{entry_for, keyword_of}
use Rattle.std.specs.Prelude.{Some, None}
use Rattle.text.specs.declared.keyword.Keyword.{Keyword}

words_of : all_words (bytes "open # a note\nrow 1#2\n\n") ≡ bytes "open" ∷ bytes "row" ∷ bytes "1" ∷ []
unfolding all_words words_from next_word gap word_length breaks commented
words_of = refl

numbers : (number_of (bytes "0042") ≡ Some 42) × (number_of (bytes "4294967295") ≡ Some 4294967295) × (number_of (bytes "4294967296") ≡ None)
    × (number_of (bytes "") ≡ None) × (number_of (bytes "-1") ≡ None) × (hex_word_of (bytes "2000FC00") ≡ Some 0x2000fc00) × (hex_word_of (bytes "2000fc00") ≡ None)
unfolding number_of hex_word_of value_below all_digits value figure
numbers = (refl, refl, refl, refl, refl, refl, refl)

floats : (float_of (bytes "0.5") ≡ Some (fin false 1 (negsuc 0))) × (float_of (bytes "250") ≡ Some (fin false 125 (pos 1))) × (float_of (bytes "-1.0") ≡ Some (fin true 1 (pos 0)))
    × (float_of (bytes "-0.0") ≡ Some (fin true 0 (pos 0))) × (float_of (bytes "-inf") ≡ Some (inf true)) × (float_of (bytes "0.1") ≡ float_of (bytes "3FB999999999999A"))
    × (float_of (bytes "7FF8000000000001") ≡ Some nan)
unfolding float_of bits_of signed_of decimal_of same point all_digits value figure round of_bits
floats = (refl, refl, refl, refl, refl, refl, refl)

no_floats : (float_of (bytes ".5") ≡ None) × (float_of (bytes "1.") ≡ None) × (float_of (bytes "1.2.3") ≡ None) × (float_of (bytes "inf") ≡ None)
    × (float_of (bytes "-") ≡ None) × (float_of (bytes "1234567890.123456") ≡ None)
unfolding float_of bits_of signed_of decimal_of same point all_digits value figure round of_bits
no_floats = (refl, refl, refl, refl, refl, refl)

written : (decimal 0 ≡ bytes "0") × (decimal 1100 ≡ bytes "1100") × (hex_word 0x5000000b ≡ bytes "5000000B")
unfolding decimal zeros last_digits glyph
written = (refl, refl, refl)

keyword-of : (keyword_of (bytes "routes") ≡ Keyword.Routes) × (keyword_of (bytes "rout") ≡ Keyword.Unknown) × (keyword_of (bytes "windows") ≡ Keyword.Windows)
unfolding keyword_of entry_for same
keyword-of = (refl, refl, refl)
