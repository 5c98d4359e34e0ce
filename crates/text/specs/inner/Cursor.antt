-- Reading a text word by word.
use Rattle.std.specs.Prelude.{ℕ, zero, suc, min, Bool, true, false, cond, List, Option, Some, None, Float, eqb, leb}
use Rattle.binary64.specs.Values.{pzero}
use Rattle.text.specs.inner.Bytes.{same}
use Rattle.text.specs.inner.Words.{next_word, bytes_of}
use Rattle.text.specs.inner.Numbers.{number_of, hex_word_of}
use Rattle.text.specs.inner.Floats.{float_of}
use Rattle.text.specs.inner.Keywords.{keyword_of, slice_of}
use Rattle.text.specs.declared.word.Word.{Word}
use Rattle.text.specs.declared.keyword.Keyword.{Keyword}
use Rattle.text.specs.declared.keyword.Slice.{Slice}
use Rattle.text.specs.declared.cursor.Cursor.{Cursor}
use Rattle.text.specs.declared.cursor.Taken.{Taken}

-- the cursor past a word, which is counted and may be unreadable
abbrev pub past_word : Cursor → Word → Bool → Cursor
past_word c w bad = record { at = w.end; words = min (suc c.words) 4294967295; bad = bad }

-- what a word was read as, and `none` where it is unreadable; behind an unreadable word nothing is read
abbrev pub taken_as : {A : Type 0} → Cursor → Word → Option A → A → Taken A
taken_as c w (Some x) none = record { cursor = past_word c w false; value = x }
taken_as c w None none = record { cursor = past_word c w true; value = none }

unfoldable pub take_number : List ℕ → Cursor → Taken ℕ
take_number text c = let w = next_word text c.at in cond c.bad (record { cursor = c; value = 0 }) (taken_as c w (number_of (bytes_of text w)) 0)

-- the last word that was read counts as unreadable
abbrev pub marked_bad : Cursor → Cursor
marked_bad c = record { at = c.at; words = c.words; bad = true }

-- a number over `most` counts as unreadable
unfoldable pub take_count : List ℕ → ℕ → Cursor → Taken ℕ
take_count text most c = let t = take_number text c in cond (leb t.value most) t (record { cursor = marked_bad t.cursor; value = 0 })

unfoldable pub take_hex_word : List ℕ → Cursor → Taken ℕ
take_hex_word text c = let w = next_word text c.at in cond c.bad (record { cursor = c; value = 0 }) (taken_as c w (hex_word_of (bytes_of text w)) 0)

unfoldable pub take_float : List ℕ → Cursor → Taken Float
take_float text c = let w = next_word text c.at in cond c.bad (record { cursor = c; value = pzero }) (taken_as c w (float_of (bytes_of text w)) pzero)

-- no word is unreadable as a keyword or a slice's name
unfoldable pub take_keyword : List ℕ → Cursor → Taken Keyword
take_keyword text c =
    let w = next_word text c.at in
    cond c.bad (record { cursor = c; value = Keyword.Unknown }) (record { cursor = past_word c w false; value = keyword_of (bytes_of text w) })

unfoldable pub take_slice : List ℕ → Cursor → Taken Slice
take_slice text c =
    let w = next_word text c.at in
    cond c.bad (record { cursor = c; value = Slice.Unknown }) (record { cursor = past_word c w false; value = slice_of (bytes_of text w) })

-- a word that is not the given one is left
unfoldable pub take_if : List ℕ → List ℕ → Cursor → Taken Bool
take_if text word c =
    let w = next_word text c.at in
    let left : Taken Bool = record { cursor = c; value = false } in
    cond c.bad left (cond (same (bytes_of text w) word) (record { cursor = past_word c w false; value = true }) left)

unfoldable pub at_end : List ℕ → Cursor → Bool
at_end text c = let w = next_word text c.at in eqb w.first w.end

-- ---- numbers of words

-- the cursor past the first n words of a text
unfoldable pub along : List ℕ → ℕ → Cursor
along text zero = record { at = 0; words = 0; bad = false }
along text (suc n) = let c = along text n in past_word c (next_word text c.at) false
