-- The words of a text: bytes between separators, with comments left out.
use Rattle.std.specs.Prelude.{ℕ, zero, suc, ◌+◌, ◌-◌, Bool, false, not, ◌&&◌, ◌||◌, cond, List, [], ◌∷◌, eqb, length, take, drop}
use Rattle.text.specs.declared.word.Word.{Word}

-- a tab, a line's end, a carriage return or a space
abbrev pub separates : ℕ → Bool
separates b = eqb b 9 || (eqb b 10 || (eqb b 13 || eqb b 32))

-- what ends a word: one of them, or the `#` of a comment
unfoldable pub breaks : ℕ → Bool
breaks b = separates b || eqb b 35

-- whether a comment goes on after a byte: from `#` to the line's end
unfoldable pub commented : Bool → ℕ → Bool
commented c b = (c || eqb b 35) && not (eqb b 10)

-- how many bytes stand before the next word, where c says whether the first of them is in a comment
unfoldable pub gap : Bool → List ℕ → ℕ
gap c [] = 0
gap c (b ∷ l) = cond (c || breaks b) (suc (gap (commented c b) l)) 0

-- how many bytes come before the first that ends a word
unfoldable pub word_length : List ℕ → ℕ
word_length [] = 0
word_length (b ∷ l) = cond (breaks b) 0 (suc (word_length l))

-- the word from a place on; one without bytes where none is left
unfoldable pub next_word : List ℕ → ℕ → Word
next_word text at = let first = at + gap false (drop at text) in record { first = first; end = first + word_length (drop first text) }

-- its bytes
abbrev pub bytes_of : List ℕ → Word → List ℕ
bytes_of text w = take (w.end - w.first) (drop w.first text)

-- the words of a text from a place on, at most n of them
unfoldable pub words_from : ℕ → List ℕ → ℕ → List (List ℕ)
words_from zero text at = []
words_from (suc n) text at =
    let w = next_word text at in
    let further = words_from n text w.end in
    cond (eqb w.first w.end) [] (bytes_of text w ∷ further)

-- all words of a text
unfoldable pub all_words : List ℕ → List (List ℕ)
all_words text = words_from (length text) text 0
