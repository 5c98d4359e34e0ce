-- Document 01, "Journal" (kinds 7 and 8: document 02, K1 and K4): a row's record in 32-bit words, and what is read from one.
use Rattle.std.specs.Prelude.{ℕ, zero, suc, ◌+◌, ◌*◌, ◌/◌, ◌%◌, List, [], ◌∷◌, ◌++◌, length, get_or, drop, Float}
use Rattle.std.specs.Float.{binary64}
use Rattle.std.specs.Float.Ieee.{to_bits, of_bits}
use Rattle.journal.specs.Lists.{flat}
use Rattle.journal.specs.Row.{Cell, Row, row_size}

-- ---- words by kind, the top four bits

-- kind 1: candidates (5 bits), predecessor candidates (5)
abbrev pub head_word : ℕ → ℕ → ℕ
head_word c p = 0x10000000 + c + 32 * p

-- kind 7: where the predecessor's head word stands, counted from word 0, or 0 for none (28)
abbrev pub predecessor_word : ℕ → ℕ
predecessor_word place = 0x70000000 + place

-- kind 8: the row's minute (28)
abbrev pub minute_word : ℕ → ℕ
minute_word minute = 0x80000000 + minute

-- kind 2: element (10), near (1), parent (5)
abbrev pub candidate_word : ℕ → ℕ → ℕ → ℕ
candidate_word element near parent = 0x20000000 + element + 1024 * near + 2048 * parent

-- kind 3: number of distances (9)
abbrev pub distances_word : ℕ → ℕ
distances_word n = 0x30000000 + n

-- kind 4: record length
abbrev pub length_word : ℕ → ℕ
length_word n = 0x40000000 + n

-- word 0, kind 5: used words (28)
abbrev pub used_word : ℕ → ℕ
used_word n = 0x50000000 + n

-- a float's words are raw, high half first
abbrev pub high_half : Float → ℕ
high_half x = to_bits binary64 x / 4294967296

abbrev pub low_half : Float → ℕ
low_half x = to_bits binary64 x % 4294967296

abbrev pub float_words : Float → List ℕ
float_words x = high_half x ∷ low_half x ∷ []

-- ---- a row's record

-- its head: the counts, the predecessor's place, and the minute
abbrev pub head_of : ℕ → Row → List ℕ
head_of place r = head_word (row_size r) r.before ∷ predecessor_word place ∷ minute_word r.minute ∷ []

-- where its first candidate's words start, past the head
abbrev pub first_cell : ℕ
first_cell = 3

abbrev pub cell_words : Cell → List ℕ
cell_words c =
    candidate_word c.candidate.element c.candidate.near c.parent
    ∷ high_half c.candidate.intrinsic ∷ low_half c.candidate.intrinsic
    ∷ high_half c.candidate.raw_log ∷ low_half c.candidate.raw_log
    ∷ high_half c.score ∷ low_half c.score ∷ []

abbrev pub distances_words : List Float → List ℕ
distances_words ds = distances_word (length ds) ∷ flat float_words ds

-- the record length of c candidates with p predecessor candidates
unfoldable pub record_length : ℕ → ℕ → ℕ
record_length c p = 7 * c + 2 * (c * p) + 5

-- of a row whose predecessor's record starts at `place`
unfoldable pub record_of : ℕ → Row → List ℕ
record_of place r =
    head_of place r ++ (flat cell_words r.cells ++ (distances_words r.distances ++ (length_word (record_length (row_size r) r.before) ∷ [])))

-- ---- reading back

abbrev pub read_float : ℕ → ℕ → Float
read_float h l = of_bits binary64 (h * 4294967296 + l)

-- the float whose words start at place `at`
abbrev pub float_at : List ℕ → ℕ → Float
float_at ws at = read_float (get_or ws at 0) (get_or ws (at + 1) 0)

abbrev pub read_cell : List ℕ → Cell
read_cell ws = record {
  candidate = record {
    element = get_or ws 0 0 % 1024;
    intrinsic = read_float (get_or ws 1 0) (get_or ws 2 0);
    near = get_or ws 0 0 / 1024 % 2;
    raw_log = read_float (get_or ws 3 0) (get_or ws 4 0);
  };
  parent = get_or ws 0 0 / 2048 % 32;
  score = read_float (get_or ws 5 0) (get_or ws 6 0);
}

abbrev pub read_distance : List ℕ → Float
read_distance ws = float_at ws 0

-- n entries of m words each, one after the other
unfoldable pub read_each : {A : Type 0} → (List ℕ → A) → ℕ → ℕ → List ℕ → List A
read_each read m zero ws = []
read_each read m (suc n) ws = read ws ∷ read_each read m n (drop m ws)

-- the two counts of a head word
abbrev pub head_count : ℕ → ℕ
head_count w = w % 32

abbrev pub head_before : ℕ → ℕ
head_before w = w / 32 % 32

-- the minute of a word of kind 8
abbrev pub read_minute : ℕ → ℕ
read_minute w = w % 268435456

-- the row of the record that starts with the first word
unfoldable pub read_row : List ℕ → Row
read_row ws =
    let c = head_count (get_or ws 0 0) in
    let p = head_before (get_or ws 0 0) in
    let body = drop first_cell ws in
    record {
      minute = read_minute (get_or ws 2 0);
      cells = read_each read_cell 7 c body;
      before = p;
      distances = read_each read_distance 2 (c * p) (drop 1 (drop (7 * c) body));
    }
