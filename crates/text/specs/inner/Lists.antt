-- The lists of the case language, read into slices entry by entry.
use Rattle.std.specs.Prelude.{ℕ, ◌+◌, ◌*◌, cond, List, set, Float}
use Rattle.lists.specs.Loops.{up_to}
use Rattle.text.specs.inner.Cursor.{take_number, take_float}
use Rattle.text.specs.declared.cursor.Cursor.{Cursor}

-- ---- one word into entry i, where the slice has it; nothing is stored where the word is unreadable

unfoldable pub entry_stored : {A : Type 0} → ℕ → Cursor → A → List A → Cursor × List A
entry_stored i c v xs = (c, cond c.bad xs (set xs i v))

unfoldable pub number_into : List ℕ → ℕ → Cursor → List ℕ → Cursor × List ℕ
number_into text i c xs = let t = take_number text c in entry_stored i t.cursor t.value xs

unfoldable pub float_into : List ℕ → ℕ → Cursor → List Float → Cursor × List Float
float_into text i c xs = let t = take_float text c in entry_stored i t.cursor t.value xs

-- ---- elements: length, headings out at side 0 and 1, headings in at side 0 and 1, flag

pub record ElementsRead : Type 0 where
  pub cursor : Cursor
  pub lengths : List Float
  pub headings : List Float
  pub flags : List ℕ

abbrev pub elements_read_of : Cursor → List Float → List Float → List ℕ → ElementsRead
elements_read_of c lengths headings flags = record { cursor = c; lengths = lengths; headings = headings; flags = flags }

unfoldable pub element : List ℕ → ℕ → ElementsRead → ElementsRead
element text k s =
    let full = float_into text k s.cursor s.lengths in
    let out0 = float_into text (4 * k) full.0 s.headings in
    let out1 = float_into text (4 * k + 1) out0.0 out0.1 in
    let in0 = float_into text (4 * k + 2) out1.0 out1.1 in
    let in1 = float_into text (4 * k + 3) in0.0 in0.1 in
    let flag = number_into text k in1.0 s.flags in
    elements_read_of flag.0 full.1 in1.1 flag.1

unfoldable pub read_elements : List ℕ → ℕ → ElementsRead → ElementsRead
read_elements text n s = up_to n (element text) s

-- ---- relations: from, to, their sides, forward, backward

pub record RelationsRead : Type 0 where
  pub cursor : Cursor
  pub from : List ℕ
  pub to : List ℕ
  pub from_side : List ℕ
  pub to_side : List ℕ
  pub forward : List ℕ
  pub backward : List ℕ

abbrev pub relations_read_of : Cursor → List ℕ → List ℕ → List ℕ → List ℕ → List ℕ → List ℕ → RelationsRead
relations_read_of c from to from_side to_side forward backward =
    record { cursor = c; from = from; to = to; from_side = from_side; to_side = to_side; forward = forward; backward = backward }

unfoldable pub relation : List ℕ → ℕ → RelationsRead → RelationsRead
relation text k s =
    let from = number_into text k s.cursor s.from in
    let to = number_into text k from.0 s.to in
    let from_side = number_into text k to.0 s.from_side in
    let to_side = number_into text k from_side.0 s.to_side in
    let forward = number_into text k to_side.0 s.forward in
    let backward = number_into text k forward.0 s.backward in
    relations_read_of backward.0 from.1 to.1 from_side.1 to_side.1 forward.1 backward.1

unfoldable pub read_relations : List ℕ → ℕ → RelationsRead → RelationsRead
read_relations text n s = up_to n (relation text) s

-- ---- windows of a relation: first minute, last minute

pub record WindowsRead : Type 0 where
  pub cursor : Cursor
  pub firsts : List ℕ
  pub lasts : List ℕ

abbrev pub windows_read_of : Cursor → List ℕ → List ℕ → WindowsRead
windows_read_of c firsts lasts = record { cursor = c; firsts = firsts; lasts = lasts }

unfoldable pub window : List ℕ → ℕ → WindowsRead → WindowsRead
window text k s =
    let first = number_into text k s.cursor s.firsts in
    let last = number_into text k first.0 s.lasts in
    windows_read_of last.0 first.1 last.1

unfoldable pub read_windows : List ℕ → ℕ → WindowsRead → WindowsRead
read_windows text n s = up_to n (window text) s

-- ---- candidates: element, intrinsic, near, raw log

pub record CandidatesRead : Type 0 where
  pub cursor : Cursor
  pub elements : List ℕ
  pub intrinsics : List Float
  pub near : List ℕ
  pub raw_logs : List Float

abbrev pub candidates_read_of : Cursor → List ℕ → List Float → List ℕ → List Float → CandidatesRead
candidates_read_of c elements intrinsics near raw_logs = record { cursor = c; elements = elements; intrinsics = intrinsics; near = near; raw_logs = raw_logs }

unfoldable pub candidate : List ℕ → ℕ → CandidatesRead → CandidatesRead
candidate text k s =
    let element = number_into text k s.cursor s.elements in
    let intrinsic = float_into text k element.0 s.intrinsics in
    let near = number_into text k intrinsic.0 s.near in
    let raw_log = float_into text k near.0 s.raw_logs in
    candidates_read_of raw_log.0 element.1 intrinsic.1 near.1 raw_log.1

unfoldable pub read_candidates : List ℕ → ℕ → CandidatesRead → CandidatesRead
read_candidates text n s = up_to n (candidate text) s

-- ---- distances

unfoldable pub read_distances : List ℕ → ℕ → Cursor × List Float → Cursor × List Float
read_distances text n s = up_to n (λ k s. float_into text k s.0 s.1) s

-- ---- segments: element, start, end, first, last

pub record SegmentsRead : Type 0 where
  pub cursor : Cursor
  pub elements : List ℕ
  pub starts : List Float
  pub ends : List Float
  pub firsts : List ℕ
  pub lasts : List ℕ

abbrev pub segments_read_of : Cursor → List ℕ → List Float → List Float → List ℕ → List ℕ → SegmentsRead
segments_read_of c elements starts ends firsts lasts = record { cursor = c; elements = elements; starts = starts; ends = ends; firsts = firsts; lasts = lasts }

unfoldable pub segment : List ℕ → ℕ → SegmentsRead → SegmentsRead
segment text k s =
    let element = number_into text k s.cursor s.elements in
    let start = float_into text k element.0 s.starts in
    let end = float_into text k start.0 s.ends in
    let first = number_into text k end.0 s.firsts in
    let last = number_into text k first.0 s.lasts in
    segments_read_of last.0 element.1 start.1 end.1 first.1 last.1

unfoldable pub read_segments : List ℕ → ℕ → SegmentsRead → SegmentsRead
read_segments text n s = up_to n (segment text) s
