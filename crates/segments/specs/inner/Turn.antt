-- What a turn does to the stage, to the entry and to the words of the decisions.
use Rattle.std.specs.Prelude.{ℕ, ◌+◌, ◌-◌, ◌*◌, ◌/◌, ◌<◌, ◌≤◌, Bool, true, false, cond, List, ltb, leb, eqb, Option, Some, None, Result, Ok, Err}
use Rattle.std.proofs.lemmas.List.Edits.{sets}
use Rattle.segments.specs.Segment.{zero_segment, segment_ok}
use Rattle.segments.specs.Collapse.{merged}
use Rattle.segments.specs.inner.Oscillation.{empty_gap, widened, is_oscillation, stored_words}
use Rattle.segments.specs.declared.segment.Segment.{Segment}
use Rattle.segments.specs.declared.oscillation.Gap.{Gap}
use Rattle.refusals.specs.declared.Refusal.{Refusal}
use Rattle.segments.specs.declared.turn.Phase.{Phase}
use Rattle.segments.specs.declared.turn.Stage.{Stage}
use Rattle.segments.specs.declared.collapse.Collapsed.{Collapsed}

-- ---- a stage with some fields changed

-- on to a phase, at an entry
abbrev pub go : Stage → Phase → ℕ → Stage
go s p i = record s { phase = p; at = i }

-- so many entries are read and so many stored
abbrev pub stands : Stage → ℕ → ℕ → Stage
stands s r w = record s { read = r; write = w }

-- the current segment, and those seen after it
abbrev pub holds : Stage → Segment → Gap → Stage
holds s c g = record s { current = c; gap = g }

-- how many decisions there are, and whether this pass made one
abbrev pub counts : Stage → ℕ → Bool → Stage
counts s k b = record s { decided = k; changed = b }

-- so many entries are left for the next pass
abbrev pub leaves : Stage → ℕ → Stage
leaves s n = record s { count = n }

-- over, with a check that failed
abbrev pub fails : Stage → Refusal → Stage
fails s r = record s { phase = Phase.Over; refusal = Some r }

-- ---- phases

-- one thing for each phase
module _ {ℓ} {A : Type ℓ} where
  unfoldable pub phased : Phase → A → A → A → A → A → A → A
  phased Phase.Over o a b c d e = o
  phased Phase.Checking o a b c d e = a
  phased Phase.Loading o a b c d e = b
  phased Phase.Looking o a b c d e = c
  phased Phase.Keeping o a b c d e = d
  phased Phase.Clearing o a b c d e = e

-- ---- turns

unfoldable pub stage_begun : ℕ → ℕ → Stage
stage_begun n m = record { phase = cond (eqb n 0) Phase.Over Phase.Checking; at = 0; total = n; fits = leb n (m / 6); count = n; read = 0; write = 0; decided = 0; changed = false; refusal = None; current = zero_segment; gap = empty_gap }

-- on to the next after those between; no further than the pass's entries, or than a fourth between
unfoldable pub sought : Stage → Stage
sought s =
    cond (leb s.gap.count 3) (cond (ltb s.gap.count (s.count - s.read)) (go s Phase.Looking (s.read + s.gap.count)) (go s Phase.Keeping s.write))
    (go s Phase.Keeping s.write)

-- an entry that passes check 14: the next one, or check 15 and the first pass
unfoldable pub accepted : Stage → Stage
accepted s =
    cond (ltb (s.read + 1) s.total) (go (stands s (s.read + 1) s.write) s.phase (s.read + 1))
    (cond s.fits (cond (ltb s.total 3) (go s Phase.Over s.at) (go (stands s 0 s.write) Phase.Loading 0)) (fails s Refusal.Buffer))

unfoldable pub segment_checked : Stage → Segment → Stage
segment_checked s v = cond (segment_ok v) (accepted s) (fails s Refusal.Segment)

unfoldable pub loaded : Stage → Segment → Stage
loaded s v = sought (holds (stands s (s.read + 1) s.write) v empty_gap)

-- one more between
unfoldable pub seen : Stage → Segment → Stage
seen s v = sought (holds s s.current (widened s.gap v))

-- those between and v are removed, and the current segment is merged with v
unfoldable pub gap_removed : Stage → Segment → Stage
gap_removed s v =
    sought
    (counts (stands (holds s (merged s.current v) empty_gap) (s.read + s.gap.count + 1) s.write) (s.decided + 1) true)

unfoldable pub looked : Stage → Segment → Stage
looked s v =
    cond (eqb v.element s.current.element) (cond (is_oscillation s.current s.gap) (gap_removed s v) (go s Phase.Keeping s.write))
    (seen s v)

unfoldable pub looked_words : Stage → Segment → List ℕ → List ℕ
looked_words s v ws =
    cond (eqb v.element s.current.element)
    (cond (is_oscillation s.current s.gap) (sets ws (s.decided * 6) (stored_words s.current.element s.gap)) ws)
    ws

-- the current segment is stored: the next is loaded, or a new pass begins, or what is past the count is cleared
unfoldable pub current_kept : Stage → Stage
current_kept s =
    cond (ltb s.read s.count) (go (stands s s.read (s.write + 1)) Phase.Loading s.read)
    (cond s.changed (go (counts (stands (leaves s (s.write + 1)) 0 0) s.decided false) Phase.Loading 0)
    (cond (ltb (s.write + 1) s.total) (go (stands (leaves s (s.write + 1)) s.read (s.write + 1)) Phase.Clearing (s.write + 1))
    (go (stands (leaves s (s.write + 1)) s.read (s.write + 1)) Phase.Over s.at)))

unfoldable pub cleared : Stage → Stage
cleared s =
    cond (ltb (s.write + 1) s.total) (go (stands s s.read (s.write + 1)) s.phase (s.write + 1))
    (go (stands s s.read (s.write + 1)) Phase.Over s.at)

-- what a turn stores at the entry, if it does
unfoldable pub stored : Stage → Option Segment
stored s = phased s.phase None None None None (Some s.current) (Some zero_segment)

unfoldable pub turned : Stage → Segment → Stage
turned s v = phased s.phase s (segment_checked s v) (loaded s v) (looked s v) (current_kept s) (cleared s)

unfoldable pub turned_words : Stage → Segment → List ℕ → List ℕ
turned_words s v ws = phased s.phase ws ws ws (looked_words s v ws) ws ws

-- ---- what a turn asks of the numbers, where the buffer has n words

pub record LookReady (s : Stage) (n : ℕ) : Type 0 where
  pub few : s.gap.count ≤ 3
  pub inside : s.read + s.gap.count < s.count
  pub undecided : s.decided < s.total
  pub room : s.decided * 6 + 6 ≤ n

pub record KeepReady (s : Stage) : Type 0 where
  pub behind : s.write < s.read
  pub within : s.read ≤ s.count
  pub room : s.count ≤ s.total

unfoldable pub Ready : Stage → ℕ → Type 0
Ready s n = phased s.phase (Unit {0}) (s.read < s.total) (s.read < s.count) (LookReady s n) (KeepReady s) (s.write < s.total)

-- ---- what the call answers at the end

-- a refusal, or else the answer
abbrev pub unless_refused : {A : Type 0} → Option Refusal → A → Result A Refusal
unless_refused None a = Ok a
unless_refused (Some r) a = Err r

unfoldable pub finished : Stage → Result Collapsed Refusal
finished s = unless_refused s.refusal (record { segments = s.count; decisions = s.decided })
