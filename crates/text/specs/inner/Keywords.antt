-- The case language's words for lines and for slices.
use Rattle.std.specs.Prelude.{ℕ, cond, List, [], ◌∷◌}
use Rattle.text.specs.inner.Bytes.{bytes, same}
use Rattle.text.specs.declared.keyword.Keyword.{Keyword}
use Rattle.text.specs.declared.keyword.Slice.{Slice}

-- what stands beside the word in a table
unfoldable pub entry_for : {A : Type 0} → A → List (List ℕ × A) → List ℕ → A
entry_for other [] w = other
entry_for other (e ∷ table) w = cond (same w e.0) e.1 (entry_for other table w)

abbrev pub keywords : List (List ℕ × Keyword)
keywords =
    (bytes "network", Keyword.Network) ∷ (bytes "settings", Keyword.Settings) ∷ (bytes "journal", Keyword.Journal)
    ∷ (bytes "feed", Keyword.Feed) ∷ (bytes "open", Keyword.Open) ∷ (bytes "strike", Keyword.Strike)
    ∷ (bytes "poke", Keyword.Poke) ∷ (bytes "short", Keyword.Short) ∷ (bytes "words", Keyword.Words)
    ∷ (bytes "close", Keyword.Close) ∷ (bytes "row", Keyword.Row) ∷ (bytes "steps", Keyword.Steps)
    ∷ (bytes "route", Keyword.Route) ∷ (bytes "routes", Keyword.Routes) ∷ (bytes "triple", Keyword.Triple)
    ∷ (bytes "segments", Keyword.Segments) ∷ (bytes "collapse", Keyword.Collapse) ∷ (bytes "kept", Keyword.Kept)
    ∷ (bytes "windows", Keyword.Windows) ∷ (bytes "minute", Keyword.Minute) ∷ (bytes "load", Keyword.Load)
    ∷ (bytes "replay", Keyword.Replay) ∷ []

unfoldable pub keyword_of : List ℕ → Keyword
keyword_of w = entry_for Keyword.Unknown keywords w

abbrev pub slices : List (List ℕ × Slice)
slices =
    (bytes "lengths", Slice.Lengths) ∷ (bytes "headings", Slice.Headings) ∷ (bytes "flags", Slice.Flags)
    ∷ (bytes "from", Slice.From) ∷ (bytes "to", Slice.To) ∷ (bytes "from_side", Slice.FromSide) ∷ (bytes "to_side", Slice.ToSide)
    ∷ (bytes "forward", Slice.Forward) ∷ (bytes "backward", Slice.Backward)
    ∷ (bytes "window_counts", Slice.WindowCounts) ∷ (bytes "window_firsts", Slice.WindowFirsts) ∷ (bytes "window_lasts", Slice.WindowLasts)
    ∷ (bytes "elements", Slice.Elements) ∷ (bytes "intrinsics", Slice.Intrinsics) ∷ (bytes "near", Slice.Near)
    ∷ (bytes "raw_logs", Slice.RawLogs) ∷ (bytes "distances", Slice.Distances)
    ∷ (bytes "answer", Slice.Answer) ∷ (bytes "decisions", Slice.Decisions) ∷ []

unfoldable pub slice_of : List ℕ → Slice
slice_of w = entry_for Slice.Unknown slices w
