-- The table of record lengths, over both counts.
use Rattle.std.specs.Prelude.{ℕ, ◌+◌, ◌*◌, ◌≤◌, ◌≡◌, List, get_or}
use Rattle.journal.specs.Ranges.{candidate_limit}
use Rattle.journal.specs.Record.{record_length}

-- its rule: row by row, 17 to a row, the record length of c candidates with p predecessor candidates
unfoldable pub LengthTable : List ℕ → Type 0
LengthTable t = (c p : ℕ) → c ≤ candidate_limit → p ≤ candidate_limit → get_or t (17 * c + p) 0 ≡ record_length c p
