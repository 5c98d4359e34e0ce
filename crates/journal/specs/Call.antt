-- Opening, striking and asking for the predecessor as functions on a slice's words: what the call answers, and the words that it leaves.
use Rattle.std.specs.Prelude.{ℕ, suc, Bool, cond, List, [], ◌∷◌, leb, length, drop, set, Result, Ok, Err, Option as RustOption, Some, None}
use Rattle.std.proofs.Math.Option.{Option, none, some}
use Rattle.journal.specs.Row.{Row, row_size, predecessor, predecessor_number}
use Rattle.journal.specs.Record.{used_word}
use Rattle.journal.specs.Journal.{words, read_journal}
use Rattle.journal.specs.declared.call.PrecedingRow.{PrecedingRow}
use Rattle.refusals.specs.Refusals.{Checked}
use Rattle.refusals.specs.declared.Refusal.{Refusal}

abbrev pub Outcome : Type 0
Outcome = Checked × List ℕ

-- checks in number order, each with whether it passed: the first that fails
abbrev pub first_failed : List (Refusal × Bool) → Option Refusal
first_failed [] = none
first_failed (c ∷ l) = cond c.1 (first_failed l) (some c.0)

-- a call that is refused leaves the words as they were
abbrev pub outcome : Option Refusal → List ℕ → List ℕ → Outcome
outcome none new old = (Ok tt, new)
outcome (some r) new old = (Err r, old)

-- opening: check 12 alone, then word 0
unfoldable pub opening : List ℕ → Outcome
opening [] = (Err Refusal.Room, [])
opening (w ∷ ws) = (Ok tt, used_word 1 ∷ ws)

-- word 0 counts these rows
unfoldable pub recounted : List ℕ → List Row → List ℕ
recounted s rs = set s 0 (used_word (suc (length (words rs))))

abbrev pub strike_read : List ℕ → ℕ → Option (List Row) → Outcome
strike_read s n none = (Err Refusal.Journal, s)
strike_read s n (some rs) = outcome (first_failed ((Refusal.Row, leb n (length rs)) ∷ [])) (recounted s (drop n rs)) s

-- striking the last n rows: checks 7 and 13, then word 0 alone
unfoldable pub striking : List ℕ → ℕ → Outcome
striking s n = strike_read s n (read_journal s)

-- ---- the predecessor of the next fix

-- what is told of it, where it is row number n
abbrev pub preceding_of : ℕ → Option Row → RustOption PrecedingRow
preceding_of n none = None
preceding_of n (some p) = Some (record { row = n; candidates = row_size p })

abbrev pub preceding_read : Option (List Row) → Result (RustOption PrecedingRow) Refusal
preceding_read none = Err Refusal.Journal
preceding_read (some rs) = Ok (preceding_of (predecessor_number rs) (predecessor rs))

-- its row and its number of candidates, or none: check 7 alone
unfoldable pub preceding : List ℕ → Result (RustOption PrecedingRow) Refusal
preceding s = preceding_read (read_journal s)

-- how many candidates that tells of, 0 where it tells of no row
abbrev pub candidates_told : Result (RustOption PrecedingRow) Refusal → ℕ
candidates_told (Ok None) = 0
candidates_told (Ok (Some p)) = p.candidates
candidates_told (Err r) = 0
