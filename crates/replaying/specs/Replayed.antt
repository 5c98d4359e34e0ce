-- Document 02, K5: what the answer of replaying says of lists of calls.
use Rattle.std.specs.Prelude.{ℕ, suc, ◌-◌, ◌<◌, ◌≤◌, ◌≡◌, ◌↔◌, Some, None, Ok, Err, List, map, length, drop}
use Rattle.std.proofs.Math.Option.{Option, some}
use Rattle.refusals.specs.declared.Refusal.{Refusal}
use Rattle.refusals.specs.Refusals.{Checked}
use Rattle.journal.specs.Row.{Row, fix_of}
use Rattle.journal.specs.Journal.{words, used, used_words, read_journal}
use Rattle.journal.specs.WellFormed.{Each}
use Rattle.journal.specs.Call.{opening}
use Rattle.rows.specs.Row.{StepsAt, rows}
use Rattle.decoder.specs.Call.{Call, run}
use Rattle.decoder.specs.TwoLists.{CallFits, words_left}
use Rattle.replaying.specs.Replay.{replaying}

-- the rows up to number n, that one included
abbrev pub up_to_row : List Row → ℕ → List Row
up_to_row rs n = drop (length rs - suc n) rs

-- the records of the rows are those of feeding the fixes that they record
abbrev pub FedRecords : StepsAt → List Row → Type 0
FedRecords step rs = words rs ≡ words (rows step (map fix_of rs))

module _ (refusal : Option Refusal) (known : ℕ) (step : StepsAt) where
  -- calls on the slice `room`, just opened, of which none is refused, leave the used words of s
  pub record LeavesWords (room s : List ℕ) (cs : List Call) : Type 0 where
    pub opens : 0 < length room
    pub fitting : Each CallFits cs
    pub accepted : Each (λ (a : Checked). a ≡ Ok tt) (run refusal known step (opening room).1 cs).0
    pub leaves : used_words (words_left refusal known step room cs) ≡ used_words s

  -- some accepted fixes and strikes from opening leave the used words of s
  abbrev pub LeftByCalls : List ℕ → Type 0
  LeftByCalls s = (room : List ℕ) × (cs : List Call) × LeavesWords room s cs

  -- Unless it refuses, replaying tells that the journal is clean exactly if some accepted calls leave those used words, and then so on every slice
  -- that is long enough; otherwise it tells the first row for which the records up to it are not those of feeding the fixes up to it.
  pub record Tells (s : List ℕ) : Type 0 where
    pub clean-exactly : ((k : Refusal) → replaying refusal known step s ≡ Err k → ⊥) → (replaying refusal known step s ≡ Ok None) ↔ LeftByCalls s
    pub clean-anywhere : replaying refusal known step s ≡ Ok None → (room : List ℕ) → used s ≤ length room → (cs : List Call) × LeavesWords room s cs
    pub first-told : (n : ℕ) → replaying refusal known step s ≡ Ok (Some n) → (rs : List Row) × (read_journal s ≡ some rs) × (n < length rs)
        × (FedRecords step (up_to_row rs n) → ⊥) × ((m : ℕ) → m < n → FedRecords step (up_to_row rs m))
