-- What closing answers, and what the two buffers then hold, by what `closing_on` gives.
use Rattle.std.specs.Prelude.{ℕ, List, map, ◌++◌, length, drop, Option, Some, None, Result, Ok, Err}
use Rattle.refusals.specs.declared.Refusal.{Refusal}
use Rattle.decoder.specs.Closing.{nothing, path}
use Rattle.decoder.specs.Call.{Closes, gave, refused}
use Rattle.closing.specs.declared.close.BestPath.{BestPath}

-- what a buffer holds of a pair: its row or its candidate
abbrev pub PairField : Type 0
PairField = ℕ × ℕ → ℕ

abbrev pub pair_row : PairField
pair_row p = p.0

abbrev pub pair_candidate : PairField
pair_candidate p = p.1

-- no scoring row; the score and the number of pairs; or a refusal
unfoldable pub close_answer : Closes → Result (Option BestPath) Refusal
close_answer (gave nothing) = Ok None
close_answer (gave (path w x)) = Ok (Some (record { score = x; pairs = length w }))
close_answer (refused k) = Err k

-- a buffer after the call: its entry of each pair, in row order, and past them what it held; as it was where no pairs are answered
unfoldable pub close_stored : PairField → Closes → List ℕ → List ℕ
close_stored f (gave nothing) buffer = buffer
close_stored f (gave (path w x)) buffer = map f w ++ drop (length w) buffer
close_stored f (refused k) buffer = buffer
