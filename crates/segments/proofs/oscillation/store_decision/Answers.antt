-- `segments::oscillation::store_decision` meets its contract.
use Rattle.std.proofs.Common.{ℕ, ◌≡◌, List, [], ◌∷◌, refl, length, get_or, arith, rules}
use native.Mathlib.Numerals.{towards_suc}
use Rattle.segments.specs.inner.Oscillation.{stored_words}
use Rattle.segments.proofs.oscillation.store_decision.Goals as goal

-- a list of three, entry by entry
three : (l : List ℕ) (d : ℕ) → length l ≡ 3 → l ≡ get_or l 0 d ∷ get_or l 1 d ∷ get_or l 2 d ∷ []
three (a ∷ b ∷ c ∷ []) d e = refl
three [] d e = absurd (omega arith)
three (a ∷ []) d e = absurd (omega arith)
three (a ∷ b ∷ []) d e = absurd (omega arith)
three (a ∷ b ∷ c ∷ x ∷ l) d e = absurd (omega arith)

pub returns : goal.returns
unfolding stored_words
returns c = rw (three c.args.gap.elements 0 (search rules)) (simp (towards_suc, c.row_span.ensures))
