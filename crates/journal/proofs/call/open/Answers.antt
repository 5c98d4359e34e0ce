-- `journal::call::open` meets its contract.
use Prim.Native.Nat.{ℕ}
use native.Mathlib.Omega.{arith}
use mathlib.Core.List.{List, [], ◌∷◌}
use mathlib.Core.Path.{◌≡◌, refl}
use lib.ListN.{length, set}
use Rattle.std.specs.Prelude.{Ok, Err}
use Rattle.refusals.specs.declared.Refusal.{Refusal}
use Rattle.journal.specs.Call.{opening}
use Rattle.journal.proofs.call.open.Goals as goal

-- an empty slice
refused : (s : List ℕ) → length s ≡ 0 → (Err Refusal.Room ≡ (opening s).0) × (s ≡ (opening s).1)
unfolding opening
refused [] e = (refl, refl)
refused (w ∷ s) e = absurd (omega arith)

-- word 0
done : (s : List ℕ) → (length s ≡ 0 → ⊥) → (Ok tt ≡ (opening s).0) × (set s 0 0x50000001 ≡ (opening s).1)
unfolding opening
done [] h = absurd (h refl)
done (w ∷ s) h = (refl, refl)

pub returns-then-journal-eq0 : goal.returns-then-journal-eq0
returns-then-journal-eq0 c =
    record {
      answer = (refused _ c.if-journal-eq0.true).0;
      words_left = (refused _ c.if-journal-eq0.true).1;
    }

pub returns : goal.returns
returns c =
    record {
      answer = (done _ c.if-journal-eq0.false).0;
      words_left = (done _ c.if-journal-eq0.false).1;
    }
