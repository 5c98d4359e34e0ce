-- The predecessor of the next fix, as it is told of: the row that check 7 finds, by its number, which fits 32 bits. Assumes nothing.
use Prim.Native.Nat.{ℕ, suc, ◌-◌, ◌<◌}
use native.Mathlib.Omega.{arith}
use mathlib.Core.Path.{◌≡◌, refl, sym, ap, ◌∙◌}
use mathlib.Core.Bool.{Bool, true, false, cond}
use mathlib.Core.List.{List, [], ◌∷◌}
use mathlib.Core.Option.{Option, none, some}
use Rattle.std.specs.Prelude.{Ok, Err, Option as RustOption, Some, None}
use lib.ListN.{length, get_or}
use Rattle.journal.specs.Row.{Row, row_size, scores, predecessor, predecessor_number}
use Rattle.journal.specs.Journal.{words}
use Rattle.journal.specs.Call.{preceding_of, preceding}
use Rattle.journal.specs.inner.Check.{predecessor_standing, latest_of, well_formed, survey}
use Rattle.refusals.specs.declared.Refusal.{Refusal}
use Rattle.journal.specs.declared.call.PrecedingRow.{PrecedingRow}
use Rattle.journal.specs.declared.check.Predecessor.{Predecessor}
use Rattle.std.proofs.lemmas.Option.{same_Some}
use Rattle.journal.proofs.Lists.{some-none}
use Rattle.journal.proofs.Ends.{formed, survey-rows, survey-no, survey-refused}

-- what is told of the row that check 7 found
abbrev pub told : RustOption Predecessor → RustOption PrecedingRow
told None = None
told (Some p) = Some (record { row = p.row; candidates = p.candidates })

latest-told : (rs : List Row) → told (latest_of rs) ≡ preceding_of (predecessor_number rs) (predecessor rs)
unfolding latest_of predecessor predecessor_number
latest-told [] = refl
latest-told (r ∷ rs) = go (scores r) (latest-told rs)
  where
    new : RustOption Predecessor
    new = predecessor_standing (suc (length (words rs))) (length rs) (row_size r)

    go : (b : Bool) → told (latest_of rs) ≡ preceding_of (predecessor_number rs) (predecessor rs)
        → told (cond b new (latest_of rs)) ≡ preceding_of (cond b (length rs) (predecessor_number rs)) (cond b (some r) (predecessor rs))
    go true ih = refl
    go false ih = ih

-- it stands at its number, the newest row first
pub number_at : (rs : List Row) (p other : Row) → predecessor rs ≡ some p → (predecessor_number rs < length rs) × (get_or rs (length rs - suc (predecessor_number rs)) other ≡ p)
unfolding predecessor predecessor_number
number_at [] p other e = some-none (sym e)
number_at (r ∷ rs) p other e = go (scores r) e (number_at rs p other)
  where
    go : (b : Bool) → cond b (some r) (predecessor rs) ≡ some p
        → (predecessor rs ≡ some p → (predecessor_number rs < length rs) × (get_or rs (length rs - suc (predecessor_number rs)) other ≡ p))
        → (cond b (length rs) (predecessor_number rs) < suc (length rs)) × (get_or (r ∷ rs) (suc (length rs) - suc (cond b (length rs) (predecessor_number rs))) other ≡ p)
    go true q ih =
        let first : suc (length rs) - suc (length rs) ≡ 0 = omega arith in
        let same : r ≡ p = cc in
        (omega arith, rw first same)
    go false q ih =
        let v = ih q in
        let next : suc (length rs) - suc (predecessor_number rs) ≡ suc (length rs - suc (predecessor_number rs)) = omega (arith, v.0) in
        (omega (arith, v.0), rw next v.1)

-- so the row that check 7 found is one of the rows
latest-inside : (rs : List Row) (place row c : ℕ) → latest_of rs ≡ predecessor_standing place row c → row < length rs
latest-inside rs place row c e = go (predecessor rs) refl (ap told (sym e) ∙ latest-told rs)
  where
    go : (o : Option Row) → predecessor rs ≡ o → told (predecessor_standing 0 row c) ≡ preceding_of (predecessor_number rs) o → row < length rs
    go none q k = let z : ◌≡◌ {A = ℕ} 0 1 = cc in absurd (omega arith)
    go (some p) q k =
        let same : row ≡ predecessor_number rs = ap (λ (r : PrecedingRow). r.row) (same_Some _ _ k) in
        omega (arith, (number_at rs p p q).0)

pub preceding-not : (s : List ℕ) {r : Refusal} → survey s ≡ Err r → Err r ≡ preceding s
unfolding preceding
preceding-not s e = rw (survey-no s e, survey-refused s e)

module _ (s : List ℕ) (rows u : ℕ) (p : RustOption Predecessor) (m : ℕ) (e : survey s ≡ well_formed rows u p m) where
  pub preceding-told : (q : RustOption Predecessor) → p ≡ q → Ok (told q) ≡ preceding s
  unfolding preceding
  preceding-told q h = let r = survey-rows s rows u p m e in ap Ok (ap told (sym (r.latest ∙ h)) ∙ latest-told r.rows) ∙ rw r.reads

  -- at most 65,535 rows stand
  pub row_fits : (place row c : ℕ) → p ≡ predecessor_standing place row c → row < 65536
  row_fits place row c q =
      let r = survey-rows s rows u p m e in
      omega (arith, latest-inside r.rows place row c (r.latest ∙ q), (formed s r.rows r.reads).1)
