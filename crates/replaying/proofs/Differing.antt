-- The first differing row is the first for which the records up to it are not those of feeding the fixes up to it. Assumes `ChecksHold` of the network
-- and settings.
use Prim.Native.Nat.{ℕ, suc, ◌-◌, ◌<◌}
use native.Mathlib.Omega.{arith}
use mathlib.Core.Path.{◌≡◌, refl, sym, ap, ◌∙◌, subst}
use mathlib.Core.Bool.{Bool, true, false, cond}
use mathlib.Core.List.{List, [], ◌∷◌, ◌++◌, map, append_cancel_left}
use lib.Dec.{T, T_not}
use lib.ListN.{length, drop}
use Rattle.std.specs.Prelude.{Option, Some, None}
use Rattle.journal.specs.Row.{Fix, Row, fix_of}
use Rattle.journal.specs.Journal.{words, record_on}
use Rattle.binary64.proofs.Order.{missed}
use Rattle.rows.specs.Row.{StepsAt, rows}
use Rattle.decoder.specs.inner.StepRange.{ChecksHold}
use Rattle.decoder.proofs.Standing.{fixes-rows}
use Rattle.decoder.proofs.TwoLists.{rows_drop}
use Rattle.replaying.specs.Replay.{refed, same_record, first_of, first_differing}
use Rattle.replaying.specs.Replayed.{up_to_row, FedRecords}
use Rattle.replaying.proofs.Refed.{some-none, KnownRows, older, same-record, Refed, refed-rows, all-refed}

-- ---- the rows up to one of them

up-to-older : (r : Row) (rs : List Row) (m : ℕ) → m < length rs → up_to_row (r ∷ rs) m ≡ up_to_row rs m
up-to-older r rs m h = let back : suc (length rs) - suc m ≡ suc (length rs - suc m) = omega arith in ap (λ (k : ℕ). drop k (r ∷ rs)) back

up-to-last : (r : Row) (rs : List Row) → up_to_row (r ∷ rs) (length rs) ≡ r ∷ rs
up-to-last r rs = let back : suc (length rs) - suc (length rs) ≡ 0 = omega arith in ap (λ (k : ℕ). drop k (r ∷ rs)) back

module _ (known : ℕ) (step : StepsAt) where
  -- ---- records of feeding

  -- those of the rows of fixes are
  fed-records : (rs : List Row) (fs : List Fix) → rs ≡ rows step fs → FedRecords step rs
  fed-records rs fs e = ap words e ∙ ap (λ (l : List Fix). words (rows step l)) (sym (fixes-rows step fs) ∙ ap (map fix_of) (sym e))

  -- so those of rows that feeding gives again are, up to each of them
  refed-records : (rs : List Row) → Refed step rs → (m : ℕ) → FedRecords step (up_to_row rs m)
  refed-records rs a m = fed-records (up_to_row rs m) (drop (length rs - suc m) (map fix_of rs)) (ap (drop (length rs - suc m)) (refed-rows step rs a) ∙ rows_drop step (length rs - suc m) (map fix_of rs))

  -- where they are, a record after such rows is the same
  fed-same : (r : Row) (rs : List Row) → Refed step rs → FedRecords step (r ∷ rs) → T (same_record (step r.minute) rs r)
  unfolding words rows
  fed-same r rs a e =
      let own = refed (step r.minute) rs r in
      let fed = subst (λ (l : List Row). words rs ++ record_on rs r ≡ words l ++ record_on l (refed (step r.minute) l r)) (sym (refed-rows step rs a)) e in
      same-record step r rs (append_cancel_left (words rs) (record_on rs r) (record_on rs own) fed)

  -- ---- the first that differs

  pub record First (rs : List Row) (n : ℕ) : Type 0 where
    pub stands : n < length rs
    pub differs : FedRecords step (up_to_row rs n) → ⊥
    pub before : (m : ℕ) → m < n → FedRecords step (up_to_row rs m)

  module _ (good : ChecksHold known step) where
    pub first-differs : (rs : List Row) (n : ℕ) → KnownRows known rs → first_differing step rs ≡ Some n → First rs n
    unfolding first_differing
    first-differs [] n h e = some-none (sym e)
    first-differs (r ∷ rs) n h e = go (first_differing step rs) refl (same_record (step r.minute) rs r) refl e (first-differs rs n (older known r rs h))
      where
        FedUpTo : List Row → Type 0
        FedUpTo l = FedRecords step l

        go : (o : Option ℕ) → first_differing step rs ≡ o → (b : Bool) → same_record (step r.minute) rs r ≡ b → first_of o (cond b None (Some (length rs))) ≡ Some n → (first_differing step rs ≡ Some n → First rs n)
            → First (r ∷ rs) n
        go (Some k) p b q x ih =
            let f = ih (p ∙ x) in
            record {
              stands = omega (arith, f.stands);
              differs = λ y. f.differs (subst FedUpTo (up-to-older r rs n f.stands) y);
              before = λ m l. subst FedUpTo (sym (up-to-older r rs m (omega (arith, f.stands)))) (f.before m l);
            }
        go None p true q x ih = some-none (sym x)
        go None p false q x ih =
            let a = all-refed step known good rs (older known r rs h) p in
            let last : length rs ≡ n = cc in
            subst (First (r ∷ rs)) last (record {
              stands = omega arith;
              differs = λ y. T_not (same_record (step r.minute) rs r) (missed q) (fed-same r rs a (subst FedUpTo (up-to-last r rs) y));
              before = λ m l. subst FedUpTo (sym (up-to-older r rs m l)) (refed-records rs a m);
            })
