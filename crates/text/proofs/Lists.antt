-- A word stored in an entry, and the words of an entry of each list. Assumes nothing.
use Prim.Native.Nat.{ℕ, ◌+◌, ◌*◌, ◌≤◌}
use mathlib.Core.Path.{◌≡◌, refl, sym, ap, ◌∙◌}
use mathlib.Core.Bool.{true, false, cond}
use mathlib.Core.List.{List}
use lib.ListN.{length, set}
use lib.Seq.{set_out}
use lib.Ieee.{Float}
use Rattle.text.specs.inner.Lists.{entry_stored, number_into, float_into, elements_read_of, element, relations_read_of, relation, windows_read_of, window, candidates_read_of, candidate, segments_read_of, segment}
use Rattle.text.specs.declared.cursor.Cursor.{Cursor}

module _ {A : Type 0} (i : ℕ) (c : Cursor) (v : A) (xs : List A) where
  pub entered-not : c.bad ≡ true → (c ≡ (entry_stored i c v xs).0) × (xs ≡ (entry_stored i c v xs).1)
  unfolding entry_stored
  entered-not e = (refl, sym (ap (λ b. cond b xs (set xs i v)) e))

  pub entered-in : c.bad ≡ false → (c ≡ (entry_stored i c v xs).0) × (set xs i v ≡ (entry_stored i c v xs).1)
  unfolding entry_stored
  entered-in e = (refl, sym (ap (λ b. cond b xs (set xs i v)) e))

  pub entered-out : c.bad ≡ false → length xs ≤ i → (c ≡ (entry_stored i c v xs).0) × (xs ≡ (entry_stored i c v xs).1)
  unfolding entry_stored
  entered-out e h = (refl, sym (ap (λ b. cond b xs (set xs i v)) e ∙ set_out xs i v h))

-- ---- the words of an entry, stored one after the other

pub element-stored : (text : List ℕ) (k : ℕ) (c : Cursor) (lengths : List Float) (headings : List Float) (flags : List ℕ)
    (c1 c2 c3 c4 c5 c6 : Cursor) (lengths1 : List Float) (headings1 : List Float) (headings2 : List Float) (headings3 : List Float) (headings4 : List Float) (flags1 : List ℕ)
    → (c1 ≡ (float_into text k c lengths).0) × (lengths1 ≡ (float_into text k c lengths).1)
    → (c2 ≡ (float_into text (4 * k) c1 headings).0) × (headings1 ≡ (float_into text (4 * k) c1 headings).1)
    → (c3 ≡ (float_into text (4 * k + 1) c2 headings1).0) × (headings2 ≡ (float_into text (4 * k + 1) c2 headings1).1)
    → (c4 ≡ (float_into text (4 * k + 2) c3 headings2).0) × (headings3 ≡ (float_into text (4 * k + 2) c3 headings2).1)
    → (c5 ≡ (float_into text (4 * k + 3) c4 headings3).0) × (headings4 ≡ (float_into text (4 * k + 3) c4 headings3).1)
    → (c6 ≡ (number_into text k c5 flags).0) × (flags1 ≡ (number_into text k c5 flags).1)
    → elements_read_of c6 lengths1 headings4 flags1 ≡ element text k (elements_read_of c lengths headings flags)
unfolding element
element-stored text k c lengths headings flags c1 c2 c3 c4 c5 c6 lengths1 headings1 headings2 headings3 headings4 flags1 e1 e2 e3 e4 e5 e6 = rw (e6.0, e6.1, e5.0, e5.1, e4.0, e4.1, e3.0, e3.1, e2.0, e2.1, e1.0, e1.1)

pub relation-stored : (text : List ℕ) (k : ℕ) (c : Cursor) (from : List ℕ) (to : List ℕ) (from_side : List ℕ) (to_side : List ℕ) (forward : List ℕ) (backward : List ℕ)
    (c1 c2 c3 c4 c5 c6 : Cursor) (from1 : List ℕ) (to1 : List ℕ) (from_side1 : List ℕ) (to_side1 : List ℕ) (forward1 : List ℕ) (backward1 : List ℕ)
    → (c1 ≡ (number_into text k c from).0) × (from1 ≡ (number_into text k c from).1)
    → (c2 ≡ (number_into text k c1 to).0) × (to1 ≡ (number_into text k c1 to).1)
    → (c3 ≡ (number_into text k c2 from_side).0) × (from_side1 ≡ (number_into text k c2 from_side).1)
    → (c4 ≡ (number_into text k c3 to_side).0) × (to_side1 ≡ (number_into text k c3 to_side).1)
    → (c5 ≡ (number_into text k c4 forward).0) × (forward1 ≡ (number_into text k c4 forward).1)
    → (c6 ≡ (number_into text k c5 backward).0) × (backward1 ≡ (number_into text k c5 backward).1)
    → relations_read_of c6 from1 to1 from_side1 to_side1 forward1 backward1 ≡ relation text k (relations_read_of c from to from_side to_side forward backward)
unfolding relation
relation-stored text k c from to from_side to_side forward backward c1 c2 c3 c4 c5 c6 from1 to1 from_side1 to_side1 forward1 backward1 e1 e2 e3 e4 e5 e6 = rw (e6.0, e6.1, e5.0, e5.1, e4.0, e4.1, e3.0, e3.1, e2.0, e2.1, e1.0, e1.1)

pub window-stored : (text : List ℕ) (k : ℕ) (c : Cursor) (firsts : List ℕ) (lasts : List ℕ) (c1 c2 : Cursor) (firsts1 : List ℕ) (lasts1 : List ℕ)
    → (c1 ≡ (number_into text k c firsts).0) × (firsts1 ≡ (number_into text k c firsts).1)
    → (c2 ≡ (number_into text k c1 lasts).0) × (lasts1 ≡ (number_into text k c1 lasts).1)
    → windows_read_of c2 firsts1 lasts1 ≡ window text k (windows_read_of c firsts lasts)
unfolding window
window-stored text k c firsts lasts c1 c2 firsts1 lasts1 e1 e2 = rw (e2.0, e2.1, e1.0, e1.1)

pub candidate-stored : (text : List ℕ) (k : ℕ) (c : Cursor) (elements : List ℕ) (intrinsics : List Float) (near : List ℕ) (raw_logs : List Float)
    (c1 c2 c3 c4 : Cursor) (elements1 : List ℕ) (intrinsics1 : List Float) (near1 : List ℕ) (raw_logs1 : List Float)
    → (c1 ≡ (number_into text k c elements).0) × (elements1 ≡ (number_into text k c elements).1)
    → (c2 ≡ (float_into text k c1 intrinsics).0) × (intrinsics1 ≡ (float_into text k c1 intrinsics).1)
    → (c3 ≡ (number_into text k c2 near).0) × (near1 ≡ (number_into text k c2 near).1)
    → (c4 ≡ (float_into text k c3 raw_logs).0) × (raw_logs1 ≡ (float_into text k c3 raw_logs).1)
    → candidates_read_of c4 elements1 intrinsics1 near1 raw_logs1 ≡ candidate text k (candidates_read_of c elements intrinsics near raw_logs)
unfolding candidate
candidate-stored text k c elements intrinsics near raw_logs c1 c2 c3 c4 elements1 intrinsics1 near1 raw_logs1 e1 e2 e3 e4 = rw (e4.0, e4.1, e3.0, e3.1, e2.0, e2.1, e1.0, e1.1)

pub segment-stored : (text : List ℕ) (k : ℕ) (c : Cursor) (elements : List ℕ) (starts : List Float) (ends : List Float) (firsts : List ℕ) (lasts : List ℕ)
    (c1 c2 c3 c4 c5 : Cursor) (elements1 : List ℕ) (starts1 : List Float) (ends1 : List Float) (firsts1 : List ℕ) (lasts1 : List ℕ)
    → (c1 ≡ (number_into text k c elements).0) × (elements1 ≡ (number_into text k c elements).1)
    → (c2 ≡ (float_into text k c1 starts).0) × (starts1 ≡ (float_into text k c1 starts).1)
    → (c3 ≡ (float_into text k c2 ends).0) × (ends1 ≡ (float_into text k c2 ends).1)
    → (c4 ≡ (number_into text k c3 firsts).0) × (firsts1 ≡ (number_into text k c3 firsts).1)
    → (c5 ≡ (number_into text k c4 lasts).0) × (lasts1 ≡ (number_into text k c4 lasts).1)
    → segments_read_of c5 elements1 starts1 ends1 firsts1 lasts1 ≡ segment text k (segments_read_of c elements starts ends firsts lasts)
unfolding segment
segment-stored text k c elements starts ends firsts lasts c1 c2 c3 c4 c5 elements1 starts1 ends1 firsts1 lasts1 e1 e2 e3 e4 e5 = rw (e5.0, e5.1, e4.0, e4.1, e3.0, e3.1, e2.0, e2.1, e1.0, e1.1)

-- two equations make one of pairs
pub paired : {A B : Type 0} {a : A} {b : B} {p : A × B} → (a ≡ p.0) × (b ≡ p.1) → ◌≡◌ {A = A × B} (a, b) p
paired e = λ i. (e.0 i, e.1 i)
