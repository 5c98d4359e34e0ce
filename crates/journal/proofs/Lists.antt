-- Laws of lists taken apart from the front, and of Bool tests. Assumes nothing.
use Prim.Native.Nat.{ℕ, zero, suc, ◌+◌, ◌*◌, ◌<◌}
use native.Mathlib.Omega.{arith}
use native.Mathlib.Nat.{mul-suc, mul-zero, add_comm, eq-or-lt_of_le}
use mathlib.Core.Path.{◌≡◌, refl, sym, ◌∙◌}
use mathlib.Core.Bool.{Bool, true, false, cond}
use mathlib.Core.List.{List, [], ◌∷◌, ◌++◌, append_assoc}
use mathlib.Core.Option.{none, some}
use mathlib.Core.Logic.{⊎_elim}
use Rattle.std.specs.Prelude.{Result, Ok}
use lib.Dec.{T, eqb, eqb→eq, eqb_refl}
use lib.ListN.{length, get_or, set, drop, length-append}
use lib.Seq.{get_or-set_same, get_or-set_other}
use lib.Ieee.Fits.{and_i, and_l, and_r}
use Rattle.lists.specs.Lists.{number}
use Rattle.journal.specs.Lists.{each, flat, starts}
use Rattle.journal.specs.WellFormed.{Each}

-- ---- tests

pub cond-true : {X : Type 0} (b : Bool) (x y : X) → T b → cond b x y ≡ x
cond-true true x y t = refl
cond-true false x y t = absurd t

pub some-none : {A X : Type 0} {a : A} → some a ≡ none → X
some-none {A = A} {a = a} e = absurd (omega (arith, zero_one))
  where
    zero_one : ◌≡◌ {A = ℕ} 0 1
    zero_one = cc

pub same-ok : {A E : Type 0} {x y : A} → ◌≡◌ {A = Result A E} (Ok x) (Ok y) → x ≡ y
same-ok e = cc

-- ---- every entry

pub all-at : {A : Type 0} (test : A → Bool) (l : List A) (i : ℕ) (d : A) → T (each test l) → i < length l → T (test (get_or l i d))
all-at test [] i d h k = absurd (omega arith)
all-at test (a ∷ l) zero d h k = and_l (test a) (each test l) h
all-at test (a ∷ l) (suc i) d h k = all-at test l i d (and_r (test a) (each test l) h) (omega arith)

pub all-intro : {A : Type 0} (test : A → Bool) (l : List A) (d : A) → ((i : ℕ) → i < length l → T (test (get_or l i d))) → T (each test l)
all-intro test [] d h = tt
all-intro test (a ∷ l) d h = and_i (test a) (each test l) (h 0 (omega arith)) (all-intro test l d (λ i k. h (suc i) (omega arith)))

pub each-intro : {A : Type 0} (P : A → Type 0) (l : List A) (d : A) → ((i : ℕ) → i < length l → P (get_or l i d)) → Each P l
each-intro P [] d h = tt
each-intro P (a ∷ l) d h = (h 0 (omega arith), each-intro P l d (λ i k. h (suc i) (omega arith)))

-- of each entry, and of the default: of what is read anywhere
pub each_at : {A : Type 0} (P : A → Type 0) (l : List A) (i : ℕ) (d : A) → Each P l → P d → P (get_or l i d)
each_at P [] zero d h k = k
each_at P [] (suc i) d h k = k
each_at P (a ∷ l) zero d h k = h.0
each_at P (a ∷ l) (suc i) d h k = each_at P l i d h.1 k

pub each-inside : {A : Type 0} (P : A → Type 0) (l : List A) (i : ℕ) (d : A) → Each P l → i < length l → P (get_or l i d)
each-inside P [] i d h k = absurd (omega arith)
each-inside P (a ∷ l) zero d h k = h.0
each-inside P (a ∷ l) (suc i) d h k = each-inside P l i d h.1 (omega arith)

pub all-each : {A : Type 0} (test : A → Bool) (l : List A) → T (each test l) → Each (λ a. T (test a)) l
all-each test [] h = tt
all-each test (a ∷ l) h = (and_l (test a) (each test l) h, all-each test l (and_r (test a) (each test l) h))

pub each_append : {A : Type 0} (P : A → Type 0) (l m : List A) → Each P l → Each P m → Each P (l ++ m)
each_append P [] m h k = k
each_append P (a ∷ l) m h k = (h.0, each_append P l m h.1 k)

pub each_number : {A B : Type 0} (P : B → Type 0) (g : ℕ → A → B) (k : ℕ) (l : List A) → ((i : ℕ) (a : A) → P (g i a)) → Each P (number g k l)
unfolding number
each_number P g k [] h = tt
each_number P g k (a ∷ l) h = (h k a, each_number P g (suc k) l h)

-- ---- what is read and stored

-- each entry below the stored one, and that one
pub set_below : {A : Type 0} (l : List A) (k : ℕ) (a d : A) (f : ℕ → A) → k < length l → ((i : ℕ) → i < k → get_or l i d ≡ f i) → a ≡ f k → (i : ℕ) → i < k + 1 → get_or (set l k a) i d ≡ f i
set_below l k a d f h e q i m =
    ⊎_elim (λ (same : i ≡ k). rw same (get_or-set_same l k a d h ∙ q)) (λ (less : i < k). get_or-set_other l k i a d (omega arith) ∙ e i less) (eq-or-lt_of_le (omega arith))

-- ---- words of entries

pub length-flat : {A : Type 0} (m : ℕ) (part : A → List ℕ) → ((a : A) → length (part a) ≡ m) → (l : List A) → length (flat part l) ≡ m * length l
length-flat m part h [] = rw mul-zero
length-flat m part h (a ∷ l) = rw (length-append, h a, length-flat m part h l, mul-suc) (add_comm m (m * length l))

pub flat_append : {A : Type 0} (part : A → List ℕ) (l k : List A) → flat part (l ++ k) ≡ flat part l ++ flat part k
flat_append part [] k = refl
flat_append part (a ∷ l) k = rw (flat_append part l k) (sym (append_assoc (part a) (flat part l) (flat part k)))

-- ---- words that begin with others

pub starts-self : (xs ws : List ℕ) → T (starts xs (xs ++ ws))
starts-self [] ws = tt
starts-self (x ∷ xs) ws = and_i (eqb x x) (starts xs (xs ++ ws)) (eqb_refl x) (starts-self xs ws)

pub starts-split : (xs ws : List ℕ) → T (starts xs ws) → xs ++ drop (length xs) ws ≡ ws
starts-split [] ws h = refl
starts-split (x ∷ xs) [] h = absurd h
starts-split (x ∷ xs) (w ∷ ws) h = rw (eqb→eq x w (and_l (eqb x w) (starts xs ws) h), starts-split xs ws (and_r (eqb x w) (starts xs ws) h))
