-- What `all`, `any` and a fold over a chain of iterators find out, as tests of each number below a count. Assumes nothing.
use mathlib.Core.Path.{◌≡◌, refl, ap, ◌∙◌}
use mathlib.Core.Bool.{Bool, true, ◌&&◌}
use mathlib.Core.List.{List, [], ◌∷◌, ◌++◌}
use Prim.Native.Nat.{ℕ, zero, suc, ◌+◌}
use native.Mathlib.Omega.{arith}
use lib.ListN.{length, get_or}
use denote.Param.Members.{Mut}
use Rattle.std.proofs.Common.{Option}
use Rattle.std.proofs.Math.Bool.{and-true}
use Rattle.std.specs.Fn.{Called}
use Rattle.std.specs.Iterator.{Drains}
use Rattle.std.specs.List.{FoldsTo, list_all, list_any, range_with_len, zip}
use Rattle.std.proofs.lemmas.Fn.{fold_over}
use Rattle.std.proofs.lemmas.Iterator.{YieldsList}
use Rattle.std.proofs.lemmas.List.Folds.{list_all-append}
use Rattle.lists.specs.Loops.{every_below, any_below}
use Rattle.lists.proofs.Loops.{every_front, every_alike, any_front, any_same}

-- ---- a list's entries

pub all-entries : {A : Type 0} (test : A → Bool) (d : A) (xs : List A) → list_all test xs ≡ every_below (length xs) (λ k. test (get_or xs k d))
unfolding every_below
all-entries test d [] = refl
all-entries test d (x ∷ xs) = rw (every_front (length xs) (λ k. test (get_or (x ∷ xs) k d)), all-entries test d xs)

-- of two lists of one length
pub all-pairs : {A B : Type 0} (test : A → B → Bool) (d : A) (e : B) (xs : List A) (ys : List B) → length ys ≡ length xs →
    list_all (λ p. test p.0 p.1) (zip xs ys) ≡ every_below (length xs) (λ k. test (get_or xs k d) (get_or ys k e))
unfolding every_below
all-pairs test d e [] ys h = refl
all-pairs test d e (x ∷ xs) [] h = absurd (omega arith)
all-pairs test d e (x ∷ xs) (y ∷ ys) h =
    rw (every_front (length xs) (λ k. test (get_or (x ∷ xs) k d) (get_or (y ∷ ys) k e)), all-pairs test d e xs ys (omega arith))

-- ---- numbers

all-from : (test : ℕ → Bool) (a n : ℕ) → list_all test (range_with_len a n) ≡ every_below n (λ k. test (a + k))
unfolding every_below
all-from test a zero = refl
all-from test a (suc n) =
    let zero-on : test (a + 0) ≡ test a = ap test (omega arith) in
    rw (every_front n (λ k. test (a + k)), zero-on, all-from test (a + 1) n, every_alike n (λ k. test (a + 1 + k)) (λ k. test (a + suc k)) (λ k l. ap test (omega arith)))

pub all-numbers : (test : ℕ → Bool) (n : ℕ) → list_all test (range_with_len 0 n) ≡ every_below n test
all-numbers test n = all-from test 0 n ∙ every_alike n (λ k. test (0 + k)) test (λ k l. ap test (omega arith))

any-from : (test : ℕ → Bool) (a n : ℕ) → list_any test (range_with_len a n) ≡ any_below n (λ k. test (a + k))
unfolding any_below
any-from test a zero = refl
any-from test a (suc n) =
    let zero-on : test (a + 0) ≡ test a = ap test (omega arith) in
    rw (any_front n (λ k. test (a + k)), zero-on, any-from test (a + 1) n, any_same n (λ k. test (a + 1 + k)) (λ k. test (a + suc k)) (λ k l. ap test (omega arith)))

pub any-numbers : (test : ℕ → Bool) (n : ℕ) → list_any test (range_with_len 0 n) ≡ any_below n test
any-numbers test n = any-from test 0 n ∙ any_same n (λ k. test (0 + k)) test (λ k l. ap test (omega arith))

-- ---- a fold that keeps whether every item passed

all-more : {A : Type 0} (test : A → Bool) (xs : List A) (x : A) → list_all test (xs ++ x ∷ []) ≡ list_all test xs && test x
all-more test xs x = rw (list_all-append test xs (x ∷ []), and-true (test x))

pub folded-all : {S A B F : Type 0} {steps : S → Option A → S → Type 0} {v : A → B} {g : Mut F (Bool × (A × Unit {0})) Bool} {s : S} {all : List B} (test : B → Bool) (f : F) (r : Bool) →
    (xs : List A) × (f' : F) × Drains steps s xs × FoldsTo {P = F × Bool} (λ p x q. Called g p.0 (p.1, (x, tt)) q.1 q.0) (f, true) xs (f', r) →
    YieldsList steps v s all → ((ok : Bool) (x : A) (b : Bool) (q : F) → Called g f (ok, (x, tt)) b q → (b ≡ ok && test (v x)) × (q ≡ f)) → r ≡ list_all test all
folded-all {steps = steps} {v = v} {g = g} {s = s} {all = all} test f r ran gives says =
    fold_over steps v g (λ ys ok. ok ≡ list_all test ys) f
    (λ ys ok x b q j k. let told = says ok x b q k in (rw (all-more test ys (v x), ← j) told.0, told.1))
    s all true r gives.runs refl ran
