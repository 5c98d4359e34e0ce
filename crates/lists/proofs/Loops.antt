-- A turn of each loop, and its end; what `every_below` and `any_below` tell of each number. Assumes nothing.
use mathlib.Core.Path.{◌≡◌, refl, sym, ap, subst, fun_ext}
use mathlib.Core.Bool.{Bool, true, false, ◌&&◌, ◌||◌}
use mathlib.Core.Logic.{◌⊎◌, inl, inr, ⊎_elim}
use Prim.Native.Nat.{ℕ, zero, suc, ◌+◌, ◌<◌}
use native.Mathlib.Nat.{not-suc-le-zero, le_of_suc-le-suc, eq-or-lt_of_le}
use native.Mathlib.Omega.{arith}
use native.Mathlib.Numerals.{add-one}
use Rattle.lists.specs.Loops.{up_to, every_below, any_below}

-- ---- tests

pub two : (b : Bool) → (b ≡ true) ⊎ (b ≡ false)
two true = inl refl
two false = inr refl

pub clash : {b : Bool} {A : Type 0} → b ≡ true → b ≡ false → A
clash p q = absurd (let z : ◌≡◌ {A = ℕ} 0 1 = cc in omega arith)

pub and_both : (a b : Bool) → a && b ≡ true → (a ≡ true) × (b ≡ true)
and_both true b e = (refl, e)
and_both false b e = clash e refl

pub both-and : {a b : Bool} → a ≡ true → b ≡ true → a && b ≡ true
both-and p q = rw (p, q)

pub or-either : (a b : Bool) → a || b ≡ true → (a ≡ true) ⊎ (b ≡ true)
or-either true b e = inl refl
or-either false b e = inr e

pub or_right : (a : Bool) → a || true ≡ true
or_right true = refl
or_right false = refl

-- ---- up_to

pub up_to-none : {X : Type 0} (step : ℕ → X → X) (x : X) → x ≡ up_to 0 step x
unfolding up_to
up_to-none step x = refl

-- a turn at k makes y of x, which k turns made
pub up_to-turn : {X : Type 0} (k : ℕ) (step : ℕ → X → X) (x₀ : X) {x y : X} → y ≡ step k x → x ≡ up_to k step x₀ → y ≡ up_to (k + 1) step x₀
unfolding up_to
up_to-turn k step x₀ e h = rw (add-one, ← h) e

-- the last turn is done at n
pub up_to-done : {X : Type 0} (k n : ℕ) (step : ℕ → X → X) (x₀ : X) {x : X} → x ≡ up_to k step x₀ → k ≡ n → x ≡ up_to n step x₀
up_to-done k n step x₀ h e = rw (← e) h

-- ---- every

pub every-none : (test : ℕ → Bool) → every_below 0 test ≡ true
unfolding every_below
every-none test = refl

pub every-turn : (k : ℕ) (test : ℕ → Bool) → every_below k test ≡ true → test k ≡ true → every_below (k + 1) test ≡ true
unfolding every_below
every-turn k test h e = rw (add-one, h, e)

pub every-done : (k n : ℕ) (test : ℕ → Bool) → every_below k test ≡ true → k ≡ n → true ≡ every_below n test
every-done k n test h e = rw (← e, h)

pub every-at : (n : ℕ) (test : ℕ → Bool) → every_below n test ≡ true → (k : ℕ) → k < n → test k ≡ true
unfolding every_below
every-at zero test h k l = absurd (not-suc-le-zero l)
every-at (suc n) test h k l =
    let p = and_both (every_below n test) (test n) h in
    ⊎_elim (λ (e : k ≡ n). subst (λ j. test j ≡ true) (sym e) p.1) (λ (m : k < n). every-at n test p.0 k m) (eq-or-lt_of_le (le_of_suc-le-suc l))

pub every-all : (n : ℕ) (test : ℕ → Bool) → ((k : ℕ) → k < n → test k ≡ true) → every_below n test ≡ true
unfolding every_below
every-all zero test h = refl
every-all (suc n) test h = both-and (every-all n test (λ k l. h k (omega arith))) (h n (omega arith))

-- a number below n that fails
pub every-stop : (k n : ℕ) (test : ℕ → Bool) → k < n → test k ≡ false → false ≡ every_below n test
every-stop k n test l e = ⊎_elim (λ t. clash (every-at n test t k l) e) (λ f. sym f) (two (every_below n test))

-- ---- any

pub any_none : (test : ℕ → Bool) → any_below 0 test ≡ false
unfolding any_below
any_none test = refl

pub any-turn : (k : ℕ) (test : ℕ → Bool) → any_below k test ≡ false → test k ≡ false → any_below (k + 1) test ≡ false
unfolding any_below
any-turn k test h e = rw (add-one, h, e)

-- a number below n that passes
pub any-stop : (k n : ℕ) (test : ℕ → Bool) → k < n → test k ≡ true → true ≡ any_below n test
unfolding any_below
any-stop k zero test l e = absurd (not-suc-le-zero l)
any-stop k (suc n) test l e =
    ⊎_elim (λ (i : k ≡ n). rw (subst (λ j. test j ≡ true) i e) (sym (or_right (any_below n test))))
    (λ (m : k < n). rw (← any-stop k n test m e))
    (eq-or-lt_of_le (le_of_suc-le-suc l))

pub any_some : (n : ℕ) (test : ℕ → Bool) → any_below n test ≡ true → (k : ℕ) × (k < n) × (test k ≡ true)
unfolding any_below
any_some zero test h = clash h refl
any_some (suc n) test h =
    ⊎_elim (λ p. let r = any_some n test p in (r.0, omega (arith, r.1), r.2)) (λ p. (n, omega arith, p)) (or-either (any_below n test) (test n) h)

-- ---- from the front, and by another test

and-true : (a : Bool) → a && true ≡ a
and-true true = refl
and-true false = refl

or-false : (a : Bool) → a || false ≡ a
or-false true = refl
or-false false = refl

pub and_assoc : (a b c : Bool) → (a && b) && c ≡ a && (b && c)
and_assoc true b c = refl
and_assoc false b c = refl

pub every_front : (n : ℕ) (test : ℕ → Bool) → every_below (suc n) test ≡ test 0 && every_below n (λ k. test (suc k))
unfolding every_below
every_front zero test = sym (and-true (test 0))
every_front (suc n) test = rw (every_front n test) (and_assoc (test 0) (every_below n (λ k. test (suc k))) (test (suc n)))

pub or_assoc : (a b c : Bool) → (a || b) || c ≡ a || (b || c)
or_assoc true b c = refl
or_assoc false b c = refl

pub any_front : (n : ℕ) (test : ℕ → Bool) → any_below (suc n) test ≡ test 0 || any_below n (λ k. test (suc k))
unfolding any_below
any_front zero test = sym (or-false (test 0))
any_front (suc n) test = rw (any_front n test) (or_assoc (test 0) (any_below n (λ k. test (suc k))) (test (suc n)))

pub every-same : (n : ℕ) (f g : ℕ → Bool) → ((k : ℕ) → f k ≡ g k) → every_below n f ≡ every_below n g
every-same n f g h = ap (every_below n) (fun_ext h)

pub every_alike : (n : ℕ) (f g : ℕ → Bool) → ((k : ℕ) → k < n → f k ≡ g k) → every_below n f ≡ every_below n g
unfolding every_below
every_alike zero f g h = refl
every_alike (suc n) f g h = rw (every_alike n f g (λ k l. h k (omega arith)), h n (omega arith))

pub any_same : (n : ℕ) (f g : ℕ → Bool) → ((k : ℕ) → k < n → f k ≡ g k) → any_below n f ≡ any_below n g
unfolding any_below
any_same zero f g h = refl
any_same (suc n) f g h = rw (any_same n f g (λ k l. h k (omega arith)), h n (omega arith))
