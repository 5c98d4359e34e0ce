-- Lists by their ends: mapped, turned round, stored into; and numbered. Assumes nothing.
use mathlib.Core.Path.{◌≡◌, refl, ap, ◌∙◌}
use mathlib.Core.List.{List, [], ◌∷◌, ◌++◌, map, reverse_aux}
use Prim.Native.Nat.{ℕ, zero, suc, ◌+◌, ◌<◌}
use native.Mathlib.Omega.{arith}
use lib.ListN.{length, get_or, drop, set, length-set}
use lib.Seq.{drop-cons, drop-set-lt, get_or-set_same}
use Rattle.lists.specs.Lists.{number}

pub map_back : {A B : Type 0} (f : A → B) (l r : List A) → map f (reverse_aux l r) ≡ reverse_aux (map f l) (map f r)
map_back f [] r = refl
map_back f (a ∷ l) r = map_back f l (a ∷ r)

pub map_snoc : {A B : Type 0} (f : A → B) (l : List A) (x : A) → map f (l ++ (x ∷ [])) ≡ map f l ++ (f x ∷ [])
map_snoc f [] x = refl
map_snoc {B = B} f (y ∷ l) x = ap (λ (k : List B). f y ∷ k) (map_snoc f l x)

-- from an entry that was stored on
pub drop-stored : {A : Type 0} (l : List A) (m : ℕ) (x : A) → m < length l → drop m (set l m x) ≡ x ∷ drop (suc m) l
drop-stored l m x h =
    let k : m < length (set l m x) = simp length-set h in
    drop-cons (set l m x) m x k ∙ rw (get_or-set_same l m x x h, drop-set-lt (suc m) l m x (omega arith))

-- ---- numbered entries

pub length-number : {A B : Type 0} (g : ℕ → A → B) (k : ℕ) (l : List A) → length (number g k l) ≡ length l
unfolding number
length-number g k [] = refl
length-number g k (a ∷ l) = ap suc (length-number g (suc k) l)

get_or-from : {A B : Type 0} (g : ℕ → A → B) (k : ℕ) (l : List A) (i : ℕ) (d : B) (e : A) → i < length l → get_or (number g k l) i d ≡ g (k + i) (get_or l i e)
unfolding number
get_or-from g k [] i d e h = absurd (omega arith)
get_or-from {A = A} g k (a ∷ l) zero d e h = ap (λ (n : ℕ). g n a) plus
  where
    plus : k ≡ k + 0
    plus = omega arith
get_or-from g k (a ∷ l) (suc i) d e h = get_or-from g (suc k) l i d e (omega arith) ∙ ap (λ (n : ℕ). g n (get_or l i e)) plus
  where
    plus : suc k + i ≡ k + suc i
    plus = omega arith

pub get_or-number : {A B : Type 0} (g : ℕ → A → B) (l : List A) (i : ℕ) (d : B) (e : A) → i < length l → get_or (number g 0 l) i d ≡ g i (get_or l i e)
get_or-number g l i d e h = get_or-from g 0 l i d e h ∙ ap (λ (n : ℕ). g n (get_or l i e)) plus
  where
    plus : 0 + i ≡ i
    plus = omega arith

pub map-number : {A B C : Type 0} (h : B → C) (g : ℕ → A → B) (k : ℕ) (l : List A) → map h (number g k l) ≡ number (λ i a. h (g i a)) k l
unfolding number
map-number h g k [] = refl
map-number h g k (a ∷ l) = rw (map-number h g (suc k) l)

pub number-self : {A : Type 0} (k : ℕ) (l : List A) → number (λ i a. a) k l ≡ l
unfolding number
number-self k [] = refl
number-self k (a ∷ l) = rw (number-self (suc k) l)

number-shift : {A B : Type 0} (g : ℕ → A → B) (k : ℕ) (l : List A) → number g (suc k) l ≡ number (λ i. g (suc i)) k l
unfolding number
number-shift g k [] = refl
number-shift g k (a ∷ l) = ap (λ m. g (suc k) a ∷ m) (number-shift g (suc k) l)

-- the entries of another list of the same length
pub number-other : {A C : Type 0} (l : List A) (xs : List C) (d : C) → length xs ≡ length l → number (λ i a. get_or xs i d) 0 l ≡ xs
unfolding number
number-other [] [] d e = refl
number-other [] (x ∷ xs) d e = absurd (omega arith)
number-other (a ∷ l) [] d e = absurd (omega arith)
number-other (a ∷ l) (x ∷ xs) d e = rw (number-shift (λ i a. get_or (x ∷ xs) i d) 0 l, number-other l xs d (omega arith))
