-- What the row reader tests is that the words are those of a record that obeys the rules. Assumes nothing.
use Prim.Native.Nat.{ℕ, zero, suc, ◌+◌, ◌-◌, ◌*◌, ◌/◌, ◌<◌, ◌≤◌}
use native.Mathlib.Omega.{arith}
use native.Mathlib.Nat.{mul-zero, mul-suc, add_comm}
use mathlib.Core.Path.{◌≡◌, refl, sym, ap, ◌∙◌, subst}
use mathlib.Core.Bool.{Bool, true, false, ◌&&◌}
use mathlib.Core.List.{List, [], ◌∷◌, ◌++◌}
use lib.Dec.{T, leb, eqb, leb→le, le→leb, eqb→eq}
use lib.ListN.{length, get_or, drop, length-drop}
use lib.Seq.{drop-drop}
use lib.Ieee.{Float}
use lib.Ieee.Fits.{and_i, and_l, and_r, eq→eqb}
use Rattle.lists.specs.Loops.{every_below}
use Rattle.lists.proofs.Loops.{and_assoc, every_front, every-same}
use Rattle.binary64.proofs.Order.{same_test}
use Rattle.journal.specs.Lists.{each, flat, starts}
use Rattle.journal.specs.Row.{Cell, Row, row_size, before_of}
use Rattle.journal.specs.Ranges.{candidate_limit, distance_ok, cell_ok}
use Rattle.journal.specs.Record.{head_word, distances_word, length_word, predecessor_word, minute_word, first_cell, cell_words, float_words, record_length, record_of, read_cell, read_distance, read_each, head_count, head_before, read_minute, read_row}
use Rattle.journal.specs.Journal.{row_ok}
use Rattle.journal.specs.inner.Check.{well_read, minute_reads, body_reads}
use Rattle.journal.proofs.Rules.{five, of-five, six, of-six, seven, of-seven, row-rules, rules-row}
use Rattle.journal.proofs.Reading.{length-cells, length-floats}
use Rattle.journal.proofs.Tests.{drop-first}

-- ---- tests in another order

crossed : (a b c d : Bool) → (a && b) && (c && d) ≡ (a && c) && (b && d)
crossed true true c d = refl
crossed true false true d = refl
crossed true false false d = refl
crossed false b c d = refl

-- ---- words that begin with others

starts-append : (xs ys ws : List ℕ) → starts (xs ++ ys) ws ≡ starts xs ws && starts ys (drop (length xs) ws)
starts-append [] ys ws = refl
starts-append (x ∷ xs) ys [] = refl
starts-append (x ∷ xs) ys (w ∷ ws) = rw (starts-append xs ys ws) (sym (and_assoc (eqb x w) (starts xs ws) (starts ys (drop (length xs) ws))))

-- ---- entries read one after the other

module _ {A : Type 0} (read : List ℕ → A) (m : ℕ) where
  pub length-each : (n : ℕ) (ws : List ℕ) → length (read_each read m n ws) ≡ n
  unfolding read_each
  length-each zero ws = refl
  length-each (suc n) ws = ap suc (length-each n (drop m ws))

  further : (k : ℕ) (ws : List ℕ) → drop (m * k) (drop m ws) ≡ drop (m * suc k) ws
  further k ws =
      let plus : m + m * k ≡ m * suc k = rw mul-suc (add_comm m (m * k)) in
      drop-drop (m * k) m ws ∙ ap (λ (n : ℕ). drop n ws) plus

  pub get_or-each : (n : ℕ) (ws : List ℕ) (i : ℕ) (d : A) → i < n → get_or (read_each read m n ws) i d ≡ read (drop (m * i) ws)
  unfolding read_each
  get_or-each zero ws i d h = absurd (omega arith)
  get_or-each (suc n) ws zero d h = ap (λ (k : ℕ). read (drop k ws)) (sym (mul-zero m))
  get_or-each (suc n) ws (suc i) d h = get_or-each n (drop m ws) i d (omega arith) ∙ ap read (further i ws)

  -- their words stand there and each passes: so it is of each
  each-test : (part : A → List ℕ) (test : A → Bool) → ((a : A) → length (part a) ≡ m) → (n : ℕ) (ws : List ℕ)
      → starts (flat part (read_each read m n ws)) ws && each test (read_each read m n ws) ≡ every_below n (λ k. well_read part read test (drop (m * k) ws))
  unfolding read_each
  each-test part test h zero ws = unfold every_below in refl
  each-test part test h (suc n) ws =
      let first = read ws in
      let rest = read_each read m n (drop m ws) in
      let begun : starts (part first ++ flat part rest) ws ≡ starts (part first) ws && starts (flat part rest) (drop m ws)
      = starts-append (part first) (flat part rest) ws ∙ ap (λ (k : ℕ). starts (part first) ws && starts (flat part rest) (drop k ws)) (h first) in
      let is : starts (part first) ws && test first ≡ well_read part read test ws = unfold well_read in refl in
      let here : well_read part read test ws ≡ well_read part read test (drop (m * 0) ws) = ap (λ (k : ℕ). well_read part read test (drop k ws)) (sym (mul-zero m)) in
      let there : every_below n (λ k. well_read part read test (drop (m * k) (drop m ws))) ≡ every_below n (λ k. well_read part read test (drop (m * suc k) ws))
      = every-same n (λ k. well_read part read test (drop (m * k) (drop m ws))) (λ k. well_read part read test (drop (m * suc k) ws)) (λ k. ap (well_read part read test) (further k ws)) in
      ap (λ (b : Bool). b && (test first && each test rest)) begun
      ∙ crossed (starts (part first) ws) (starts (flat part rest) (drop m ws)) (test first) (each test rest)
      ∙ ap (λ (b : Bool). (starts (part first) ws && test first) && b) (each-test part test h n (drop m ws) ∙ there)
      ∙ ap (λ (b : Bool). b && every_below n (λ k. well_read part read test (drop (m * suc k) ws))) (is ∙ here)
      ∙ sym (every_front n (λ k. well_read part read test (drop (m * k) ws)))

-- ---- one word

one : (x : ℕ) (l : List ℕ) → T (starts (x ∷ []) l) → (0 < length l) × (get_or l 0 0 ≡ x)
one x [] h = absurd h
one x (a ∷ l) h = (omega arith, sym (eqb→eq x a (and_l (eqb x a) true h)))

of_one : (x : ℕ) (l : List ℕ) → 0 < length l → get_or l 0 0 ≡ x → T (starts (x ∷ []) l)
of_one x [] h e = absurd (omega arith)
of_one x (a ∷ l) h e = and_i (eqb x a) true (eq→eqb (sym e)) tt

-- ---- the record that starts with w, before the other words

abbrev cells_at : ℕ → List ℕ → List Cell
cells_at w body = read_each read_cell 7 (head_count w) (drop 2 body)

-- from the word of the distances on
abbrev gap_at : ℕ → List ℕ → List ℕ
gap_at w body = drop (7 * head_count w) (drop 2 body)

abbrev distances_at : ℕ → List ℕ → List Float
distances_at w body = read_each read_distance 2 (head_count w * head_before w) (drop 1 (gap_at w body))

-- the minute of the word after the next
abbrev minute_at : List ℕ → ℕ
minute_at body = read_minute (get_or body 1 0)

abbrev pub row_at : ℕ → List ℕ → Row
row_at w body = record { minute = minute_at body; cells = cells_at w body; before = head_before w; distances = distances_at w body }

module _ (w : ℕ) (body : List ℕ) where
  pub row_is : read_row (w ∷ body) ≡ row_at w body
  unfolding read_row
  row_is = refl

  pub size_is : row_size (row_at w body) ≡ head_count w
  size_is = length-each read_cell 7 (head_count w) (drop 2 body)

  pub number_is : length (distances_at w body) ≡ head_count w * head_before w
  number_is = length-each read_distance 2 (head_count w * head_before w) (drop 1 (gap_at w body))

  abbrev last : ℕ
  last = length_word (record_length (head_count w) (head_before w))

  record_is : (place : ℕ) → record_of place (row_at w body)
      ≡ head_word (head_count w) (head_before w)
      ∷ predecessor_word place
      ∷ minute_word (minute_at body)
      ∷ (flat cell_words (cells_at w body) ++ ((distances_word (head_count w * head_before w) ∷ []) ++ (flat float_words (distances_at w body) ++ (last ∷ []))))
  unfolding record_of
  record_is place = rw (size_is, number_is)

  long-cells : length (flat cell_words (cells_at w body)) ≡ 7 * head_count w
  long-cells = length-cells (cells_at w body) ∙ ap (λ (n : ℕ). 7 * n) size_is

  long-distances : length (flat float_words (distances_at w body)) ≡ 2 * (head_count w * head_before w)
  long-distances = length-floats (distances_at w body) ∙ ap (λ (n : ℕ). 2 * n) number_is

  -- where its parts start
  cells_are : drop 2 body ≡ drop first_cell (w ∷ body)
  cells_are = drop-drop 2 1 (w ∷ body)

  gap_is : gap_at w body ≡ drop (first_cell + 7 * head_count w) (w ∷ body)
  gap_is = ap (drop (7 * head_count w)) cells_are ∙ drop-drop (7 * head_count w) first_cell (w ∷ body)

  past-gap : drop 1 (gap_at w body) ≡ drop (first_cell + 7 * head_count w + 1) (w ∷ body)
  past-gap = ap (drop 1) gap_is ∙ drop-drop 1 (first_cell + 7 * head_count w) (w ∷ body)

  end_is : drop (2 * (head_count w * head_before w)) (drop 1 (gap_at w body)) ≡ drop (record_length (head_count w) (head_before w) - 1) (w ∷ body)
  end_is =
      ap (drop (2 * (head_count w * head_before w))) past-gap
      ∙ drop-drop (2 * (head_count w * head_before w)) (first_cell + 7 * head_count w + 1) (w ∷ body)
      ∙ ap (λ (n : ℕ). drop n (w ∷ body)) plus
    where
      plus : first_cell + 7 * head_count w + 1 + 2 * (head_count w * head_before w) ≡ record_length (head_count w) (head_before w) - 1
      plus = unfold record_length in omega arith

  -- its words stand there part by part
  record-starts : (place : ℕ) → starts (record_of place (row_at w body)) (w ∷ body)
      ≡ eqb (head_word (head_count w) (head_before w)) w
      && (starts (predecessor_word place ∷ []) body
      && (starts (minute_word (minute_at body) ∷ []) (drop 1 body)
      && (starts (flat cell_words (cells_at w body)) (drop 2 body)
      && (starts (distances_word (head_count w * head_before w) ∷ []) (drop (first_cell + 7 * head_count w) (w ∷ body))
      && (starts (flat float_words (distances_at w body)) (drop 1 (gap_at w body)) && starts (last ∷ []) (drop (record_length (head_count w) (head_before w) - 1) (w ∷ body)))))))
  record-starts place =
      let v = predecessor_word place ∷ [] in
      let t = minute_word (minute_at body) ∷ [] in
      let cs = flat cell_words (cells_at w body) in
      let d = distances_word (head_count w * head_before w) ∷ [] in
      let fs = flat float_words (distances_at w body) in
      ap (λ (l : List ℕ). starts l (w ∷ body)) (record_is place)
      ∙ ap (λ (b : Bool). eqb (head_word (head_count w) (head_before w)) w && b)
      (starts-append v (t ++ (cs ++ (d ++ (fs ++ (last ∷ []))))) body
      ∙ ap (λ (b : Bool). starts v body && b)
      (starts-append t (cs ++ (d ++ (fs ++ (last ∷ [])))) (drop 1 body)
      ∙ ap (λ (l : List ℕ). starts t (drop 1 body) && starts (cs ++ (d ++ (fs ++ (last ∷ [])))) l) (drop-drop 1 1 body)
      ∙ ap (λ (b : Bool). starts t (drop 1 body) && b)
      (starts-append cs (d ++ (fs ++ (last ∷ []))) (drop 2 body)
      ∙ ap (λ (b : Bool). starts cs (drop 2 body) && b)
      (ap (λ (n : ℕ). starts (d ++ (fs ++ (last ∷ []))) (drop n (drop 2 body))) long-cells
      ∙ starts-append d (fs ++ (last ∷ [])) (gap_at w body)
      ∙ ap (λ (l : List ℕ). starts d l && starts (fs ++ (last ∷ [])) (drop 1 (gap_at w body))) gap_is
      ∙ ap (λ (b : Bool). starts d (drop (first_cell + 7 * head_count w) (w ∷ body)) && b)
      (starts-append fs (last ∷ []) (drop 1 (gap_at w body))
      ∙ ap (λ (n : ℕ). starts fs (drop 1 (gap_at w body)) && starts (last ∷ []) (drop n (drop 1 (gap_at w body)))) long-distances
      ∙ ap (λ (l : List ℕ). starts fs (drop 1 (gap_at w body)) && starts (last ∷ []) l) end_is)))))

  -- its cells, and its distances, word by word
  cells-test : (n : ℕ) → starts (flat cell_words (cells_at w body)) (drop 2 body) && each (cell_ok (head_before w) n) (cells_at w body)
      ≡ every_below (head_count w) (λ k. well_read cell_words read_cell (cell_ok (head_before w) n) (drop (first_cell + 7 * k) (w ∷ body)))
  cells-test n =
      each-test read_cell 7 cell_words (cell_ok (head_before w) n) (λ c. refl) (head_count w) (drop 2 body)
      ∙ every-same (head_count w) (λ k. well_read cell_words read_cell (cell_ok (head_before w) n) (drop (7 * k) (drop 2 body))) (λ k. well_read cell_words read_cell (cell_ok (head_before w) n) (drop (first_cell + 7 * k) (w ∷ body)))
      (λ k. ap (well_read cell_words read_cell (cell_ok (head_before w) n)) (ap (drop (7 * k)) cells_are ∙ drop-drop (7 * k) first_cell (w ∷ body)))

  distances-test : starts (flat float_words (distances_at w body)) (drop 1 (gap_at w body)) && each distance_ok (distances_at w body)
      ≡ every_below (head_count w * head_before w) (λ k. well_read float_words read_distance distance_ok (drop (first_cell + 7 * head_count w + 1 + 2 * k) (w ∷ body)))
  distances-test =
      each-test read_distance 2 float_words distance_ok (λ x. refl) (head_count w * head_before w) (drop 1 (gap_at w body))
      ∙ every-same (head_count w * head_before w) (λ k. well_read float_words read_distance distance_ok (drop (2 * k) (drop 1 (gap_at w body))))
      (λ k. well_read float_words read_distance distance_ok (drop (first_cell + 7 * head_count w + 1 + 2 * k) (w ∷ body)))
      (λ k. ap (well_read float_words read_distance distance_ok) (ap (drop (2 * k)) past-gap ∙ drop-drop (2 * k) (first_cell + 7 * head_count w + 1) (w ∷ body)))

-- ---- the whole record

module _ (place since q n w : ℕ) (body : List ℕ) where
  abbrev c : ℕ
  c = head_count w

  abbrev p : ℕ
  p = head_before w

  abbrev ws : List ℕ
  ws = w ∷ body

  abbrev asked : Bool
  asked = starts (record_of place (row_at w body)) ws && row_ok since q n (row_at w body)

  abbrev tested : Bool
  tested = eqb (w / 1024) 262144 && (leb c candidate_limit && (eqb p (before_of q c) && (leb (record_length c p) (length ws) && body_reads place since c p n ws)))

  -- the word of the minute
  abbrev own_minute : ℕ
  own_minute = minute_word (minute_at body)

  here : T asked → T tested
  unfolding body_reads minute_reads
  here t =
      let d = distances_word (c * p) in
      let l = last w body in
      let s = seven (eqb (head_word c p) w) (starts (predecessor_word place ∷ []) body) (starts (own_minute ∷ []) (drop 1 body)) (starts (flat cell_words (cells_at w body)) (drop 2 body)) (starts (d ∷ []) (drop (first_cell + 7 * c) ws)) (starts (flat float_words (distances_at w body)) (drop 1 (gap_at w body))) (starts (l ∷ []) (drop (record_length c p - 1) ws))
      (subst T (record-starts w body place) (and_l (starts (record_of place (row_at w body)) ws) (row_ok since q n (row_at w body)) t)) in
      let rules = row-rules since q n (row_at w body) (and_r (starts (record_of place (row_at w body)) ws) (row_ok since q n (row_at w body)) t) in
      let head = eqb→eq (head_word c p) w s.0 in
      let place-word = one (predecessor_word place) body s.1 in
      let minute-word = one own_minute (drop 1 body) s.2 in
      let middle = one d (drop (first_cell + 7 * c) ws) s.4 in
      let end = one l (drop (record_length c p - 1) ws) s.6 in
      let kind : w / 1024 ≡ 262144 = omega arith in
      let few : c ≤ candidate_limit = omega (arith, size_is w body, rules.few) in
      let room : record_length c p ≤ length ws = omega (arith, end.0, length-drop (record_length c p - 1) ws) in
      of-five (eqb (w / 1024) 262144) (leb c candidate_limit) (eqb p (before_of q c)) (leb (record_length c p) (length ws)) (body_reads place since c p n ws)
      (eq→eqb kind)
      (le→leb c candidate_limit few)
      (eq→eqb (rules.before ∙ ap (before_of q) (size_is w body)))
      (le→leb (record_length c p) (length ws) room)
      (of-six (eqb (get_or ws 1 0) (predecessor_word place)) (eqb (get_or ws 2 0) own_minute && leb since (minute_at body)) (every_below c (λ k. well_read cell_words read_cell (cell_ok p n) (drop (first_cell + 7 * k) ws))) (eqb (get_or ws (first_cell + 7 * c) 0) d) (every_below (c * p) (λ k. well_read float_words read_distance distance_ok (drop (first_cell + 7 * c + 1 + 2 * k) ws))) (eqb (get_or ws (record_length c p - 1) 0) l)
      (eq→eqb place-word.1)
      (and_i (eqb (get_or ws 2 0) own_minute) (leb since (minute_at body)) (eq→eqb (sym (drop-first 1 body) ∙ minute-word.1)) (le→leb since (minute_at body) rules.minute))
      (subst T (cells-test w body n) (and_i (starts (flat cell_words (cells_at w body)) (drop 2 body)) (each (cell_ok p n) (cells_at w body)) s.3 rules.cells))
      (eq→eqb (sym (drop-first (first_cell + 7 * c) ws) ∙ middle.1))
      (subst T (distances-test w body) (and_i (starts (flat float_words (distances_at w body)) (drop 1 (gap_at w body))) (each distance_ok (distances_at w body)) s.5 rules.distances))
      (eq→eqb (sym (drop-first (record_length c p - 1) ws) ∙ end.1)))

  there : T tested → T asked
  unfolding body_reads minute_reads
  there t =
      let d = distances_word (c * p) in
      let l = last w body in
      let cells = every_below c (λ k. well_read cell_words read_cell (cell_ok p n) (drop (first_cell + 7 * k) ws)) in
      let floats = every_below (c * p) (λ k. well_read float_words read_distance distance_ok (drop (first_cell + 7 * c + 1 + 2 * k) ws)) in
      let s = five (eqb (w / 1024) 262144) (leb c candidate_limit) (eqb p (before_of q c)) (leb (record_length c p) (length ws)) (body_reads place since c p n ws) t in
      let b = six (eqb (get_or ws 1 0) (predecessor_word place)) (eqb (get_or ws 2 0) own_minute && leb since (minute_at body)) cells (eqb (get_or ws (first_cell + 7 * c) 0) d) floats (eqb (get_or ws (record_length c p - 1) 0) l) s.4 in
      let kind = eqb→eq (w / 1024) 262144 s.0 in
      let few = leb→le c candidate_limit s.1 in
      let room = leb→le (record_length c p) (length ws) s.3 in
      let head : head_word c p ≡ w = omega arith in
      let cell = subst T (sym (cells-test w body n)) b.2 in
      let float = subst T (sym (distances-test w body)) b.4 in
      let one_cell = starts (flat cell_words (cells_at w body)) (drop 2 body) in
      let one_float = starts (flat float_words (distances_at w body)) (drop 1 (gap_at w body)) in
      and_i (starts (record_of place (row_at w body)) ws) (row_ok since q n (row_at w body))
      (subst T (sym (record-starts w body place))
      (of-seven (eqb (head_word c p) w) (starts (predecessor_word place ∷ []) body) (starts (own_minute ∷ []) (drop 1 body)) one_cell (starts (d ∷ []) (drop (first_cell + 7 * c) ws)) one_float (starts (l ∷ []) (drop (record_length c p - 1) ws))
      (eq→eqb head)
      (of_one (predecessor_word place) body (second room) (eqb→eq (get_or ws 1 0) (predecessor_word place) b.0))
      (of_one own_minute (drop 1 body) (third room) (drop-first 1 body ∙ eqb→eq (get_or ws 2 0) own_minute (and_l (eqb (get_or ws 2 0) own_minute) (leb since (minute_at body)) b.1)))
      (and_l one_cell (each (cell_ok p n) (cells_at w body)) cell)
      (of_one d (drop (first_cell + 7 * c) ws) (inside (first_cell + 7 * c) (early room)) (drop-first (first_cell + 7 * c) ws ∙ eqb→eq (get_or ws (first_cell + 7 * c) 0) d b.3))
      (and_l one_float (each distance_ok (distances_at w body)) float)
      (of_one l (drop (record_length c p - 1) ws) (inside (record_length c p - 1) (late room)) (drop-first (record_length c p - 1) ws ∙ eqb→eq (get_or ws (record_length c p - 1) 0) l b.5))))
      (rules-row since q n (row_at w body) (record {
        minute = leb→le since (minute_at body) (and_r (eqb (get_or ws 2 0) own_minute) (leb since (minute_at body)) b.1);
        few = omega (arith, size_is w body);
        before = eqb→eq p (before_of q c) s.2 ∙ ap (before_of q) (sym (size_is w body));
        number = number_is w body ∙ ap (λ (k : ℕ). k * p) (sym (size_is w body));
        cells = and_r one_cell (each (cell_ok p n) (cells_at w body)) cell;
        distances = and_r one_float (each distance_ok (distances_at w body)) float;
      }))
    where
      inside : (k : ℕ) → k < length ws → 0 < length (drop k ws)
      inside k h = simp length-drop (omega arith)

      second : record_length c p ≤ length ws → 0 < length body
      second h = unfold record_length in omega arith

      third : record_length c p ≤ length ws → 0 < length (drop 1 body)
      third h = simp length-drop (unfold record_length in omega arith)

      early : record_length c p ≤ length ws → first_cell + 7 * c < length ws
      early h = unfold record_length in omega arith

      late : record_length c p ≤ length ws → record_length c p - 1 < length ws
      late h = unfold record_length in omega arith

  pub record-test : well_read (record_of place) read_row (row_ok since q n) ws ≡ tested
  unfolding well_read
  record-test = ap (λ (r : Row). starts (record_of place r) ws && row_ok since q n r) (row_is w body) ∙ same_test asked tested here there
