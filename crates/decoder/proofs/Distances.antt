-- A fix has as many distances for each of its candidates as its predecessor has candidates, of which the call `predecessor` tells. Assumes nothing.
use Prim.Native.Nat.{ℕ, ◌+◌, ◌*◌}
use native.Mathlib.Omega.{arith}
use mathlib.Core.Path.{◌≡◌, refl, sym, ap, ◌∙◌}
use mathlib.Core.Bool.{Bool, true, false, ◌&&◌}
use mathlib.Core.List.{List, [], ◌∷◌}
use mathlib.Core.Option.{Option, none, some}
use mathlib.Core.Logic.{⊎_elim}
use lib.Dec.{leb, ltb, eqb, eqb→eq}
use lib.ListN.{length}
use lib.Ieee.Fits.{and_l}
use borrow.Author.Tests.{eq-eqb}
use Rattle.std.specs.Prelude.{Ok, Err}
use Rattle.refusals.specs.declared.Refusal.{Refusal}
use Rattle.refusals.specs.Refusals.{refusal_number, Checked}
use Rattle.binary64.proofs.Order.{taken}
use Rattle.network.specs.Network.{Network, known_count}
use Rattle.journal.specs.Lists.{each}
use Rattle.journal.specs.Row.{Row, Given, fix_given, candidate_count, predecessor, predecessor_number, size_of, latest_minute, before_of}
use Rattle.journal.specs.Ranges.{row_limit, minute_limit, distance_ok, candidate_ok}
use Rattle.journal.specs.Journal.{record_on, journal, put, used, read_journal}
use Rattle.journal.specs.Call.{first_failed, outcome, preceding_of, preceding_read, preceding, candidates_told}
use Rattle.journal.proofs.Gathered.{count-given}
use Rattle.transition.specs.Step.{transition}
use Rattle.transition.specs.declared.step.Settings.{Settings}
use Rattle.rows.specs.Row.{StepsAt}
use Rattle.decoder.specs.Call.{counts_ok, known_row, row_fed, feed_checks, feed_read, feed_checked, feeding}
use Rattle.decoder.specs.Refusal.{refusal_of}
use Rattle.decoder.proofs.Handed.{all-passed}
use Rattle.decoder.proofs.Refusals.{refusal-of-these}

-- ---- check 10 among the others

two-answers : {A : Type 0} {r k : Refusal} → ◌≡◌ {A = Checked} (Err r) (Err k) → (refusal_number r ≡ refusal_number k → ⊥) → A
two-answers {r = r} {k = k} e n = let same : r ≡ k = cc in absurd (n (ap refusal_number same))

not_done : {A : Type 0} {r : Refusal} → ◌≡◌ {A = Checked} (Err r) (Ok tt) → A
not_done e = let z : ◌≡◌ {A = ℕ} 0 1 = cc in absurd (omega arith)

-- what checks 8 to 12 and 17 answer, by whether each passes; 10 is two tests
abbrev answer_by : Bool → Bool → Bool → Bool → Bool → Bool → Bool → List ℕ → List ℕ → Checked
answer_by a b number range c d e new old = (outcome (first_failed ((Refusal.CandidateCount, a) ∷ (Refusal.Candidate, b) ∷ (Refusal.Distances, number && range) ∷ (Refusal.Minute, c) ∷ (Refusal.RowLimit, d) ∷ (Refusal.Room, e) ∷ [])) new old).0

done-passed : (o : Option Refusal) (new old : List ℕ) → (outcome o new old).0 ≡ Ok tt → o ≡ none
done-passed none new old q = refl
done-passed (some r) new old q = not_done q

refused-for-range : (a b number range c d e : Bool) (new old : List ℕ) → number ≡ true → answer_by a b number range c d e new old ≡ Err Refusal.Distances → range ≡ false
refused-for-range false b number range c d e new old n q = two-answers q (λ h. omega arith)
refused-for-range true false number range c d e new old n q = two-answers q (λ h. omega arith)
refused-for-range true true number false c d e new old n q = refl
refused-for-range true true true true false d e new old n q = two-answers q (λ h. omega arith)
refused-for-range true true true true true false e new old n q = two-answers q (λ h. omega arith)
refused-for-range true true true true true true false new old n q = two-answers q (λ h. omega arith)
refused-for-range true true true true true true true new old n q = not_done (sym q)
refused-for-range true true false true c d e new old n q = sym n

-- ---- how many distances check 10 asks for

distances-asked : (c q : ℕ) → c * before_of q c ≡ c * q
distances-asked c q = go (eqb c 0) refl
  where
    go : (b : Bool) → eqb c 0 ≡ b → c * before_of q c ≡ c * q
    go true e = let z : c ≡ 0 = eqb→eq c 0 (taken e) in rw z (omega arith)
    go false e = rw e

told-size : (n : ℕ) (o : Option Row) → candidates_told (Ok (preceding_of n o)) ≡ size_of o
told-size n none = refl
told-size n (some p) = refl

abbrev number_asked : List Row → Given → ℕ
number_asked rs g = candidate_count (fix_given g) * before_of (size_of (predecessor rs)) (candidate_count (fix_given g))

number-told : (rs : List Row) (g : Given) → length g.elements * candidates_told (preceding_read (some rs)) ≡ number_asked rs g
number-told rs g =
    ap (λ (q : ℕ). length g.elements * q) (told-size (predecessor_number rs) (predecessor rs))
    ∙ sym (distances-asked (length g.elements) (size_of (predecessor rs)))
    ∙ ap (λ (c : ℕ). c * before_of (size_of (predecessor rs)) c) (sym (count-given g))

-- ---- what feeding answers

module _ (refusal : Option Refusal) (known : ℕ) (step : StepsAt) (s : List ℕ) (g : Given) where
  range-read : (o : Option (List Row)) → length g.distances ≡ length g.elements * candidates_told (preceding_read o) → (feed_read refusal known step s g o).0 ≡ Err Refusal.Distances
      → each distance_ok g.distances ≡ false
  range-read none n q = two-answers q (λ h. omega arith)
  range-read (some rs) n q =
      let own = record_on rs (row_fed refusal known step rs g) in
      refused-for-range (counts_ok g) (each (candidate_ok known) (fix_given g).candidates && each (known_row known) rs)
      (eqb (length g.distances) (number_asked rs g)) (each distance_ok g.distances)
      (ltb g.minute minute_limit && leb (latest_minute rs) g.minute) (ltb (length rs) row_limit) (leb (length (journal rs) + length own) (length s)) (put s (used s) own) s
      (eq-eqb (length g.distances) (number_asked rs g) (n ∙ number-told rs g)) q

  number_read : (o : Option (List Row)) → (feed_read refusal known step s g o).0 ≡ Ok tt → length g.distances ≡ length g.elements * candidates_told (preceding_read o)
  number_read none q = not_done q
  number_read (some rs) q =
      let checks = feed_checks refusal known step rs g (length s) in
      let own = record_on rs (row_fed refusal known step rs g) in
      let passed = all-passed checks (done-passed (first_failed checks) (put s (used s) own) s q) in
      eqb→eq (length g.distances) (number_asked rs g) (and_l (eqb (length g.distances) (number_asked rs g)) (each distance_ok g.distances) passed.1.1.0) ∙ sym (number-told rs g)

  range-fed : (refusal ≡ some Refusal.Distances → ⊥) → length g.distances ≡ length g.elements * candidates_told (preceding s) → (feeding refusal known step s g).0 ≡ Err Refusal.Distances
      → each distance_ok g.distances ≡ false
  unfolding feeding preceding
  range-fed other n e = go refusal refl e
    where
      go : (o : Option Refusal) → refusal ≡ o → (feed_checked refusal known step s g o).0 ≡ Err Refusal.Distances → each distance_ok g.distances ≡ false
      go (some r) p q = let same : r ≡ Refusal.Distances = cc in absurd (other (p ∙ ap some same))
      go none p q = range-read (read_journal s) n q

  number-fed : (feeding refusal known step s g).0 ≡ Ok tt → length g.distances ≡ length g.elements * candidates_told (preceding s)
  unfolding feeding preceding
  number-fed e = go refusal e
    where
      go : (o : Option Refusal) → (feed_checked refusal known step s g o).0 ≡ Ok tt → length g.distances ≡ length g.elements * candidates_told (preceding s)
      go (some r) q = not_done q
      go none q = number_read (read_journal s) q

-- ---- what a host may rely on

module _ (net : Network) (settings : Settings) (s : List ℕ) (g : Given) where
  -- a fix with that many distances for each candidate is refused with 10 only where one of them is out of range
  pub number-taken : length g.distances ≡ length g.elements * candidates_told (preceding s)
      → (feeding (refusal_of net settings) (known_count net) (transition net settings) s g).0 ≡ Err Refusal.Distances → each distance_ok g.distances ≡ false
  number-taken = range-fed (refusal_of net settings) (known_count net) (transition net settings) s g (λ e. ⊎_elim (λ h. omega arith) (λ h. omega arith) (refusal-of-these net settings Refusal.Distances e))

  -- and one that is fed has that many
  pub number-exact : (feeding (refusal_of net settings) (known_count net) (transition net settings) s g).0 ≡ Ok tt
      → length g.distances ≡ length g.elements * candidates_told (preceding s)
  number-exact = number-fed (refusal_of net settings) (known_count net) (transition net settings) s g
