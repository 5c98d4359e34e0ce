-- Document 02, K5: what the answer of replaying says of lists of calls. Assumes `ChecksHold` of a network and settings that checks 1 to 6 and 16 pass;
-- every network and settings have it, so that `replay-told` assumes nothing.
use Prim.Native.Nat.{ℕ, ◌<◌, ◌≤◌}
use native.Mathlib.Omega.{arith}
use mathlib.Core.Path.{◌≡◌, refl, sym, ap, ◌∙◌}
use mathlib.Core.Bool.{Bool, true, false}
use mathlib.Core.List.{List, ◌++◌}
use mathlib.Core.Option.{Option as Maybe, none, some}
use lib.ListN.{length, drop, length-append, take-append-drop}
use Rattle.std.specs.Prelude.{Option, Some, None, Result, Ok, Err}
use Rattle.refusals.specs.declared.Refusal.{Refusal}
use Rattle.binary64.proofs.Order.{taken}
use Rattle.network.specs.Network.{Network, known_count}
use Rattle.transition.specs.Step.{transition}
use Rattle.transition.specs.declared.step.Settings.{Settings}
use Rattle.journal.specs.Lists.{each}
use Rattle.journal.specs.Row.{Row}
use Rattle.journal.specs.Journal.{journal, used, read_journal}
use Rattle.journal.proofs.Lists.{same-ok}
use Rattle.journal.proofs.Reading.{length-journal}
use Rattle.journal.proofs.WellFormed.{well-formed, used-well}
use Rattle.journal.proofs.Ends.{formed}
use Rattle.rows.specs.Row.{StepsAt, rows}
use Rattle.decoder.specs.Call.{Call, known_row}
use Rattle.decoder.specs.Refusal.{refusal_of}
use Rattle.decoder.specs.TwoLists.{words_left, fixes_left}
use Rattle.decoder.specs.inner.StepRange.{ChecksHold}
use Rattle.decoder.proofs.TwoLists.{two-lists}
use Rattle.decoder.proofs.Demand3.{transition-good}
use Rattle.replaying.specs.Replay.{first_differing, replaying}
use Rattle.replaying.specs.Replayed.{LeavesWords, LeftByCalls, FedRecords, up_to_row, Tells}
use Rattle.replaying.proofs.Refed.{KnownRows, none-differs, all-refed}
use Rattle.replaying.proofs.Differing.{first-differs}
use Rattle.replaying.proofs.Feeds.{used-are, left-again}

-- ---- answers told apart

abbrev Answer : Type 0
Answer = Result (Option ℕ) Refusal

accepts-ok : (r : Answer) (o : Option ℕ) → r ≡ Ok o → (k : Refusal) → r ≡ Err k → ⊥
accepts-ok r o e k q = let z : ◌≡◌ {A = ℕ} 0 1 = cc in omega arith

module _ (refusal : Maybe Refusal) (known : ℕ) (step : StepsAt) (good : refusal ≡ none → ChecksHold known step) (s : List ℕ) where
  -- ---- an answer that is no refusal

  -- checks 1 to 9 passed, and rows were compared
  record Looked : Type 0 where
    passes : refusal ≡ none
    rs : List Row
    reads : read_journal s ≡ some rs
    rows-known : KnownRows known rs
    answers : replaying refusal known step s ≡ Ok (first_differing step rs)

  looked : ((k : Refusal) → replaying refusal known step s ≡ Err k → ⊥) → Looked
  unfolding replaying
  looked accepts = go refusal refl
    where
      test : refusal ≡ none → (rs : List Row) → read_journal s ≡ some rs → (b : Bool) → each (known_row known) rs ≡ b → Looked
      test p rs r true e = record {
        passes = p;
        rs = rs;
        reads = r;
        rows-known = record { obey = (formed s rs r).0; known = taken e; few = (formed s rs r).1 };
        answers = rw (p, r, e);
      }
      test p rs r false e = absurd (accepts Refusal.Candidate (rw (p, r, e)))

      read : refusal ≡ none → (o : Maybe (List Row)) → read_journal s ≡ o → Looked
      read p none r = absurd (accepts Refusal.Journal (rw (p, r)))
      read p (some rs) r = test p rs r (each (known_row known) rs) refl

      go : (x : Maybe Refusal) → refusal ≡ x → Looked
      go none p = read p (read_journal s) refl
      go (some k) p = absurd (accepts k (rw p))

  -- ---- clean

  -- feeding the recorded fixes leaves the used words
  anywhere : replaying refusal known step s ≡ Ok None → (room : List ℕ) → used s ≤ length room → (cs : List Call) × LeavesWords refusal known step room s cs
  anywhere e room l =
      let k = looked (accepts-ok (replaying refusal known step s) None e) in
      let w = formed s k.rs k.reads in
      let long : length (journal k.rs) ≡ used s = length-journal k.rs ∙ sym (used-well s k.rs w) in
      let again = all-refed step known (good k.passes) k.rs k.rows-known (same-ok (sym k.answers ∙ e)) in
      let c = left-again refusal known step k.passes k.rs k.rows-known again room (omega arith) in (
        c.0,
        record {
          opens = omega (arith, used-well s k.rs w);
          fitting = c.1;
          accepted = c.2.accepted;
          leaves = used-are (words_left refusal known step room c.0) k.rs c.2.formed ∙ sym (used-are s k.rs w);
        },
      )

  by-calls : replaying refusal known step s ≡ Ok None → LeftByCalls refusal known step s
  by-calls e =
      let k = looked (accepts-ok (replaying refusal known step s) None e) in
      let w = formed s k.rs k.reads in
      let inside : used s ≤ length s = omega (arith, used-well s k.rs w, ap length w.2.1, length-append (journal k.rs) w.2.0, length-journal k.rs) in
      let c = anywhere e s inside in
      (s, c.0, c.1)

  -- calls leave the rows of fixes, of which none differs
  from-calls : ((k : Refusal) → replaying refusal known step s ≡ Err k → ⊥) → LeftByCalls refusal known step s → replaying refusal known step s ≡ Ok None
  from-calls accepts c =
      let l = c.2 in
      let left = (two-lists refusal known step good c.0 c.0 l.opens l.opens c.1 c.1 l.fitting l.fitting).first-stands in
      let fs = fixes_left refusal known step c.0 c.1 in
      let w = formed (words_left refusal known step c.0 c.1) (rows step fs) left.reads in
      let is : s ≡ journal (rows step fs) ++ drop (used s) s = sym (take-append-drop (used s) s) ∙ ap (λ (ws : List ℕ). ws ++ drop (used s) s) (sym l.leaves ∙ left.words_are) in
      let reads : read_journal s ≡ some (rows step fs) = (well-formed s (rows step fs)).1 (w.0, w.1, (drop (used s) s, is)) in
      let k = looked accepts in
      let same : k.rs ≡ rows step fs = cc k.reads in
      k.answers ∙ ap Ok (ap (first_differing step) same ∙ none-differs step fs)

  -- ---- a row that differs

  told : (n : ℕ) → replaying refusal known step s ≡ Ok (Some n) → (rs : List Row) × (read_journal s ≡ some rs) × (n < length rs)
      × (FedRecords step (up_to_row rs n) → ⊥) × ((m : ℕ) → m < n → FedRecords step (up_to_row rs m))
  told n e =
      let k = looked (accepts-ok (replaying refusal known step s) (Some n) e) in
      let f = first-differs known step (good k.passes) k.rs n k.rows-known (same-ok (sym k.answers ∙ e)) in
      (k.rs, k.reads, f.stands, f.differs, f.before)

pub replayed : (refusal : Maybe Refusal) (known : ℕ) (step : StepsAt) → (refusal ≡ none → ChecksHold known step) → (s : List ℕ) → Tells refusal known step s
replayed refusal known step good s = record {
  clean-exactly = λ accepts. (by-calls refusal known step good s, from-calls refusal known step good s accepts);
  clean-anywhere = anywhere refusal known step good s;
  first-told = told refusal known step good s;
}

-- for every network and settings, with the step score that they give at each minute
pub replay-told : (net : Network) (settings : Settings) (s : List ℕ) → Tells (refusal_of net settings) (known_count net) (transition net settings) s
replay-told net settings = replayed (refusal_of net settings) (known_count net) (transition net settings) (transition-good net settings)
