-- Rows that feeding gives again are left by feeding the fixes that they record, on every slice that is long enough. Assumes that checks 1 to 6 and 16
-- pass.
use Prim.Native.Nat.{ℕ, ◌+◌, ◌*◌, ◌<◌, ◌≤◌}
use native.Mathlib.Omega.{arith}
use mathlib.Core.Path.{◌≡◌, refl, sym, ap, ◌∙◌, subst}
use mathlib.Core.Bool.{Bool}
use mathlib.Core.List.{List, [], ◌∷◌, ◌++◌}
use mathlib.Core.Option.{Option, none}
use lib.Dec.{T, leb, ltb, eqb, le→leb, lt→ltb, eqb_refl}
use lib.ListN.{length, get_or, length-append, length-map, get_or-map}
use lib.Seq.{ext_get_or}
use lib.Ieee.{nan}
use lib.Ieee.Bits.{is_true}
use lib.Ieee.Fits.{and_i, eq→eqb}
use Rattle.std.specs.Prelude.{Ok}
use Rattle.refusals.specs.declared.Refusal.{Refusal}
use Rattle.refusals.specs.Refusals.{Checked}
use Rattle.lists.proofs.Lists.{get_or-number}
use Rattle.journal.specs.declared.record.Candidate.{Candidate}
use Rattle.journal.specs.Lists.{each}
use Rattle.journal.specs.Row.{Fix, Row, fix_of, Given, candidate_given, fix_given, handed, candidate_count, predecessor, size_of, latest_minute, before_of}
use Rattle.journal.specs.Ranges.{candidate_limit, row_limit, minute_limit, distance_ok, candidate_ok}
use Rattle.journal.specs.Journal.{words, record_on, journal, put, used, used_words}
use Rattle.journal.specs.WellFormed.{Each, Fitting, WellFormed}
use Rattle.journal.specs.Call.{first_failed, opening}
use Rattle.journal.proofs.Lists.{each_append}
use Rattle.journal.proofs.Rules.{of_four, fix-rules}
use Rattle.journal.proofs.Reading.{length-journal, used_words-journal}
use Rattle.journal.proofs.WellFormed.{well-formed, used-well}
use Rattle.journal.proofs.Gathered.{count-given}
use Rattle.rows.specs.Row.{StepsAt, row}
use Rattle.decoder.specs.Call.{counts_ok, known_row, row_fed, feed_checks, Call, feed, call, run}
use Rattle.decoder.specs.TwoLists.{GivenFits, CallFits}
use Rattle.decoder.proofs.Standing.{CandidateFits, FixFits}
use Rattle.decoder.proofs.Handed.{Passed, call_length}
use Rattle.decoder.proofs.Plans.{fed-done}
use Rattle.decoder.proofs.TwoLists.{put_is}
use Rattle.replaying.specs.Replay.{refed}
use Rattle.replaying.proofs.Refed.{KnownRows, older, each_map, fix-accepted, Refed}

-- ---- a fix that is handed over again

-- it is made of its own lists
given_back : (f : Fix) → fix_given (handed f) ≡ f
unfolding fix_given handed
given_back f = ap (λ (l : List Candidate). made l) (ext_get_or d (fix_given (handed f)).candidates cs many same)
  where
    cs : List Candidate
    cs = f.candidates

    made : List Candidate → Fix
    made l = record { minute = f.minute; candidates = l; distances = f.distances }

    d : Candidate
    d = record { element = 0; intrinsic = nan; near = 0; raw_log = nan }

    many : length (fix_given (handed f)).candidates ≡ length cs
    many = count-given (handed f) ∙ length-map cs (λ (c : Candidate). c.element)

    same : (i : ℕ) → i < length (fix_given (handed f)).candidates → get_or (fix_given (handed f)).candidates i d ≡ get_or cs i d
    same i h =
        get_or-number (candidate_given (handed f)) (handed f).elements i d 0 (omega (arith, count-given (handed f)))
        ∙ rw (get_or-map (λ (c : Candidate). c.element) cs i d, get_or-map (λ (c : Candidate). c.intrinsic) cs i d, get_or-map (λ (c : Candidate). c.near) cs i d, get_or-map (λ (c : Candidate). c.raw_log) cs i d)

counts-back : (f : Fix) → candidate_count f ≤ candidate_limit → T (counts_ok (handed f))
unfolding counts_ok handed
counts-back f h =
    let cs = f.candidates in
    let n = length cs in
    rw (length-map cs (λ (c : Candidate). c.element), length-map cs (λ (c : Candidate). c.intrinsic), length-map cs (λ (c : Candidate). c.near), length-map cs (λ (c : Candidate). c.raw_log))
    (of_four (leb n candidate_limit) (eqb n n) (eqb n n) (eqb n n) (le→leb n candidate_limit h) (eqb_refl n) (eqb_refl n) (eqb_refl n))

fits-back : (f : Fix) → FixFits f → GivenFits (handed f)
unfolding handed
fits-back f h = (
  each_map CandidateFits Fitting (λ (c : Candidate). c.intrinsic) (λ c k. k.0) f.candidates h.0,
  each_map CandidateFits Fitting (λ (c : Candidate). c.raw_log) (λ c k. k.1) f.candidates h.0,
  h.1,
)

-- ---- checks that all pass

none-failed : (l : List (Refusal × Bool)) → Passed l → first_failed l ≡ none
none-failed [] h = refl
none-failed (c ∷ l) h = rw (is_true c.1 h.0, none-failed l h.1)

-- ---- words that hold rows

pub used-are : (s : List ℕ) (rs : List Row) → WellFormed s rs → used_words s ≡ journal rs
used-are s rs w = subst (λ (l : List ℕ). used_words l ≡ journal rs) (sym w.2.1) (used_words-journal rs w.2.0 w.0 w.1)

journal-length : (r : Row) (rs : List Row) → length (journal (r ∷ rs)) ≡ length (journal rs) + length (record_on rs r)
unfolding journal words
journal-length r rs = omega (arith, length-append (words rs) (record_on rs r))

-- just opened they hold none
opened : (room : List ℕ) → 0 < length room → WellFormed (opening room).1 [] × (length (opening room).1 ≡ length room)
unfolding opening journal words
opened [] h = absurd (omega arith)
opened (w ∷ ws) h = ((tt, omega arith, (ws, refl)), refl)

-- what calls answered and left: all were accepted, and n words hold the rows
pub record Left (rs : List Row) (n : ℕ) (o : List Checked × List ℕ) : Type 0 where
  pub accepted : Each (λ (a : Checked). a ≡ Ok tt) o.0
  pub formed : WellFormed o.1 rs
  pub long : length o.1 ≡ n

-- ---- feeding

-- the fix that a row records, handed over
abbrev again : Row → Given
again r = handed (fix_of r)

module _ (refusal : Option Refusal) (known : ℕ) (step : StepsAt) where
  -- it gives the row again
  row-again : (r : Row) (rs : List Row) → refed (step r.minute) rs r ≡ r → row_fed refusal known step rs (again r) ≡ r
  unfolding handed
  row-again r rs e = ap (row (step r.minute) (predecessor rs)) (given_back (fix_of r)) ∙ e

  -- and passes every check
  all_pass : (r : Row) (rs : List Row) → KnownRows known (r ∷ rs) → refed (step r.minute) rs r ≡ r → (n : ℕ) → length (journal (r ∷ rs)) ≤ n → first_failed (feed_checks refusal known step rs (again r) n) ≡ none
  all_pass r rs h e n l =
      let f = fix_of r in
      let a = fix-accepted known r rs h in
      let b = fix-rules known f a.ok in
      let m = candidate_count f * before_of (size_of (predecessor rs)) (candidate_count f) in
      none-failed (feed_checks refusal known step rs (again r) n) (
        counts-back f b.few,
        (
          rw (given_back f) (and_i (each (candidate_ok known) f.candidates) (each (known_row known) rs) b.candidates (older known r rs h).known),
          (
            rw (given_back f) (unfold handed in and_i (eqb (length f.distances) m) (each distance_ok f.distances) (eq→eqb a.number) b.distances),
            (
              unfold handed in and_i (ltb f.minute minute_limit) (leb (latest_minute rs) f.minute) (lt→ltb f.minute minute_limit a.minute) (le→leb (latest_minute rs) f.minute a.not-before),
              (lt→ltb (length rs) row_limit (omega (arith, h.few)), (rw (row-again r rs e) (le→leb (length (journal rs) + length (record_on rs r)) n (omega (arith, journal-length r rs))), tt)),
            ),
          ),
        ),
      )

  -- one call more
  run_more : (s : List ℕ) (cs : List Call) (c : Call)
      → run refusal known step s (cs ++ (c ∷ [])) ≡ ((run refusal known step s cs).0 ++ ((call refusal known step (run refusal known step s cs).1 c).0 ∷ []), (call refusal known step (run refusal known step s cs).1 c).1)
  unfolding run
  run_more s [] c = refl
  run_more s (b ∷ cs) c = ap (λ (o : List Checked × List ℕ). ((call refusal known step s b).0 ∷ o.0, o.1)) (run_more (call refusal known step s b).1 cs c)

  module _ (passes : refusal ≡ none) where
    -- one row more
    one_left : (r : Row) (rs : List Row) → KnownRows known (r ∷ rs) → refed (step r.minute) rs r ≡ r → (n : ℕ) → length (journal (r ∷ rs)) ≤ n → (s : List ℕ) (cs : List Call)
        → Left rs n (run refusal known step s cs) → Left (r ∷ rs) n (run refusal known step s (cs ++ (feed (again r) ∷ [])))
    unfolding call
    one_left r rs h e n l s cs b =
        let t = (run refusal known step s cs).1 in
        let c = feed (again r) in
        let w = put_is t b.formed.2.0 rs r b.formed.2.1 (used-well t rs b.formed) (used-are t rs b.formed) (omega (arith, journal-length r rs, b.long)) in
        let pass = all_pass r rs h e (length t) (omega (arith, b.long)) in
        let fed = fed-done refusal known step t (again r) rs passes ((well-formed t rs).1 b.formed) pass in
        subst (Left (r ∷ rs) n) (sym (run_more s cs c)) (record {
          accepted = each_append (λ (a : Checked). a ≡ Ok tt) (run refusal known step s cs).0 ((call refusal known step t c).0 ∷ []) b.accepted (sym fed.0, tt);
          formed = (h.obey, h.few, (w.0, sym fed.1 ∙ ap (λ (q : Row). put t (used t) (record_on rs q)) (row-again r rs e) ∙ w.1));
          long = call_length refusal known step t c ∙ b.long;
        })

    -- all rows, the oldest first
    pub left-again : (rs : List Row) → KnownRows known rs → Refed step rs → (room : List ℕ) → length (journal rs) ≤ length room
        → (cs : List Call) × Each CallFits cs × Left rs (length room) (run refusal known step (opening room).1 cs)
    left-again [] h a room l = let o = opened room (omega (arith, length-journal [])) in ([], tt, unfold run in record { accepted = tt; formed = o.0; long = o.1 })
    left-again (r ∷ rs) h a room l =
        let b = left-again rs (older known r rs h) a.1 room (omega (arith, journal-length r rs)) in
        let c = feed (again r) in (
          b.0 ++ (c ∷ []),
          each_append CallFits b.0 (c ∷ []) b.1 (fits-back (fix_of r) (fix-accepted known r rs h).fitting, tt),
          one_left r rs h a.0 (length room) l (opening room).1 b.0 b.2,
        )
