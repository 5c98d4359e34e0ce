-- A group is read back from the journal. Assumes nothing.
use Prim.Native.Nat.{ℕ, zero, suc, ◌+◌, ◌-◌, ◌<◌, ◌≤◌}
use native.Mathlib.Omega.{arith}
use Rattle.std.specs.Prelude.{Some, None}
use mathlib.Core.Path.{◌≡◌, refl, sym, ap, ◌∙◌}
use mathlib.Core.Bool.{Bool, true, false, not, ◌&&◌, cond}
use mathlib.Core.List.{List, [], ◌∷◌, ◌++◌, map}
use mathlib.Core.Logic.{◌⊎◌, inl, inr}
use borrow.Author.Tests.{eqb-true, eqb-false, eq-eqb, ne_eqb}
use lib.Dec.{eqb}
use lib.ListN.{length, take, drop}
use Rattle.lists.proofs.Loops.{clash, two, and_both}
use Rattle.journal.specs.Row.{no_parent, cell_of}
use Rattle.journal.specs.Record.{first_cell, read_row}
use Rattle.journal.specs.declared.record.Candidate.{Candidate}
use Rattle.journal.proofs.Stores.{take_rest}
use Rattle.rows.specs.inner.Scoring.{CandidateStands}
use Rattle.closing.specs.declared.walk.Back.{Back}
use Rattle.journal.specs.inner.Rows.{rows_in}
use Rattle.closing.specs.inner.Walk.{first_rows, Reached, RecordLeft, path_from, over}
use Rattle.closing.proofs.Steps.{reached-few, over-reached, over-rows, over-inside, over-candidate, over-quiet, over-pair, over-row}
use Rattle.closing.proofs.Storing.{path-stops, path-ends}
use Rattle.groups.specs.declared.group.NetelementGroup.{NetelementGroup}
use Rattle.groups.specs.declared.gather.Gathering.{Gathering}
use Rattle.groups.specs.Groups.{state_of, state_at, alone, with_state, before}
use Rattle.groups.specs.inner.Gather.{states_from, onto, groups_from, group_read, pending, goes_on, GroupEnded, RecordTaken, Gathered}
use Rattle.groups.proofs.Onto.{onto-joins, onto-apart}

-- ---- one record

-- the words from a place on
abbrev rest : List ℕ → ℕ → List ℕ
rest s place = take (length s - place) (drop place s)

module _ {s : List ℕ} (g : Gathering) (o : RecordLeft s g.back) {next : Back} (e : next ≡ over (first_rows s g.back.rows) g.back) where
  reached-next : Reached s next
  reached-next = rw e (over-reached o)

  fewer-next : next.rows < g.back.rows
  fewer-next = rw e (omega (arith, over-rows o, o.left))

  -- what is left past the record, with this group
  abbrev past : NetelementGroup → Gathering
  past group = record { group = Some group; ended = false; back = next }

  pub next-rows : next.rows < 4294967296
  next-rows = omega (arith, fewer-next, reached-few s g.back o.reached)

  pub next-inside : next.end ≤ length s
  next-inside = rw e (over-inside o)

  paired : (next.pairs ≡ g.back.pairs → ⊥) → (over (first_rows s g.back.rows) g.back).pairs ≡ g.back.pairs → ⊥
  paired q k = q (ap (λ (b : Back). b.pairs) e ∙ k)

  pub next-stands : (next.pairs ≡ g.back.pairs → ⊥) → CandidateStands (rest s next.end) g.back.candidate
  next-stands q = rw (take_rest, e) (over-candidate o (paired q))

  pub next-head : (next.pairs ≡ g.back.pairs → ⊥) → first_cell ≤ length (rest s next.end)
  next-head q = omega (arith, (next-stands q).room)

  -- it holds no state
  pub no-state : next.pairs ≡ g.back.pairs → RecordTaken s g (record { group = g.group; ended = false; back = next })
  no-state q = record {
    reached = reached-next;
    same = ap (onto (group_read g)) (sym (ap (map (state_at (rows_in s))) (over-quiet o (rw e at q) ∙ ap (path_from s) (sym e))));
    ends = λ k. clash k refl;
    fewer = λ _. fewer-next;
  }

  -- it holds one
  module _ (q : next.pairs ≡ g.back.pairs → ⊥) {m : ℕ} (at : m ≡ (read_row (rest s next.end)).minute) {c : Candidate} (is : c ≡ (cell_of (read_row (rest s next.end)) g.back.candidate).candidate) where
    states-split : states_from s g.back ≡ state_of next.rows m c ∷ states_from s next
    states-split =
        ap (map (state_at (rows_in s))) (over-pair o (paired q))
        ∙ rw (at, is, take_rest, e, over-row o (paired q))

    pub first-state : g.group ≡ None → RecordTaken s g (past (alone (state_of next.rows m c)))
    first-state b = record {
      reached = reached-next;
      same = sym (ap (onto (group_read g)) states-split ∙ rw b (unfold onto before in refl));
      ends = λ k. clash k refl;
      fewer = λ _. fewer-next;
    }

    pub further-state : {group : NetelementGroup} → g.group ≡ Some group → c.element ≡ group.element → RecordTaken s g (past (with_state (state_of next.rows m c) group))
    further-state {group} b k = record {
      reached = reached-next;
      same = sym (ap (onto (group_read g)) states-split ∙ rw b (onto-joins group (state_of next.rows m c) (states_from s next) (eq-eqb _ _ k)));
      ends = λ k. clash k refl;
      fewer = λ _. fewer-next;
    }

    pub other-state : {group : NetelementGroup} → g.group ≡ Some group → (c.element ≡ group.element → ⊥) → RecordTaken s g (record { group = g.group; ended = true; back = g.back })
    other-state {group} b k = record {
      reached = o.reached;
      same = refl;
      ends = λ _. (record { group = group; begun = b; apart = rw b apart }, (refl, refl));
      fewer = λ x. clash refl x;
    }
      where
        apart : onto (group ∷ []) (states_from s g.back) ≡ groups_from s g.back ++ (group ∷ [])
        apart = rw states-split (onto-apart group (state_of next.rows m c) (states_from s next) (ne_eqb _ _ k))

-- ---- all records of a group

-- read so far, from where the walk started
pub record Going (s : List ℕ) (start : Back) (g : Gathering) : Type 0 where
  pub reached : Reached s g.back
  pub same : pending s g ≡ groups_from s start
  pub few : g.back.rows ≤ start.rows
  pub fewer : {x : NetelementGroup} → g.group ≡ Some x → g.back.rows < start.rows
  pub ends : g.ended ≡ true → GroupEnded s g

pub going-begin : (s : List ℕ) (start : Back) → Reached s start → Going s start (record { group = None; ended = false; back = start })
going-begin s start h = record { reached = h; same = refl; few = omega arith; fewer = λ k. cc; ends = λ k. clash k refl }

-- ---- whether there may be more

flip-true : (b : Bool) → not b ≡ true → b ≡ false
flip-true true e = clash e refl
flip-true false e = refl

-- why there are no more
stops : (g : Gathering) → goes_on g ≡ false → (g.ended ≡ true) ⊎ ((g.back.rows ≡ 0) ⊎ (g.back.candidate ≡ no_parent))
unfolding goes_on
stops g t = go g.ended (eqb g.back.rows 0) (eqb g.back.candidate no_parent) refl refl refl t
  where
    go : (a b d : Bool) → g.ended ≡ a → eqb g.back.rows 0 ≡ b → eqb g.back.candidate no_parent ≡ d → not a && (not b && not d) ≡ false
        → (g.ended ≡ true) ⊎ ((g.back.rows ≡ 0) ⊎ (g.back.candidate ≡ no_parent))
    go true b d p q r t = inl p
    go false true d p q r t = inr (inl (eqb-true _ _ q))
    go false false true p q r t = inr (inr (eqb-true _ _ r))
    go false false false p q r t = clash refl t

pub turn-less : (s : List ℕ) (g r : Gathering) → goes_on g ≡ true → RecordTaken s g r → r.back.rows + cond r.ended 0 1 < g.back.rows + cond g.ended 0 1
unfolding goes_on
turn-less s g r t k = go (two r.ended)
  where
    goes : g.ended ≡ false
    goes = flip-true g.ended (and_both (not g.ended) (not (eqb g.back.rows 0) && not (eqb g.back.candidate no_parent)) t).0

    go : (r.ended ≡ true) ⊎ (r.ended ≡ false) → r.back.rows + cond r.ended 0 1 < g.back.rows + cond g.ended 0 1
    go (inl e) = rw (e, goes, (k.ends e).1.1) (omega arith)
    go (inr e) = rw (e, goes) (omega (arith, k.fewer e))

module _ (s : List ℕ) (start : Back) (g : Gathering) (h : Going s start g) where
  pub going-onward : goes_on g ≡ true → RecordLeft s g.back
  unfolding goes_on
  going-onward t =
      let open-ended = and_both (not g.ended) (not (eqb g.back.rows 0) && not (eqb g.back.candidate no_parent)) t in
      let both = and_both (not (eqb g.back.rows 0)) (not (eqb g.back.candidate no_parent)) open-ended.1 in
      let some-rows = eqb-false g.back.rows 0 (flip-true _ both.0) in
      record { reached = h.reached; left = positive g.back.rows some-rows; parent = eqb-false g.back.candidate no_parent (flip-true _ both.1) }
    where
      positive : (n : ℕ) → (n ≡ 0 → ⊥) → 0 < n
      positive zero k = absurd (k refl)
      positive (suc n) k = omega arith

  pub going-turn : (r : Gathering) → RecordTaken s g r → Going s start r
  going-turn r k = record { reached = k.reached; same = k.same ∙ h.same; few = few (two r.ended); fewer = λ e. fewer e (two r.ended); ends = λ e. (k.ends e).0 }
    where
      few : (r.ended ≡ true) ⊎ (r.ended ≡ false) → r.back.rows ≤ start.rows
      few (inl e) = rw (k.ends e).1.1 h.few
      few (inr e) = omega (arith, k.fewer e, h.few)

      fewer : {x : NetelementGroup} → r.group ≡ Some x → (r.ended ≡ true) ⊎ (r.ended ≡ false) → r.back.rows < start.rows
      fewer q (inl e) = rw (k.ends e).1.1 (h.fewer (sym (k.ends e).1.0 ∙ q))
      fewer q (inr e) = omega (arith, k.fewer e, h.few)

  pub going_end : goes_on g ≡ false → Gathered s start g
  going_end t = record { reached = h.reached; whole = sym h.same ∙ whole (stops g t); nothing = λ b. sym h.same ∙ nothing b (stops g t); fewer = h.fewer }
    where
      none_left : (g.back.rows ≡ 0) ⊎ (g.back.candidate ≡ no_parent) → states_from s g.back ≡ []
      none_left (inl e) = ap (map (state_at (rows_in s))) (path-ends s g.back e)
      none_left (inr e) = ap (map (state_at (rows_in s))) (path-stops s g.back e)

      whole : (g.ended ≡ true) ⊎ ((g.back.rows ≡ 0) ⊎ (g.back.candidate ≡ no_parent)) → pending s g ≡ groups_from s g.back ++ group_read g
      whole (inl e) = (h.ends e).apart ∙ rw (h.ends e).begun
      whole (inr e) = rw (none_left e) (unfold onto in refl)

      nothing : g.group ≡ None → (g.ended ≡ true) ⊎ ((g.back.rows ≡ 0) ⊎ (g.back.candidate ≡ no_parent)) → pending s g ≡ []
      nothing b (inl e) = let begun = (h.ends e).begun in cc
      nothing b (inr e) = rw (none_left e, b) (unfold onto in refl)
