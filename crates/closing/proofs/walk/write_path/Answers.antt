-- `closing::walk::write_path` meets its contract.
use native.Mathlib.Omega.{arith}
use mathlib.Core.Path.{refl, ◌∙◌}
use Rattle.closing.proofs.Steps.{over-rows, over-reached, over-counts}
use Rattle.closing.proofs.Storing.{path-onward, column-start, column-turn, column-end}
use Rattle.closing.proofs.walk.write_path.Goals as goal

pub loop-b-init : goal.loop-b-init
loop-b-init c = (c.requires.reached, omega (arith, c.requires.pairs_value.0, c.requires.pairs_value.1), column-start _ _ _ _ _ c.requires.pairs_value.0, column-start _ _ _ _ _ c.requires.pairs_value.0)

pub store_back-b-requires : goal.store_back-b-requires
store_back-b-requires c =
    record {
      record_left = path-onward _ _ c.loop-b.invariant.0 (omega (arith, c.loop-b.invariant.1));
      pairs_lt_n = (c.loop-b-test.true, omega (arith, c.loop-b.invariant.2.same_length), omega (arith, c.loop-b.invariant.3.same_length));
    }

pub loop-b-smaller : goal.loop-b-smaller
loop-b-smaller c = let o = path-onward c.args.journal.now c.loop-b.b c.loop-b.invariant.0 (omega (arith, c.loop-b.invariant.1, c.loop-b-test.true)) in rw c.store_back-b.ensures.value (omega (arith, over-rows o))

pub loop-b-preserved : goal.loop-b-preserved
loop-b-preserved c = let o = path-onward c.args.journal.now c.loop-b.b c.loop-b.invariant.0 (omega (arith, c.loop-b.invariant.1, c.loop-b-test.true)) in (rw c.store_back-b.ensures.value (over-reached o), rw c.store_back-b.ensures.value (over-counts o ∙ c.loop-b.invariant.1), column-turn c.loop-b.invariant.2 o c.loop-b-test.true c.requires.n_in_bounds.0 c.store_back-b.ensures.value refl c.store_back-b.ensures.rows_after, column-turn c.loop-b.invariant.3 o c.loop-b-test.true c.requires.n_in_bounds.1 c.store_back-b.ensures.value refl c.store_back-b.ensures.candidates_after)

pub shape_of-rows : goal.shape_of-rows
shape_of-rows c = c.loop-b.invariant.2.same_length

pub shape_of-candidates : goal.shape_of-candidates
shape_of-candidates c = c.loop-b.invariant.3.same_length

pub returns : goal.returns
returns c =
    record {
      rows_after = column-end c.loop-b.invariant.2 c.loop-b.invariant.1 (omega arith);
      candidates_after = column-end c.loop-b.invariant.3 c.loop-b.invariant.1 (omega arith);
    }
