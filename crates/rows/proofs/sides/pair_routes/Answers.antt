-- `rows::sides::pair_routes` meets its contract.
use mathlib.Core.Path.{sym}
use native.Mathlib.Omega.{arith}
use Rattle.journal.proofs.Gathered.{count-in}
use Rattle.rows.proofs.Nodes.{pairs-held, prefix-many, prefixes-fit}
use Rattle.rows.proofs.sides.pair_routes.Goals as goal

pub goal_nodes-requires : goal.goal_nodes-requires
goal_nodes-requires c =
    let w = c.requires.sizes.1 in
    record {
      entries16 = w;
      cs_in_bounds = omega (arith, count-in _ w, w.few);
    }

pub slice_bounds-fill_routes-end : goal.slice_bounds-fill_routes-end
slice_bounds-fill_routes-end c = sym (prefix-many c.start_nodes.new.starts c.args.before c.no_nodes-starts.ensures c.start_nodes.auto.starts c.requires.sizes.0)

pub slice_bounds-fill_routes-end-2 : goal.slice_bounds-fill_routes-end-2
slice_bounds-fill_routes-end-2 c = sym (prefix-many c.goal_nodes.new.goals c.args.fix.count c.no_nodes-goals.ensures c.goal_nodes.auto.goals c.requires.sizes.1.few)

pub fill_routes-requires : goal.fill_routes-requires
fill_routes-requires c =
    let rows = prefix-many c.start_nodes.new.starts c.args.before c.no_nodes-starts.ensures c.start_nodes.auto.starts c.requires.sizes.0 in
    let columns = prefix-many c.goal_nodes.new.goals c.args.fix.count c.no_nodes-goals.ensures c.goal_nodes.auto.goals c.requires.sizes.1.few in
    record {
      sound_graph = c.requires.sound_graph;
      goals_in_bounds = prefixes-fit c.args.before c.args.fix.count _ rows columns c.requires.sizes.0 c.requires.sizes.1.few c.requires.sizes.2;
    }

pub returns : goal.returns
returns c = let rows = prefix-many c.start_nodes.new.starts c.args.before c.no_nodes-starts.ensures c.start_nodes.auto.starts c.requires.sizes.0 in
    let columns = prefix-many c.goal_nodes.new.goals c.args.fix.count c.no_nodes-goals.ensures c.goal_nodes.auto.goals c.requires.sizes.1.few in
    pairs-held _ _ _ _ c.any_near.ensures c.start_nodes.ensures c.goal_nodes.ensures c.requires.record_known.element c.requires.each (count-in _ c.requires.sizes.1) rows columns c.args.found.now c.fill_routes.ensures (prefixes-fit c.args.before c.args.fix.count _ rows columns c.requires.sizes.0 c.requires.sizes.1.few c.requires.sizes.2).0
