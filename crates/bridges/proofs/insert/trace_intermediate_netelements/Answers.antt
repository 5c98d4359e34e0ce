-- `bridges::insert::trace_intermediate_netelements` meets its contract.
use mathlib.Core.Path.{refl, sym, ap, ◌∙◌}
use native.Mathlib.Omega.{arith}
use lib.Seq.{length-take-le}
use Rattle.std.proofs.Common.{Ok}
use Rattle.bridges.specs.inner.Found.{no_states}
use Rattle.bridges.proofs.Listed.{listed-room, listed-long, listed-short, listed-traced, none-traced, refused-traced}
use Rattle.bridges.proofs.insert.trace_intermediate_netelements.Goals as goal

pub slice_bounds-states-end : goal.slice_bounds-states-end
unfolding no_states
slice_bounds-states-end c =
    let found = c.in-Ok-Some.is ∙ ap Ok c.in-Ok-Some.field-0-is in
    let room = listed-room _ c.requires _ _ _ _ refl c.route_states.ensures.value c.route_states.ensures.states_after _ found in
    let long = listed-long _ c.requires _ _ _ _ refl c.route_states.ensures.value c.route_states.ensures.states_after _ found in
    omega arith

pub slice_bounds-elements_of-end : goal.slice_bounds-elements_of-end
unfolding no_states
slice_bounds-elements_of-end c =
    let found = c.in-Ok-Some.is ∙ ap Ok c.in-Ok-Some.field-0-is in
    let room = listed-room _ c.requires _ _ _ _ refl c.route_states.ensures.value c.route_states.ensures.states_after _ found in
    let long = listed-long _ c.requires _ _ _ _ refl c.route_states.ensures.value c.route_states.ensures.states_after _ found in
    sym (length-take-le c.in-Ok-Some.listed.states c.route_states.new.states (omega arith))

pub elements_of-requires : goal.elements_of-requires
unfolding no_states
elements_of-requires c =
    let found = c.in-Ok-Some.is ∙ ap Ok c.in-Ok-Some.field-0-is in
    listed-short _ c.requires _ _ _ _ refl c.route_states.ensures.value c.route_states.ensures.states_after _ found

pub returns-in-Ok-Some : goal.returns-in-Ok-Some
unfolding no_states
returns-in-Ok-Some c =
    let found = c.in-Ok-Some.is ∙ ap Ok c.in-Ok-Some.field-0-is in
    listed-traced _ c.requires _ _ _ _ refl c.route_states.ensures.value c.route_states.ensures.states_after _ found c.elements_of.ensures

pub returns-in-Ok-None : goal.returns-in-Ok-None
unfolding no_states
returns-in-Ok-None c = none-traced _ c.requires _ _ _ _ refl c.route_states.ensures.value c.no_bridges.ensures (c.in-Ok-None.is ∙ ap Ok c.in-Ok-None.field-0-is)

pub returns-in-Err : goal.returns-in-Err
unfolding no_states
returns-in-Err c = refused-traced _ c.requires _ _ _ _ refl c.route_states.ensures.value c.no_bridges-in-Err.ensures _ c.in-Err.is
