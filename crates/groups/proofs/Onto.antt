-- Groups with the states before them. Assumes nothing.
use mathlib.Core.Path.{◌≡◌, refl, sym, ap, ◌∙◌}
use mathlib.Core.Bool.{Bool, true, false, cond}
use mathlib.Core.List.{List, [], ◌∷◌, ◌++◌, reverse, reverse_aux, append_assoc}
use lib.Dec.{eqb}
use Rattle.groups.specs.declared.group.NetelementGroup.{NetelementGroup}
use Rattle.groups.specs.Groups.{State, alone, with_state, before, groups}
use Rattle.groups.specs.inner.Gather.{onto}

-- the groups past the first have no part in it
pub onto-past : (g : NetelementGroup) (gs : List NetelementGroup) (l : List State) → onto (g ∷ gs) l ≡ onto (g ∷ []) l ++ gs
unfolding onto before
onto-past g gs [] = refl
onto-past g gs (s ∷ l) = go (eqb s.element g.element) (λ h hs. onto-past h hs l)
  where
    go : (t : Bool) → ((h : NetelementGroup) (hs : List NetelementGroup) → onto (h ∷ hs) l ≡ onto (h ∷ []) l ++ hs)
        → onto (cond t (with_state s g ∷ gs) (alone s ∷ g ∷ gs)) l ≡ onto (cond t (with_state s g ∷ []) (alone s ∷ g ∷ [])) l ++ gs
    go true ih = ih (with_state s g) gs
    go false ih =
        ih (alone s) (g ∷ gs)
        ∙ sym (append_assoc (onto (alone s ∷ []) l) (g ∷ []) gs)
        ∙ ap (λ (k : List NetelementGroup). k ++ gs) (sym (ih (alone s) (g ∷ [])))

-- a state of its element joins a group
pub onto-joins : (g : NetelementGroup) (s : State) (l : List State) → eqb s.element g.element ≡ true → onto (g ∷ []) (s ∷ l) ≡ onto (with_state s g ∷ []) l
unfolding onto before
onto-joins g s l e = ap (λ (t : Bool). onto (cond t (with_state s g ∷ []) (alone s ∷ g ∷ [])) l) e

-- a state of another element keeps a group apart from those before it
pub onto-apart : (g : NetelementGroup) (s : State) (l : List State) → eqb s.element g.element ≡ false → onto (g ∷ []) (s ∷ l) ≡ onto [] (s ∷ l) ++ (g ∷ [])
unfolding onto before
onto-apart g s l e = ap (λ (t : Bool). onto (cond t (with_state s g ∷ []) (alone s ∷ g ∷ [])) l) e ∙ onto-past (alone s) (g ∷ []) l

-- all states, in row order
pub onto-groups : (l : List State) → onto [] l ≡ groups (reverse l)
unfolding onto groups
onto-groups l = go [] l
  where
    go : (later l : List State) → onto (groups later) l ≡ groups (reverse_aux l later)
    go later [] = refl
    go later (s ∷ l) = go (s ∷ later) l
