-- Whether an external edge leads from some nodes to others, by the graph's links and by the relations, is the same; and it is what consistent triples ask.
-- Assumes nothing.
use mathlib.Core.Path.{◌≡◌, refl, sym}
use mathlib.Core.Bool.{Bool, true, false, ◌||◌}
use mathlib.Core.List.{List}
use mathlib.Core.Logic.{inl, inr, ⊎_elim}
use Prim.Native.Nat.{ℕ, suc, ◌<◌, ◌≤◌}
use native.Mathlib.Nat.{eq-or-lt_of_le}
use native.Mathlib.Omega.{arith}
use borrow.Author.Tests.{leb-true, le-leb}
use Rattle.lists.specs.Loops.{any_below}
use Rattle.lists.proofs.Loops.{and_both, both-and, or-either, or_right, any_some, any-stop}
use Rattle.network.specs.declared.link.Link.{Link}
use Rattle.network.specs.declared.joined.Nodes.{Nodes}
use Rattle.network.specs.Network.{Relations, relation_count}
use Rattle.network.specs.Graph.{node, relation_at, ahead, links_of}
use Rattle.network.specs.Triple.{connected, entered, departed}
use Rattle.network.specs.inner.Nodes.{side_nodes, element_nodes, within, joined, link_leads, relation_leads}
use Rattle.network.proofs.Links.{Leads, external-leads, leads-external}
use Rattle.network.proofs.Connected.{connected-external, external-connected}

-- two answers that follow from each other
same_answer : (a b : Bool) → (a ≡ true → b ≡ true) → (b ≡ true → a ≡ true) → a ≡ b
same_answer true b f g = sym (f refl)
same_answer false true f g = g refl
same_answer false false f g = refl

or_left : (a b : Bool) → a ≡ true → a || b ≡ true
or_left a b e = rw e

or-last : (a b : Bool) → b ≡ true → a || b ≡ true
or-last a b e = rw e (or_right a)

either_side : (test : ℕ → Bool) (side : ℕ) → side ≤ 1 → test side ≡ true → test 0 || test 1 ≡ true
either_side test side h e =
    ⊎_elim (λ (i : side ≡ 1). or-last (test 0) (test 1) (rw i at e)) (λ l. let i : side ≡ 0 = omega arith in or_left (test 0) (test 1) (rw i at e)) (eq-or-lt_of_le h)

-- ---- a range's nodes

within_low : (nodes : Nodes) (v : ℕ) → within nodes v ≡ true → (nodes.first ≤ v) × (v ≤ nodes.last)
unfolding within
within_low nodes v e = let p = and_both _ _ e in (leb-true _ _ p.0, leb-true _ _ p.1)

low-within : (nodes : Nodes) (v : ℕ) → nodes.first ≤ v → v ≤ nodes.last → within nodes v ≡ true
unfolding within
low-within nodes v l h = both-and (le-leb _ _ l) (le-leb _ _ h)

side-within : (element side : ℕ) → within (side_nodes element side) (node element side) ≡ true
side-within element side = low-within _ _ (omega arith) (omega arith)

within-side : (element side v : ℕ) → within (side_nodes element side) v ≡ true → v ≡ node element side
within-side element side v e = let p = within_low _ _ e in omega (arith, p)

element-within : (element side : ℕ) → side ≤ 1 → within (element_nodes element) (node element side) ≡ true
unfolding node
element-within element side h = low-within _ _ (omega arith) (omega arith)

pub within-element : (element v : ℕ) → within (element_nodes element) v ≡ true → (side : ℕ) × (side ≤ 1) × (v ≡ node element side)
unfolding node
within-element element v e =
    let p = within_low _ _ e in
    ⊎_elim (λ (i : node element 0 ≡ v). (0, omega arith, sym i)) (λ (l : node element 0 < v). (1, omega arith, omega (arith, p))) (eq-or-lt_of_le p.0)

-- ---- nodes that are joined

-- a node of the sources and one of the targets with an edge
pub record Edged (links : ℕ → List ℕ) (sources targets : Nodes) : Type 0 where
  pub source : ℕ
  pub target : ℕ
  pub starts : within sources source ≡ true
  pub ends : within targets target ≡ true
  pub edge : connected links source target ≡ true

module _ (links : ℕ → List ℕ) (sources targets : Nodes) where
  pub joined-edged : joined links sources targets ≡ true → Edged links sources targets
  unfolding joined
  joined-edged e =
      let v = any_some _ _ e in
      let p = and_both _ _ v.2 in
      let u = any_some _ _ p.1 in
      let q = and_both _ _ u.2 in
      record { source = v.0; target = u.0; starts = p.0; ends = q.0; edge = q.1 }

  pub edged-joined : Edged links sources targets → joined links sources targets ≡ true
  unfolding joined
  edged-joined E =
      let low : E.source < suc sources.last = omega (arith, within_low _ _ E.starts) in
      let low' : E.target < suc targets.last = omega (arith, within_low _ _ E.ends) in
      sym (any-stop E.source _ _ low (both-and E.starts (sym (any-stop E.target _ _ low' (both-and E.ends E.edge)))))

-- ---- by the relations

module _ (elements : ℕ) (rs : Relations) (sources targets : Nodes) where
  link-told : (l : Link) → link_leads sources targets l ≡ true → (within sources l.from ≡ true) × (within targets l.to ≡ true) × Leads l l.from l.to
  unfolding link_leads
  link-told l e =
      let p = and_both _ _ e in
      let q = and_both _ _ p.1 in
      (p.0, q.0, record { passable = q.1; from = refl; to = refl })

  told-link : (l : Link) (v u : ℕ) → within sources v ≡ true → within targets u ≡ true → Leads l v u → link_leads sources targets l ≡ true
  unfolding link_leads
  told-link l v u s t L = rw (L.from, L.to) (both-and s (both-and t L.passable))

  abbrev leads : ℕ → Bool
  leads k = relation_leads elements sources targets (relation_at rs k)

  relation-edged : (k : ℕ) → k < relation_count rs → leads k ≡ true → Edged (links_of elements rs) sources targets
  unfolding relation_leads
  relation-edged k h e =
      ⊎_elim
      (λ a. let p = link-told _ a in record { source = _; target = _; starts = p.0; ends = p.1; edge = external-connected (links_of elements rs) _ _ (leads-external elements rs _ _ k h (inl p.2)) })
      (λ b. let p = link-told _ b in record { source = _; target = _; starts = p.0; ends = p.1; edge = external-connected (links_of elements rs) _ _ (leads-external elements rs _ _ k h (inr p.2)) })
      (or-either _ _ e)

  edged-relation : Edged (links_of elements rs) sources targets → any_below (relation_count rs) leads ≡ true
  unfolding relation_leads
  edged-relation E =
      let k = external-leads elements rs E.source E.target (connected-external (links_of elements rs) _ _ E.edge) in
      let there : leads k.0 ≡ true = ⊎_elim (λ a. or_left _ _ (told-link _ _ _ E.starts E.ends a)) (λ b. or-last (link_leads sources targets (ahead elements (relation_at rs k.0))) _ (told-link _ _ _ E.starts E.ends b)) k.2 in
      sym (any-stop k.0 _ _ k.1 there)

  pub joined-relations : any_below (relation_count rs) leads ≡ joined (links_of elements rs) sources targets
  joined-relations =
      same_answer _ _ (λ e. let k = any_some _ _ e in edged-joined _ _ _ (relation-edged k.0 k.1 k.2)) (λ e. edged-relation (joined-edged _ _ _ e))

-- ---- what consistent triples ask

module _ (links : ℕ → List ℕ) (a b side : ℕ) where
  edged-entered : Edged links (element_nodes a) (side_nodes b side) → entered links a (node b side) ≡ true
  unfolding entered
  edged-entered E =
      let s = within-element a E.source E.starts in
      either_side (λ i. connected links (node a i) (node b side)) s.0 s.1 (rw (s.2, within-side b side E.target E.ends) at E.edge)

  entered-edged : (s : ℕ) → s ≤ 1 → connected links (node a s) (node b side) ≡ true → Edged links (element_nodes a) (side_nodes b side)
  entered-edged s h e = record { source = node a s; target = node b side; starts = element-within a s h; ends = side-within b side; edge = e }

  pub joined-entered : joined links (element_nodes a) (side_nodes b side) ≡ entered links a (node b side)
  unfolding entered
  joined-entered =
      same_answer _ _ (λ e. edged-entered (joined-edged _ _ _ e))
      (λ e. edged-joined _ _ _ (⊎_elim (entered-edged 0 (omega arith)) (entered-edged 1 (omega arith)) (or-either _ _ e)))

  edged-departed : Edged links (side_nodes b side) (element_nodes a) → departed links (node b side) a ≡ true
  unfolding departed
  edged-departed E =
      let s = within-element a E.target E.ends in
      either_side (λ i. connected links (node b side) (node a i)) s.0 s.1 (rw (s.2, within-side b side E.source E.starts) at E.edge)

  departed-edged : (s : ℕ) → s ≤ 1 → connected links (node b side) (node a s) ≡ true → Edged links (side_nodes b side) (element_nodes a)
  departed-edged s h e = record { source = node b side; target = node a s; starts = side-within b side; ends = element-within a s h; edge = e }

  pub joined-departed : joined links (side_nodes b side) (element_nodes a) ≡ departed links (node b side) a
  unfolding departed
  joined-departed =
      same_answer _ _ (λ e. edged-departed (joined-edged _ _ _ e))
      (λ e. edged-joined _ _ _ (⊎_elim (departed-edged 0 (omega arith)) (departed-edged 1 (omega arith)) (or-either _ _ e)))
