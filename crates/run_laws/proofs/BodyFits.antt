-- The children of a settled node are less deep than its element.
use Rattle.std.specs.Prelude.{List, None, Some, [], false, map, refl, suc, ℕ, ℤ, ◌||◌, ◌+◌, ◌∷◌, ◌≡◌, ◌≤◌}
use Rattle.std.proofs.Common.{arith, inl, inr, subst}
use Rattle.rx_ast.specs.Syntax.{Component, Program, Slots, body_slots}
use Rattle.rx_rules.specs.Bounds.{body_by, levels, slots_by}
use Rattle.rx_rules.specs.Names.{component_at}
use Rattle.rx_elem.specs.Elements.{Element, Elements, gathered, listed}
use Rattle.rx_elem.specs.Elements as elements
use Rattle.rx_elem.specs.Trees.{Forest, Instance, Mark, elements_in, is_hidden, none, of_boundary}
use Rattle.rx_meaning.specs.Body.{Inputs, Taken, body_of, finished, opening_frame, stopped_at, take_all, taken, thrown}
use Rattle.rx_meaning.specs.Fresh.{Contexts, Sight, resource_numbers}
use Rattle.rx_meaning.specs.Levels.{Fits, body_depth, elements_depth}
use Rattle.rx_meaning.specs.Settled.{IsBodyOf, IsOwn, Known, done_values, read_anew, reads_another, refreshed}
use Rattle.rx_elem.proofs.Deciding.{or_fails}
use Rattle.rx_queue.specs.Journal.{values_at}
use Rattle.rx_meaning.proofs.Depths.{IsWithin, elements_no_less, gathered-listed, more_levels, shape_fits, slots_are_deep}
use Rattle.rx_susp.specs.declared.boundary.BoundaryState.TheVariants.{Hidden}

-- the places of a list need no more levels
abbrev pub ListFits : ℕ → Program → List Element → Type 0
ListFits n p es = elements_depth (body_depth n p) (gathered es) ≤ n

finished_within : (depths : ℕ → ℕ) (p : Program) (i : Inputs) (ss : Slots) (t : Taken)
    → IsWithin depths (slots_by levels depths p ss + elements_depth depths (gathered i.children)) (finished p i ss t)
finished_within depths p i ss (stopped_at r v) = tt
finished_within depths p i ss (thrown x) = tt
finished_within depths p i ss (taken f) = slots_are_deep depths p i.children f.env ss

body_within : (depths : ℕ → ℕ) (p : Program) (d : Component) (i : Inputs)
    → IsWithin depths (slots_by levels depths p (body_slots d.body) + elements_depth depths (gathered i.children)) (body_of p d i)
unfolding body_of
body_within depths p d i = finished_within depths p i (body_slots d.body) (take_all p i d.statements (opening_frame d i.props))

depth_of_body : (n : ℕ) (p : Program) (c : ℕ) (d : Component) → component_at p c ≡ Some d → body_depth (suc n) p c ≡ slots_by levels (body_depth n p) p (body_slots d.body)
unfolding body_by
depth_of_body n p c d there = rw there refl

-- what the body of an instance gave is less deep than its element
instance_fits : (n : ℕ) (p : Program) (k : Known) (version : ℕ → ℕ) (cs : Contexts) (c : ℕ) (key : _) (props : List ℤ) (given : Elements) (i : Instance) (es : List Element)
    → IsBodyOf p k c props given i es → (read_anew cs i.reads || refreshed version i.versions) ≡ false → Fits (suc n) p (elements.comp c key props given) → ListFits n p es
instance_fits n p k version cs c key props given i es body calm fits =
    let reads = or_fails (read_anew cs i.reads) (refreshed version i.versions) calm in
    let within = subst (IsWithin (body_depth n p) (slots_by levels (body_depth n p) p (body_slots body.component.body) + elements_depth (body_depth n p) (gathered (listed given)))) (body.gives cs version reads.0 reads.1)
    (body_within (body_depth n p) p body.component
    (record { props = props; children = listed given; hooks = Some (done_values p k body.instance i.initials); contexts = cs; versions = map version (resource_numbers p); resources = values_at k.resolutions (map version (resource_numbers p)) })) in
    let same : gathered (listed given) ≡ given = gathered-listed given in
    let inside : elements_depth (body_depth n p) (gathered es) ≤ slots_by levels (body_depth n p) p (body_slots body.component.body) + elements_depth (body_depth n p) given =
    subst (λ (gs : Elements). elements_depth (body_depth n p) (gathered es) ≤ slots_by levels (body_depth n p) p (body_slots body.component.body) + elements_depth (body_depth n p) gs) same within in
    omega (arith, fits, inside, depth_of_body n p c body.component body.is_component, elements_no_less (body_depth n p) (body_depth (suc n) p) (more_levels n p) given)

-- the same list
fits_as : (n : ℕ) (p : Program) (xs ys : List Element) → xs ≡ ys → ListFits n p ys → ListFits n p xs
fits_as n p xs ys same h = rw same h

nothing_fits : (n : ℕ) (p : Program) (fs : Forest) → fs ≡ none → ListFits n p (elements_in fs)
nothing_fits n p fs same = rw same (omega arith)

-- The children that a settled node shows need no more levels.
pub children_fit : (n : ℕ) (s : Sight) (k : Known) (version : ℕ → ℕ) (cs : Contexts) (e : Element) (m : Mark) (ns fs : Forest) → is_hidden m ≡ false → IsOwn s.program k e m ns fs
    → reads_another version cs m ≡ false → Fits (suc n) s.program e → ListFits n s.program (elements_in ns)
children_fit n s k version cs elements.null m ns fs shown own calm fits = absurd own
children_fit n s k version cs (elements.text t) m ns fs shown own calm fits = rw (own.2) (omega arith)
children_fit n s k version cs (elements.host name key attrs es) m ns fs shown own calm fits =
    fits_as n s.program (elements_in ns) (listed es) own.2 (shape_fits n s cs (elements.host name key attrs es) None fits)
children_fit n s k version cs (elements.comp c key props given) m ns fs shown own calm fits =
    let calm_instance : (read_anew cs own.0.reads || refreshed version own.0.versions) ≡ false = subst (λ (x : Mark). reads_another version cs x ≡ false) own.1 calm in
    instance_fits n s.program k version cs c key props given own.0 (elements_in ns) own.2 calm_instance fits
children_fit n s k version cs (elements.list marked es) m ns fs shown own calm fits =
    fits_as n s.program (elements_in ns) (listed es) own.1 (shape_fits n s cs (elements.list marked es) None fits)
children_fit n s k version cs (elements.boundary key f es) m ns fs shown (inl own) calm fits =
    let both = shape_fits n s cs (elements.boundary key f es) None fits in fits_as n s.program (elements_in ns) (listed es) own.1 both.0
children_fit n s k version cs (elements.boundary key f es) m ns fs shown (inr own) calm fits = absurd (clash own.0 own.1)
  where
    clash : (a : _) → m ≡ of_boundary (Hidden a) → ⊥
    clash a same = let none_hidden : is_hidden (of_boundary (Hidden a)) ≡ false = rw same at shown in cc none_hidden
children_fit n s k version cs (elements.catcher key f es) m ns fs shown (inl own) calm fits =
    let both = shape_fits n s cs (elements.catcher key f es) None fits in fits_as n s.program (elements_in ns) (listed es) own.1 both.0
children_fit n s k version cs (elements.catcher key f es) m ns fs shown (inr own) calm fits = nothing_fits n s.program ns own.2
children_fit n s k version cs (elements.provider c key x es) m ns fs shown own calm fits =
    fits_as n s.program (elements_in ns) (listed es) own.1 (shape_fits n s cs (elements.provider c key x es) None fits)

-- and those of its fallback
pub fallback_fits : (n : ℕ) (s : Sight) (k : Known) (cs : Contexts) (e : Element) (m : Mark) (ns fs : Forest) → IsOwn s.program k e m ns fs → Fits (suc n) s.program e
    → ListFits n s.program (elements_in fs)
fallback_fits n s k cs elements.null m ns fs own fits = absurd own
fallback_fits n s k cs (elements.text t) m ns fs own fits = nothing_fits n s.program fs own.3
fallback_fits n s k cs (elements.host name key attrs es) m ns fs own fits = nothing_fits n s.program fs own.3
fallback_fits n s k cs (elements.comp c key props given) m ns fs own fits = nothing_fits n s.program fs own.3
fallback_fits n s k cs (elements.list marked es) m ns fs own fits = nothing_fits n s.program fs own.2
fallback_fits n s k cs (elements.boundary key f es) m ns fs (inl own) fits = nothing_fits n s.program fs own.2
fallback_fits n s k cs (elements.boundary key f es) m ns fs (inr own) fits =
    let both = shape_fits n s cs (elements.boundary key f es) None fits in fits_as n s.program (elements_in fs) (f ∷ []) own.2 both.1
fallback_fits n s k cs (elements.catcher key f es) m ns fs (inl own) fits = nothing_fits n s.program fs own.2
fallback_fits n s k cs (elements.catcher key f es) m ns fs (inr own) fits =
    let both = shape_fits n s cs (elements.catcher key f es) None fits in fits_as n s.program (elements_in fs) (f ∷ []) own.3 both.1
fallback_fits n s k cs (elements.provider c key x es) m ns fs own fits = nothing_fits n s.program fs own.2
