-- What is rendered against a tree that fits, fits.
use Rattle.std.specs.Prelude.{◌≡◌, ℕ, zero, suc, ◌+◌, ◌≤◌, Bool, true, false, cond, List, [], ◌∷◌, ℤ, Option, Some, None, is_some, slice_set, refl}
use Rattle.std.specs.List.{zip}
use Rattle.std.proofs.Common.{arith, sym, subst}
use Rattle.rx_base.specs.Values.{Name}
use Rattle.rx_ast.specs.Syntax.{Program, Component, body_slots}
use Rattle.rx_rules.specs.Names.{component_number, component_at}
use Rattle.rx_elem.specs.Elements.{Element, Elements, gathered, listed}
use Rattle.rx_elem.specs.Elements as elements
use Rattle.rx_elem.specs.Identity.{Identity, identities}
use Rattle.rx_catch.specs.declared.state.CatchState.TheVariants.{Caught}
use Rattle.rx_elem.specs.Trees.{Node, node, Forest, Mark, of_catcher, none, vacant, child, children_if, fallback_if, elements_in, element_of, is_caught, old_caught}
use Rattle.rx_elem.specs.Trees as trees
use Rattle.rx_elem.specs.Compare.{old_nodes}
use Rattle.rx_elem.proofs.Over.{over_children}
use Rattle.rx_meaning.specs.Body.{Inputs, Body, wait, throw, ready, body_of, Taken, finished, take_all, opening_frame}
use Rattle.rx_meaning.specs.Body as body
use Rattle.rx_meaning.specs.Fresh.{Sight, Contexts, Renders, empty, Places, all_made, one_waits, one_throws, before, over, over_boundary, over_catcher, place, place_of, rendered, render_all, render_list, shape_of_body, shape_of_component, shape_of_catcher, inputs_at, old_instance, old_host, instance_after}
use Rattle.rx_rules.specs.Keys.{keyed_places, SlotsKeysApart, KeysApart}
use Rattle.rx_meaning.proofs.Depths.{gathered-listed}
use Rattle.render_laws.proofs.Plans.{Alts, Plan, fixed, end, next, slots_keyed, slots_plan, plan_in, body_plan}
use Rattle.render_laws.proofs.Coming.{Has, here, there, is_keyed, IsFew, AllCome, IsDeclared, all_come_less, comes_less, slots_few, slots_come}
use Rattle.render_laws.proofs.Fitting.{plans_of, IsThere, Used, FitsEach, Fits, FitsIn, FitsOld, nothing_used}
use Rattle.render_laws.proofs.FitLists.{HasPlan, first, later, Result, Sound, IfAll, if_all, list_fits}

-- what is asked of a program: keys stand apart, and each component that is named is declared
abbrev pub IsPlain : Program → Type 0
IsPlain p = KeysApart p × ((n : Name) → IsDeclared p (component_number p n))

-- a child list that is rendered fits
abbrev ListsFit : ℕ → Program → Renders → Type 0
ListsFit d p f =
    (ps : List Plan) (q : Plan) → HasPlan q ps → (es : List Element) → IsFew q (gathered es) → AllCome d p q (gathered es)
    → (old : Forest) → FitsIn ps old → IfAll (FitsIn ps) (render_list f es old)

pub has_primary : {p f : Plan} {a : Alts} → Has p f a → HasPlan p (plans_of true a)
has_primary here = first
has_primary (there h) = later (has_primary h)

pub has_fallback : {p f : Plan} {a : Alts} → Has p f a → HasPlan f (plans_of false a)
has_fallback here = first
has_fallback (there h) = later (has_fallback h)

pub has_is_there : {p f : Plan} {a : Alts} → Has p f a → IsThere a
has_is_there here = tt
has_is_there (there h) = tt

pub unused : List Plan → List (List Identity)
unused [] = []
unused (p ∷ ps) = [] ∷ unused ps

pub none_used : (ps : List Plan) → Used ps (unused ps)
unfolding unused
none_used [] = tt
none_used (p ∷ ps) = (nothing_used p, none_used ps)

-- nothing fits everywhere
pub fits_none : (ps : List Plan) → FitsIn ps none
fits_none ps = (unused ps, none_used ps, tt)

pub primary_fits : (a : Alts) (old : Option Node) → FitsOld a old → FitsIn (plans_of true a) (children_if old)
primary_fits a None h = fits_none (plans_of true a)
primary_fits a (Some (node e m ns fs)) h = h.1

pub fallback_fits : (a : Alts) (old : Option Node) → FitsOld a old → FitsIn (plans_of false a) (fallback_if old)
fallback_fits a None h = fits_none (plans_of false a)
fallback_fits a (Some (node e m ns fs)) h = h.2

over_fits : (a : Alts) (e : Element) (m : Mark) (ps : Places) → is_caught m ≡ false → IsThere a → IfAll (FitsIn (plans_of true a)) ps → Result a e (over e m ps)
over_fits a e m (all_made ns) fine at h =
    subst (λ (n : Node). Fits a n × (element_of n ≡ e)) (sym (over_children e m ns fine)) ((at, h, fits_none (plans_of false a)), refl)
over_fits a e m (one_waits w) fine at h = tt
over_fits a e m (one_throws x) fine at h = tt

-- an error boundary that has caught a value, over its fallback
caught_fits : (a : Alts) (e : Element) (x : ℤ) (fs : Places) → IsThere a → IfAll (FitsIn (plans_of false a)) fs → Result a e (over e (of_catcher (Caught x)) fs)
caught_fits a e x (all_made fs) at k = ((at, fits_none (plans_of true a), k), refl)
caught_fits a e x (one_waits w) at k = tt
caught_fits a e x (one_throws y) at k = tt

tried_fits : (a : Alts) (e : Element) (ps fs : Places) → IsThere a → IfAll (FitsIn (plans_of true a)) ps → IfAll (FitsIn (plans_of false a)) fs → Result a e (over_catcher e ps fs)
tried_fits a e (all_made ns) fs at h k = ((at, h, fits_none (plans_of false a)), refl)
tried_fits a e (one_waits w) fs at h k = tt
tried_fits a e (one_throws x) fs at h k = caught_fits a e x fs at k

parts_fit : (a : Alts) (e : Element) (old : Option Node) (ps fs : Places) → IsThere a → FitsOld a old
    → IfAll (FitsIn (plans_of true a)) ps → IfAll (FitsIn (plans_of false a)) fs → Result a e (over_boundary e old ps fs)
parts_fit a e old (all_made ns) fs at o h k = ((at, h, fits_none (plans_of false a)), refl)
parts_fit a e old (one_waits w) (all_made fs) at o h k = ((at, primary_fits a old o, k), refl)
parts_fit a e old (one_waits w) (one_waits v) at o h k = tt
parts_fit a e old (one_waits w) (one_throws x) at o h k = tt
parts_fit a e old (one_throws x) fs at o h k = tt

-- the elements of a body come from its plan
abbrev pub IfReady : ℕ → Program → Plan → Body → Type 0
IfReady d p q (wait r v) = Unit {0}
IfReady d p q (throw x) = Unit {0}
IfReady d p q (ready es effects initials reads versions) = IsFew q (gathered es) × AllCome d p q (gathered es)

body_fits : (a : Alts) (d : ℕ) (p : Program) (f : Contexts → Renders) → ((cs : Contexts) → ListsFit d p (f cs)) → (q g : Plan) → Has q g a
    → (e : Element) (cs : Contexts) (c : ℕ) (old : Option Node) → FitsOld a old → (b : Body) → IfReady d p q b → Result a e (place_of f e old (shape_of_body cs c old b))
body_fits a d p f lists q g has e cs c old o (wait r v) h = tt
body_fits a d p f lists q g has e cs c old o (throw x) h = tt
body_fits a d p f lists q g has e cs c old o (ready es effects initials reads versions) h =
    over_fits a e (trees.of_instance (instance_after c (old_instance old) initials reads versions effects)) (render_list (f cs) es (children_if old)) refl (has_is_there has)
    (lists cs (plans_of true a) q (has_primary has) es h.0 h.1 (children_if old) (primary_fits a old o))

finished_comes : (m d : ℕ) (p : Program) → IsPlain p → d ≤ m → (q : Plan) (i : Inputs) → IsFew q (gathered i.children) → AllCome d p q (gathered i.children)
    → (c : Component) → (keyed_places (body_slots c.body) ≤ 1) × SlotsKeysApart (body_slots c.body) → (t : Taken)
    → IfReady d p (slots_plan (body_plan m p) q p (body_slots c.body)) (finished p i (body_slots c.body) t)
finished_comes m d p plain deep q i few come c apart (body.stopped_at r v) = tt
finished_comes m d p plain deep q i few come c apart (body.thrown x) = tt
finished_comes m d p plain deep q i few come c apart (body.taken g) = (
  omega (arith, slots_few p i.children g.env (body_slots c.body), apart.0),
  slots_come m d p plain.1 deep q i.children few come g.env (body_slots c.body) (slots_keyed (body_plan m p) q p (body_slots c.body)) (λ x f h. h) apart.1,
)

-- the elements of a body come from the plan of its component
pub found_comes : (m d : ℕ) (p : Program) → IsPlain p → d ≤ m → (q : Plan) (i : Inputs) → IsFew q (gathered i.children) → AllCome d p q (gathered i.children)
    → (n : ℕ) (c : Component) → component_at p n ≡ Some c
    → IfReady d p (plan_in (body_plan m p) q p (Some c)) (body_of p c i)
unfolding body_of
found_comes m d p plain deep q i few come n c e =
    finished_comes m d p plain deep q i few come c (plain.0 n c e) (take_all p i c.statements (opening_frame c i.props))

-- One level

abbrev pub Come : ℕ → Program → Plan → Elements → Type 0
Come d p q es = IsFew q es × AllCome d p q es

pub come_listed : (d : ℕ) (p : Program) (q : Plan) (es : Elements) → IsFew q es → AllCome (suc d) p q es → Come d p q (gathered (listed es))
come_listed d p q es few come =
    subst (λ (fs : Elements). Come d p q fs) (sym (gathered-listed es)) (few, all_come_less d p q es come)

module _ (s : Sight) (apart : IsPlain s.program) (d : ℕ) (f : Contexts → Renders) (lists : (cs : Contexts) → ListsFit d s.program (f cs)) where
  node_fits : (cs : Contexts) (a : Alts) (q g : Plan) → Has q g a → (es : Elements) → IsFew q es → AllCome (suc d) s.program q es
      → (e : Element) (m : Mark) → is_caught m ≡ false → (old : Option Node) → FitsOld a old → Result a e (over e m (render_list (f cs) (listed es) (children_if old)))
  node_fits cs a q g has es few come e m fine old o =
      let c = come_listed d s.program q es few come in
      over_fits a e m (render_list (f cs) (listed es) (children_if old)) fine (has_is_there has)
      (lists cs (plans_of true a) q (has_primary has) (listed es) c.0 c.1 (children_if old) (primary_fits a old o))

  comp_fits : (cs : Contexts) (a : Alts) (c m : ℕ) (q g : Plan) → suc d ≤ m → Has (body_plan m s.program c q) g a
      → (props : List ℤ) (es : Elements) → IsFew q (gathered (listed es)) → AllCome d s.program q (gathered (listed es)) → IsDeclared s.program c
      → (e : Element) (old : Option Node) → FitsOld a old
      → Result a e (place_of f e old (shape_of_component s cs c props es old (component_at s.program c)))
  comp_fits cs a c zero q g deep has props es few come declared e old o = absurd (omega arith)
  comp_fits cs a c (suc m) q g deep has props es few come declared e old o = go (component_at s.program c) refl has
    where
      missing : (x : Option Component) → x ≡ None → is_some x ≡ true → ⊥
      missing None same h = cc
      missing (Some x) same h = cc

      go : (x : Option Component) → component_at s.program c ≡ x → Has (plan_in (body_plan m s.program) q s.program x) g a
          → Result a e (place_of f e old (shape_of_component s cs c props es old x))
      go None same h = absurd (missing (component_at s.program c) same declared)
      go (Some x) same h =
          body_fits a d s.program f lists (plan_in (body_plan m s.program) q s.program (Some x)) g h e cs c old o
          (body_of s.program x (inputs_at s cs props es (old_instance old)))
          (found_comes m d s.program apart (omega arith) q (inputs_at s cs props es (old_instance old)) few come c x same)

  -- an error boundary that had caught a value or not
  catcher_fits : (cs : Contexts) (a : Alts) (e : Element) (q : Plan) (b c : Alts) → Has q (fixed (next b end) c) a → (k : Element) (es : Elements) → IsFew q es → AllCome (suc d) s.program q es
      → AllCome d s.program (fixed (next b end) c) (gathered (k ∷ [])) → IsFew (fixed (next b end) c) (gathered (k ∷ [])) → (old : Option Node) → FitsOld a old → (caught : Option ℤ)
      → Result a e (place_of f e old (shape_of_catcher cs k es old caught))
  catcher_fits cs a e q b c has k es few come other one old o None =
      let kids = come_listed d s.program q es few come in
      tried_fits a e (render_list (f cs) (listed es) (children_if old)) (render_list (f cs) (k ∷ []) none) (has_is_there has)
      (lists cs (plans_of true a) q (has_primary has) (listed es) kids.0 kids.1 (children_if old) (primary_fits a old o))
      (lists cs (plans_of false a) (fixed (next b end) c) (has_fallback has) (k ∷ []) one other none (fits_none (plans_of false a)))
  catcher_fits cs a e q b c has k es few come other one old o (Some x) =
      caught_fits a e x (render_list (f cs) (k ∷ []) (fallback_if old)) (has_is_there has)
      (lists cs (plans_of false a) (fixed (next b end) c) (has_fallback has) (k ∷ []) one other (fallback_if old) (fallback_fits a old o))

  pub place_fits : (cs : Contexts) → Sound (suc d) s.program (place f s cs)
  place_fits cs a elements.null old h o = refl
  place_fits cs a (elements.text t) old h o = ((has_is_there h.2, fits_none (plans_of true a), fits_none (plans_of false a)), refl)
  place_fits cs a (elements.host n k attrs es) old h o =
      node_fits cs a h.0 h.1 h.2 es h.3 h.4 (elements.host n k attrs es) (trees.of_host (old_host old)) refl old o
  place_fits cs a (elements.comp c k props es) old h o =
      let kids = come_listed d s.program h.1 es h.5 h.6 in
      comp_fits cs a c h.0 h.1 h.2 h.3 h.4 props es kids.0 kids.1 h.7 (elements.comp c k props es) old o
  place_fits cs a (elements.list marked es) old h o = node_fits cs a h.0 h.1 h.2 es h.3 h.4 (elements.list marked es) trees.plain refl old o
  place_fits cs a (elements.boundary k e es) old h o =
      let c = come_listed d s.program h.0 es h.4 h.5 in
      parts_fit a (elements.boundary k e es) old
      (render_list (f cs) (listed es) (children_if old)) (render_list (f cs) (e ∷ []) (fallback_if old)) (has_is_there h.3) o
      (lists cs (plans_of true a) h.0 (has_primary h.3) (listed es) c.0 c.1 (children_if old) (primary_fits a old o))
      (lists cs (plans_of false a) (fixed (next h.1 end) h.2) (has_fallback h.3) (e ∷ []) (one_few (is_keyed e))
      (comes_less d s.program (cond (is_keyed e) h.2 h.1) e h.6, tt) (fallback_if old) (fallback_fits a old o))
    where
      one_few : (b : Bool) → cond b 1 0 + 0 ≤ 1
      one_few true = omega arith
      one_few false = omega arith
  place_fits cs a (elements.catcher k e es) old h o =
      catcher_fits cs a (elements.catcher k e es) h.0 h.1 h.2 h.3 e es h.4 h.5
      (comes_less d s.program (cond (is_keyed e) h.2 h.1) e h.6, tt) (one_few (is_keyed e)) old o (old_caught old)
    where
      one_few : (b : Bool) → cond b 1 0 + 0 ≤ 1
      one_few true = omega arith
      one_few false = omega arith
  place_fits cs a (elements.provider c k x es) old h o =
      node_fits (slice_set cs c x) a h.0 h.1 h.2 es h.3 h.4 (elements.provider c k x es) trees.plain refl old o

-- All levels

abbrev pub AllVacant : Forest → Type 0
AllVacant none = Unit {0}
AllVacant (vacant ns) = AllVacant ns
AllVacant (child n ns) = ⊥

pub vacant_fits : (ps : List Plan) (us : List (List Identity)) (ids : List Identity) (ns : Forest) → AllVacant ns → FitsEach ps us ids ns
vacant_fits ps us ids none h = tt
vacant_fits ps us [] (vacant ns) h = vacant_fits ps us [] ns h
vacant_fits ps us (i ∷ ids) (vacant ns) h = vacant_fits ps us ids ns h
vacant_fits ps us [] (child n ns) h = h
vacant_fits ps us (i ∷ ids) (child n ns) h = absurd h

empty_before : (xs : Places) → IfAll AllVacant xs → IfAll AllVacant (before empty xs)
empty_before (all_made ns) h = h
empty_before (one_waits w) h = tt
empty_before (one_throws x) h = tt

none_rendered : (s : Sight) (cs : Contexts) (xs : List (Element × Option Node)) → IfAll AllVacant (render_all (rendered zero s cs) xs)
unfolding rendered
none_rendered s cs [] = tt
none_rendered s cs (x ∷ xs) = empty_before (render_all (rendered zero s cs) xs) (none_rendered s cs xs)

pub lists_fit : (n : ℕ) (s : Sight) → IsPlain s.program → (cs : Contexts) → ListsFit n s.program (rendered n s cs)
unfolding rendered
lists_fit zero s apart cs ps q h es few come old fits =
    if_all AllVacant (FitsIn ps) (λ ns v. (unused ps, none_used ps, vacant_fits ps (unused ps) (identities (elements_in ns)) ns v))
    (render_list (rendered zero s cs) es old) (none_rendered s cs (zip es (old_nodes old es)))
lists_fit (suc n) s apart cs ps q h es few come old fits =
    list_fits (suc n) s.program (rendered (suc n) s cs) (place_fits s apart n (rendered n s) (lists_fit n s apart) cs) ps q h es few come old fits

-- a place that is rendered with any number of levels fits
pub rendered_fits : (n : ℕ) (s : Sight) → IsPlain s.program → (cs : Contexts) → Sound (suc n) s.program (rendered (suc n) s cs)
unfolding rendered
rendered_fits n s apart cs = place_fits s apart n (rendered n s) (lists_fit n s apart) cs
