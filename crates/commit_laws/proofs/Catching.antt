-- A render leaves each error boundary with what it had caught, or else with what its children throw.
use Rattle.std.specs.List.{zip}
use Rattle.std.specs.Prelude.{Bool, List, None, Option, Some, [], false, if◌then◌else◌, is_some, refl, slice_set, suc, true, zero, ℕ, ℤ, ◌∷◌, ◌≡◌, ◌≤◌}
use Rattle.std.proofs.Common.{ap, arith, subst, sym, ◌∙◌}
use Rattle.rx_ast.specs.Syntax.{Component, components}
use Rattle.rx_rules.specs.Bounds.{depth_bound}
use Rattle.rx_rules.specs.Names.{component_at, component_number, root_name}
use Rattle.rx_catch.specs.declared.state.CatchState.TheVariants.{Caught, Fine}
use Rattle.rx_elem.specs.Compare.{old_nodes}
use Rattle.rx_elem.specs.Elements.{Element, Elements, gathered, listed}
use Rattle.rx_elem.specs.Identity.{identified}
use Rattle.rx_elem.specs.Numbers.{Numbers, numbered, numbered_host, numbered_in, numbered_instance, numbered_mark}
use Rattle.rx_elem.specs.Trees.{Forest, Mark, Node, child, children_if, element_of, elements_in, fallback_if, is_caught, is_hidden, node, none, of_boundary, of_catcher, of_host, of_instance, old_caught, plain, vacant}
use Rattle.rx_meaning.specs.Body.{Body, body_of, ready, throw, wait}
use Rattle.rx_meaning.specs.Catches.{AllCatch, Catches, OwnCatch, fallback_before, first_old, old_catch, rest_old}
use Rattle.rx_meaning.specs.Fresh.{Contexts, Place, Places, Sight, all_made, before, default_contexts, depth_limit, empty, fresh, inputs_at, instance_after, made, old_host, old_instance, one_throws, one_waits, over, over_boundary, over_catcher, place, place_of, render_all, render_list, rendered, root_element, shape_of, shape_of_body, shape_of_catcher, shape_of_component, throws, waits}
use Rattle.rx_meaning.specs.Levels.{Fits, body_depth, elements_depth}
use Rattle.rx_meaning.specs.Settled.{IfHidden}
use Rattle.rx_meaning.specs.Touched.{contexts_below}
use Rattle.rx_meaning.proofs.Depths.{ShapeFits, shape_fits}
use Rattle.rx_elem.proofs.Over.{over_children}
use Rattle.commit_laws.proofs.CommitSettles.{elements_stay, root_found}
use Rattle.commit_laws.proofs.Leaving.{zero_is_null}
use Rattle.commit_laws.proofs.Naming.{AllNamed, HasComponents, Named, body_named, listed_named, some_got}
use Rattle.commit_laws.proofs.OpenAwaits.{Beside, olds_beside}
use Rattle.commit_laws.proofs.Soundness.{marked_hidden}
use Rattle.rx_elem.specs.Elements as elements

-- What an old error boundary had caught

was_fine : (old : Option Node) → old_caught old ≡ None → old_catch old ≡ Fine
was_fine None h = refl
was_fine (Some (node e (of_instance i) ns fs)) h = refl
was_fine (Some (node e (of_host n) ns fs)) h = refl
was_fine (Some (node e (of_boundary b) ns fs)) h = refl
was_fine (Some (node e (of_catcher Fine) ns fs)) h = refl
was_fine (Some (node e (of_catcher (Caught x)) ns fs)) h = absurd (cc h)
was_fine (Some (node e plain ns fs)) h = refl

had_caught : (old : Option Node) (x : ℤ) → old_caught old ≡ Some x → old_catch old ≡ Caught x
had_caught None x h = absurd (cc h)
had_caught (Some (node e (of_instance i) ns fs)) x h = absurd (cc h)
had_caught (Some (node e (of_host n) ns fs)) x h = absurd (cc h)
had_caught (Some (node e (of_boundary b) ns fs)) x h = absurd (cc h)
had_caught (Some (node e (of_catcher Fine) ns fs)) x h = absurd (cc h)
had_caught (Some (node e (of_catcher (Caught y)) ns fs)) x h = let same : y ≡ x = cc in ap Caught same
had_caught (Some (node e plain ns fs)) x h = absurd (cc h)

-- Places and lists

-- what is known of a place, by what it gives
abbrev PlaceCatches : ℕ → Sight → Contexts → Element → Option Node → Place → Type 0
PlaceCatches n s cs e old empty = e ≡ elements.null
PlaceCatches n s cs e old (made x) = (element_of x ≡ e) × Catches n s cs old x
PlaceCatches n s cs e old (waits a) = Unit {0}
PlaceCatches n s cs e old (throws x) = Unit {0}

abbrev PlacesCatch : ℕ → Sight → Contexts → List Element → List (Option Node) → Places → Type 0
PlacesCatch n s cs es olds (all_made ns) = (elements_in ns ≡ es) × AllCatch n s cs olds ns
PlacesCatch n s cs es olds (one_waits a) = Unit {0}
PlacesCatch n s cs es olds (one_throws x) = Unit {0}

before_catches : (n : ℕ) (s : Sight) (cs : Contexts) (e : Element) (o : Option Node) (es : List Element) (olds : List (Option Node)) (p : Place) (ps : Places)
    → PlaceCatches n s cs e o p → PlacesCatch n s cs es olds ps → PlacesCatch n s cs (e ∷ es) (o ∷ olds) (before p ps)
before_catches n s cs e o es olds empty (all_made ns) h l = (rw (h, l.0) refl, l.1)
before_catches n s cs e o es olds empty (one_waits a) h l = tt
before_catches n s cs e o es olds empty (one_throws x) h l = tt
before_catches n s cs e o es olds (made m) (all_made ns) h l = (rw (h.0, l.0) refl, (h.1, l.1))
before_catches n s cs e o es olds (made m) (one_waits a) h l = tt
before_catches n s cs e o es olds (made m) (one_throws x) h l = tt
before_catches n s cs e o es olds (waits a) ps h l = tt
before_catches n s cs e o es olds (throws x) ps h l = tt

abbrev BelowCatches : ℕ → Sight → Type 0
BelowCatches n s = (cs : Contexts) (e : Element) (old : Option Node) → Named s.program e → Fits n s.program e → PlaceCatches n s cs e old (rendered n s cs e old)

all_catch : (n : ℕ) (s : Sight) → BelowCatches n s → (cs : Contexts) (es : List Element) (olds : List (Option Node)) → AllNamed s.program (gathered es)
    → elements_depth (body_depth n s.program) (gathered es) ≤ n → Beside es olds → PlacesCatch n s cs es olds (render_all (rendered n s cs) (zip es olds))
all_catch n s below cs [] olds named fits h = (refl, tt)
all_catch n s below cs (e ∷ es) [] named fits h = absurd h
all_catch n s below cs (e ∷ es) (o ∷ olds) named fits h =
    before_catches n s cs e o es olds (rendered n s cs e o) (render_all (rendered n s cs) (zip es olds)) (below cs e o named.0 (omega arith))
    (all_catch n s below cs es olds named.1 (omega arith) h)

list_catches : (n : ℕ) (s : Sight) → BelowCatches n s → (cs : Contexts) (es : List Element) (old : Forest) → AllNamed s.program (gathered es)
    → elements_depth (body_depth n s.program) (gathered es) ≤ n → PlacesCatch n s cs es (old_nodes old es) (render_list (rendered n s cs) es old)
list_catches n s below cs es old named fits =
    all_catch n s below cs es (old_nodes old es) named fits (olds_beside old (identified (elements_in old)) [] es)

same_catch : (n : ℕ) (s : Sight) (cs : Contexts) (old : Forest) (es : List Element) (ns : Forest) → elements_in ns ≡ es → AllCatch n s cs (old_nodes old es) ns
    → AllCatch n s cs (old_nodes old (elements_in ns)) ns
same_catch n s cs old es ns same h = subst (λ (xs : List Element). AllCatch n s cs (old_nodes old xs) ns) (sym same) h

-- a node over one list
over_catches : (n : ℕ) (s : Sight) (cs : Contexts) (e : Element) (m : Mark) (old : Option Node) (es : List Element) (ps : Places) → is_caught m ≡ false → is_hidden m ≡ false
    → OwnCatch n s cs e old m → PlacesCatch n s (contexts_below e cs) es (old_nodes (children_if old) es) ps → PlaceCatches (suc n) s cs e old (over e m ps)
over_catches n s cs e m old es (all_made ns) fine shown own h =
    subst (λ (x : Node). (element_of x ≡ e) × Catches (suc n) s cs old x) (sym (over_children e m ns fine)) (
      refl,
      (
        own,
        subst (λ (b : Bool). IfHidden b (Unit {0}) (AllCatch n s (contexts_below e cs) (old_nodes (children_if old) (elements_in ns)) ns)) (sym shown)
            (same_catch n s (contexts_below e cs) (children_if old) es ns h.0 h.1),
        tt,
      ),
    )
over_catches n s cs e m old es (one_waits a) fine shown own h = tt
over_catches n s cs e m old es (one_throws x) fine shown own h = tt

parts_catch : (n : ℕ) (s : Sight) (cs : Contexts) (key : _) (f : Element) (es : Elements) (old : Option Node) (ps qs : Places)
    → PlacesCatch n s cs (listed es) (old_nodes (children_if old) (listed es)) ps → PlacesCatch n s cs (f ∷ []) (old_nodes (fallback_if old) (f ∷ [])) qs
    → PlaceCatches (suc n) s cs (elements.boundary key f es) old (over_boundary (elements.boundary key f es) old ps qs)
parts_catch n s cs key f es old (all_made ns) qs h l = (refl, (tt, same_catch n s cs (children_if old) (listed es) ns h.0 h.1, tt))
parts_catch n s cs key f es old (one_waits a) (all_made fs) h l = (refl, (tt, tt, same_catch n s cs (fallback_if old) (f ∷ []) fs l.0 l.1))
parts_catch n s cs key f es old (one_waits a) (one_waits b) h l = tt
parts_catch n s cs key f es old (one_waits a) (one_throws x) h l = tt
parts_catch n s cs key f es old (one_throws x) qs h l = tt

-- an error boundary over its fallback
caught_catches : (n : ℕ) (s : Sight) (cs : Contexts) (key : _) (f : Element) (es : Elements) (x : ℤ) (old : Option Node) (qs : Places)
    → OwnCatch n s cs (elements.catcher key f es) old (of_catcher (Caught x))
    → PlacesCatch n s cs (f ∷ []) (old_nodes (fallback_before (of_catcher (Caught x)) old) (f ∷ [])) qs
    → PlaceCatches (suc n) s cs (elements.catcher key f es) old (over (elements.catcher key f es) (of_catcher (Caught x)) qs)
caught_catches n s cs key f es x old (all_made fs) own l =
    (refl, (own, tt, same_catch n s cs (fallback_before (of_catcher (Caught x)) old) (f ∷ []) fs l.0 l.1))
caught_catches n s cs key f es x old (one_waits a) own l = tt
caught_catches n s cs key f es x old (one_throws y) own l = tt

guarded_catch : (n : ℕ) (s : Sight) (cs : Contexts) (key : _) (f : Element) (es : Elements) (old : Option Node) → old_caught old ≡ None → (ps qs : Places)
    → render_list (rendered n s cs) (listed es) (children_if old) ≡ ps
    → PlacesCatch n s cs (listed es) (old_nodes (children_if old) (listed es)) ps → PlacesCatch n s cs (f ∷ []) (old_nodes none (f ∷ [])) qs
    → PlaceCatches (suc n) s cs (elements.catcher key f es) old (over_catcher (elements.catcher key f es) ps qs)
guarded_catch n s cs key f es old fine (all_made ns) qs same h l =
    (refl, (ap of_catcher (rw (was_fine old fine, same) refl), same_catch n s cs (children_if old) (listed es) ns h.0 h.1, tt))
guarded_catch n s cs key f es old fine (one_waits a) qs same h l = tt
guarded_catch n s cs key f es old fine (one_throws x) qs same h l =
    caught_catches n s cs key f es x old qs (ap of_catcher (rw (was_fine old fine, same) refl)) (anew old fine)
  where
    anew : (old : Option Node) → old_caught old ≡ None → PlacesCatch n s cs (f ∷ []) (old_nodes (fallback_before (of_catcher (Caught x)) old) (f ∷ [])) qs
    anew old fine = rw fine l

module _ (s : Sight) (some : HasComponents s.program) where
  comp_catches : (n : ℕ) → BelowCatches n s → (cs : Contexts) (c : ℕ) (key : _) (props : List ℤ) (given : Elements) (old : Option Node)
      → Named s.program (elements.comp c key props given) → Fits (suc n) s.program (elements.comp c key props given)
      → PlaceCatches (suc n) s cs (elements.comp c key props given) old
      (place_of (rendered n s) (elements.comp c key props given) old (shape_of s cs (elements.comp c key props given) old))
  comp_catches n below cs c key props given old named fits =
      found (component_at s.program c) refl named.0 (shape_fits n s cs (elements.comp c key props given) old fits)
    where
      given_body : (d : Component) → (b : Body) → body_of s.program d (inputs_at s cs props given (old_instance old)) ≡ b
          → ShapeFits n s.program (shape_of_body cs c old b)
          → PlaceCatches (suc n) s cs (elements.comp c key props given) old (place_of (rendered n s) (elements.comp c key props given) old (shape_of_body cs c old b))
      given_body d (wait r v) same fit = tt
      given_body d (throw x) same fit = tt
      given_body d (ready es effects initials reads versions) same fit =
          over_catches n s cs (elements.comp c key props given) (of_instance (instance_after c (old_instance old) initials reads versions effects)) old es
          (render_list (rendered n s cs) es (children_if old)) refl refl tt
          (list_catches n s below cs es (children_if old)
          (body_named s.program some d (inputs_at s cs props given (old_instance old)) (listed_named s.program given named.1) es effects initials reads versions same)
          fit)

      found : (d : Option Component) → component_at s.program c ≡ d → is_some d ≡ true → ShapeFits n s.program (shape_of_component s cs c props given old d)
          → PlaceCatches (suc n) s cs (elements.comp c key props given) old (place_of (rendered n s) (elements.comp c key props given) old (shape_of_component s cs c props given old d))
      found None same h fit = absurd (cc h)
      found (Some d) same h fit = given_body d (body_of s.program d (inputs_at s cs props given (old_instance old))) refl fit

  catcher_catches : (n : ℕ) → BelowCatches n s → (cs : Contexts) (key : _) (f : Element) (es : Elements) (old : Option Node) → Named s.program (elements.catcher key f es)
      → (caught : Option ℤ) → old_caught old ≡ caught → ShapeFits n s.program (shape_of_catcher cs f es old caught)
      → PlaceCatches (suc n) s cs (elements.catcher key f es) old (place_of (rendered n s) (elements.catcher key f es) old (shape_of_catcher cs f es old caught))
  catcher_catches n below cs key f es old named None same fit =
      guarded_catch n s cs key f es old same (render_list (rendered n s cs) (listed es) (children_if old)) (render_list (rendered n s cs) (f ∷ []) none) refl
      (list_catches n s below cs (listed es) (children_if old) (listed_named s.program es named.1) fit.0)
      (list_catches n s below cs (f ∷ []) none (named.0, tt) fit.1)
  catcher_catches n below cs key f es old named (Some x) same fit =
      caught_catches n s cs key f es x old (render_list (rendered n s cs) (f ∷ []) (fallback_if old))
      (ap of_catcher (rw (had_caught old x same) refl))
      (rw same (list_catches n s below cs (f ∷ []) (fallback_if old) (named.0, tt) fit))

  place_catches : (n : ℕ) → BelowCatches n s → (cs : Contexts) (e : Element) (old : Option Node) → Named s.program e → Fits (suc n) s.program e
      → PlaceCatches (suc n) s cs e old (place (rendered n s) s cs e old)
  place_catches n below cs elements.null old named fits = refl
  place_catches n below cs (elements.text t) old named fits = (refl, (tt, tt, tt))
  place_catches n below cs (elements.host name key attrs es) old named fits =
      over_catches n s cs (elements.host name key attrs es) (of_host (old_host old)) old (listed es) (render_list (rendered n s cs) (listed es) (children_if old)) refl refl tt
      (list_catches n s below cs (listed es) (children_if old) (listed_named s.program es named) (shape_fits n s cs (elements.host name key attrs es) old fits))
  place_catches n below cs (elements.comp c key props given) old named fits = comp_catches n below cs c key props given old named fits
  place_catches n below cs (elements.list marked es) old named fits =
      over_catches n s cs (elements.list marked es) plain old (listed es) (render_list (rendered n s cs) (listed es) (children_if old)) refl refl tt
      (list_catches n s below cs (listed es) (children_if old) (listed_named s.program es named) (shape_fits n s cs (elements.list marked es) old fits))
  place_catches n below cs (elements.boundary key f es) old named fits =
      let parts = shape_fits n s cs (elements.boundary key f es) old fits in
      parts_catch n s cs key f es old (render_list (rendered n s cs) (listed es) (children_if old)) (render_list (rendered n s cs) (f ∷ []) (fallback_if old))
      (list_catches n s below cs (listed es) (children_if old) (listed_named s.program es named.1) parts.0)
      (list_catches n s below cs (f ∷ []) (fallback_if old) (named.0, tt) parts.1)
  place_catches n below cs (elements.catcher key f es) old named fits =
      catcher_catches n below cs key f es old named (old_caught old) refl (shape_fits n s cs (elements.catcher key f es) old fits)
  place_catches n below cs (elements.provider c key x es) old named fits =
      over_catches n s cs (elements.provider c key x es) plain old (listed es) (render_list (rendered n s (slice_set cs c x)) (listed es) (children_if old)) refl refl tt
      (list_catches n s below (slice_set cs c x) (listed es) (children_if old) (listed_named s.program es named) (shape_fits n s cs (elements.provider c key x es) old fits))

  rendered_catches : (n : ℕ) → BelowCatches n s
  unfolding rendered
  rendered_catches zero cs e old named fits = sym (zero_is_null s.program e fits)
  rendered_catches (suc n) cs e old named fits = place_catches n (rendered_catches n) cs e old named fits

-- Numbering

own_catch_numbered : (n : ℕ) (s : Sight) (cs : Contexts) (c : Numbers) (e : Element) (old : Option Node) (m : Mark) → OwnCatch n s cs e old m → OwnCatch n s cs e old (numbered_mark c m).1
own_catch_numbered n s cs c elements.null old m h = tt
own_catch_numbered n s cs c (elements.text t) old m h = tt
own_catch_numbered n s cs c (elements.host name key attrs es) old m h = tt
own_catch_numbered n s cs c (elements.comp k key props given) old m h = tt
own_catch_numbered n s cs c (elements.list marked es) old m h = tt
own_catch_numbered n s cs c (elements.boundary key f es) old m h = tt
own_catch_numbered n s cs c (elements.catcher key f es) old m h = ap (λ (x : Mark). (numbered_mark c x).1) h
own_catch_numbered n s cs c (elements.provider k key x es) old m h = tt

marked_caught : (c : Numbers) (m : Mark) → is_caught m ≡ is_caught (numbered_mark c m).1
marked_caught c (of_instance i) = go i.number
  where
    go : (n : Option ℕ) → false ≡ is_caught (numbered_instance c i n).1
    go None = refl
    go (Some n) = refl
marked_caught c (of_host h) = go h
  where
    go : (n : Option ℕ) → false ≡ is_caught (numbered_host c n).1
    go None = refl
    go (Some n) = refl
marked_caught c plain = refl
marked_caught c (of_boundary b) = refl
marked_caught c (of_catcher k) = refl

kids_numbered : (n : ℕ) (s : Sight) (cs : Contexts) (c : Numbers) (old : Option Node) (ns : Forest) (b : Bool)
    → IfHidden b (Unit {0}) (AllCatch n s cs (old_nodes (children_if old) (elements_in ns)) ns)
    → (AllCatch n s cs (old_nodes (children_if old) (elements_in ns)) ns → AllCatch n s cs (old_nodes (children_if old) (elements_in ns)) (numbered_in c ns).1)
    → IfHidden b (Unit {0}) (AllCatch n s cs (old_nodes (children_if old) (elements_in (numbered_in c ns).1)) (numbered_in c ns).1)
kids_numbered n s cs c old ns true k f = tt
kids_numbered n s cs c old ns false k f =
    subst (λ (es : List Element). AllCatch n s cs (old_nodes (children_if old) es) (numbered_in c ns).1) (sym (elements_stay c ns)) (f k)

mutual
  catches_numbered : (n : ℕ) (s : Sight) (cs : Contexts) (c : Numbers) (old : Option Node) (x : Node) → Catches n s cs old x → Catches n s cs old (numbered c x).1
  catches_numbered zero s cs c old (node e m ns fs) h = tt
  catches_numbered (suc n) s cs c old (node e m ns fs) h = (
    own_catch_numbered n s cs c e old m h.0,
    subst (λ (b : Bool). IfHidden b (Unit {0}) (AllCatch n s (contexts_below e cs) (old_nodes (children_if old) (elements_in (numbered_in (numbered_mark c m).0 ns).1)) (numbered_in (numbered_mark c m).0 ns).1))
        (marked_hidden c m) (kids_numbered n s (contexts_below e cs) (numbered_mark c m).0 old ns (is_hidden m) h.1
        (all_catch_numbered n s (contexts_below e cs) (numbered_mark c m).0 (old_nodes (children_if old) (elements_in ns)) ns)),
    subst (λ (b : Bool). AllCatch n s cs (old_nodes (if b then (if is_some (old_caught old) then fallback_if old else none) else fallback_if old)
        (elements_in (numbered_in (numbered_in (numbered_mark c m).0 ns).0 fs).1)) (numbered_in (numbered_in (numbered_mark c m).0 ns).0 fs).1) (marked_caught c m)
        (subst (λ (es : List Element). AllCatch n s cs (old_nodes (fallback_before m old) es) (numbered_in (numbered_in (numbered_mark c m).0 ns).0 fs).1)
        (sym (elements_stay (numbered_in (numbered_mark c m).0 ns).0 fs))
        (all_catch_numbered n s cs (numbered_in (numbered_mark c m).0 ns).0 (old_nodes (fallback_before m old) (elements_in fs)) fs h.2)),
  )

  all_catch_numbered : (n : ℕ) (s : Sight) (cs : Contexts) (c : Numbers) (olds : List (Option Node)) (ns : Forest) → AllCatch n s cs olds ns → AllCatch n s cs olds (numbered_in c ns).1
  all_catch_numbered n s cs c olds none h = tt
  all_catch_numbered n s cs c olds (vacant ns) h = all_catch_numbered n s cs c (rest_old olds) ns h
  all_catch_numbered n s cs c olds (child x ns) h =
      (catches_numbered n s cs c (first_old olds) x h.0, all_catch_numbered n s cs (numbered c x).0 (rest_old olds) ns h.1)

-- Each visible error boundary of a tree that a render gives has caught what it had caught, or else what its children throw.
pub tree_catches : (s : Sight) (old : Option Node) (new : Node) (from : Numbers) → depth_bound s.program ≤ depth_limit → fresh s old ≡ made new
    → Catches depth_limit s (default_contexts s.program) old (numbered from new).1
unfolding fresh depth_bound
tree_catches s old new from deep gives =
    let root = root_found depth_limit s (default_contexts s.program) (component_number s.program root_name) None [] elements.none old new gives in
    let some : HasComponents s.program = some_got (components s.program) (component_number s.program root_name) root in
    catches_numbered depth_limit s (default_contexts s.program) from old new
    (go (rendered depth_limit s (default_contexts s.program) (root_element s.program) old) gives
    (rendered_catches s some depth_limit (default_contexts s.program) (root_element s.program) old (root, tt) (omega arith)))
  where
    go : (p : Place) → p ≡ made new → PlaceCatches depth_limit s (default_contexts s.program) (root_element s.program) old p → Catches depth_limit s (default_contexts s.program) old new
    go p same h = let x : PlaceCatches depth_limit s (default_contexts s.program) (root_element s.program) old (made new) = rw same at h in x.1
