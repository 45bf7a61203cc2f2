-- What a render leaves: each component as its body gave it, and what hidden boundaries keep as it was.
use Rattle.std.specs.List.{zip}
use Rattle.std.specs.Option.{option_flatten}
use Rattle.std.specs.Prelude.{List, None, Option, Some, [], false, is_some, length, map, option_and_then, position, refl, slice_get, slice_index_or, slice_set, suc, true, zero, ℕ, ℤ, ◌++◌, ◌∷◌, ◌≡◌, ◌≤◌}
use Rattle.std.proofs.Common.{ap, arith, inl, inr, subst, sym, ◌∙◌}
use Rattle.rx_ast.specs.Syntax.{Component, Program}
use Rattle.rx_rules.specs.Names.{component_at, resources}
use Rattle.rx_elem.specs.Compare.{node_at, old_nodes}
use Rattle.rx_elem.specs.Elements.{Element, Elements, gathered, listed}
use Rattle.rx_elem.specs.Identity.{Child, identified, identities_after, is_same_child}
use Rattle.rx_elem.specs.Trees.{Forest, Instance, Mark, Node, child, children_if, element_of, elements_in, fallback_if, instance_in, is_caught, node, none, of_catcher, of_host, of_instance, old_caught, places, plain, vacant}
use Rattle.rx_catch.specs.declared.state.CatchState.TheVariants.{Caught}
use Rattle.rx_elem.specs.declared.effect.ContextRead.{ContextRead}
use Rattle.rx_elem.specs.declared.effect.EffectRecord.{EffectRecord}
use Rattle.rx_elem.specs.declared.effect.VersionRead.{VersionRead}
use Rattle.rx_queue.specs.Journal.{resolutions_by, values_at}
use Rattle.commit_laws.proofs.Versions.{value_there, version_at}
use Rattle.rx_meaning.specs.Body.{Body, body_of, ready, throw, wait}
use Rattle.rx_meaning.specs.Fresh.{Contexts, Place, Places, Sight, all_made, before, empty, inputs_at, instance_after, made, old_host, old_instance, one_throws, one_waits, over, over_boundary, over_catcher, place, place_of, render_all, render_list, rendered, resource_numbers, resources_seen, shape_of, shape_of_body, shape_of_catcher, shape_of_component, throws, version_seen, versions_seen, waits}
use Rattle.commit_laws.proofs.BodyLaw.{IsFull, agreeing, body_agrees, body_read, body_seen}
use Rattle.rx_meaning.proofs.Depths.{ShapeFits, shape_fits}
use Rattle.rx_elem.proofs.Identities.{child_of}
use Rattle.rx_elem.proofs.Over.{over_children}
use Rattle.commit_laws.proofs.Naming.{AllNamed, HasComponents, Named, body_named, listed_named}
use Rattle.rx_meaning.specs.Levels.{Fits, body_depth, elements_depth}
use Rattle.commit_laws.proofs.Rendered.{AllRendered, IsBodyIn, IsRendered}
use Rattle.rx_meaning.specs.Settled.{AllSettled, IfSettled, IsOwn, Known}
use Rattle.rx_rules.specs.Reads.{ReadsDeclared}
use Rattle.rx_elem.specs.Elements as elements

-- what is known of a place, by what it gives
abbrev pub PlaceIs : Sight → Known → Contexts → Element → Place → Type 0
PlaceIs s k cs e empty = e ≡ elements.null
PlaceIs s k cs e (made n) = (element_of n ≡ e) × IsRendered s k cs n
PlaceIs s k cs e (waits a) = Unit {0}
PlaceIs s k cs e (throws x) = Unit {0}

abbrev PlacesAre : Sight → Known → Contexts → List Element → Places → Type 0
PlacesAre s k cs es (all_made ns) = (elements_in ns ≡ es) × AllRendered s k cs ns
PlacesAre s k cs es (one_waits a) = Unit {0}
PlacesAre s k cs es (one_throws x) = Unit {0}

-- the old nodes of a list
abbrev AllOld : Program → Known → List Element → List (Option Node) → Type 0
AllOld p k [] olds = Unit {0}
AllOld p k (e ∷ es) [] = ⊥
AllOld p k (e ∷ es) (o ∷ olds) = IfSettled p k o × AllOld p k es olds

got_settled : (p : Program) (k : Known) (ns : Forest) → AllSettled p k ns → (q : ℕ) → IfSettled p k (option_flatten (slice_get (places ns) q))
got_settled p k none h q = tt
got_settled p k (vacant ns) h zero = tt
got_settled p k (vacant ns) h (suc q) = got_settled p k ns h q
got_settled p k (child n ns) h zero = h.0
got_settled p k (child n ns) h (suc q) = got_settled p k ns h.1 q

pub node_settled : (p : Program) (k : Known) (ns : Forest) → AllSettled p k ns → (q : Option ℕ) → IfSettled p k (option_and_then (node_at ns) q)
node_settled p k ns h None = tt
node_settled p k ns h (Some q) = got_settled p k ns h q

olds_settled : (p : Program) (k : Known) (ns : Forest) → AllSettled p k ns → (all : List Child) (before es : List Element)
    → AllOld p k es (map (option_and_then (node_at ns)) (map (λ c. position (is_same_child c) all) (map child_of (zip (identities_after before es) es))))
olds_settled p k ns h all before [] = tt
olds_settled p k ns h all before (e ∷ es) = (node_settled p k ns h (position (is_same_child _) all), olds_settled p k ns h all (before ++ e ∷ []) es)

pub zero_is_null : (p : Program) (e : Element) → Fits zero p e → elements.null ≡ e
zero_is_null p elements.null h = refl
zero_is_null p (elements.text t) h = absurd (omega arith)
zero_is_null p (elements.host n key attrs es) h = absurd (omega arith)
zero_is_null p (elements.comp c key props es) h = absurd (omega arith)
zero_is_null p (elements.list marked es) h = absurd (omega arith)
zero_is_null p (elements.boundary key f es) h = absurd (omega arith)
zero_is_null p (elements.catcher key f es) h = absurd (omega arith)
zero_is_null p (elements.provider c key x es) h = absurd (omega arith)

before_is : (s : Sight) (k : Known) (cs : Contexts) (e : Element) (es : List Element) (p : Place) (ps : Places) → PlaceIs s k cs e p → PlacesAre s k cs es ps
    → PlacesAre s k cs (e ∷ es) (before p ps)
before_is s k cs e es empty (all_made ns) h l = (rw (h, l.0) refl, l.1)
before_is s k cs e es empty (one_waits a) h l = tt
before_is s k cs e es empty (one_throws x) h l = tt
before_is s k cs e es (made n) (all_made ns) h l = (rw (h.0, l.0) refl, (h.1, l.1))
before_is s k cs e es (made n) (one_waits a) h l = tt
before_is s k cs e es (made n) (one_throws x) h l = tt
before_is s k cs e es (waits a) ps h l = tt
before_is s k cs e es (throws x) ps h l = tt

abbrev BelowIs : ℕ → Sight → Known → Type 0
BelowIs n s k = (cs : Contexts) (e : Element) (old : Option Node) → IsFull s.program cs → Named s.program e → Fits n s.program e → IfSettled s.program k old → PlaceIs s k cs e (rendered n s cs e old)

all_are : (n : ℕ) (s : Sight) (k : Known) → BelowIs n s k → (cs : Contexts) (es : List Element) (olds : List (Option Node)) → IsFull s.program cs → AllNamed s.program (gathered es)
    → elements_depth (body_depth n s.program) (gathered es) ≤ n → AllOld s.program k es olds → PlacesAre s k cs es (render_all (rendered n s cs) (zip es olds))
all_are n s k below cs [] olds full named fits h = (refl, tt)
all_are n s k below cs (e ∷ es) [] full named fits h = absurd h
all_are n s k below cs (e ∷ es) (o ∷ olds) full named fits h =
    before_is s k cs e es (rendered n s cs e o) (render_all (rendered n s cs) (zip es olds)) (below cs e o full named.0 (omega arith) h.0)
    (all_are n s k below cs es olds full named.1 (omega arith) h.1)

pub children_settled : (p : Program) (k : Known) (old : Option Node) → IfSettled p k old → AllSettled p k (children_if old)
children_settled p k None h = tt
children_settled p k (Some (node e m ns fs)) h = h.1

pub fallback_settled : (p : Program) (k : Known) (old : Option Node) → IfSettled p k old → AllSettled p k (fallback_if old)
fallback_settled p k None h = tt
fallback_settled p k (Some (node e m ns fs)) h = h.2

-- a list of children against settled old ones
list_is : (n : ℕ) (s : Sight) (k : Known) → BelowIs n s k → (cs : Contexts) (es : List Element) (old : Forest) → IsFull s.program cs → AllNamed s.program (gathered es)
    → elements_depth (body_depth n s.program) (gathered es) ≤ n → AllSettled s.program k old → PlacesAre s k cs es (render_list (rendered n s cs) es old)
list_is n s k below cs es old full named fits h =
    all_are n s k below cs es (old_nodes old es) full named fits (olds_settled s.program k old h (identified (elements_in old)) [] es)

no_instance : (o : Option Instance) (i : Instance) → o ≡ None → o ≡ Some i → ⊥
no_instance o i h l = cc (h, l)

-- a settled instance has a number
own_number : (p : Program) (k : Known) (e : Element) (m : Mark) (ns fs : Forest) → IsOwn p k e m ns fs → (i : Instance) → instance_in m ≡ Some i
    → (n : ℕ) × (i.number ≡ Some n)
own_number p k elements.null m ns fs own i h = absurd own
own_number p k (elements.text t) m ns fs own i h = absurd (no_instance (instance_in m) i (ap instance_in own.1) h)
own_number p k (elements.host n key attrs es) m ns fs own i h = absurd (no_instance (instance_in m) i (ap instance_in own.1) h)
own_number p k (elements.comp c key props given) m ns fs own i h =
    let there : Some own.0 ≡ Some i = sym (ap instance_in own.1) ∙ h in
    let same : own.0 ≡ i = cc in
    (own.2.instance, ap (λ (j : Instance). j.number) (sym same) ∙ own.2.is_numbered)
own_number p k (elements.list marked es) m ns fs own i h = absurd (no_instance (instance_in m) i (ap instance_in own.0) h)
own_number p k (elements.boundary key f es) m ns fs (inl own) i h = absurd (no_instance (instance_in m) i (ap instance_in own.0) h)
own_number p k (elements.boundary key f es) m ns fs (inr own) i h = absurd (no_instance (instance_in m) i (ap instance_in own.1) h)
own_number p k (elements.catcher key f es) m ns fs (inl own) i h = absurd (no_instance (instance_in m) i (ap instance_in own.0) h)
own_number p k (elements.catcher key f es) m ns fs (inr own) i h = absurd (no_instance (instance_in m) i (ap instance_in own.1) h)
own_number p k (elements.provider c key x es) m ns fs own i h = absurd (no_instance (instance_in m) i (ap instance_in own.0) h)

old_number : (p : Program) (k : Known) (old : Option Node) → IfSettled p k old → (i : Instance) → old_instance old ≡ Some i → (n : ℕ) × (i.number ≡ Some n)
old_number p k None h i e = absurd (cc e)
old_number p k (Some (node e m ns fs)) h i same = own_number p k e m ns fs h.0 i same

-- what a render sees a value of is a resource, in the version that it sees
seen_in_versions : (s : Sight) (r : ℕ) (x : ℤ) → slice_index_or (resources_seen s) r None ≡ Some x → slice_index_or (versions_seen s) r 0 ≡ version_seen s r
seen_in_versions s r x h =
    let there = value_there (resolutions_by s.cut s.journal) (version_seen s) (length (resources s.program)) r x h in
    version_at (version_seen s) (length (resources s.program)) r there.0

-- the body of a component leaves its instance so
body_is : (s : Sight) (k : Known) → ReadsDeclared s.program → (cs : Contexts) → IsFull s.program cs → (c : ℕ) (d : Component) → component_at s.program c ≡ Some d
    → (props : List ℤ) (given : Elements) (old : Option Node) → IfSettled s.program k old
    → (es : List Element) (effects : List EffectRecord) (initials : List ℤ) (reads : List ContextRead) (versions : List VersionRead)
    → body_of s.program d (inputs_at s cs props given (old_instance old)) ≡ ready es effects initials reads versions
    → IsBodyIn s cs c props given (instance_after c (old_instance old) initials reads versions effects) es
body_is s k declared cs full c d found props given old settled es effects initials reads versions b = go (old_instance old) refl b
  where
    go : (i : Option Instance) → old_instance old ≡ i
        → body_of s.program d (inputs_at s cs props given i) ≡ ready es effects initials reads versions
        → IsBodyIn s cs c props given (instance_after c i initials reads versions effects) es
    go None same b =
        record {
          component = d;
          is_component = found;
          is_of = refl;
          initials = initials;
          mounts = λ h. refl;
          was_read = body_read s.program d (inputs_at s cs props given None) es effects initials reads versions full (declared c d found) b;
          was_seen = body_seen s.program d (inputs_at s cs props given None) (version_seen s) (seen_in_versions s) es effects initials reads versions b;
          gives = λ ds version agrees same. body_agrees s.program (inputs_at s cs props given None) ds version (map version (resource_numbers s.program))
              (values_at (resolutions_by s.cut s.journal) (map version (resource_numbers s.program))) d es effects initials reads versions
              (agreeing s.program (inputs_at s cs props given None) ds (version_seen s) version (resolutions_by s.cut s.journal) (resolutions_by s.cut s.journal)
              refl refl (λ r v x h. h) reads versions agrees same) b;
        }
    go (Some i) same b =
        record {
          component = d;
          is_component = found;
          is_of = refl;
          initials = initials;
          mounts = λ h. absurd (numbered (old_number s.program k old settled i same) h);
          was_read = body_read s.program d (inputs_at s cs props given (Some i)) es effects initials reads versions full (declared c d found) b;
          was_seen = body_seen s.program d (inputs_at s cs props given (Some i)) (version_seen s) (seen_in_versions s) es effects initials reads versions b;
          gives = λ ds version agrees same. body_agrees s.program (inputs_at s cs props given (Some i)) ds version (map version (resource_numbers s.program))
              (values_at (resolutions_by s.cut s.journal) (map version (resource_numbers s.program))) d es effects initials reads versions
              (agreeing s.program (inputs_at s cs props given (Some i)) ds (version_seen s) version (resolutions_by s.cut s.journal) (resolutions_by s.cut s.journal)
              refl refl (λ r v x h. h) reads versions agrees same) b;
        }
      where
        numbered : ((n : ℕ) × (i.number ≡ Some n)) → i.number ≡ None → ⊥
        numbered (n, x) h = cc (x, h)

-- One place

-- a node over one list
over_is : (s : Sight) (k : Known) (cs ds : Contexts) (e : Element) (m : Mark) (es : List Element) (ps : Places) → is_caught m ≡ false → PlacesAre s k ds es ps
    → ((ns : Forest) → elements_in ns ≡ es → AllRendered s k ds ns → IsRendered s k cs (node e m ns none)) → PlaceIs s k cs e (over e m ps)
over_is s k cs ds e m es (all_made ns) fine h f = subst (λ (n : Node). (element_of n ≡ e) × IsRendered s k cs n) (sym (over_children e m ns fine)) (refl, f ns h.0 h.1)
over_is s k cs ds e m es (one_waits a) fine h f = tt
over_is s k cs ds e m es (one_throws x) fine h f = tt

set_length : (xs : List ℤ) (i : ℕ) (x : ℤ) → length (slice_set xs i x) ≡ length xs
set_length [] i x = refl
set_length (y ∷ ys) zero x = refl
set_length (y ∷ ys) (suc i) x = omega (arith, set_length ys i x)

pub full_set : (p : Program) (cs : Contexts) (c : ℕ) (x : ℤ) → IsFull p cs → IsFull p (slice_set cs c x)
full_set p cs c x h = set_length cs c x ∙ h

parts_are : (s : Sight) (k : Known) (cs : Contexts) (key : _) (f : Element) (es : Elements) (old : Option Node) (ps qs : Places) → IfSettled s.program k old
    → PlacesAre s k cs (listed es) ps → PlacesAre s k cs (f ∷ []) qs → PlaceIs s k cs (elements.boundary key f es) (over_boundary (elements.boundary key f es) old ps qs)
parts_are s k cs key f es old (all_made ns) qs settled h l = (refl, (inl (refl, h.0, refl), h.1, tt))
parts_are s k cs key f es old (one_waits a) (all_made fs) settled h l =
    (refl, (inr (a, refl, l.0), children_settled s.program k old settled, l.1))
parts_are s k cs key f es old (one_waits a) (one_waits b) settled h l = tt
parts_are s k cs key f es old (one_waits a) (one_throws x) settled h l = tt
parts_are s k cs key f es old (one_throws x) qs settled h l = tt

-- an error boundary over its fallback
caught_is : (s : Sight) (k : Known) (cs : Contexts) (key : _) (f : Element) (es : Elements) (x : ℤ) (qs : Places) → PlacesAre s k cs (f ∷ []) qs
    → PlaceIs s k cs (elements.catcher key f es) (over (elements.catcher key f es) (of_catcher (Caught x)) qs)
caught_is s k cs key f es x (all_made fs) l = (refl, (inr (x, refl, refl, l.0), tt, l.1))
caught_is s k cs key f es x (one_waits a) l = tt
caught_is s k cs key f es x (one_throws y) l = tt

guarded_is : (s : Sight) (k : Known) (cs : Contexts) (key : _) (f : Element) (es : Elements) (ps qs : Places) → PlacesAre s k cs (listed es) ps → PlacesAre s k cs (f ∷ []) qs
    → PlaceIs s k cs (elements.catcher key f es) (over_catcher (elements.catcher key f es) ps qs)
guarded_is s k cs key f es (all_made ns) qs h l = (refl, (inl (refl, h.0, refl), h.1, tt))
guarded_is s k cs key f es (one_waits a) qs h l = tt
guarded_is s k cs key f es (one_throws x) qs h l = caught_is s k cs key f es x qs l

body_depth_is : (n : ℕ) (s : Sight) (cs : Contexts) (c : ℕ) (old : Option Node) (b : Body) → ShapeFits n s.program (shape_of_body cs c old b)
    → (es : List Element) (effects : List EffectRecord) (initials : List ℤ) (reads : List ContextRead) (versions : List VersionRead) → b ≡ ready es effects initials reads versions
    → elements_depth (body_depth n s.program) (gathered es) ≤ n
body_depth_is n s cs c old (wait r v) h es effects initials reads versions same = absurd (cc same)
body_depth_is n s cs c old (throw x) h es effects initials reads versions same = absurd (cc same)
body_depth_is n s cs c old (ready xs e i r v) h es effects initials reads versions same =
    let equal : xs ≡ es = cc in subst (λ (ys : List Element). elements_depth (body_depth n s.program) (gathered ys) ≤ n) equal h

module _ (s : Sight) (k : Known) (declared : ReadsDeclared s.program) (some : HasComponents s.program) where
  comp_is : (n : ℕ) → BelowIs n s k → (cs : Contexts) → IsFull s.program cs → (c : ℕ) (key : _) (props : List ℤ) (given : Elements) (old : Option Node)
      → Named s.program (elements.comp c key props given) → Fits (suc n) s.program (elements.comp c key props given) → IfSettled s.program k old
      → PlaceIs s k cs (elements.comp c key props given)
      (place_of (rendered n s) (elements.comp c key props given) old (shape_of s cs (elements.comp c key props given) old))
  comp_is n below cs full c key props given old named fits settled =
      found (component_at s.program c) refl named.0 (shape_fits n s cs (elements.comp c key props given) old fits)
    where
      given_body : (d : Component) → component_at s.program c ≡ Some d → (b : Body) → body_of s.program d (inputs_at s cs props given (old_instance old)) ≡ b
          → ShapeFits n s.program (shape_of_body cs c old b)
          → PlaceIs s k cs (elements.comp c key props given) (place_of (rendered n s) (elements.comp c key props given) old (shape_of_body cs c old b))
      given_body d there (wait r v) same fit = tt
      given_body d there (throw x) same fit = tt
      given_body d there (ready es effects initials reads versions) same fit =
          over_is s k cs cs (elements.comp c key props given) (of_instance (instance_after c (old_instance old) initials reads versions effects)) es
          (render_list (rendered n s cs) es (children_if old)) refl
          (list_is n s k below cs es (children_if old) full
          (body_named s.program some d (inputs_at s cs props given (old_instance old)) (listed_named s.program given named.1) es effects initials reads versions same)
          fit (children_settled s.program k old settled))
          (λ ns elems all. (
            (
              instance_after c (old_instance old) initials reads versions effects,
              refl,
              rw elems (body_is s k declared cs full c d there props given old settled es effects initials reads versions same),
              refl,
            ),
            all,
            tt,
          ))

      found : (d : Option Component) → component_at s.program c ≡ d → is_some d ≡ true → ShapeFits n s.program (shape_of_component s cs c props given old d)
          → PlaceIs s k cs (elements.comp c key props given) (place_of (rendered n s) (elements.comp c key props given) old (shape_of_component s cs c props given old d))
      found None same h fit = absurd (cc h)
      found (Some d) same h fit = given_body d same (body_of s.program d (inputs_at s cs props given (old_instance old))) refl fit

  catcher_is : (n : ℕ) → BelowIs n s k → (cs : Contexts) → IsFull s.program cs → (key : _) (f : Element) (es : Elements) (old : Option Node) → Named s.program (elements.catcher key f es)
      → IfSettled s.program k old → (caught : Option ℤ) → ShapeFits n s.program (shape_of_catcher cs f es old caught)
      → PlaceIs s k cs (elements.catcher key f es) (place_of (rendered n s) (elements.catcher key f es) old (shape_of_catcher cs f es old caught))
  catcher_is n below cs full key f es old named settled None fit =
      guarded_is s k cs key f es (render_list (rendered n s cs) (listed es) (children_if old)) (render_list (rendered n s cs) (f ∷ []) none)
      (list_is n s k below cs (listed es) (children_if old) full (listed_named s.program es named.1) fit.0 (children_settled s.program k old settled))
      (list_is n s k below cs (f ∷ []) none full (named.0, tt) fit.1 tt)
  catcher_is n below cs full key f es old named settled (Some x) fit =
      caught_is s k cs key f es x (render_list (rendered n s cs) (f ∷ []) (fallback_if old))
      (list_is n s k below cs (f ∷ []) (fallback_if old) full (named.0, tt) fit (fallback_settled s.program k old settled))

  place_is : (n : ℕ) → BelowIs n s k → (cs : Contexts) (e : Element) (old : Option Node) → IsFull s.program cs → Named s.program e → Fits (suc n) s.program e → IfSettled s.program k old
      → PlaceIs s k cs e (place (rendered n s) s cs e old)
  place_is n below cs elements.null old full named fits settled = refl
  place_is n below cs (elements.text t) old full named fits settled = (refl, ((old_host old, refl, refl, refl), tt, tt))
  place_is n below cs (elements.host name key attrs es) old full named fits settled =
      over_is s k cs cs (elements.host name key attrs es) (of_host (old_host old)) (listed es) (render_list (rendered n s cs) (listed es) (children_if old)) refl
      (list_is n s k below cs (listed es) (children_if old) full (listed_named s.program es named) (shape_fits n s cs (elements.host name key attrs es) old fits) (children_settled s.program k old settled))
      (λ ns elems all. ((old_host old, refl, elems, refl), all, tt))
  place_is n below cs (elements.comp c key props given) old full named fits settled = comp_is n below cs full c key props given old named fits settled
  place_is n below cs (elements.list marked es) old full named fits settled =
      over_is s k cs cs (elements.list marked es) plain (listed es) (render_list (rendered n s cs) (listed es) (children_if old)) refl
      (list_is n s k below cs (listed es) (children_if old) full (listed_named s.program es named) (shape_fits n s cs (elements.list marked es) old fits) (children_settled s.program k old settled))
      (λ ns elems all. ((refl, elems, refl), all, tt))
  place_is n below cs (elements.boundary key f es) old full named fits settled =
      let parts = shape_fits n s cs (elements.boundary key f es) old fits in
      parts_are s k cs key f es old (render_list (rendered n s cs) (listed es) (children_if old)) (render_list (rendered n s cs) (f ∷ []) (fallback_if old)) settled
      (list_is n s k below cs (listed es) (children_if old) full (listed_named s.program es named.1) parts.0 (children_settled s.program k old settled))
      (list_is n s k below cs (f ∷ []) (fallback_if old) full (named.0, tt) parts.1 (fallback_settled s.program k old settled))
  place_is n below cs (elements.catcher key f es) old full named fits settled =
      catcher_is n below cs full key f es old named settled (old_caught old) (shape_fits n s cs (elements.catcher key f es) old fits)
  place_is n below cs (elements.provider c key x es) old full named fits settled =
      over_is s k cs (slice_set cs c x) (elements.provider c key x es) plain (listed es) (render_list (rendered n s (slice_set cs c x)) (listed es) (children_if old)) refl
      (list_is n s k below (slice_set cs c x) (listed es) (children_if old) (full_set s.program cs c x full) (listed_named s.program es named)
      (shape_fits n s cs (elements.provider c key x es) old fits) (children_settled s.program k old settled))
      (λ ns elems all. ((refl, elems, refl), all, tt))

  -- What a render gives against a settled tree is rendered throughout.
  pub rendered_is : (n : ℕ) → BelowIs n s k
  unfolding rendered
  rendered_is zero cs e old full named fits settled = sym (zero_is_null s.program e fits)
  rendered_is (suc n) cs e old full named fits settled = place_is n (rendered_is n) cs e old full named fits settled
