-- In a subtree that has no cause no component place is touched.
use Rattle.std.specs.List.{zip}
use Rattle.std.specs.Prelude.{Bool, List, None, Option, Some, [], false, if◌then◌else◌, refl, slice_set, suc, true, zero, ℕ, ◌++◌, ◌∷◌, ◌≡◌, ◌≤◌}
use Rattle.std.proofs.Common.{ap, arith, inl, inr, subst, sym}
use Rattle.rx_elem.specs.Compare.{old_nodes}
use Rattle.rx_elem.specs.Elements.{Element, gathered}
use Rattle.rx_elem.specs.Trees.{Forest, Mark, Node, child, element_of, elements_in, instance_in, is_caught, node, none, of_instance, places, vacant}
use Rattle.rx_meaning.specs.Fresh.{Contexts, Part, Renders, Shape, Sight, all_made, guarded, one_list, part, render_all, render_part, rendered, shape_of}
use Rattle.rx_meaning.specs.Touched.{Setting, Visit, Visits, contexts_below, ends_list, is_throw, is_wait, setting_below, setting_of_fallback, setting_of_primary, setting_of_tried, touched_instance, visit_all, visit_below, visit_here, visit_part, visited}
use Rattle.rx_elem.proofs.SelfMatch.{matches_itself}
use Rattle.commit_laws.proofs.TakeOver.{all_again, children_fit_again, fallback_fits_again, same_shape, settled_no_null}
use Rattle.rx_meaning.specs.Again.{NoneTouched}
use Rattle.rx_meaning.specs.Levels.{Fits, body_depth, elements_depth}
use Rattle.rx_meaning.specs.Settled.{AllSettled, AllStill, DoneBefore, IsOwn, IsSettled, IsStill, has_cause, kept_shape, known_by}
use Rattle.rx_elem.specs.Elements as elements

none_append : (xs ys : List Visit) → NoneTouched xs → NoneTouched ys → NoneTouched (xs ++ ys)
none_append [] ys h k = k
none_append (x ∷ xs) ys h k = (h.0, none_append xs ys h.1 k)

unless_none : (b : Bool) (vs : List Visit) → NoneTouched vs → NoneTouched (if b then [] else vs)
unless_none true vs h = tt
unless_none false vs h = h

-- what is visited at a place and below it, by its shape
abbrev visit_shape : Visits → (Contexts → Renders) → Sight → Setting → Element → Option Node → Shape → List Visit
visit_shape visit below s at e old shape = visit_here s at e old shape ++ visit_below visit below s (setting_below old at) e old shape

not_visited : (b : Bool) (vs : List Visit) → b ≡ false → NoneTouched (if b then vs else [])
not_visited true vs h = absurd (cc h)
not_visited false vs h = tt

-- what is visited below a place without a cause
below_untouched : (visit : Visits) (below : Contexts → Renders) (s : Sight) (at : Setting) (e : Element) (m : Mark) (ns fs : Forest)
    → IsOwn s.program (known_by s) e m ns fs → has_cause s at.contexts m ≡ false
    → ((here : Setting) → here.contexts ≡ contexts_below e at.contexts → NoneTouched (visit_all visit (below here.contexts) here 0 (zip (elements_in ns) (old_nodes ns (elements_in ns)))))
    → ((here : Setting) → here.contexts ≡ at.contexts → NoneTouched (visit_all visit (below here.contexts) here 0 (zip (elements_in fs) (old_nodes fs (elements_in fs)))))
    → render_all (below (contexts_below e at.contexts)) (zip (elements_in ns) (old_nodes ns (elements_in ns))) ≡ all_made ns
    → NoneTouched (visit_shape visit below s at e (Some (node e m ns fs)) (kept_shape at.contexts e m ns fs))
below_untouched visit below s at elements.null m ns fs own calm there beside again = tt
below_untouched visit below s at (elements.text t) m ns fs own calm there beside again = (refl, there (record (setting_below (Some (node (elements.text t) m ns fs)) at) { contexts = at.contexts }) refl)
below_untouched visit below s at (elements.host name key attrs es) m ns fs own calm there beside again =
    (refl, there (record (setting_below (Some (node (elements.host name key attrs es) m ns fs)) at) { contexts = at.contexts }) refl)
below_untouched visit below s at (elements.comp c key props given) m ns fs own calm there beside again =
    (touched_so m own.1 calm, there (record (setting_below (Some (node (elements.comp c key props given) m ns fs)) at) { contexts = at.contexts }) refl)
  where
    touched_so : (x : Mark) → x ≡ of_instance own.0 → has_cause s at.contexts x ≡ false → touched_instance s at.contexts (instance_in x) ≡ false
    touched_so x same h =
        let calm_instance : has_cause s at.contexts (of_instance own.0) ≡ false = rw same at h in
        subst (λ (y : Mark). touched_instance s at.contexts (instance_in y) ≡ false) (sym same) calm_instance
below_untouched visit below s at (elements.list marked es) m ns fs own calm there beside again =
    (refl, there (record (setting_below (Some (node (elements.list marked es) m ns fs)) at) { contexts = at.contexts }) refl)
below_untouched visit below s at (elements.boundary key f es) m ns fs own calm there beside again =
    let old : Option Node = Some (node (elements.boundary key f es) m ns fs) in
    let below_here : Setting = setting_below old at in
    let primary : Part = part at.contexts (elements_in ns) ns in (
      refl,
      none_append (visit_part visit below (setting_of_primary s below_here (elements.boundary key f es) old) primary)
          (if is_wait (render_part below primary) then visit_part visit below (setting_of_fallback below_here) (part at.contexts (f ∷ []) fs) else [])
          (there (record (setting_of_primary s below_here (elements.boundary key f es) old) { contexts = at.contexts }) refl)
          (not_visited (is_wait (render_part below primary)) (visit_part visit below (setting_of_fallback below_here) (part at.contexts (f ∷ []) fs)) (ap is_wait again)),
    )
below_untouched visit below s at (elements.catcher key f es) m ns fs (inl own) calm there beside again =
    let old : Option Node = Some (node (elements.catcher key f es) m ns fs) in
    let below_here : Setting = setting_below old at in
    let primary : Part = part at.contexts (elements_in ns) ns in
    subst (λ (b : Bool). NoneTouched (visit_shape visit below s at (elements.catcher key f es) old
    (if b then one_list m (part at.contexts (elements_in fs) fs) else guarded primary (part at.contexts (f ∷ []) none)))) (sym (ap is_caught own.0)) (
      refl,
      none_append (visit_part visit below (setting_of_tried below_here) primary)
          (if is_throw (render_part below primary) then visit_part visit below (setting_of_fallback below_here) (part at.contexts (f ∷ []) none) else [])
          (there (record (setting_of_tried below_here) { contexts = at.contexts }) refl)
          (not_visited (is_throw (render_part below primary)) (visit_part visit below (setting_of_fallback below_here) (part at.contexts (f ∷ []) none)) (ap is_throw again)),
    )
below_untouched visit below s at (elements.catcher key f es) m ns fs (inr own) calm there beside again =
    let old : Option Node = Some (node (elements.catcher key f es) m ns fs) in
    subst (λ (b : Bool). NoneTouched (visit_shape visit below s at (elements.catcher key f es) old
    (if b then one_list m (part at.contexts (elements_in fs) fs) else guarded (part at.contexts (elements_in ns) ns) (part at.contexts (f ∷ []) none)))) (sym (ap is_caught own.1))
    (refl, beside (record (setting_below old at) { contexts = at.contexts }) refl)
below_untouched visit below s at (elements.provider c key x es) m ns fs own calm there beside again =
    (refl, there (record (setting_below (Some (node (elements.provider c key x es) m ns fs)) at) { contexts = slice_set at.contexts c x }) refl)

-- the list of a still subtree, against itself
list_untouched : (visit : Visits) (render : Renders) (here : Setting) (ns : Forest) → old_nodes ns (elements_in ns) ≡ places ns
    → NoneTouched (visit_all visit render here 0 (zip (elements_in ns) (places ns)))
    → NoneTouched (visit_all visit render here 0 (zip (elements_in ns) (old_nodes ns (elements_in ns))))
list_untouched visit render here ns same h = rw same h

none_deeper : (s : Sight) (at : Setting) (e : Element) (old : Option Node) → NoneTouched (visited zero s at e old)
unfolding visited
none_deeper s at e old = tt

null_untouched : (n : ℕ) (s : Sight) (at : Setting) → NoneTouched (visited n s at elements.null None)
unfolding visited
null_untouched zero s at = tt
null_untouched (suc n) s at = tt

place_untouched : (n : ℕ) (s : Sight) (at : Setting) (e : Element) (old : Option Node) (shape : Shape) → shape_of s at.contexts e old ≡ shape
    → NoneTouched (visit_shape (visited n s) (rendered n s) s at e old shape) → NoneTouched (visited (suc n) s at e old)
unfolding visited
place_untouched n s at e old shape same h = subst (λ (x : Shape). NoneTouched (visit_shape (visited n s) (rendered n s) s at e old x)) (sym same) h

mutual
  -- In a subtree that has no cause no component place is touched.
  pub none_touched : (n : ℕ) (s : Sight) (at : Setting) (o : Node) → DoneBefore s.cut s.journal.updates → IsSettled s.program (known_by s) o → IsStill s at.contexts o
      → Fits n s.program (element_of o) → NoneTouched (visited n s at (element_of o) (Some o))
  none_touched zero s at (node e m ns fs) before settled still fits = none_deeper s at e (Some (node e m ns fs))
  none_touched (suc n) s at (node e m ns fs) before settled still fits =
      place_untouched n s at e (Some (node e m ns fs)) (kept_shape at.contexts e m ns fs) (same_shape s at.contexts e m ns fs before settled.0 still.0)
      (below_untouched (visited n s) (rendered n s) s at e m ns fs settled.0 still.0
      (λ here same. list_untouched (visited n s) (rendered n s here.contexts) here ns (matches_itself ns (settled_no_null s.program (known_by s) ns settled.1))
      (none_in n s here 0 ns before settled.1 (subst (λ (ds : Contexts). AllStill s ds ns) (sym same) still.1)
      (children_fit_again n s at.contexts e m ns fs before settled.0 still.0 fits)))
      (λ here same. list_untouched (visited n s) (rendered n s here.contexts) here fs (matches_itself fs (settled_no_null s.program (known_by s) fs settled.2))
      (none_in n s here 0 fs before settled.2 (subst (λ (ds : Contexts). AllStill s ds fs) (sym same) still.2)
      (fallback_fits_again n s at.contexts e m ns fs before settled.0 still.0 fits)))
      (rw (matches_itself ns (settled_no_null s.program (known_by s) ns settled.1))
      (all_again n s (contexts_below e at.contexts) ns before settled.1 still.1 (children_fit_again n s at.contexts e m ns fs before settled.0 still.0 fits))))

  none_in : (n : ℕ) (s : Sight) (here : Setting) (k : ℕ) (ns : Forest) → DoneBefore s.cut s.journal.updates → AllSettled s.program (known_by s) ns → AllStill s here.contexts ns
      → elements_depth (body_depth n s.program) (gathered (elements_in ns)) ≤ n
      → NoneTouched (visit_all (visited n s) (rendered n s here.contexts) here k (zip (elements_in ns) (places ns)))
  none_in n s here k none before settled still fits = tt
  none_in n s here k (vacant ns) before settled still fits =
      none_append (visited n s (record here { address = k ∷ here.address }) elements.null None)
      (if ends_list (rendered n s here.contexts elements.null None) then [] else visit_all (visited n s) (rendered n s here.contexts) here (suc k) (zip (elements_in ns) (places ns)))
      (null_untouched n s (record here { address = k ∷ here.address }))
      (unless_none (ends_list (rendered n s here.contexts elements.null None)) (visit_all (visited n s) (rendered n s here.contexts) here (suc k) (zip (elements_in ns) (places ns)))
      (none_in n s here (suc k) ns before settled still (omega arith)))
  none_in n s here k (child x ns) before settled still fits =
      none_append (visited n s (record here { address = k ∷ here.address }) (element_of x) (Some x))
      (if ends_list (rendered n s here.contexts (element_of x) (Some x)) then [] else visit_all (visited n s) (rendered n s here.contexts) here (suc k) (zip (elements_in ns) (places ns)))
      (none_touched n s (record here { address = k ∷ here.address }) x before settled.0 still.0 (omega arith))
      (unless_none (ends_list (rendered n s here.contexts (element_of x) (Some x))) (visit_all (visited n s) (rendered n s here.contexts) here (suc k) (zip (elements_in ns) (places ns)))
      (none_in n s here (suc k) ns before settled.1 still.1 (omega arith)))
