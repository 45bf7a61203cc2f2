-- A render begins no more places than the bound, whatever the old tree is.
use Rattle.std.specs.Prelude.{◌≡◌, ℕ, zero, suc, ◌+◌, ◌*◌, ◌≤◌, Bool, true, false, cond, List, [], ◌∷◌, ℤ, Option, Some, None, slice_set, refl}
use Rattle.std.specs.List.{zip}
use Rattle.std.proofs.Common.{arith}
use Rattle.std.proofs.Math.Nat.{mul-le-mul_right}
use Rattle.rx_ast.specs.Syntax.{Program, Component}
use Rattle.rx_rules.specs.Names.{component_at}
use Rattle.rx_rules.specs.Bounds.{node_bound, component_levels}
use Rattle.rx_rules.specs.Versions.{node_limit}
use Rattle.rx_elem.specs.Elements.{Element, Elements, gathered, listed}
use Rattle.rx_elem.specs.Elements as elements
use Rattle.rx_elem.specs.Trees.{Node, Forest, none, children_if, fallback_if, old_caught}
use Rattle.rx_elem.specs.Compare.{old_nodes}
use Rattle.rx_meaning.specs.Body.{Body, wait, throw, ready, body_of}
use Rattle.rx_meaning.specs.Fresh.{Sight, Contexts, Renders, Place, empty, made, waits, throws, Places, all_made, one_waits, one_throws, render_list, rendered, shape_of, shape_of_body, shape_of_component, shape_of_catcher, inputs_at, old_instance, default_contexts, root_element}
use Rattle.rx_meaning.specs.Cursor.{is_null}
use Rattle.rx_meaning.specs.Counts.{Weights, Tries, unless_waits, if_waits, if_throws, try_all, if_made, count_shape, counted, whole}
use Rattle.render_laws.proofs.Plans.{Alts, Plan, fixed, every, Row, end, next, plan_in, body_plan, alts_size, plan_size, row_size}
use Rattle.render_laws.proofs.Coming.{Has, here, there, is_keyed, count_all, count_keyed, IsFew, Comes, AllCome, row_head, row_tail, comes_less}
use Rattle.render_laws.proofs.FitRender.{IsPlain, IfReady, found_comes, come_listed}
use Rattle.render_laws.proofs.RootLaws.{root_alts, root_comes, root_size, bound_is_own}
use Rattle.render_laws.proofs.UnitBound.{if_made_nothing}
use Rattle.render_laws.proofs.Room.{sum_times, tail_size}

-- one for each place that is begun, and so many for one where nothing can stand
abbrev pub begun_with : ℕ → Weights
begun_with m = record { begins = λ cs e old. 1; misses = m; completes = 0 }

-- no more places are begun than the alternatives have room for
abbrev HasRoom : ℕ → Program → Tries → Type 0
HasRoom d p try = (a : Alts) (e : Element) (old : Option Node) → Comes d p a e → try e old ≤ alts_size a

no_more : (x : Place) (n : ℕ) → unless_waits x n ≤ n
no_more empty n = omega arith
no_more (made m) n = omega arith
no_more (waits a) n = omega arith
no_more (throws x) n = omega arith

no_more_if : (x : Places) (n : ℕ) → if_waits x n ≤ n
no_more_if (all_made ns) n = omega arith
no_more_if (one_waits a) n = omega arith
no_more_if (one_throws x) n = omega arith

no_more_if_throws : (x : Places) (n : ℕ) → if_throws x n ≤ n
no_more_if_throws (all_made ns) n = omega arith
no_more_if_throws (one_waits a) n = omega arith
no_more_if_throws (one_throws x) n = omega arith

every_tried : (d : ℕ) (p : Program) (try : Tries) (render : Renders) → HasRoom d p try → (limit : ℕ) (a : Alts) (es : List Element) (olds : List (Option Node))
    → AllCome d p (every limit a) (gathered es) → try_all try render (zip es olds) ≤ count_all (gathered es) * alts_size a
every_tried d p try render h limit a [] olds come = omega arith
every_tried d p try render h limit a (e ∷ es) [] come = omega arith
every_tried d p try render h limit a (e ∷ es) (o ∷ olds) come =
    omega (
      arith,
      h a e o come.0,
      every_tried d p try render h limit a es olds come.1,
      no_more (render e o) (try_all try render (zip es olds)),
      sum_times 1 (count_all (gathered es)) (alts_size a),
    )

fixed_tried : (d : ℕ) (p : Program) (try : Tries) (render : Renders) → HasRoom d p try → (row : Row) (keyed : Alts) (es : List Element) (olds : List (Option Node))
    → AllCome d p (fixed row keyed) (gathered es)
    → try_all try render (zip es olds) ≤ row_size row + count_keyed (gathered es) * alts_size keyed
fixed_tried d p try render h row keyed [] olds come = omega arith
fixed_tried d p try render h row keyed (e ∷ es) [] come = omega arith
fixed_tried d p try render h row keyed (e ∷ es) (o ∷ olds) come =
    go (is_keyed e) (h (cond (is_keyed e) keyed (row_head row)) e o come.0) (fixed_tried d p try render h (row_tail row) keyed es olds come.1)
  where
    go : (b : Bool) → try e o ≤ alts_size (cond b keyed (row_head row))
        → try_all try render (zip es olds) ≤ row_size (row_tail row) + count_keyed (gathered es) * alts_size keyed
        → try e o + unless_waits (render e o) (try_all try render (zip es olds)) ≤ row_size row + (cond b 1 0 + count_keyed (gathered es)) * alts_size keyed
    go true k r =
        omega (arith, no_more (render e o) (try_all try render (zip es olds)), tail_size row, sum_times 1 (count_keyed (gathered es)) (alts_size keyed))
    go false k r =
        omega (arith, no_more (render e o) (try_all try render (zip es olds)), tail_size row, sum_times 0 (count_keyed (gathered es)) (alts_size keyed))

-- the children of a list, against the old ones
abbrev try_list : Tries → Renders → List Element → Forest → ℕ
try_list try render es old = try_all try render (zip es (old_nodes old es))

list_tried : (d : ℕ) (p : Program) (try : Tries) (render : Renders) → HasRoom d p try → (q : Plan) (es : List Element) → IsFew q (gathered es)
    → AllCome d p q (gathered es) → (old : Forest) → try_list try render es old ≤ plan_size q
list_tried d p try render h (fixed row keyed) es few come old =
    let most = mul-le-mul_right (alts_size keyed) few in
    omega (arith, fixed_tried d p try render h row keyed es (old_nodes old es) come, most)
list_tried d p try render h (every limit a) es few come old =
    let most = mul-le-mul_right (alts_size a) few in
    omega (arith, every_tried d p try render h limit a es (old_nodes old es) come, most)

has_size : {q f : Plan} {a : Alts} → Has q f a → 1 + (plan_size q + plan_size f) ≤ alts_size a
has_size here = omega arith
has_size (there h) = omega (arith, has_size h)

one_or_none : (b : Bool) (m : ℕ) → m ≤ 1 → cond b 0 m ≤ 1
one_or_none true m h = omega arith
one_or_none false m h = h

module _ (s : Sight) (plain : IsPlain s.program) (m : ℕ) (one : m ≤ 1) (d : ℕ) (try : Contexts → Tries) (f : Contexts → Renders) (h : (cs : Contexts) → HasRoom d s.program (try cs)) where
  children_tried : (cs : Contexts) (q : Plan) (es : Elements) → IsFew q es → AllCome (suc d) s.program q es → (old : Forest)
      → try_list (try cs) (f cs) (listed es) old ≤ plan_size q
  children_tried cs q es few come old =
      let c = come_listed d s.program q es few come in
      list_tried d s.program (try cs) (f cs) (h cs) q (listed es) c.0 c.1 old

  body_tried : (cs : Contexts) (c : ℕ) (q : Plan) (e : Element) (old : Option Node) (b : Body) → IfReady d s.program q b
      → count_shape (begun_with m) try f cs e old (shape_of_body cs c old b) ≤ 1 + plan_size q
  body_tried cs c q e old (wait r v) k = omega arith
  body_tried cs c q e old (throw x) k = omega arith
  body_tried cs c q e old (ready es effects initials reads versions) k =
      omega (arith, list_tried d s.program (try cs) (f cs) (h cs) q es k.0 k.1 (children_if old), if_made_nothing (render_list (f cs) es (children_if old)))

  comp_tried : (cs : Contexts) (c n : ℕ) (q : Plan) → suc d ≤ n → (props : List ℤ) (es : Elements) → IsFew q (gathered (listed es)) → AllCome d s.program q (gathered (listed es))
      → (e : Element) (old : Option Node)
      → count_shape (begun_with m) try f cs e old (shape_of_component s cs c props es old (component_at s.program c)) ≤ 1 + plan_size (body_plan n s.program c q)
  comp_tried cs c zero q deep props es few come e old = absurd (omega arith)
  comp_tried cs c (suc n) q deep props es few come e old = go (component_at s.program c) refl
    where
      go : (x : Option Component) → component_at s.program c ≡ x
          → count_shape (begun_with m) try f cs e old (shape_of_component s cs c props es old x) ≤ 1 + plan_size (plan_in (body_plan n s.program) q s.program x)
      go None same = omega (arith, one_or_none (is_null e) m one)
      go (Some x) same =
          body_tried cs c (plan_in (body_plan n s.program) q s.program (Some x)) e old (body_of s.program x (inputs_at s cs props es (old_instance old)))
          (found_comes n d s.program plain (omega arith) q (inputs_at s cs props es (old_instance old)) few come c x same)

  -- an error boundary that had caught a value or not
  catcher_tried : (cs : Contexts) (q g : Plan) (e k : Element) (es : Elements) → IsFew q es → AllCome (suc d) s.program q es
      → IsFew g (gathered (k ∷ [])) → AllCome d s.program g (gathered (k ∷ [])) → (old : Option Node) (caught : Option ℤ)
      → count_shape (begun_with m) try f cs e old (shape_of_catcher cs k es old caught) ≤ 1 + (plan_size q + plan_size g)
  catcher_tried cs q g e k es few come one other old None =
      omega (
        arith,
        children_tried cs q es few come (children_if old),
        if_made_nothing (render_list (f cs) (listed es) (children_if old)),
        if_made_nothing (render_list (f cs) (k ∷ []) none),
        no_more_if_throws (render_list (f cs) (listed es) (children_if old))
            (try_list (try cs) (f cs) (k ∷ []) none + if_made (render_list (f cs) (k ∷ []) none) 0),
        list_tried d s.program (try cs) (f cs) (h cs) g (k ∷ []) one other none,
      )
  catcher_tried cs q g e k es few come one other old (Some x) =
      omega (
        arith,
        if_made_nothing (render_list (f cs) (k ∷ []) (fallback_if old)),
        list_tried d s.program (try cs) (f cs) (h cs) g (k ∷ []) one other (fallback_if old),
      )

  place_tried : (cs : Contexts) (a : Alts) (e : Element) (old : Option Node) → Comes (suc d) s.program a e
      → count_shape (begun_with m) try f cs e old (shape_of s cs e old) ≤ alts_size a
  place_tried cs a elements.null old c = omega arith
  place_tried cs a (elements.text t) old c = omega (arith, has_size c.2)
  place_tried cs a (elements.host n k attrs es) old c =
      omega (arith, has_size c.2, children_tried cs c.0 es c.3 c.4 (children_if old), if_made_nothing (render_list (f cs) (listed es) (children_if old)))
  place_tried cs a (elements.comp n k props es) old c =
      let kids = come_listed d s.program c.1 es c.5 c.6 in
      omega (arith, has_size c.4, comp_tried cs n c.0 c.1 c.3 props es kids.0 kids.1 (elements.comp n k props es) old)
  place_tried cs a (elements.list marked es) old c =
      omega (arith, has_size c.2, children_tried cs c.0 es c.3 c.4 (children_if old), if_made_nothing (render_list (f cs) (listed es) (children_if old)))
  place_tried cs a (elements.boundary k e es) old c =
      omega (
        arith,
        has_size c.3,
        children_tried cs c.0 es c.4 c.5 (children_if old),
        if_made_nothing (render_list (f cs) (listed es) (children_if old)),
        if_made_nothing (render_list (f cs) (e ∷ []) (fallback_if old)),
        no_more_if (render_list (f cs) (listed es) (children_if old))
            (try_list (try cs) (f cs) (e ∷ []) (fallback_if old) + if_made (render_list (f cs) (e ∷ []) (fallback_if old)) 0),
        list_tried d s.program (try cs) (f cs) (h cs) (fixed (next c.1 end) c.2) (e ∷ []) (one_few (is_keyed e))
            (comes_less d s.program (cond (is_keyed e) c.2 c.1) e c.6, tt) (fallback_if old),
      )
    where
      one_few : (b : Bool) → cond b 1 0 + 0 ≤ 1
      one_few true = omega arith
      one_few false = omega arith
  place_tried cs a (elements.catcher k e es) old c =
      omega (
        arith,
        has_size c.3,
        catcher_tried cs c.0 (fixed (next c.1 end) c.2) (elements.catcher k e es) e es c.4 c.5 (one_few (is_keyed e))
            (comes_less d s.program (cond (is_keyed e) c.2 c.1) e c.6, tt) old (old_caught old),
      )
    where
      one_few : (b : Bool) → cond b 1 0 + 0 ≤ 1
      one_few true = omega arith
      one_few false = omega arith
  place_tried cs a (elements.provider n k x es) old c =
      omega (
        arith,
        has_size c.2,
        children_tried (slice_set cs n x) c.0 es c.3 c.4 (children_if old),
        if_made_nothing (render_list (f (slice_set cs n x)) (listed es) (children_if old)),
      )

all_tried : (m : ℕ) → m ≤ 1 → (n : ℕ) (s : Sight) → IsPlain s.program → (cs : Contexts) → HasRoom n s.program (counted (begun_with m) n s cs)
unfolding counted
all_tried m one zero s plain cs a elements.null old c = omega arith
all_tried m one zero s plain cs a (elements.text t) old c = omega (arith, has_size c.2)
all_tried m one zero s plain cs a (elements.host n k attrs es) old c = omega (arith, has_size c.2)
all_tried m one zero s plain cs a (elements.comp n k props es) old c = omega (arith, has_size c.4)
all_tried m one zero s plain cs a (elements.list marked es) old c = omega (arith, has_size c.2)
all_tried m one zero s plain cs a (elements.boundary k e es) old c = omega (arith, has_size c.3)
all_tried m one zero s plain cs a (elements.catcher k e es) old c = omega (arith, has_size c.3)
all_tried m one zero s plain cs a (elements.provider n k x es) old c = omega (arith, has_size c.2)
all_tried m one (suc n) s plain cs a e old c =
    place_tried s plain m one n (counted (begun_with m) n s) (rendered n s) (all_tried m one n s plain) cs a e old c

root_tried : (m : ℕ) → m ≤ 1 → (n : ℕ) (s : Sight) → IsPlain s.program → (cs : Contexts) (old : Option Node)
    → counted (begun_with m) n s cs (root_element s.program) old ≤ alts_size (root_alts n s.program)
root_tried m one n s plain cs old = all_tried m one n s plain cs (root_alts n s.program) (root_element s.program) old (root_comes n s.program plain)

-- a render begins no more places than the bound
pub begun_bounded : (m : ℕ) → m ≤ 1 → (s : Sight) → IsPlain s.program → node_bound s.program ≤ node_limit s.program → (old : Option Node)
    → whole (begun_with m) s old ≤ node_bound s.program
unfolding whole
begun_bounded m one s plain small old =
    omega (arith, root_tried m one component_levels s plain (default_contexts s.program) old, root_size component_levels s.program, bound_is_own s.program small)
