-- No attempt of a render has more nodes than the bound.
use Rattle.std.specs.Prelude.{◌≡◌, ◌⊎◌, ℕ, zero, suc, ◌+◌, ◌≤◌, Bool, true, false, cond, List, [], ◌∷◌, ◌++◌, map, ℤ, Option, Some, None, option_and_then, position, slice_set, length, refl}
use Rattle.std.specs.List.{zip, AllByRecursion}
use Rattle.std.proofs.Common.{arith, inl, inr, sym, subst}
use Rattle.rx_ast.specs.Syntax.{Program, Component}
use Rattle.rx_rules.specs.Names.{component_number, component_at, root_name}
use Rattle.rx_rules.specs.Bounds.{node_bound, component_levels}
use Rattle.rx_rules.specs.Versions.{node_limit}
use Rattle.rx_elem.specs.Elements.{Element, Elements, gathered, listed}
use Rattle.rx_elem.specs.Elements as elements
use Rattle.rx_elem.specs.Identity.{Identity, identities, identified, is_same_child}
use Rattle.rx_elem.specs.Trees.{Node, Forest, none, old_caught, children_if, fallback_if, elements_in}
use Rattle.rx_elem.specs.Spots.{spots_in, at_root}
use Rattle.rx_elem.specs.Compare.{old_nodes, node_at}
use Rattle.rx_meaning.specs.Body.{Body, wait, throw, ready, body_of}
use Rattle.rx_meaning.specs.Fresh.{Sight, Contexts, Renders, Place, empty, made, waits, throws, rendered, shape_of, shape_of_body, shape_of_component, shape_of_catcher, inputs_at, old_instance, default_contexts, root_element, depth_limit, IsTree}
use Rattle.rx_rules.specs.Keys.{KeysApart}
use Rattle.render_laws.specs.Attempts.{Attempts, begun, unless_waits, attempts_below, shape_attempts, attempts}
use Rattle.render_laws.proofs.Plans.{Alts, Plan, fixed, end, next, plan_in, body_size, body_plan, alts_size}
use Rattle.render_laws.proofs.Coming.{Has, is_keyed, IsFew, Comes, AllCome, comes_within, comes_less}
use Rattle.render_laws.proofs.Fitting.{allowed, piece, plans_of, IsThere, FitsIn, FitsOld, old_sub, old_fits}
use Rattle.render_laws.proofs.FitLists.{HasPlan, replaced, replaced_used, replaced_sub, replaced_offers, own_ids, own_few, own_covered, AllSuit, AllCovered, all_suit}
use Rattle.rx_elem.proofs.Identities.{child_of}
use Rattle.render_laws.proofs.FitRender.{IsPlain, IfReady, found_comes, come_listed, has_primary, has_fallback, has_is_there, primary_fits, fallback_fits, rendered_fits, vacant_fits, AllVacant, unused, none_used}
use Rattle.render_laws.proofs.Room.{forest_count, in_count, cost, plans_size, all_cost, there_size, spots_in_count}
use Rattle.render_laws.proofs.RootLaws.{root_alts, root_comes, root_size, bound_is_own, tree_fits}
use Rattle.render_laws.proofs.Attempts.{begun_fits}
use Rattle.render_laws.proofs.Declared.{plain_or_empty}

-- none of these has more nodes
abbrev pub AllSmall : ℕ → List Forest → Type 0
AllSmall most [] = Unit {0}
AllSmall most (ns ∷ rest) = (forest_count ns ≤ most) × AllSmall most rest

small_more : (m n : ℕ) → m ≤ n → (xs : List Forest) → AllSmall m xs → AllSmall n xs
small_more m n l [] h = tt
small_more m n l (x ∷ xs) h = (omega (arith, h.0), small_more m n l xs h.1)

small_append : (m : ℕ) (xs ys : List Forest) → AllSmall m xs → AllSmall m ys → AllSmall m (xs ++ ys)
small_append m [] ys h k = k
small_append m (x ∷ xs) ys h k = (h.0, small_append m xs ys h.1 k)

small_unless : (m : ℕ) (x : Place) (xs : List Forest) → AllSmall m xs → AllSmall m (unless_waits x xs)
small_unless m empty xs h = h
small_unless m (made n) xs h = h
small_unless m (waits a) xs h = tt
small_unless m (throws x) xs h = tt

-- attempts at a place stay within the room of its alternatives
abbrev AreSmall : ℕ → Program → Attempts → Type 0
AreSmall d p t = (a : Alts) (e : Element) (old : Option Node) → Comes d p a e → FitsOld a old → AllSmall (alts_size a) (t e old)

abbrev EachSmall : Attempts → List Plan → List (List Identity) → List Identity → List Element → List (Option Node) → Type 0
EachSmall t ps us ids [] olds = Unit {0}
EachSmall t ps us [] (e ∷ es) olds = ⊥
EachSmall t ps us (i ∷ ids) (e ∷ es) [] = ⊥
EachSmall t ps us (i ∷ ids) (e ∷ es) (o ∷ olds) = AllSmall (alts_size (allowed ps us i)) (t e o) × EachSmall t ps us ids es olds

module _ (d : ℕ) (p : Program) (t : Attempts) (small : AreSmall d p t) (ps : List Plan) (q : Plan) (h : HasPlan q ps) (old : Forest) (fits : FitsIn ps old) (v : List Identity) where
  each_small : (ids : List Identity) (es : List Element) → AllSuit d p q v ids es → AllCovered q v ids
      → EachSmall t ps (replaced h v fits.0) ids es
      (map (option_and_then (node_at old)) (map (λ c. position (is_same_child c) (identified (elements_in old))) (map child_of (zip ids es))))
  each_small [] [] s c = tt
  each_small [] (e ∷ es) s c = s
  each_small (i ∷ ids) [] s c = tt
  each_small (i ∷ ids) (e ∷ es) s c = (
    small (allowed ps (replaced h v fits.0) i) e
        (option_and_then (node_at old) (position (is_same_child (record { identity = i; element = e })) (identified (elements_in old))))
        (comes_within d p (piece q v i) (allowed ps (replaced h v fits.0) i) (replaced_offers h v fits.0 fits.1 i) e s.0)
        (old_sub (allowed ps fits.0 i) (allowed ps (replaced h v fits.0) i) (replaced_sub h v fits.0 i c.0)
        (option_and_then (node_at old) (position (is_same_child (record { identity = i; element = e })) (identified (elements_in old))))
        (old_fits ps fits.0 old fits.2 (record { identity = i; element = e }))),
    each_small ids es s.1 c.1,
  )

below_small : (t : Attempts) (f : Renders) (ps : List Plan) (us : List (List Identity)) (ids : List Identity) (es : List Element) (olds : List (Option Node))
    → EachSmall t ps us ids es olds → (m : ℕ) → cost ps us ids ≤ m → AllSmall m (attempts_below t f (zip es olds))
below_small t f ps us ids [] olds h m l = tt
below_small t f ps us [] (e ∷ es) olds h m l = absurd h
below_small t f ps us (i ∷ ids) (e ∷ es) [] h m l = absurd h
below_small t f ps us (i ∷ ids) (e ∷ es) (o ∷ olds) h m l =
    small_append m (t e o) (unless_waits (f e o) (attempts_below t f (zip es olds)))
    (small_more (alts_size (allowed ps us i)) m (omega arith) (t e o) h.0)
    (small_unless m (f e o) (attempts_below t f (zip es olds)) (below_small t f ps us ids es olds h.1 m (omega arith)))

-- the attempt of each list fits
abbrev BegunFits : ℕ → Program → Renders → Type 0
BegunFits d p f =
    (ps : List Plan) (q : Plan) → HasPlan q ps → (es : List Element) → IsFew q (gathered es) → AllCome d p q (gathered es)
    → (old : Forest) → FitsIn ps old → FitsIn ps (begun f (zip es (old_nodes old es)))

-- the attempts of a list of children against the old ones
abbrev list_attempts : Attempts → Renders → List Element → Forest → List Forest
list_attempts t f es old = begun f (zip es (old_nodes old es)) ∷ attempts_below t f (zip es (old_nodes old es))

list_small : (d : ℕ) (p : Program) (t : Attempts) (f : Renders) → AreSmall d p t → BegunFits d p f → (ps : List Plan) (q : Plan) → HasPlan q ps
    → (es : List Element) → IsFew q (gathered es) → AllCome d p q (gathered es) → (old : Forest) → FitsIn ps old
    → AllSmall (plans_size ps) (list_attempts t f es old)
list_small d p t f small fit ps q h es few come old fits =
    let v = own_ids q (identities es) in
    let us = replaced h v fits.0 in (
      in_count ps (begun f (zip es (old_nodes old es))) (fit ps q h es few come old fits),
      below_small t f ps us (identities es) es (old_nodes old es)
          (each_small d p t small ps q h old fits v (identities es) es (all_suit d p q es come) (own_covered q (identities es)))
          (plans_size ps) (all_cost ps us (replaced_used h v fits.0 (own_few q es few) fits.1) es),
    )

all_vacant : (s : Sight) (cs : Contexts) (xs : List (Element × Option Node)) → AllVacant (begun (rendered zero s cs) xs)
unfolding rendered
all_vacant s cs [] = tt
all_vacant s cs (x ∷ xs) = all_vacant s cs xs

begun_fit : (n : ℕ) (s : Sight) → IsPlain s.program → (cs : Contexts) → BegunFits n s.program (rendered n s cs)
begun_fit zero s apart cs ps q h es few come old fits =
    let ns = begun (rendered zero s cs) (zip es (old_nodes old es)) in
    (unused ps, none_used ps, vacant_fits ps (unused ps) (identities (elements_in ns)) ns (all_vacant s cs (zip es (old_nodes old es))))
begun_fit (suc n) s apart cs ps q h es few come old fits =
    begun_fits (suc n) s.program (rendered (suc n) s cs) (rendered_fits n s apart cs) ps q h es few come old fits

primary_room : (a : Alts) → IsThere a → plans_size (plans_of true a) ≤ alts_size a
primary_room a h = omega (arith, there_size a h)

fallback_room : (a : Alts) → IsThere a → plans_size (plans_of false a) ≤ alts_size a
fallback_room a h = omega (arith, there_size a h)

module _ (s : Sight) (apart : IsPlain s.program) (d : ℕ) (t : Contexts → Attempts) (f : Contexts → Renders)
    (small : (cs : Contexts) → AreSmall d s.program (t cs)) (fit : (cs : Contexts) → BegunFits d s.program (f cs)) where
  primary_small : (cs : Contexts) (a : Alts) (q g : Plan) → Has q g a → (es : List Element) → IsFew q (gathered es) → AllCome d s.program q (gathered es)
      → (old : Option Node) → FitsOld a old → AllSmall (alts_size a) (list_attempts (t cs) (f cs) es (children_if old))
  primary_small cs a q g has es few come old o =
      small_more (plans_size (plans_of true a)) (alts_size a) (primary_room a (has_is_there has)) (list_attempts (t cs) (f cs) es (children_if old))
      (list_small d s.program (t cs) (f cs) (small cs) (fit cs) (plans_of true a) q (has_primary has) es few come (children_if old) (primary_fits a old o))

  fallback_small : (cs : Contexts) (a : Alts) (q g : Plan) → Has q g a → (es : List Element) → IsFew g (gathered es) → AllCome d s.program g (gathered es)
      → (old : Option Node) → FitsOld a old → AllSmall (alts_size a) (list_attempts (t cs) (f cs) es (fallback_if old))
  fallback_small cs a q g has es few come old o =
      small_more (plans_size (plans_of false a)) (alts_size a) (fallback_room a (has_is_there has)) (list_attempts (t cs) (f cs) es (fallback_if old))
      (list_small d s.program (t cs) (f cs) (small cs) (fit cs) (plans_of false a) g (has_fallback has) es few come (fallback_if old) (fallback_fits a old o))

  node_small : (cs : Contexts) (a : Alts) (q g : Plan) → Has q g a → (es : Elements) → IsFew q es → AllCome (suc d) s.program q es
      → (old : Option Node) → FitsOld a old → AllSmall (alts_size a) (list_attempts (t cs) (f cs) (listed es) (children_if old))
  node_small cs a q g has es few come old o =
      let c = come_listed d s.program q es few come in
      primary_small cs a q g has (listed es) c.0 c.1 old o

  body_small : (cs : Contexts) (c : ℕ) (a : Alts) (q g : Plan) → Has q g a → (old : Option Node) → FitsOld a old → (b : Body) → IfReady d s.program q b
      → AllSmall (alts_size a) (shape_attempts t f (shape_of_body cs c old b))
  body_small cs c a q g has old o (wait r v) k = tt
  body_small cs c a q g has old o (throw x) k = tt
  body_small cs c a q g has old o (ready es effects initials reads versions) k = primary_small cs a q g has es k.0 k.1 old o

  comp_small : (cs : Contexts) (a : Alts) (c m : ℕ) (q g : Plan) → suc d ≤ m → Has (body_plan m s.program c q) g a
      → (props : List ℤ) (es : Elements) → IsFew q (gathered (listed es)) → AllCome d s.program q (gathered (listed es)) → (old : Option Node) → FitsOld a old
      → AllSmall (alts_size a) (shape_attempts t f (shape_of_component s cs c props es old (component_at s.program c)))
  comp_small cs a c zero q g deep has props es few come old o = absurd (omega arith)
  comp_small cs a c (suc m) q g deep has props es few come old o = go (component_at s.program c) refl has
    where
      go : (x : Option Component) → component_at s.program c ≡ x → Has (plan_in (body_plan m s.program) q s.program x) g a
          → AllSmall (alts_size a) (shape_attempts t f (shape_of_component s cs c props es old x))
      go None same h = tt
      go (Some x) same h =
          body_small cs c a (plan_in (body_plan m s.program) q s.program (Some x)) g h old o (body_of s.program x (inputs_at s cs props es (old_instance old)))
          (found_comes m d s.program apart (omega arith) q (inputs_at s cs props es (old_instance old)) few come c x same)

  -- an error boundary that had caught a value or not
  catcher_small : (cs : Contexts) (a : Alts) (q g : Plan) → Has q g a → (e : Element) (es : Elements) → IsFew q es → AllCome (suc d) s.program q es
      → IsFew g (gathered (e ∷ [])) → AllCome d s.program g (gathered (e ∷ [])) → (old : Option Node) → FitsOld a old → (caught : Option ℤ)
      → AllSmall (alts_size a) (shape_attempts t f (shape_of_catcher cs e es old caught))
  catcher_small cs a q g has e es few come one other old o None =
      small_append (alts_size a) (list_attempts (t cs) (f cs) (listed es) (children_if old)) (list_attempts (t cs) (f cs) (e ∷ []) none)
      (node_small cs a q g has es few come old o) (fallback_small cs a q g has (e ∷ []) one other None tt)
  catcher_small cs a q g has e es few come one other old o (Some x) = fallback_small cs a q g has (e ∷ []) one other old o

  place_small : (cs : Contexts) → AreSmall (suc d) s.program (λ e old. shape_attempts t f (shape_of s cs e old))
  place_small cs a elements.null old c o = tt
  place_small cs a (elements.text x) old c o = (omega arith, tt)
  place_small cs a (elements.host n k attrs es) old c o = node_small cs a c.0 c.1 c.2 es c.3 c.4 old o
  place_small cs a (elements.comp n k props es) old c o =
      let kids = come_listed d s.program c.1 es c.5 c.6 in
      comp_small cs a n c.0 c.1 c.2 c.3 c.4 props es kids.0 kids.1 old o
  place_small cs a (elements.list marked es) old c o = node_small cs a c.0 c.1 c.2 es c.3 c.4 old o
  place_small cs a (elements.boundary k e es) old c o =
      small_append (alts_size a) (list_attempts (t cs) (f cs) (listed es) (children_if old)) (list_attempts (t cs) (f cs) (e ∷ []) (fallback_if old))
      (node_small cs a c.0 (fixed (next c.1 end) c.2) c.3 es c.4 c.5 old o)
      (fallback_small cs a c.0 (fixed (next c.1 end) c.2) c.3 (e ∷ []) (one_few (is_keyed e))
      (comes_less d s.program (cond (is_keyed e) c.2 c.1) e c.6, tt) old o)
    where
      one_few : (b : Bool) → cond b 1 0 + 0 ≤ 1
      one_few true = omega arith
      one_few false = omega arith
  place_small cs a (elements.catcher k e es) old c o =
      catcher_small cs a c.0 (fixed (next c.1 end) c.2) c.3 e es c.4 c.5 (one_few (is_keyed e))
      (comes_less d s.program (cond (is_keyed e) c.2 c.1) e c.6, tt) old o (old_caught old)
    where
      one_few : (b : Bool) → cond b 1 0 + 0 ≤ 1
      one_few true = omega arith
      one_few false = omega arith
  place_small cs a (elements.provider n k x es) old c o = node_small (slice_set cs n x) a c.0 c.1 c.2 es c.3 c.4 old o

all_small : (n : ℕ) (s : Sight) → IsPlain s.program → (cs : Contexts) → AreSmall n s.program (attempts n s cs)
unfolding attempts
all_small zero s apart cs a e old c o = tt
all_small (suc n) s apart cs a e old c o = place_small s apart n (attempts n s) (rendered n s) (all_small n s apart) (begun_fit n s apart) cs a e old c o

-- a list of forests, each of at most so many nodes
small_each : (m : ℕ) (xs : List Forest) → AllSmall m xs → AllByRecursion (λ ns. length (spots_in at_root ns) ≤ m) xs
small_each m [] h = tt
small_each m (ns ∷ xs) h = (omega (arith, spots_in_count at_root ns, h.0), small_each m xs h.1)

root_small : (n : ℕ) (s : Sight) (p : Program) → s.program ≡ p → IsPlain p → (old : Option Node) → FitsOld (root_alts n p) old
    → AllSmall (alts_size (root_alts n p)) (attempts n s (default_contexts s.program) (root_element s.program) old)
root_small n s p same apart old fits =
    subst (λ (q : Program). IsPlain q → FitsOld (root_alts n q) old
    → AllSmall (alts_size (root_alts n q)) (attempts n s (default_contexts s.program) (root_element s.program) old)) same
    (λ a f. all_small n s a (default_contexts s.program) (root_alts n s.program) (root_element s.program) old (root_comes n s.program a) f) apart fits

small_room : (n : ℕ) (p : Program) (bound : ℕ) → 1 + (body_size n p (component_number p root_name)).own ≤ bound
    → (xs : List Forest) → AllSmall (alts_size (root_alts n p)) xs → AllByRecursion (λ ns. length (spots_in at_root ns) ≤ bound) xs
small_room n p bound h xs k =
    small_each bound xs (small_more (alts_size (root_alts n p)) bound (omega (arith, root_size n p)) xs k)

plain_bounded : (s : Sight) (p : Program) (old : Option Node) → s.program ≡ p → IsPlain p → node_bound p ≤ node_limit p → IsTree p old
    → AllByRecursion (λ ns. length (spots_in at_root ns) ≤ node_bound p)
    (attempts depth_limit s (default_contexts s.program) (root_element s.program) old)
plain_bounded s p old same plain small t =
    small_room component_levels p (node_bound p) (bound_is_own p small)
    (attempts depth_limit s (default_contexts s.program) (root_element s.program) old)
    (root_small component_levels s p same plain old (tree_fits p old plain t))

nothing_tried : (n : ℕ) (s : Sight) (old : Option Node) → component_at s.program (component_number s.program root_name) ≡ None
    → attempts (suc n) s (default_contexts s.program) (root_element s.program) old ≡ []
unfolding attempts
nothing_tried n s old h = rw h refl

-- No attempt against a tree of the program has more nodes than the bound.
pub attempts_bounded : (s : Sight) (p : Program) (old : Option Node) → s.program ≡ p → KeysApart p → node_bound p ≤ node_limit p → IsTree p old
    → AllByRecursion (λ ns. length (spots_in at_root ns) ≤ node_bound p)
    (attempts depth_limit s (default_contexts s.program) (root_element s.program) old)
attempts_bounded s p old same apart small t = go (plain_or_empty p apart)
  where
    go : IsPlain p ⊎ ((c : ℕ) → component_at p c ≡ None)
        → AllByRecursion (λ ns. length (spots_in at_root ns) ≤ node_bound p) (attempts depth_limit s (default_contexts s.program) (root_element s.program) old)
    go (inl plain) = plain_bounded s p old same plain small t
    go (inr missing_all) =
        let missing : component_at s.program (component_number s.program root_name) ≡ None =
        subst (λ (q : Program). component_at q (component_number q root_name) ≡ None) (sym same) (missing_all (component_number p root_name)) in
        subst (λ (xs : List Forest). AllByRecursion (λ ns. length (spots_in at_root ns) ≤ node_bound p) xs) (sym (nothing_tried 255 s old missing)) tt
