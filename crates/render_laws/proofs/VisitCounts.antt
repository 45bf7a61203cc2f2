-- The places that a whole render comes to are as many as its units begin, and those of components as many as the bodies that they evaluate.
use Rattle.std.specs.Prelude.{◌≡◌, ℕ, zero, suc, ◌+◌, Bool, true, false, cond, List, [], ◌∷◌, ◌++◌, Option, refl, length, filter, is_some, if◌then◌else◌}
use Rattle.std.proofs.Common.{arith, sym, ◌∙◌}
use Rattle.rx_elem.specs.Elements.{Element}
use Rattle.rx_elem.specs.Elements as elements
use Rattle.rx_elem.specs.Trees.{Node}
use Rattle.rx_meaning.specs.Fresh.{Sight, Contexts, Renders, Place, empty, made, waits, throws, Places, all_made, one_waits, one_throws, render_part, rendered, depth_limit, root_element, Part, Shape, absent, waiting, throwing, one_list, two_lists, guarded, shape_of}
use Rattle.rx_meaning.specs.Touched.{Visit, Setting, Visits, ends_list, visit_all, visit_part, is_wait, is_throw, children_with_old, visit_as, component_in, visit_here, visit_below, setting_below, setting_of_primary, setting_of_tried, setting_of_fallback, visited, at_top, visits, evaluated}
use Rattle.rx_meaning.specs.Cursor.{is_null}
use Rattle.rx_meaning.specs.Counts.{Tries, Weights, each_place, each_body, unless_waits, if_waits, if_throws, try_all, if_made, count_part, count_shape, counted, whole}

-- how many visits pass a test
abbrev pub passing : (Visit → Bool) → List Visit → ℕ
passing test vs = length (filter test vs)

passing_append : (test : Visit → Bool) (vs ws : List Visit) → passing test (vs ++ ws) ≡ passing test vs + passing test ws
passing_append test [] ws = omega arith
passing_append test (v ∷ vs) ws = go (test v) (passing_append test vs ws)
  where
    go : (b : Bool) → passing test (vs ++ ws) ≡ passing test vs + passing test ws
        → length (if b then v ∷ filter test (vs ++ ws) else filter test (vs ++ ws)) ≡ length (if b then v ∷ filter test vs else filter test vs) + passing test ws
    go true h = omega (arith, h)
    go false h = h

unless_passing : (test : Visit → Bool) (p : Place) (vs : List Visit) (n : ℕ) → passing test vs ≡ n → passing test (if ends_list p then [] else vs) ≡ unless_waits p n
unless_passing test empty vs n h = h
unless_passing test (made m) vs n h = h
unless_passing test (waits a) vs n h = refl
unless_passing test (throws x) vs n h = refl

if_passing : (test : Visit → Bool) (ps : Places) (vs : List Visit) (n : ℕ) → passing test vs ≡ n → passing test (if is_wait ps then vs else []) ≡ if_waits ps n
if_passing test (all_made ns) vs n h = refl
if_passing test (one_waits a) vs n h = h
if_passing test (one_throws x) vs n h = refl

if_thrown_passing : (test : Visit → Bool) (ps : Places) (vs : List Visit) (n : ℕ) → passing test vs ≡ n → passing test (if is_throw ps then vs else []) ≡ if_throws ps n
if_thrown_passing test (all_made ns) vs n h = refl
if_thrown_passing test (one_waits a) vs n h = refl
if_thrown_passing test (one_throws x) vs n h = h

if_made_none : (ps : Places) (n : ℕ) → n ≡ 0 → if_made ps n ≡ 0
if_made_none (all_made ns) n h = h
if_made_none (one_waits a) n h = refl
if_made_none (one_throws x) n h = refl

-- each place's own visit passes the test as often as its beginning counts
abbrev pub CountsHere : (Visit → Bool) → Weights → Sight → Type 0
CountsHere test w s = (at : Setting) (e : Element) (old : Option Node) → passing test (visit_as s at e old (component_in e) ∷ []) ≡ w.begins at.contexts e old

module _ (test : Visit → Bool) (w : Weights) (nothing : w.misses ≡ 0) (free : w.completes ≡ 0) (s : Sight) (own : CountsHere test w s) where
  -- as many visits pass as a count says
  abbrev IsCounted : Visits → (Contexts → Tries) → Type 0
  IsCounted v t = (at : Setting) (e : Element) (old : Option Node) → passing test (v at e old) ≡ t at.contexts e old

  all_counted : (v : Visits) (t : Contexts → Tries) (render : Renders) → IsCounted v t → (at : Setting) (k : ℕ) (xs : List (Element × Option Node))
      → passing test (visit_all v render at k xs) ≡ try_all (t at.contexts) render xs
  all_counted v t render h at k [] = refl
  all_counted v t render h at k (x ∷ xs) =
      passing_append test (v (record at { address = k ∷ at.address }) x.0 x.1) (if ends_list (render x.0 x.1) then [] else visit_all v render at (suc k) xs)
      ∙ omega (
        arith,
        h (record at { address = k ∷ at.address }) x.0 x.1,
        unless_passing test (render x.0 x.1) (visit_all v render at (suc k) xs) (try_all (t at.contexts) render xs) (all_counted v t render h at (suc k) xs),
      )

  part_counted : (v : Visits) (t : Contexts → Tries) (below : Contexts → Renders) → IsCounted v t → (at : Setting) (p : Part)
      → passing test (visit_part v below at p) ≡ count_part t below p
  part_counted v t below h at p = all_counted v t (below p.contexts) h (record at { contexts = p.contexts }) 0 (children_with_old p)

  shape_counted : (v : Visits) (t : Contexts → Tries) (below : Contexts → Renders) → IsCounted v t
      → (at : Setting) (e : Element) (old : Option Node) (shape : Shape)
      → passing test (visit_here s at e old shape ++ visit_below v below s (setting_below old at) e old shape) ≡ count_shape w t below at.contexts e old shape
  shape_counted v t below h at e old absent = rw nothing (neither (is_null e))
    where
      neither : (b : Bool) → passing test [] ≡ cond b 0 (passing test [])
      neither true = refl
      neither false = refl
  shape_counted v t below h at e old (waiting r version) = own at e old
  shape_counted v t below h at e old (throwing x) = own at e old
  shape_counted v t below h at e old (one_list m p) =
      passing_append test (visit_as s at e old (component_in e) ∷ []) (visit_part v below (setting_below old at) p)
      ∙ omega (arith, own at e old, part_counted v t below h (setting_below old at) p, if_made_none (render_part below p) w.completes free)
  shape_counted v t below h at e old (two_lists p f) =
      let inner = setting_of_primary s (setting_below old at) e old in
      let outer = setting_of_fallback (setting_below old at) in
      let rest = if is_wait (render_part below p) then visit_part v below outer f else [] in
      passing_append test (visit_as s at e old (component_in e) ∷ []) (visit_part v below inner p ++ rest)
      ∙ omega (
        arith,
        own at e old,
        passing_append test (visit_part v below inner p) rest,
        part_counted v t below h inner p,
        if_made_none (render_part below p) w.completes free,
        if_passing test (render_part below p) (visit_part v below outer f) (count_part t below f + if_made (render_part below f) w.completes)
            (omega (arith, part_counted v t below h outer f, if_made_none (render_part below f) w.completes free)),
      )
  shape_counted v t below h at e old (guarded p f) =
      let inner = setting_of_tried (setting_below old at) in
      let outer = setting_of_fallback (setting_below old at) in
      let rest = if is_throw (render_part below p) then visit_part v below outer f else [] in
      passing_append test (visit_as s at e old (component_in e) ∷ []) (visit_part v below inner p ++ rest)
      ∙ omega (
        arith,
        own at e old,
        passing_append test (visit_part v below inner p) rest,
        part_counted v t below h inner p,
        if_made_none (render_part below p) w.completes free,
        if_thrown_passing test (render_part below p) (visit_part v below outer f) (count_part t below f + if_made (render_part below f) w.completes)
            (omega (arith, part_counted v t below h outer f, if_made_none (render_part below f) w.completes free)),
      )

  visited_counted : (n : ℕ) → IsCounted (visited n s) (counted w n s)
  unfolding counted visited
  visited_counted zero at e old = rw nothing (neither (is_null e))
    where
      neither : (b : Bool) → passing test [] ≡ cond b 0 (passing test [])
      neither true = refl
      neither false = refl
  visited_counted (suc n) at e old = shape_counted (visited n s) (counted w n s) (rendered n s) (visited_counted n) at e old (shape_of s at.contexts e old)

  pub whole_counted : (old : Option Node) → passing test (visits s old) ≡ whole w s old
  unfolding whole visits
  whole_counted old = visited_counted depth_limit (at_top s.program) (root_element s.program) old

body_here : (s : Sight) → CountsHere (λ v. is_some v.component) each_body s
body_here s at elements.null old = refl
body_here s at (elements.text x) old = refl
body_here s at (elements.host n k attrs es) old = refl
body_here s at (elements.comp c k ps es) old = refl
body_here s at (elements.list marked es) old = refl
body_here s at (elements.boundary k f es) old = refl
body_here s at (elements.catcher k f es) old = refl
body_here s at (elements.provider c k x es) old = refl

-- A whole render evaluates as many bodies as it visits component places, those of dropped attempts included.
pub bodies_are_visits : (s : Sight) (old : Option Node) → whole each_body s old ≡ length (evaluated s old)
bodies_are_visits s old = sym (whole_counted (λ v. is_some v.component) each_body refl refl s (body_here s) old)

all_pass : (vs : List Visit) → passing (λ v. true) vs ≡ length vs
all_pass [] = refl
all_pass (v ∷ vs) = omega (arith, all_pass vs)

place_here : (s : Sight) → CountsHere (λ v. true) each_place s
place_here s at e old = refl

-- A whole render begins as many places as it visits.
pub places_are_visits : (s : Sight) (old : Option Node) → whole each_place s old ≡ length (visits s old)
places_are_visits s old = sym (whole_counted (λ v. true) each_place refl refl s (place_here s) old) ∙ all_pass (visits s old)
