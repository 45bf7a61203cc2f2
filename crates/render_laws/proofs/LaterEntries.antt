-- A render sees nothing that comes after its cut, so it may go on over a longer journal.
use Rattle.std.specs.Prelude.{◌≡◌, ℕ, zero, suc, ◌+◌, ◌≤◌, Bool, true, false, cond, List, [], ◌∷◌, ◌++◌, ℤ, map, filter, fold, option_and_then, Option, Some, None, nat_eq, nat_lt, not, length, refl}
use Rattle.std.specs.List.{enumerate_from, list_any}
use Rattle.std.proofs.Common.{arith, ap, sym, ◌∙◌}
use Rattle.std.proofs.lemmas.Bool.Decides.{nat_tests}
use Rattle.std.proofs.lemmas.List.{take-append-le}
use Rattle.rx_ast.specs.Syntax.{Component}
use Rattle.rx_rules.specs.Names.{component_at}
use Rattle.rx_elem.specs.Elements.{Element, Elements, listed}
use Rattle.rx_elem.specs.Elements as elements
use Rattle.rx_elem.specs.Trees.{Instance, Node}
use Rattle.rx_queue.specs.History.{applied, stands_done}
use Rattle.rx_queue.specs.Journal.{Journal, Posted, Resolution, done_version, hook, resource, same_target, is_included, state_of, values_at}
use Rattle.rx_meaning.specs.Expressions.{answers_of}
use Rattle.rx_meaning.specs.Body.{body_of}
use Rattle.rx_meaning.specs.Fresh.{Sight, Contexts, Renders, Place, made, rendered, fresh, depth_limit, default_contexts, root_element, values_of, old_instance, inputs_at, resource_numbers, version_seen, shape_of, shape_of_component, shape_of_body, place_of}
use Rattle.rx_meaning.specs.Touched.{sees_refresh}
use Rattle.rx_meaning.specs.Again.{AllOpen}
use Rattle.rx_meaning.specs.Cursor.{Frame, Cursor, at_place, at_end, ended, finished}
use Rattle.rx_meaning.specs.Rest.{from_open, list_from, tree_from, gives}
use Rattle.rx_meaning.specs.Counts.{unless_waits, try_all, Weights, each_unit, each_body, count_shape, count_open, counted, count_around, left, whole}
use Rattle.render_laws.specs.SameSight.{SeesSame, AllAfter}
use Rattle.render_laws.specs.InProgress.{InProgress}

module _ (s : Sight) (j : Journal) (same : SeesSame s j) where
  -- the sight with the other journal
  abbrev pub later : Sight
  later = record s { journal = j }

  pub values_same : (i : Instance) → values_of s i ≡ values_of later i
  values_same i = go i.number
    where
      go : (n : Option ℕ) → values_of s (record i { number = n }) ≡ values_of later (record i { number = n })
      go None = refl
      go (Some n) = ap Some (same.hooks n i.initials)

  hooks_same : (i : Option Instance) → option_and_then (values_of s) i ≡ option_and_then (values_of later) i
  hooks_same None = refl
  hooks_same (Some i) = values_same i

  inputs_same : (cs : Contexts) (props : List ℤ) (given : Elements) (old : Option Instance) → inputs_at s cs props given old ≡ inputs_at later cs props given old
  inputs_same cs props given old =
      λ i. record {
        props = props;
        children = listed given;
        hooks = hooks_same old i;
        contexts = cs;
        versions = map (λ r. same.versions r i) (resource_numbers s.program);
        resources = same.resources i;
      }

  component_same : (cs : Contexts) (c : ℕ) (props : List ℤ) (given : Elements) (old : Option Node) (d : Option Component)
      → shape_of_component s cs c props given old d ≡ shape_of_component later cs c props given old d
  component_same cs c props given old None = refl
  component_same cs c props given old (Some d) = ap (λ i. shape_of_body cs c old (body_of s.program d i)) (inputs_same cs props given (old_instance old))

  -- the same stands in a place
  pub shape_same : (cs : Contexts) (e : Element) (old : Option Node) → shape_of s cs e old ≡ shape_of later cs e old
  shape_same cs elements.null old = refl
  shape_same cs (elements.text t) old = refl
  shape_same cs (elements.host name key attrs es) old = refl
  shape_same cs (elements.comp c key props given) old = component_same cs c props given old (component_at s.program c)
  shape_same cs (elements.list marked es) old = refl
  shape_same cs (elements.boundary key f es) old = refl
  shape_same cs (elements.catcher key f es) old = refl
  shape_same cs (elements.provider c key x es) old = refl

  rendered_same : (n : ℕ) (cs : Contexts) (e : Element) (old : Option Node) → rendered n s cs e old ≡ rendered n later cs e old
  unfolding rendered
  rendered_same zero cs e old = refl
  rendered_same (suc n) cs e old =
      λ i. place_of (λ ds f o. rendered_same n ds f o i) e old (shape_same cs e old i)

  counted_same : (w : Weights) (n : ℕ) (cs : Contexts) (e : Element) (old : Option Node) → counted w n s cs e old ≡ counted w n later cs e old
  unfolding counted
  counted_same w zero cs e old = refl
  counted_same w (suc n) cs e old =
      λ i. count_shape w (λ ds f o. counted_same w n ds f o i) (λ ds f o. rendered_same n ds f o i) cs e old (shape_same cs e old i)

  -- how places are rendered and counted, as functions
  pub renders_same : (n : ℕ) → rendered n s ≡ rendered n later
  renders_same n = λ i cs e old. rendered_same n cs e old i

  counts_same : (w : Weights) (n : ℕ) → counted w n s ≡ counted w n later
  counts_same w n = λ i cs e old. counted_same w n cs e old i

  tree_same : (n : ℕ) (fs : List Frame) (p : Place) → tree_from n s fs p ≡ tree_from n later fs p
  tree_same n [] p = refl
  tree_same n (f ∷ fs) p =
      tree_same (suc n) fs (from_open (rendered n s) f.node (list_from (rendered n s) f p))
      ∙ ap (λ (r : Contexts → Renders). tree_from (suc n) later fs (from_open r f.node (list_from r f p))) (renders_same n)

  pub gives_same : (c : Cursor) → gives s c ≡ gives later c
  unfolding gives
  gives_same (at_place n fs cs e old) = tree_same n fs (rendered n s cs e old) ∙ ap (tree_from n later fs) (rendered_same n cs e old)
  gives_same (at_end n fs o done) = tree_same n fs (made (finished o done))
  gives_same (ended p) = refl

  around_same : (w : Weights) (n : ℕ) (fs : List Frame) (p : Place) → count_around w n s fs p ≡ count_around w n later fs p
  around_same w n [] p = refl
  around_same w n (f ∷ fs) p =
      ap (λ k. unless_waits p (try_all (counted w n s f.contexts) (rendered n s f.contexts) f.rest) + (count_open w (counted w n s) (rendered n s) f.node (list_from (rendered n s) f p) + k))
      (around_same w (suc n) fs (from_open (rendered n s) f.node (list_from (rendered n s) f p)))
      ∙ (λ i. unless_waits p (try_all (counts_same w n i f.contexts) (renders_same n i f.contexts) f.rest)
      + (count_open w (counts_same w n i) (renders_same n i) f.node (list_from (renders_same n i) f p)
      + count_around w (suc n) later fs (from_open (renders_same n i) f.node (list_from (renders_same n i) f p))))

  pub left_same : (w : Weights) (c : Cursor) → left w s c ≡ left w later c
  unfolding left
  left_same w (at_place n fs cs e old) =
      ap (λ k. counted w n s cs e old + k) (around_same w n fs (rendered n s cs e old))
      ∙ (λ i. counted_same w n cs e old i + count_around w n later fs (rendered_same n cs e old i))
  left_same w (at_end n fs o done) = ap (λ k. w.completes + k) (around_same w n fs (made (finished o done)))
  left_same w (ended p) = refl

  pub fresh_same : (old : Option Node) → fresh s old ≡ fresh later old
  unfolding fresh
  fresh_same old = rendered_same depth_limit (default_contexts s.program) (root_element s.program) old

  pub whole_same : (w : Weights) (old : Option Node) → whole w s old ≡ whole w later old
  unfolding whole
  whole_same w old = counted_same w depth_limit (default_contexts s.program) (root_element s.program) old

  -- What holds of a render in progress holds over the longer journal.
  pub holds_later : (old : Option Node) (units bodies : ℕ) (c : Cursor) → InProgress s old units bodies c → InProgress later old units bodies c
  holds_later old units bodies c h =
      record {
        gives_fresh = sym (gives_same c) ∙ (h.gives_fresh ∙ fresh_same old);
        fits = h.fits;
        stands = h.stands;
        units_bound = omega (arith, h.units_bound, left_same each_unit c, whole_same each_unit old);
        bodies_bound = omega (arith, h.bodies_bound, left_same each_body c, whole_same each_body old);
        fewer = h.fewer;
      }

-- Longer journals

-- no update passes a test
abbrev pub AllFail : (Posted → Bool) → List Posted → Type 0
AllFail test [] = Unit {0}
AllFail test (u ∷ us) = (test u ≡ false) × AllFail test us

-- an update after the cut isn't included
pub late_fail : (s : Sight) (new : List Posted) → AllAfter s.cut.updates new → AllFail (is_included s.lanes s.cut) new
late_fail s [] h = tt
late_fail s (u ∷ us) h = (go (nat_lt u.update.number s.cut.updates) refl, late_fail s us h.1)
  where
    go : (b : Bool) → nat_lt u.update.number s.cut.updates ≡ b → is_included s.lanes s.cut u ≡ false
    go true e = absurd (late e h.0)
      where
        late : nat_lt u.update.number s.cut.updates ≡ true → s.cut.updates ≤ u.update.number → ⊥
        late e l = grind (arith, nat_tests)
    go false e = rw e refl

none_pass : (mine test : Posted → Bool) (new : List Posted) → AllFail test new → filter test (filter mine new) ≡ []
none_pass mine test [] h = refl
none_pass mine test (u ∷ us) h = go (mine u) (none_pass mine test us h.1)
  where
    go : (b : Bool) → filter test (filter mine us) ≡ [] → filter test (cond b (u ∷ filter mine us) (filter mine us)) ≡ []
    go true k = rw (h.0) k
    go false k = k

more_pass : (mine test : Posted → Bool) (us new : List Posted) → AllFail test new → filter test (filter mine us) ≡ filter test (filter mine (us ++ new))
more_pass mine test [] new h = sym (none_pass mine test new h)
more_pass mine test (u ∷ us) new h = go (mine u) (test u) (more_pass mine test us new h)
  where
    go : (b c : Bool) → filter test (filter mine us) ≡ filter test (filter mine (us ++ new))
        → filter test (cond b (u ∷ filter mine us) (filter mine us)) ≡ filter test (cond b (u ∷ filter mine (us ++ new)) (filter mine (us ++ new)))
    go true c k = ap (λ vs. cond (test u) (u ∷ vs) vs) k
    go false c k = k

-- a longer journal shows the same versions of resources
pub longer_versions : (s : Sight) (new : List Posted) (more : List Resolution) → AllAfter s.cut.updates new → (r : ℕ)
    → version_seen s r ≡ version_seen (record s { journal = record { updates = s.journal.updates ++ new; resolutions = s.journal.resolutions ++ more } }) r
longer_versions s new more late r =
    ap length (more_pass (λ u. same_target (resource r) u.target) (is_included s.lanes s.cut) s.journal.updates new (late_fail s new late))

-- what is open is not done
open_fail : (new : List Posted) → AllOpen new → AllFail (λ u. stands_done u.standing) new
open_fail [] h = tt
open_fail (u ∷ us) h = (h.0, open_fail us h.2)

-- a longer journal shows a refresh exactly if the shorter one does, if all that is new is open
pub longer_refresh : (s : Sight) (new : List Posted) (more : List Resolution) → AllAfter s.cut.updates new → AllOpen new
    → sees_refresh s ≡ sees_refresh (record s { journal = record { updates = s.journal.updates ++ new; resolutions = s.journal.resolutions ++ more } })
longer_refresh s new more late opened =
    λ i. list_any (λ r. not (nat_eq (longer_versions s new more late r i) (done r i))) (resource_numbers s.program)
  where
    done : (r : ℕ) → done_version s.journal r ≡ done_version (record { updates = s.journal.updates ++ new; resolutions = s.journal.resolutions ++ more }) r
    done r = ap length (more_pass (λ u. same_target (resource r) u.target) (λ u. stands_done u.standing) s.journal.updates new (open_fail new opened))

pub longer_sees_same : (s : Sight) (new : List Posted) (more : List Resolution) → AllAfter s.cut.updates new → s.cut.resolutions ≤ length s.journal.resolutions
    → SeesSame s (record { updates = s.journal.updates ++ new; resolutions = s.journal.resolutions ++ more })
unfolding state_of
longer_sees_same s new more late within =
    record {
      hooks = λ n initials. from n 0 initials;
      versions = longer_versions s new more late;
      resources =
          let before = sym (take-append-le s.cut.resolutions s.journal.resolutions more within) in
          λ i. values_at (before i) (map (λ r. longer_versions s new more late r i) (resource_numbers s.program));
    }
  where
    from : (n k : ℕ) (xs : List ℤ)
        → map (λ h. state_of (answers_of s.program) s.lanes s.cut h.1 (filter (λ u. same_target (hook n h.0) u.target) s.journal.updates)) (enumerate_from k xs)
        ≡ map (λ h. state_of (answers_of s.program) s.lanes s.cut h.1 (filter (λ u. same_target (hook n h.0) u.target) (s.journal.updates ++ new))) (enumerate_from k xs)
    from n k [] = refl
    from n k (x ∷ xs) =
        let one = ap (λ us. fold (λ now u. applied (answers_of s.program) now u.update.op) x us)
        (more_pass (λ u. same_target (hook n k) u.target) (is_included s.lanes s.cut) s.journal.updates new (late_fail s new late)) in
        rw (one, from n (k + 1) xs) refl
