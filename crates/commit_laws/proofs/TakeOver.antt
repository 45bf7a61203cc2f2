-- A subtree that is idle and reads nothing anew is rendered to itself; so is one that has no cause.
use Rattle.std.specs.List.{enumerate_from, list_any, zip}
use Rattle.std.specs.Prelude.{Bool, List, None, Option, Some, [], cond, false, filter, map, nat_eq, nat_lt, not, option_map, option_to_list, refl, suc, true, zero, ℕ, ℤ, ◌&&◌, ◌||◌, ◌+◌, ◌∷◌, ◌≡◌, ◌≤◌}
use Rattle.std.proofs.Common.{ap, arith, inl, inr, subst, sym, ◌∙◌}
use Rattle.rx_ast.specs.Syntax.{Component, Program}
use Rattle.rx_base.specs.declared.cut.Cut.{Cut}
use Rattle.rx_elem.specs.Compare.{old_nodes}
use Rattle.rx_elem.specs.Elements.{Element, Elements, gathered, is_present, listed}
use Rattle.rx_elem.specs.Trees.{Forest, Instance, Mark, Node, child, element_of, elements_in, is_hidden, node, none, of_boundary, of_catcher, of_host, of_instance, places, plain, vacant}
use Rattle.rx_meaning.specs.Body.{body_of, ready}
use Rattle.rx_meaning.specs.Expressions.{answers_of}
use Rattle.rx_meaning.specs.Fresh.{Contexts, Renders, Sight, all_made, before, empty, hook_values, inputs_at, instance_after, made, one_list, part, place_of, render_all, rendered, resources_seen, shape_of, shape_of_body, shape_of_component, version_seen, versions_seen}
use Rattle.rx_meaning.specs.Touched.{contexts_below, has_update}
use Rattle.rx_lane.specs.Lanes.{Lanes}
use Rattle.rx_queue.specs.History.{stands_done}
use Rattle.rx_queue.specs.Journal.{Posted, Target, belongs_to, committed_value, hook, resource, is_included, same_target, state_of}
use Rattle.rx_susp.specs.declared.boundary.BoundaryState.TheVariants.{Hidden, Shown}
use Rattle.rx_catch.specs.declared.state.CatchState.TheVariants.{Caught, Fine}
use Rattle.rx_meaning.proofs.Depths.{ShapeFits, not_deepest, shape_fits}
use Rattle.rx_elem.proofs.Deciding.{same_itself, same_number, and_passes, or_fails}
use Rattle.rx_elem.proofs.SelfMatch.{NoNull, matches_itself}
use Rattle.rx_meaning.specs.Levels.{Fits, body_depth, elements_depth}
use Rattle.rx_meaning.specs.Settled.{AllCalm, AllReadsHold, AllSettled, AllStill, DoneBefore, IfHidden, IsBodyOf, IsCalm, IsOwn, IsSettled, IsStill, Known, ReadsHold, done_values, has_cause, is_stirred, kept_shape, known_by, read_anew, reads_another, refreshed}
use Rattle.commit_laws.specs.Idle.{AllIdle, HasCommittedValues, IsIdle, IsIdleMark}
use Rattle.rx_elem.specs.Elements as elements

-- Hook values

target_belongs : (n k : ℕ) (t : Target) → same_target (hook n k) t ≡ true → belongs_to (n ∷ []) t ≡ true
target_belongs n k (hook i l) h =
    let both = and_passes (nat_eq n i) (nat_eq k l) h in
    let same : n ≡ i = same_number n i both.0 in
    let back : nat_eq i n ≡ true = subst (λ (m : ℕ). nat_eq i m ≡ true) (sym same) (same_itself i) in
    rw back refl
target_belongs n k (resource r) h = absurd (cc h)

included_is_done : (inc done b : Bool) → b ≡ true → (done ≡ true → inc ≡ true) → (inc && (not done && b)) ≡ false → inc ≡ done
included_is_done true true b h k l = refl
included_is_done false false b h k l = refl
included_is_done false true b h k l = absurd (cc (k refl))
included_is_done true false b h k l = absurd (cc (h, l))

pub done_is_included : (lanes : Lanes) (cut : Cut) (u : Posted) → (stands_done u.standing ≡ true → nat_lt u.update.number cut.updates ≡ true) → stands_done u.standing ≡ true
    → is_included lanes cut u ≡ true
done_is_included lanes cut u h k = rw (h k, k) refl

-- the updates of a hook whose instance has no cause: those that are included are done
updates_agree : (s : Sight) (n k : ℕ) (us : List Posted) → DoneBefore s.cut us
    → list_any (λ u. is_included s.lanes s.cut u && (not (stands_done u.standing) && belongs_to (n ∷ []) u.target)) us ≡ false
    → filter (is_included s.lanes s.cut) (filter (λ u. same_target (hook n k) u.target) us) ≡ filter (λ u. stands_done u.standing) (filter (λ u. same_target (hook n k) u.target) us)
updates_agree s n k [] h l = refl
updates_agree s n k (u ∷ us) h l =
    let both = or_fails (is_included s.lanes s.cut u && (not (stands_done u.standing) && belongs_to (n ∷ []) u.target))
    (list_any (λ u. is_included s.lanes s.cut u && (not (stands_done u.standing) && belongs_to (n ∷ []) u.target)) us) l in
    go (same_target (hook n k) u.target) refl both.0 (updates_agree s n k us h.1 both.1)
  where
    same : (t : Bool) → same_target (hook n k) u.target ≡ t → t ≡ true
        → (is_included s.lanes s.cut u && (not (stands_done u.standing) && belongs_to (n ∷ []) u.target)) ≡ false
        → is_included s.lanes s.cut u ≡ stands_done u.standing
    same t e p f =
        included_is_done (is_included s.lanes s.cut u) (stands_done u.standing) (belongs_to (n ∷ []) u.target)
        (target_belongs n k u.target (e ∙ p)) (done_is_included s.lanes s.cut u h.0) f

    pick : (a b : Bool) → a ≡ b → (us vs : List Posted) → (p q : Posted → Bool) → p u ≡ a → q u ≡ b → filter p us ≡ filter q vs
        → filter p (u ∷ us) ≡ filter q (u ∷ vs)
    pick true true e us vs p q x y z = rw (x, y, z) refl
    pick false false e us vs p q x y z = rw (x, y, z) refl
    pick true false e us vs p q x y z = absurd (cc e)
    pick false true e us vs p q x y z = absurd (cc e)

    go : (t : Bool) → same_target (hook n k) u.target ≡ t
        → (is_included s.lanes s.cut u && (not (stands_done u.standing) && belongs_to (n ∷ []) u.target)) ≡ false
        → filter (is_included s.lanes s.cut) (filter (λ u. same_target (hook n k) u.target) us) ≡ filter (λ u. stands_done u.standing) (filter (λ u. same_target (hook n k) u.target) us)
        → filter (is_included s.lanes s.cut) (cond t (u ∷ filter (λ u. same_target (hook n k) u.target) us) (filter (λ u. same_target (hook n k) u.target) us))
        ≡ filter (λ u. stands_done u.standing) (cond t (u ∷ filter (λ u. same_target (hook n k) u.target) us) (filter (λ u. same_target (hook n k) u.target) us))
    go true e f r =
        pick (is_included s.lanes s.cut u) (stands_done u.standing) (same true e refl f)
        (filter (λ u. same_target (hook n k) u.target) us) (filter (λ u. same_target (hook n k) u.target) us)
        (is_included s.lanes s.cut) (λ u. stands_done u.standing) refl refl r
    go false e f r = r

-- an instance without a cause has the values that are done
hooks_agree : (s : Sight) (n : ℕ) → DoneBefore s.cut s.journal.updates
    → list_any (λ u. is_included s.lanes s.cut u && (not (stands_done u.standing) && belongs_to (n ∷ []) u.target)) s.journal.updates ≡ false
    → (initials : List ℤ) → hook_values s n initials ≡ done_values s.program (known_by s) n initials
unfolding state_of committed_value
hooks_agree s n h l initials = from 0 initials
  where
    from : (k : ℕ) (xs : List ℤ)
        → map (λ h. state_of (answers_of s.program) s.lanes s.cut h.1 (filter (λ u. same_target (hook n h.0) u.target) s.journal.updates)) (enumerate_from k xs)
        ≡ map (λ h. committed_value (answers_of s.program) h.1 (filter (λ u. same_target (hook n h.0) u.target) s.journal.updates)) (enumerate_from k xs)
    from k [] = refl
    from k (x ∷ xs) = rw (updates_agree s n k s.journal.updates h l, from (k + 1) xs) refl

-- Shapes

pub own_not_null : (p : Program) (k : Known) (e : Element) (m : Mark) (ns fs : Forest) → IsOwn p k e m ns fs → is_present e ≡ true
own_not_null p k elements.null m ns fs h = absurd h
own_not_null p k (elements.text t) m ns fs h = refl
own_not_null p k (elements.host n key attrs es) m ns fs h = refl
own_not_null p k (elements.comp c key props given) m ns fs h = refl
own_not_null p k (elements.list marked es) m ns fs h = refl
own_not_null p k (elements.boundary key f es) m ns fs h = refl
own_not_null p k (elements.catcher key f es) m ns fs h = refl
own_not_null p k (elements.provider c key x es) m ns fs h = refl

-- the body of an instance with the committed values gives what the instance has
body_again : (s : Sight) (cs : Contexts) (d : Component) (props : List ℤ) (given : Elements) (i : Instance) (es : List Element) (n : ℕ) → i.number ≡ Some n
    → (initials : List ℤ)
    → body_of s.program d (record { props = props; children = listed given; hooks = Some (done_values s.program (known_by s) n i.initials); contexts = cs; versions = versions_seen s; resources = resources_seen s })
    ≡ ready es i.effects initials i.reads i.versions
    → hook_values s n i.initials ≡ done_values s.program (known_by s) n i.initials
    → body_of s.program d (inputs_at s cs props given (Some i)) ≡ ready es i.effects initials i.reads i.versions
body_again s cs d props given i es n number initials body values = rw (number, values) body

same_instance : (c : ℕ) (i : Instance) (initials : List ℤ) → i.component ≡ c → instance_after c (Some i) initials i.reads i.versions i.effects ≡ i
same_instance c i initials same = rw (sym same) refl

component_again : (s : Sight) (cs : Contexts) (c : ℕ) (props : List ℤ) (given : Elements) (e : Element) (i : Instance) (ns fs : Forest) (d : Component) (initials : List ℤ)
    → i.component ≡ c
    → body_of s.program d (inputs_at s cs props given (Some i)) ≡ ready (elements_in ns) i.effects initials i.reads i.versions
    → shape_of_component s cs c props given (Some (node e (of_instance i) ns fs)) (Some d) ≡ one_list (of_instance i) (part cs (elements_in ns) ns)
component_again s cs c props given e i ns fs d initials same again =
    ap (shape_of_body cs c (Some (node e (of_instance i) ns fs))) again
    ∙ ap (λ (j : Instance). one_list (of_instance j) (part cs (elements_in ns) ns)) (same_instance c i initials same)

instance_again : (s : Sight) (cs : Contexts) (c : ℕ) (key : _) (props : List ℤ) (given : Elements) (i : Instance) (ns fs : Forest)
    → IsBodyOf s.program (known_by s) c props given i (elements_in ns) → HasCommittedValues s i → (read_anew cs i.reads || refreshed (version_seen s) i.versions) ≡ false
    → shape_of s cs (elements.comp c key props given) (Some (node (elements.comp c key props given) (of_instance i) ns fs))
    ≡ one_list (of_instance i) (part cs (elements_in ns) ns)
instance_again s cs c key props given i ns fs body same calm =
    let reads = or_fails (read_anew cs i.reads) (refreshed (version_seen s) i.versions) calm in
    let both : Some (hook_values s body.instance i.initials) ≡ Some (done_values s.program (known_by s) body.instance i.initials) = rw body.is_numbered at same in
    let values : hook_values s body.instance i.initials ≡ done_values s.program (known_by s) body.instance i.initials = cc in
    let again : body_of s.program body.component (inputs_at s cs props given (Some i)) ≡ ready (elements_in ns) i.effects body.initials i.reads i.versions =
    body_again s cs body.component props given i (elements_in ns) body.instance body.is_numbered body.initials (body.gives cs (version_seen s) reads.0 reads.1) values in
    ap (shape_of_component s cs c props given (Some (node (elements.comp c key props given) (of_instance i) ns fs))) body.is_component
    ∙ component_again s cs c props given (elements.comp c key props given) i ns fs body.component body.initials body.is_of again

hidden_not_idle : (s : Sight) (m : Mark) (a : _) → IsIdleMark s m → m ≡ of_boundary (Hidden a) → ⊥
hidden_not_idle s m a idle same = rw same at idle

-- A place that is idle and reads nothing anew renders its own children again: no body need be evaluated to know it.
pub idle_shape : (s : Sight) (cs : Contexts) (e : Element) (m : Mark) (ns fs : Forest)
    → IsOwn s.program (known_by s) e m ns fs → IsIdleMark s m → reads_another (version_seen s) cs m ≡ false
    → shape_of s cs e (Some (node e m ns fs)) ≡ kept_shape cs e m ns fs
idle_shape s cs elements.null m ns fs own idle reads = refl
idle_shape s cs (elements.text t) m ns fs own idle reads = rw (own.1, own.2) refl
idle_shape s cs (elements.host n key attrs es) m ns fs own idle reads = rw (own.1, own.2) refl
idle_shape s cs (elements.comp c key props given) m ns fs own idle reads =
    let values : HasCommittedValues s own.0 = rw own.1 at idle in
    let calm : (read_anew cs own.0.reads || refreshed (version_seen s) own.0.versions) ≡ false = rw own.1 at reads in
    rw own.1 (instance_again s cs c key props given own.0 ns fs own.2 values calm)
idle_shape s cs (elements.list marked es) m ns fs own idle reads = rw (own.0, own.1) refl
idle_shape s cs (elements.boundary key f es) m ns fs (inl own) idle reads = rw own.1 refl
idle_shape s cs (elements.boundary key f es) m ns fs (inr own) idle reads = absurd (hidden_not_idle s m own.0 idle own.1)
idle_shape s cs (elements.catcher key f es) m ns fs (inl own) idle reads = rw (own.0, own.1) refl
idle_shape s cs (elements.catcher key f es) m ns fs (inr own) idle reads = rw (own.1, own.3) refl
idle_shape s cs (elements.provider c key x es) m ns fs own idle reads = rw (own.0, own.1) refl

-- Subtrees

pub settled_no_null : (p : Program) (k : Known) (ns : Forest) → AllSettled p k ns → NoNull ns
settled_no_null p k none h = tt
settled_no_null p k (vacant ns) h = settled_no_null p k ns h
settled_no_null p k (child (node e m ps fs) ns) h = (own_not_null p k e m ps fs h.0.0, settled_no_null p k ns h.1)

-- the nodes of a kept shape
place_of_kept : (below : Contexts → Renders) (p : Program) (k : Known) (s : Sight) (cs : Contexts) (e : Element) (m : Mark) (ns fs : Forest)
    → IsOwn p k e m ns fs → IsIdleMark s m → old_nodes ns (elements_in ns) ≡ places ns → old_nodes fs (elements_in fs) ≡ places fs
    → render_all (below (contexts_below e cs)) (zip (elements_in ns) (places ns)) ≡ all_made ns
    → render_all (below cs) (zip (elements_in fs) (places fs)) ≡ all_made fs
    → place_of below e (Some (node e m ns fs)) (kept_shape cs e m ns fs) ≡ made (node e m ns fs)
place_of_kept below p k s cs elements.null m ns fs own idle found other again beside = absurd own
place_of_kept below p k s cs (elements.text t) m ns fs own idle found other again beside = rw (found, again, own.1, own.3) refl
place_of_kept below p k s cs (elements.host n key attrs es) m ns fs own idle found other again beside = rw (found, again, own.1, own.3) refl
place_of_kept below p k s cs (elements.comp c key props given) m ns fs own idle found other again beside = rw (found, again, own.1, own.3) refl
place_of_kept below p k s cs (elements.list marked es) m ns fs own idle found other again beside = rw (found, again, own.0, own.2) refl
place_of_kept below p k s cs (elements.boundary key f es) m ns fs (inl own) idle found other again beside = rw (found, again, own.0, own.2) refl
place_of_kept below p k s cs (elements.boundary key f es) m ns fs (inr own) idle found other again beside = absurd (hidden_not_idle s m own.0 idle own.1)
place_of_kept below p k s cs (elements.catcher key f es) m ns fs (inl own) idle found other again beside = rw (own.0, found, again, own.2) refl
place_of_kept below p k s cs (elements.catcher key f es) m ns fs (inr own) idle found other again beside = rw (own.1, other, beside, own.2) refl
place_of_kept below p k s cs (elements.provider c key x es) m ns fs own idle found other again beside = rw (found, again, own.0, own.2) refl

-- the children of a kept shape are less deep, and so is the fallback of an error boundary that has caught a value, the only one that an idle node has
abbrev BothFit : ℕ → Program → (children fallback : Forest) → Type 0
BothFit n p ns fs =
    (elements_depth (body_depth n p) (gathered (elements_in ns)) ≤ n) × (elements_depth (body_depth n p) (gathered (elements_in fs)) ≤ n)

one_fits : (n : ℕ) (p : Program) (ns fs : Forest) → fs ≡ none → elements_depth (body_depth n p) (gathered (elements_in ns)) ≤ n → BothFit n p ns fs
one_fits n p ns fs nothing h = (h, rw nothing (omega arith))

kept_fits : (n : ℕ) (p : Program) (k : Known) (s : Sight) (cs : Contexts) (e : Element) (m : Mark) (ns fs : Forest) → IsOwn p k e m ns fs → IsIdleMark s m
    → ShapeFits n p (kept_shape cs e m ns fs) → BothFit n p ns fs
kept_fits n p k s cs elements.null m ns fs own idle h = absurd own
kept_fits n p k s cs (elements.text t) m ns fs own idle h = one_fits n p ns fs own.3 h
kept_fits n p k s cs (elements.host x key attrs es) m ns fs own idle h = one_fits n p ns fs own.3 h
kept_fits n p k s cs (elements.comp c key props given) m ns fs own idle h = one_fits n p ns fs own.3 h
kept_fits n p k s cs (elements.list marked es) m ns fs own idle h = one_fits n p ns fs own.2 h
kept_fits n p k s cs (elements.boundary key f es) m ns fs (inl own) idle h = one_fits n p ns fs own.2 h.0
kept_fits n p k s cs (elements.boundary key f es) m ns fs (inr own) idle h = absurd (hidden_not_idle s m own.0 idle own.1)
kept_fits n p k s cs (elements.catcher key f es) m ns fs (inl own) idle h =
    let tried : ShapeFits n p (kept_shape cs (elements.catcher key f es) (of_catcher Fine) ns fs) = subst (λ (q : Mark). ShapeFits n p (kept_shape cs (elements.catcher key f es) q ns fs)) own.0 h in
    one_fits n p ns fs own.2 tried.0
kept_fits n p k s cs (elements.catcher key f es) m ns fs (inr own) idle h =
    let caught : ShapeFits n p (kept_shape cs (elements.catcher key f es) (of_catcher (Caught own.0)) ns fs) = subst (λ (q : Mark). ShapeFits n p (kept_shape cs (elements.catcher key f es) q ns fs)) own.1 h in
    (rw own.2 (omega arith), caught)
kept_fits n p k s cs (elements.provider c key x es) m ns fs own idle h = one_fits n p ns fs own.2 h

idle_both_fit : (n : ℕ) (s : Sight) (cs : Contexts) (e : Element) (m : Mark) (ns fs : Forest)
    → IsOwn s.program (known_by s) e m ns fs → IsIdleMark s m → reads_another (version_seen s) cs m ≡ false → Fits (suc n) s.program e
    → BothFit n s.program ns fs
idle_both_fit n s cs e m ns fs own idle reads fits =
    let whole = shape_fits n s cs e (Some (node e m ns fs)) fits in
    kept_fits n s.program (known_by s) s cs e m ns fs own idle
    (subst (ShapeFits n s.program) (idle_shape s cs e m ns fs own idle reads) whole)

node_again : (n : ℕ) (s : Sight) (cs : Contexts) (e : Element) (m : Mark) (ns fs : Forest)
    → IsOwn s.program (known_by s) e m ns fs → IsIdleMark s m → reads_another (version_seen s) cs m ≡ false → NoNull ns → NoNull fs
    → render_all (rendered n s (contexts_below e cs)) (zip (elements_in ns) (places ns)) ≡ all_made ns
    → render_all (rendered n s cs) (zip (elements_in fs) (places fs)) ≡ all_made fs
    → rendered (suc n) s cs e (Some (node e m ns fs)) ≡ made (node e m ns fs)
unfolding rendered
node_again n s cs e m ns fs own idle reads there others again beside =
    (ap (place_of (rendered n s) e (Some (node e m ns fs))) (idle_shape s cs e m ns fs own idle reads)
    ∙ place_of_kept (rendered n s) s.program (known_by s) s cs e m ns fs own idle (matches_itself ns there) (matches_itself fs others) again beside)

first_again : (n : ℕ) (s : Sight) (cs : Contexts) (x : Node) (ns : Forest) → rendered n s cs (element_of x) (Some x) ≡ made x
    → render_all (rendered n s cs) (zip (elements_in ns) (places ns)) ≡ all_made ns
    → render_all (rendered n s cs) (zip (elements_in (child x ns)) (places (child x ns))) ≡ all_made (child x ns)
first_again n s cs x ns first rest = rw (first, rest) refl

pub null_is_empty : (n : ℕ) (s : Sight) (cs : Contexts) (old : Option Node) → rendered n s cs elements.null old ≡ empty
unfolding rendered
null_is_empty zero s cs old = refl
null_is_empty (suc n) s cs old = refl

gap_again : (n : ℕ) (s : Sight) (cs : Contexts) (ns : Forest) → render_all (rendered n s cs) (zip (elements_in ns) (places ns)) ≡ all_made ns
    → render_all (rendered n s cs) (zip (elements_in (vacant ns)) (places (vacant ns))) ≡ all_made (vacant ns)
gap_again n s cs ns rest = rw (null_is_empty n s cs None, rest) refl

-- the children of a node that is idle read the contexts of their place
reads_below : (s : Sight) (m : Mark) (A : Type 0) → IsIdleMark s m → IfHidden (is_hidden m) (Unit {0}) A → A
reads_below s (of_instance i) A idle reads = reads
reads_below s (of_host h) A idle reads = reads
reads_below s plain A idle reads = reads
reads_below s (of_boundary Shown) A idle reads = reads
reads_below s (of_boundary (Hidden a)) A idle reads = absurd idle
reads_below s (of_catcher c) A idle reads = reads

mutual
  -- A subtree that is idle and reads nothing anew is rendered to itself.
  pub idle_again : (n : ℕ) (s : Sight) (cs : Contexts) (o : Node) → IsSettled s.program (known_by s) o → IsIdle s o → ReadsHold (version_seen s) cs o
      → Fits n s.program (element_of o) → rendered n s cs (element_of o) (Some o) ≡ made o
  idle_again zero s cs (node e m ns fs) settled idle reads fits =
      absurd (omega (arith, not_deepest s.program e fits (own_not_null s.program (known_by s) e m ns fs settled.0)))
  idle_again (suc n) s cs (node e m ns fs) settled idle reads fits =
      node_again n s cs e m ns fs settled.0 idle.0 reads.0 (settled_no_null s.program (known_by s) ns settled.1) (settled_no_null s.program (known_by s) fs settled.2)
      (all_idle_again n s (contexts_below e cs) ns settled.1 idle.1 (reads_below s m (AllReadsHold (version_seen s) (contexts_below e cs) ns) idle.0 reads.1) both.0)
      (all_idle_again n s cs fs settled.2 idle.2 reads.2 both.1)
    where
      both : BothFit n s.program ns fs
      both = idle_both_fit n s cs e m ns fs settled.0 idle.0 reads.0 fits

  all_idle_again : (n : ℕ) (s : Sight) (cs : Contexts) (ns : Forest) → AllSettled s.program (known_by s) ns → AllIdle s ns → AllReadsHold (version_seen s) cs ns
      → elements_depth (body_depth n s.program) (gathered (elements_in ns)) ≤ n
      → render_all (rendered n s cs) (zip (elements_in ns) (places ns)) ≡ all_made ns
  all_idle_again n s cs none settled idle reads fits = refl
  all_idle_again n s cs (vacant ns) settled idle reads fits = gap_again n s cs ns (all_idle_again n s cs ns settled idle reads (omega arith))
  all_idle_again n s cs (child x ns) settled idle reads fits =
      first_again n s cs x ns (idle_again n s cs x settled.0 idle.0 reads.0 (omega arith)) (all_idle_again n s cs ns settled.1 idle.1 reads.1 (omega arith))

-- Causes

-- an instance of which no update is included that isn't done has the committed values
unstirred_values : (s : Sight) (i : Instance) → DoneBefore s.cut s.journal.updates → has_update s (option_to_list i.number) ≡ false → HasCommittedValues s i
unstirred_values s i before calm = by_number i.number calm
  where
    by_number : (n : Option ℕ) → has_update s (option_to_list n) ≡ false
        → option_map (λ n. hook_values s n i.initials) n ≡ option_map (λ n. done_values s.program (known_by s) n i.initials) n
    by_number None h = refl
    by_number (Some n) h = ap Some (hooks_agree s n before h i.initials)

calm_mark : (s : Sight) (m : Mark) → DoneBefore s.cut s.journal.updates → is_stirred s m ≡ false → IsIdleMark s m
calm_mark s (of_instance i) before calm = unstirred_values s i before calm
calm_mark s (of_host h) before calm = tt
calm_mark s plain before calm = tt
calm_mark s (of_boundary Shown) before calm = tt
calm_mark s (of_boundary (Hidden a)) before calm = cc
calm_mark s (of_catcher c) before calm = tt

mutual
  -- A calm tree is idle.
  pub calm_is_idle : (s : Sight) (o : Node) → DoneBefore s.cut s.journal.updates → IsCalm s o → IsIdle s o
  calm_is_idle s (node e m ns fs) before calm = (calm_mark s m before calm.0, all_calm_are_idle s ns before calm.1, all_calm_are_idle s fs before calm.2)

  all_calm_are_idle : (s : Sight) (ns : Forest) → DoneBefore s.cut s.journal.updates → AllCalm s ns → AllIdle s ns
  all_calm_are_idle s none before calm = tt
  all_calm_are_idle s (vacant ns) before calm = all_calm_are_idle s ns before calm
  all_calm_are_idle s (child x ns) before calm = (calm_is_idle s x before calm.0, all_calm_are_idle s ns before calm.1)

-- a node without a cause is idle, and reads nothing anew
still_mark : (s : Sight) (cs : Contexts) (m : Mark) → DoneBefore s.cut s.journal.updates → has_cause s cs m ≡ false → IsIdleMark s m × (reads_another (version_seen s) cs m ≡ false)
still_mark s cs (of_instance i) before still =
    let parts = or_fails (has_update s (option_to_list i.number)) (read_anew cs i.reads || refreshed (version_seen s) i.versions) still in (unstirred_values s i before parts.0, parts.1)
still_mark s cs (of_host h) before still = (tt, refl)
still_mark s cs plain before still = (tt, refl)
still_mark s cs (of_boundary Shown) before still = (tt, refl)
still_mark s cs (of_boundary (Hidden a)) before still = cc
still_mark s cs (of_catcher c) before still = (tt, refl)

if_shown : (b : Bool) (A : Type 0) → A → IfHidden b (Unit {0}) A
if_shown true A h = tt
if_shown false A h = h

mutual
  still_is_idle : (s : Sight) (cs : Contexts) (o : Node) → DoneBefore s.cut s.journal.updates → IsStill s cs o → IsIdle s o × ReadsHold (version_seen s) cs o
  still_is_idle s cs (node e m ns fs) before still =
      let here = still_mark s cs m before still.0 in
      let below = all_still_are_idle s (contexts_below e cs) ns before still.1 in
      let beside = all_still_are_idle s cs fs before still.2 in
      ((here.0, below.0, beside.0), (here.1, if_shown (is_hidden m) (AllReadsHold (version_seen s) (contexts_below e cs) ns) below.1, beside.1))

  all_still_are_idle : (s : Sight) (cs : Contexts) (ns : Forest) → DoneBefore s.cut s.journal.updates → AllStill s cs ns → AllIdle s ns × AllReadsHold (version_seen s) cs ns
  all_still_are_idle s cs none before still = (tt, tt)
  all_still_are_idle s cs (vacant ns) before still = all_still_are_idle s cs ns before still
  all_still_are_idle s cs (child x ns) before still =
      let here = still_is_idle s cs x before still.0 in
      let more = all_still_are_idle s cs ns before still.1 in
      ((here.0, more.0), (here.1, more.1))

-- A place that has no cause renders its own children again.
pub same_shape : (s : Sight) (cs : Contexts) (e : Element) (m : Mark) (ns fs : Forest) → DoneBefore s.cut s.journal.updates
    → IsOwn s.program (known_by s) e m ns fs → has_cause s cs m ≡ false
    → shape_of s cs e (Some (node e m ns fs)) ≡ kept_shape cs e m ns fs
same_shape s cs e m ns fs before own calm = let idle = still_mark s cs m before calm in idle_shape s cs e m ns fs own idle.0 idle.1

pub children_fit_again : (n : ℕ) (s : Sight) (cs : Contexts) (e : Element) (m : Mark) (ns fs : Forest) → DoneBefore s.cut s.journal.updates
    → IsOwn s.program (known_by s) e m ns fs → has_cause s cs m ≡ false → Fits (suc n) s.program e
    → elements_depth (body_depth n s.program) (gathered (elements_in ns)) ≤ n
children_fit_again n s cs e m ns fs before own calm fits = let idle = still_mark s cs m before calm in (idle_both_fit n s cs e m ns fs own idle.0 idle.1 fits).0

pub fallback_fits_again : (n : ℕ) (s : Sight) (cs : Contexts) (e : Element) (m : Mark) (ns fs : Forest) → DoneBefore s.cut s.journal.updates
    → IsOwn s.program (known_by s) e m ns fs → has_cause s cs m ≡ false → Fits (suc n) s.program e
    → elements_depth (body_depth n s.program) (gathered (elements_in fs)) ≤ n
fallback_fits_again n s cs e m ns fs before own calm fits = let idle = still_mark s cs m before calm in (idle_both_fit n s cs e m ns fs own idle.0 idle.1 fits).1

-- A subtree that has no cause is rendered to itself.
pub rendered_again : (n : ℕ) (s : Sight) (cs : Contexts) (o : Node) → DoneBefore s.cut s.journal.updates → IsSettled s.program (known_by s) o → IsStill s cs o
    → Fits n s.program (element_of o) → rendered n s cs (element_of o) (Some o) ≡ made o
rendered_again n s cs o before settled still fits = let idle = still_is_idle s cs o before still in idle_again n s cs o settled idle.0 idle.1 fits

pub all_again : (n : ℕ) (s : Sight) (cs : Contexts) (ns : Forest) → DoneBefore s.cut s.journal.updates → AllSettled s.program (known_by s) ns → AllStill s cs ns
    → elements_depth (body_depth n s.program) (gathered (elements_in ns)) ≤ n
    → render_all (rendered n s cs) (zip (elements_in ns) (places ns)) ≡ all_made ns
all_again n s cs ns before settled still fits = let idle = all_still_are_idle s cs ns before still in all_idle_again n s cs ns settled idle.0 idle.1 fits
