-- What is kept of the committed tree stays kept: at a commit, at an update and at a resolution.
use Rattle.std.specs.List.{enumerate_from}
use Rattle.std.specs.Prelude.{Bool, List, None, Option, Some, [], cond, false, filter, length, map, refl, true, ℕ, ℤ, ◌||◌, ◌++◌, ◌+◌, ◌∷◌, ◌≡◌, ◌≤◌}
use Rattle.std.proofs.Common.{arith, inl, inr, subst, sym, ◌∙◌}
use Rattle.rx_ast.specs.Syntax.{Program}
use Rattle.rx_rules.specs.Bounds.{depth_bound}
use Rattle.rx_elem.specs.Elements.{Element, Elements, listed}
use Rattle.rx_elem.specs.Numbers.{Numbers, numbered, numbered_host, numbered_in, numbered_instance, numbered_mark}
use Rattle.rx_elem.specs.Spots.{kept_instances, visible_instances}
use Rattle.rx_elem.specs.Trees.{Forest, Instance, Mark, Node, child, elements_in, is_hidden, node, none, of_boundary, of_catcher, of_host, of_instance, plain, vacant}
use Rattle.rx_meaning.specs.Expressions.{answers_of}
use Rattle.rx_meaning.specs.Fresh.{Contexts, Sight, before, default_contexts, depth_limit, fresh, made, resource_numbers, version_seen}
use Rattle.rx_meaning.specs.Outcome.{journal_after}
use Rattle.rx_meaning.specs.Touched.{contexts_below}
use Rattle.rx_queue.specs.History.{stands_done}
use Rattle.rx_queue.specs.Journal.{Posted, Resolution, Target, committed_value, hook, marked_update, resolutions_by, resource, same_target, values_at}
use Rattle.rx_meaning.specs.Body.{Inputs}
use Rattle.rx_susp.specs.declared.boundary.BoundaryState.TheVariants.{Hidden, Shown}
use Rattle.commit_laws.proofs.BodyLaw.{agreeing, body_agrees}
use Rattle.commit_laws.proofs.CommitSettles.{commit_settles, fresh_is, number_rises}
use Rattle.commit_laws.proofs.OwnNumbers.{numbers_stay_own, own_numbers_apart}
use Rattle.commit_laws.proofs.Settling.{neither, versions_are_done}
use Rattle.commit_laws.proofs.Rendered.{AllRendered, IsBodyIn, IsRendered}
use Rattle.rx_meaning.specs.Settled.{AllCalm, AllReadsHold, AllSettled, AllStill, DoneBefore, HasValuesOf, IfHidden, IfReadsHold, IfSettled, IsBodyOf, IsCalm, IsOwn, IsOwnBy, IsSettled, IsSound, IsStill, Known, ReadsHold, TargetsBelow, done_values, has_cause, is_stirred, read_anew, reads_another, refreshed}
use Rattle.rx_rules.specs.Reads.{ReadsDeclared}
use Rattle.rx_elem.specs.Elements as elements

-- Reads

own_reads : (s : Sight) (cs : Contexts) (e : Element) (m : Mark) (ns fs : Forest) → IsOwnBy (IsBodyIn s cs) e m ns fs → reads_another (version_seen s) cs m ≡ false
own_reads s cs elements.null m ns fs own = absurd own
own_reads s cs (elements.text t) m ns fs own = rw own.1 refl
own_reads s cs (elements.host n key attrs es) m ns fs own = rw own.1 refl
own_reads s cs (elements.comp c key props given) m ns fs own =
    rw own.1 (neither (read_anew cs own.0.reads) (refreshed (version_seen s) own.0.versions) own.2.was_read own.2.was_seen)
own_reads s cs (elements.list marked es) m ns fs own = rw own.0 refl
own_reads s cs (elements.boundary key f es) m ns fs (inl own) = rw own.0 refl
own_reads s cs (elements.boundary key f es) m ns fs (inr own) = rw own.1 refl
own_reads s cs (elements.catcher key f es) m ns fs (inl own) = rw own.0 refl
own_reads s cs (elements.catcher key f es) m ns fs (inr own) = rw own.1 refl
own_reads s cs (elements.provider c key x es) m ns fs own = rw own.0 refl

marked_reads : (version : ℕ → ℕ) (c : Numbers) (cs : Contexts) (m : Mark) → reads_another version cs (numbered_mark c m).1 ≡ reads_another version cs m
marked_reads version c cs (of_instance i) = go i.number
  where
    go : (n : Option ℕ) → reads_another version cs (numbered_instance c i n).1 ≡ (read_anew cs i.reads || refreshed version i.versions)
    go None = refl
    go (Some n) = refl
marked_reads version c cs (of_host h) = go h
  where
    go : (n : Option ℕ) → reads_another version cs (numbered_host c n).1 ≡ false
    go None = refl
    go (Some n) = refl
marked_reads version c cs plain = refl
marked_reads version c cs (of_boundary b) = refl
marked_reads version c cs (of_catcher k) = refl

pub marked_hidden : (c : Numbers) (m : Mark) → is_hidden m ≡ is_hidden (numbered_mark c m).1
marked_hidden c (of_instance i) = go i.number
  where
    go : (n : Option ℕ) → false ≡ is_hidden (numbered_instance c i n).1
    go None = refl
    go (Some n) = refl
marked_hidden c (of_host h) = go h
  where
    go : (n : Option ℕ) → false ≡ is_hidden (numbered_host c n).1
    go None = refl
    go (Some n) = refl
marked_hidden c plain = refl
marked_hidden c (of_boundary b) = refl
marked_hidden c (of_catcher k) = refl

pick_reads : (A B C : Type 0) (b : Bool) → IfHidden b A B → (B → C) → IfHidden b (Unit {0}) C
pick_reads A B C true h f = tt
pick_reads A B C false h f = f h

mutual
  rendered_reads : (s : Sight) (k : Known) (c : Numbers) (cs : Contexts) (n : Node) → IsRendered s k cs n → ReadsHold (version_seen s) cs (numbered c n).1
  rendered_reads s k c cs (node e m ns fs) h = (
    marked_reads (version_seen s) c cs m ∙ own_reads s cs e m ns fs h.0,
    subst (λ (b : Bool). IfHidden b (Unit {0}) (AllReadsHold (version_seen s) (contexts_below e cs) (numbered_in (numbered_mark c m).0 ns).1)) (marked_hidden c m)
        (pick_reads (AllSettled s.program k ns) (AllRendered s k (contexts_below e cs) ns) (AllReadsHold (version_seen s) (contexts_below e cs) (numbered_in (numbered_mark c m).0 ns).1) (is_hidden m) h.1
        (all_rendered_reads s k (numbered_mark c m).0 (contexts_below e cs) ns)),
    all_rendered_reads s k (numbered_in (numbered_mark c m).0 ns).0 cs fs h.2,
  )

  all_rendered_reads : (s : Sight) (k : Known) (c : Numbers) (cs : Contexts) (ns : Forest) → AllRendered s k cs ns → AllReadsHold (version_seen s) cs (numbered_in c ns).1
  all_rendered_reads s k c cs none h = tt
  all_rendered_reads s k c cs (vacant ns) h = all_rendered_reads s k c cs ns h
  all_rendered_reads s k c cs (child n ns) h = (rendered_reads s k c cs n h.0, all_rendered_reads s k (numbered c n).0 cs ns h.1)

-- A commit

targets_stay : (s : Sight) (visible kept : List ℕ) (next later : ℕ) → next ≤ later → (us : List Posted) → TargetsBelow next us
    → TargetsBelow later (map (marked_update s.lanes s.cut visible kept) us)
targets_stay s visible kept next later l [] h = tt
targets_stay s visible kept next later l (u ∷ us) h =
    (λ k i late. h.0 k i (omega arith), targets_stay s visible kept next later l us h.1)

pub commit_keeps : (s : Sight) (old : Option Node) (new : Node) (from : Numbers) (rs : List Resolution) → depth_bound s.program ≤ depth_limit → ReadsDeclared s.program
    → DoneBefore s.cut s.journal.updates → HasValuesOf rs (resolutions_by s.cut s.journal)
    → IsSound s.program (record { updates = s.journal.updates; resolutions = rs }) from.instance old → fresh s old ≡ made new
    → IsSound s.program (record { updates = (journal_after s.lanes s.cut (numbered from new).1 s.journal).updates; resolutions = resolutions_by s.cut s.journal })
    (numbered from new).0.instance (Some (numbered from new).1)
commit_keeps s old new from rs deep declared before more sound gives =
    let own = numbers_stay_own s old new from sound.own_numbers gives in
    record {
      settled = commit_settles s old new from rs deep declared before sound.targets more sound.settled gives (own_numbers_apart (numbered from new).0.instance (numbered from new).1 own);
      own_numbers = own;
      targets = targets_stay s (visible_instances (Some (numbered from new).1)) (kept_instances (Some (numbered from new).1)) from.instance (numbered from new).0.instance
          (number_rises from new) s.journal.updates sound.targets;
      reads = subst (λ (version : ℕ → ℕ). ReadsHold version (default_contexts s.program) (numbered from new).1)
          (sym (λ i r. versions_are_done s (visible_instances (Some (numbered from new).1)) (kept_instances (Some (numbered from new).1)) before r i))
          (rendered_reads s (record { updates = s.journal.updates; resolutions = rs }) from (default_contexts s.program) new
          (fresh_is s (record { updates = s.journal.updates; resolutions = rs }) old new deep declared sound.settled gives));
    }

-- Updates and resolutions

abbrev Goes : Program → Known → Known → Type 0
Goes p k l = (c : ℕ) (props : List ℤ) (given : Elements) (i : Instance) (es : List Element) → IsBodyOf p k c props given i es → IsBodyOf p l c props given i es

own_goes : (p : Program) (k l : Known) → Goes p k l → (e : Element) (m : Mark) (ns fs : Forest) → IsOwn p k e m ns fs → IsOwn p l e m ns fs
own_goes p k l f elements.null m ns fs own = own
own_goes p k l f (elements.text t) m ns fs own = own
own_goes p k l f (elements.host n key attrs es) m ns fs own = own
own_goes p k l f (elements.comp c key props given) m ns fs own = (own.0, own.1, f c props given own.0 (elements_in ns) own.2, own.3)
own_goes p k l f (elements.list marked es) m ns fs own = own
own_goes p k l f (elements.boundary key e es) m ns fs own = own
own_goes p k l f (elements.catcher key e es) m ns fs own = own
own_goes p k l f (elements.provider c key x es) m ns fs own = own

mutual
  settled_goes : (p : Program) (k l : Known) → Goes p k l → (n : Node) → IsSettled p k n → IsSettled p l n
  settled_goes p k l f (node e m ns fs) h = (own_goes p k l f e m ns fs h.0, all_settled_go p k l f ns h.1, all_settled_go p k l f fs h.2)

  all_settled_go : (p : Program) (k l : Known) → Goes p k l → (ns : Forest) → AllSettled p k ns → AllSettled p l ns
  all_settled_go p k l f none h = tt
  all_settled_go p k l f (vacant ns) h = all_settled_go p k l f ns h
  all_settled_go p k l f (child n ns) h = (settled_goes p k l f n h.0, all_settled_go p k l f ns h.1)

if_settled_goes : (p : Program) (k l : Known) → Goes p k l → (old : Option Node) → IfSettled p k old → IfSettled p l old
if_settled_goes p k l f None h = tt
if_settled_goes p k l f (Some n) h = settled_goes p k l f n h

updates_pushed : (t : Target) (us : List Posted) (u : Posted) → stands_done u.standing ≡ false
    → filter (λ u. stands_done u.standing) (filter (λ u. same_target t u.target) (us ++ u ∷ [])) ≡ filter (λ u. stands_done u.standing) (filter (λ u. same_target t u.target) us)
updates_pushed t [] u h = go (same_target t u.target)
  where
    go : (b : Bool) → filter (λ u. stands_done u.standing) (cond b (u ∷ []) []) ≡ []
    go true = rw h refl
    go false = refl
updates_pushed t (v ∷ us) u h = go (same_target t v.target) (stands_done v.standing) refl (updates_pushed t us u h)
  where
    go : (b d : Bool) → stands_done v.standing ≡ d
        → filter (λ u. stands_done u.standing) (filter (λ u. same_target t u.target) (us ++ u ∷ [])) ≡ filter (λ u. stands_done u.standing) (filter (λ u. same_target t u.target) us)
        → filter (λ u. stands_done u.standing) (cond b (v ∷ filter (λ u. same_target t u.target) (us ++ u ∷ [])) (filter (λ u. same_target t u.target) (us ++ u ∷ [])))
        ≡ filter (λ u. stands_done u.standing) (cond b (v ∷ filter (λ u. same_target t u.target) us) (filter (λ u. same_target t u.target) us))
    go true true e r = rw (e, r) refl
    go true false e r = rw (e, r) refl
    go false d e r = r

values_pushed : (p : Program) (rs : List Resolution) (us : List Posted) (u : Posted) → stands_done u.standing ≡ false → (n : ℕ) (initials : List ℤ)
    → done_values p (record { updates = us; resolutions = rs }) n initials ≡ done_values p (record { updates = us ++ u ∷ []; resolutions = rs }) n initials
unfolding committed_value
values_pushed p rs us u h n initials = from 0 initials
  where
    from : (k : ℕ) (xs : List ℤ)
        → map (λ h. committed_value (answers_of p) h.1 (filter (λ u. same_target (hook n h.0) u.target) us)) (enumerate_from k xs)
        ≡ map (λ h. committed_value (answers_of p) h.1 (filter (λ u. same_target (hook n h.0) u.target) (us ++ u ∷ []))) (enumerate_from k xs)
    from k [] = refl
    from k (x ∷ xs) = rw (updates_pushed (hook n k) us u h, from (k + 1) xs) refl

targets_pushed : (next : ℕ) (us : List Posted) (u : Posted) → TargetsBelow next us → ((k i : ℕ) → next ≤ i → same_target (hook i k) u.target ≡ false) → TargetsBelow next (us ++ u ∷ [])
targets_pushed next [] u h k = (k, tt)
targets_pushed next (v ∷ us) u h k = (h.0, targets_pushed next us u h.1 k)

-- an update that isn't done yet, of an instance that there is
pub update_keeps : (p : Program) (us : List Posted) (rs : List Resolution) (next : ℕ) (tree : Option Node) (u : Posted) → stands_done u.standing ≡ false
    → ((k i : ℕ) → next ≤ i → same_target (hook i k) u.target ≡ false)
    → IsSound p (record { updates = us; resolutions = rs }) next tree → IsSound p (record { updates = us ++ u ∷ []; resolutions = rs }) next tree
update_keeps p us rs next tree u not_done below sound =
    record {
      settled = if_settled_goes p (record { updates = us; resolutions = rs }) (record { updates = us ++ u ∷ []; resolutions = rs })
          (λ c props given i es b. record {
            component = b.component;
            is_component = b.is_component;
            is_of = b.is_of;
            instance = b.instance;
            is_numbered = b.is_numbered;
            initials = b.initials;
            gives = λ ds version agrees same. rw (sym (values_pushed p rs us u not_done b.instance i.initials)) (b.gives ds version agrees same);
          }) tree sound.settled;
      own_numbers = sound.own_numbers;
      targets = targets_pushed next us u sound.targets below;
      reads = subst (λ (version : ℕ → ℕ). IfReadsHold version (default_contexts p) tree) (sym (λ i r. length (updates_pushed (resource r) us u not_done i))) sound.reads;
    }

-- more versions of resources have values
pub resolution_keeps : (p : Program) (us : List Posted) (rs more : List Resolution) (next : ℕ) (tree : Option Node) → HasValuesOf rs more
    → IsSound p (record { updates = us; resolutions = rs }) next tree → IsSound p (record { updates = us; resolutions = more }) next tree
resolution_keeps p us rs more next tree has_more sound =
    record {
      settled = if_settled_goes p (record { updates = us; resolutions = rs }) (record { updates = us; resolutions = more })
          (λ c props given i es b. record {
            component = b.component;
            is_component = b.is_component;
            is_of = b.is_of;
            instance = b.instance;
            is_numbered = b.is_numbered;
            initials = b.initials;
            gives = λ ds version agrees same.
                let was : Inputs = record { props = props; children = listed given; hooks = Some (done_values p (record { updates = us; resolutions = rs }) b.instance i.initials); contexts = ds; versions = map version (resource_numbers p); resources = values_at rs (map version (resource_numbers p)) } in
                body_agrees p was ds version (map version (resource_numbers p)) (values_at more (map version (resource_numbers p))) b.component es i.effects b.initials i.reads i.versions
                (agreeing p was ds version version rs more refl refl has_more i.reads i.versions agrees same) (b.gives ds version agrees same);
          }) tree sound.settled;
      own_numbers = sound.own_numbers;
      targets = sound.targets;
      reads = sound.reads;
    }

-- If contexts and versions are the committed ones, a calm subtree has no cause.

calm_mark : (s : Sight) (cs : Contexts) (m : Mark) → is_stirred s m ≡ false → reads_another (version_seen s) cs m ≡ false → has_cause s cs m ≡ false
calm_mark s cs (of_instance i) h k = rw (h, k) refl
calm_mark s cs (of_host n) h k = refl
calm_mark s cs plain h k = refl
calm_mark s cs (of_boundary Shown) h k = refl
calm_mark s cs (of_boundary (Hidden a)) h k = h
calm_mark s cs (of_catcher c) h k = refl

not_hidden : (s : Sight) (m : Mark) → is_stirred s m ≡ false → is_hidden m ≡ false
not_hidden s (of_instance i) h = refl
not_hidden s (of_host n) h = refl
not_hidden s plain h = refl
not_hidden s (of_boundary Shown) h = refl
not_hidden s (of_boundary (Hidden a)) h = absurd (cc h)
not_hidden s (of_catcher c) h = refl

mutual
  pub calm_is_still : (s : Sight) (cs : Contexts) (n : Node) → IsCalm s n → ReadsHold (version_seen s) cs n → IsStill s cs n
  calm_is_still s cs (node e m ns fs) h k = (
    calm_mark s cs m h.0 k.0,
    all_calm_still s (contexts_below e cs) ns h.1
        (subst (λ (b : Bool). IfHidden b (Unit {0}) (AllReadsHold (version_seen s) (contexts_below e cs) ns)) (not_hidden s m h.0) k.1),
    all_calm_still s cs fs h.2 k.2,
  )

  all_calm_still : (s : Sight) (cs : Contexts) (ns : Forest) → AllCalm s ns → AllReadsHold (version_seen s) cs ns → AllStill s cs ns
  all_calm_still s cs none h k = tt
  all_calm_still s cs (vacant ns) h k = all_calm_still s cs ns h k
  all_calm_still s cs (child n ns) h k = (calm_is_still s cs n h.0 k.0, all_calm_still s cs ns h.1 k.1)
