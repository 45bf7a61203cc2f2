-- The hidden boundaries of the committed tree wait again, in each render since the last commit and over a longer journal.
use Rattle.std.specs.List.{list_any}
use Rattle.std.specs.Prelude.{Bool, IfSome, List, None, Option, Some, [], cond, false, length, map, nat_lt, refl, slice_index_or, suc, true, zero, ℕ, ℤ, ◌&&◌, ◌++◌, ◌||◌, ◌∷◌, ◌≡◌, ◌≤◌}
use Rattle.std.proofs.Common.{arith, ap, subst, sym, ◌∙◌}
use Rattle.rx_ast.specs.Syntax.{Program}
use Rattle.rx_base.specs.Awaits.{resource_limit}
use Rattle.rx_base.specs.declared.cut.Cut.{Cut}
use Rattle.rx_lane.specs.Lanes.{Lanes, no_lanes}
use Rattle.rx_rules.specs.Bounds.{depth_bound, may_throw_in}
use Rattle.rx_rules.specs.Names.{resources}
use Rattle.rx_elem.specs.Elements.{Element, listed}
use Rattle.rx_elem.specs.Elements as elements
use Rattle.rx_elem.specs.Numbers.{Numbers}
use Rattle.rx_elem.specs.Spots.{kept_instances, visible_instances}
use Rattle.rx_elem.specs.Trees.{Forest, Instance, Mark, Node, child, element_of, elements_in, is_hidden, node, none, of_boundary, of_catcher, of_host, of_instance, plain, vacant}
use Rattle.rx_queue.specs.History.{stands_done, stands_open, stands_owed}
use Rattle.rx_queue.specs.Journal.{Journal, Posted, Resolution, belongs_to, cut_now, is_new, marked_update, resolutions_by}
use Rattle.rx_queue.specs.declared.entry.Standing.{Standing}
use Rattle.rx_queue.specs.declared.entry.Standing.TheVariants.{Done, Open, Owed}
use Rattle.rx_susp.specs.declared.boundary.BoundaryState.TheVariants.{Hidden, Shown}
use Rattle.rx_meaning.specs.Again.{AllOpen, AllValuesAgree, MarkAgrees, NoNewUpdate, ValuesAgree, WaitsAreSmall}
use Rattle.rx_meaning.specs.Fresh.{Contexts, Renders, Sight, default_contexts, depth_limit, part, render_part, root_element, values_of, versions_seen}
use Rattle.rx_meaning.specs.Levels.{Fits}
use Rattle.rx_meaning.specs.Settled.{AllReadsHold, AllSettled, HasValuesOf, IfHidden, IsSettled, Known, ReadsHold, version_done}
use Rattle.rx_meaning.specs.Touched.{contexts_below, instances_in, sees_refresh}
use Rattle.rx_meaning.proofs.Depths.{not_deepest, shape_fits}
use Rattle.render_laws.proofs.DepthLaw.{part_limits_agree}
use Rattle.render_laws.proofs.LaterEntries.{longer_refresh, longer_sees_same, renders_same, values_same}
use Rattle.render_laws.specs.SameSight.{AllAfter, SeesSame}
use Rattle.commit_laws.proofs.HiddenLaw.{all_values_agree, numbers_in_itself}
use Rattle.commit_laws.proofs.OwnNumbers.{own_numbers_apart}
use Rattle.commit_laws.proofs.Rendered.{AreApart}
use Rattle.commit_laws.proofs.ResourceLaws.{resolutions_same, resources_again, values_stay}
use Rattle.commit_laws.proofs.Settling.{tree_seen}
use Rattle.commit_laws.proofs.SmallWaits.{waits_are_small}
use Rattle.commit_laws.proofs.TakeOver.{own_not_null}
use Rattle.commit_laws.proofs.VersionsStay.{accounted_done, versions_stay}
use Rattle.commit_laws.proofs.WaitsAgain.{attempt_waits_again}
use Rattle.commit_laws.specs.HiddenWaits.{AllHiddenWait, AllNumbered, AllSeen, HiddenWaits, OwnWaits, Seen}
use Rattle.commit_laws.specs.WaitsAgain.{AllWaitAgain, IfWaitsAgain, OwnWaitsAgain, WaitsAgain, without_lanes}
use Rattle.rx_model.specs.Committing.{sight_of, starting}
use Rattle.rx_model.specs.State.{Progress, State}
use Rattle.run_laws.proofs.BodyFits.{ListFits, children_fit, fallback_fits}
use Rattle.run_laws.proofs.Carrying.{start_renders}
use Rattle.run_laws.specs.Carried.{Carries, IsCarried, LastCommit, RendersOn, sight_at}

-- Values of instances

-- each instance has the same values at two sights
abbrev Agree : Sight → Sight → Type 0
Agree s t = (i : Instance) → values_of s i ≡ values_of t i

mark_agrees : (s t : Sight) → Agree s t → (m : Mark) → MarkAgrees s t m
mark_agrees s t h (of_instance i) = h i
mark_agrees s t h (of_host x) = tt
mark_agrees s t h plain = tt
mark_agrees s t h (of_boundary b) = tt
mark_agrees s t h (of_catcher c) = tt

mutual
  node_agrees : (s t : Sight) → Agree s t → (x : Node) → ValuesAgree s t x
  node_agrees s t h (node e m ns fs) = (mark_agrees s t h m, forest_agrees s t h ns, forest_agrees s t h fs)

  -- so do those of a tree
  forest_agrees : (s t : Sight) → Agree s t → (ns : Forest) → AllValuesAgree s t ns
  forest_agrees s t h none = tt
  forest_agrees s t h (vacant ns) = forest_agrees s t h ns
  forest_agrees s t h (child x ns) = (node_agrees s t h x, forest_agrees s t h ns)

mark_then : (s t u : Sight) (m : Mark) → MarkAgrees s t m → MarkAgrees t u m → MarkAgrees s u m
mark_then s t u (of_instance i) h k = h ∙ k
mark_then s t u (of_host x) h k = tt
mark_then s t u plain h k = tt
mark_then s t u (of_boundary b) h k = tt
mark_then s t u (of_catcher c) h k = tt

mutual
  node_then : (s t u : Sight) (x : Node) → ValuesAgree s t x → ValuesAgree t u x → ValuesAgree s u x
  node_then s t u (node e m ns fs) h k = (mark_then s t u m h.0 k.0, forest_then s t u ns h.1 k.1, forest_then s t u fs h.2 k.2)

  -- two sights that agree on a tree with a third one agree on it
  forest_then : (s t u : Sight) (ns : Forest) → AllValuesAgree s t ns → AllValuesAgree t u ns → AllValuesAgree s u ns
  forest_then s t u none h k = tt
  forest_then s t u (vacant ns) h k = forest_then s t u ns h k
  forest_then s t u (child x ns) h k = (node_then s t u x h.0 k.0, forest_then s t u ns h.1 k.1)

-- A longer journal

module _ (s : Sight) (j : Journal) (same : SeesSame s j) (still : SeesSame (without_lanes s) j) (refresh : sees_refresh s ≡ sees_refresh (record s { journal = j })) where
  -- the sight with the other journal
  abbrev later : Sight
  later = record s { journal = j }

  own_later : (cs : Contexts) (e : Element) (m : Mark) (ns : Forest) → OwnWaitsAgain s cs e m ns → OwnWaitsAgain later cs e m ns
  own_later cs elements.null m ns h = tt
  own_later cs (elements.text t) m ns h = tt
  own_later cs (elements.host name key attrs es) m ns h = tt
  own_later cs (elements.comp c key props given) m ns h = tt
  own_later cs (elements.list marked es) m ns h = tt
  own_later cs (elements.provider c key x es) m ns h = tt
  own_later cs (elements.catcher key f es) m ns h = tt
  own_later cs (elements.boundary key f es) (of_instance i) ns h = tt
  own_later cs (elements.boundary key f es) (of_host x) ns h = tt
  own_later cs (elements.boundary key f es) plain ns h = tt
  own_later cs (elements.boundary key f es) (of_catcher c) ns h = tt
  own_later cs (elements.boundary key f es) (of_boundary Shown) ns h = tt
  own_later cs (elements.boundary key f es) (of_boundary (Hidden a)) ns h = λ calm no_throw unresolved agree n fits.
      ap (λ (r : Contexts → Renders). render_part r (part cs (listed es) ns)) (sym (renders_same s j same n))
      ∙ h (refresh ∙ calm) no_throw (λ r there. ap (λ (xs : List (Option ℤ)). slice_index_or xs r None) same.resources ∙ unresolved r there)
      (forest_then (without_lanes s) (without_lanes later) s ns (forest_agrees (without_lanes s) (without_lanes later) (values_same (without_lanes s) j still) ns)
      (forest_then (without_lanes later) later s ns agree (forest_agrees later s (λ i. sym (values_same s j same i)) ns)))
      n fits

  mutual
    node_later : (cs : Contexts) (x : Node) → WaitsAgain s cs x → WaitsAgain later cs x
    node_later cs (node e m ns fs) h =
        (own_later cs e m ns h.0, shown (is_hidden m) h.1 (all_later (contexts_below e cs) ns), all_later cs fs h.2)
      where
        shown : (b : Bool) → IfHidden b (Unit {0}) (AllWaitAgain s (contexts_below e cs) ns)
            → (AllWaitAgain s (contexts_below e cs) ns → AllWaitAgain later (contexts_below e cs) ns) → IfHidden b (Unit {0}) (AllWaitAgain later (contexts_below e cs) ns)
        shown true k f = tt
        shown false k f = f k

    all_later : (cs : Contexts) (ns : Forest) → AllWaitAgain s cs ns → AllWaitAgain later cs ns
    all_later cs none h = tt
    all_later cs (vacant ns) h = all_later cs ns h
    all_later cs (child x ns) h = (node_later cs x h.0, all_later cs ns h.1)

  -- Hidden boundaries wait again over a journal that shows the same, with the lanes and without them.
  pub later_waits_again : (cs : Contexts) (tree : Option Node) → IfWaitsAgain s cs tree → IfWaitsAgain later cs tree
  later_waits_again cs None h = tt
  later_waits_again cs (Some x) h = node_later cs x h

-- So they do over a longer journal, if all that is new is open.
pub longer_waits_again : (s : Sight) (new : List Posted) (more : List Resolution) → AllAfter s.cut.updates new → AllOpen new → s.cut.resolutions ≤ length s.journal.resolutions
    → (cs : Contexts) (tree : Option Node) → IfWaitsAgain s cs tree
    → IfWaitsAgain (record s { journal = record { updates = s.journal.updates ++ new; resolutions = s.journal.resolutions ++ more } }) cs tree
longer_waits_again s new more late opened within cs tree h =
    later_waits_again s (record { updates = s.journal.updates ++ new; resolutions = s.journal.resolutions ++ more }) (longer_sees_same s new more late within)
    (longer_sees_same (without_lanes s) new more late within) (longer_refresh s new more late opened) cs tree h

-- Since the last commit

-- no lanes include no open update
no_new_update : (cut : Cut) (set : List ℕ) (us : List Posted) → NoNewUpdate no_lanes cut set us
no_new_update cut set [] = refl
no_new_update cut set (u ∷ us) = go (nat_lt u.update.number cut.updates) (belongs_to set u.target) u.standing (no_new_update cut set us)
  where
    go : (x b : Bool) (st : Standing) → list_any (λ u. is_new no_lanes cut u && belongs_to set u.target) us ≡ false
        → (((x && (stands_done st || stands_owed st || false)) && stands_open st) && b || list_any (λ u. is_new no_lanes cut u && belongs_to set u.target) us) ≡ false
    go true b Open h = h
    go true b Done h = h
    go true b Owed h = h
    go false b st h = h

module _ (p : Program) (j : Journal) (lanes : Lanes) (cut last : Cut) (tree : Node) (k : Known) (version : ℕ → ℕ) (small : WaitsAreSmall p) (c : LastCommit p j last tree) (apart : AreApart tree)
    (updates_grow : last.updates ≤ cut.updates) (resolutions_grow : last.resolutions ≤ cut.resolutions) where
  -- what the last commit saw
  abbrev seen : Sight
  seen = sight_at p c.journal c.lanes last c.seen

  -- what a render since sees
  abbrev now : Sight
  now = sight_at p j lanes cut last.resolutions

  abbrev visible : List ℕ
  visible = visible_instances (Some tree)

  abbrev kept : List ℕ
  kept = kept_instances (Some tree)

  more : HasValuesOf (resolutions_by last c.journal) (resolutions_by cut j)
  more =
      subst (λ (xs : List Resolution). HasValuesOf (resolutions_by last c.journal) (resolutions_by cut (record { updates = j.updates; resolutions = xs })))
      (sym c.resolutions_are) (values_stay c.journal j.updates c.more last cut resolutions_grow)

  -- a render that sees no refresh sees the versions of the last commit
  versions_again : sees_refresh now ≡ false → versions_seen seen ≡ versions_seen now
  versions_again =
      subst (λ (us : List Posted). sees_refresh (sight_at p (record { updates = us; resolutions = j.resolutions }) lanes cut last.resolutions) ≡ false
      → versions_seen seen ≡ versions_seen (sight_at p (record { updates = us; resolutions = j.resolutions }) lanes cut last.resolutions)) (sym c.updates_are)
      (versions_stay seen visible kept (accounted_done last c.journal.updates c.accounted) c.new c.opened j.resolutions lanes cut)

  -- with as many resolutions it sees the same ones
  as_many : may_throw_in p ≡ true → (last.resolutions ≤ cut.resolutions) × (cut.resolutions ≡ last.resolutions → resolutions_by last c.journal ≡ resolutions_by cut j)
  as_many throws = (
    resolutions_grow,
    λ equal. subst (λ (xs : List Resolution). resolutions_by last c.journal ≡ resolutions_by cut (record { updates = j.updates; resolutions = xs }))
        (sym c.resolutions_are) (resolutions_same c.journal j.updates c.more last cut c.within equal),
  )

  -- what is kept has the values of the last attempt by the updates that are done or owed
  values_stand : (ns : Forest) → AllNumbered ns → AllSeen visible kept false ns → AllValuesAgree seen (without_lanes now) ns
  values_stand ns numbers there =
      subst (λ (us : List Posted). AllValuesAgree seen (sight_at p (record { updates = us; resolutions = j.resolutions }) no_lanes cut last.resolutions) ns) (sym c.updates_are)
      (all_values_agree seen no_lanes cut visible kept (instances_in ns) apart updates_grow c.new j.resolutions c.accounted c.opened
      (no_new_update cut (instances_in ns) (map (marked_update c.lanes last visible kept) c.journal.updates)) (no_new_update cut (instances_in ns) c.new) ns numbers there (numbers_in_itself ns))

  own_again : (n : ℕ) (cs : Contexts) (e : Element) (m : Mark) (ns : Forest) → OwnWaits n seen cs e m ns → AllSeen visible kept (cond (is_hidden m) false true) ns → Fits (suc n) p e
      → OwnWaitsAgain now cs e m ns
  own_again n cs elements.null m ns w there fits = tt
  own_again n cs (elements.text t) m ns w there fits = tt
  own_again n cs (elements.host name key attrs es) m ns w there fits = tt
  own_again n cs (elements.comp x key props given) m ns w there fits = tt
  own_again n cs (elements.list marked es) m ns w there fits = tt
  own_again n cs (elements.provider x key v es) m ns w there fits = tt
  own_again n cs (elements.catcher key f es) m ns w there fits = tt
  own_again n cs (elements.boundary key f es) (of_instance i) ns w there fits = tt
  own_again n cs (elements.boundary key f es) (of_host x) ns w there fits = tt
  own_again n cs (elements.boundary key f es) plain ns w there fits = tt
  own_again n cs (elements.boundary key f es) (of_catcher x) ns w there fits = tt
  own_again n cs (elements.boundary key f es) (of_boundary Shown) ns w there fits = tt
  own_again n cs (elements.boundary key f es) (of_boundary (Hidden a)) ns w there fits = λ calm no_throw unresolved agree levels enough.
      let both = shape_fits n seen cs (elements.boundary key f es) None fits in
      let waited = part_limits_agree seen (part cs (listed es) ns) levels n enough both.0 ∙ w.0 in
      attempt_waits_again seen j lanes cut small (versions_again calm) more (resources_again seen j lanes cut (versions_again calm) as_many no_throw) levels (part cs (listed es) ns) a (forest_then seen (without_lanes now) now ns (values_stand ns w.1 there) agree) waited unresolved

  -- so each visible hidden boundary waits again
  mutual
    node_again : (n : ℕ) (cs : Contexts) (x : Node) → HiddenWaits n seen cs x → IsSettled p k x → ReadsHold version cs x → Seen visible kept true x → Fits n p (element_of x) → WaitsAgain now cs x
    node_again zero cs (node e m ns fs) w settled reads there fits = absurd (omega (arith, not_deepest p e fits (own_not_null p k e m ns fs settled.0)))
    node_again (suc n) cs (node e m ns fs) w settled reads there fits = (
      own_again n cs e m ns w.0 there.1 fits,
      shown (is_hidden m) refl w.1 reads.1 there.1 (all_again n (contexts_below e cs) ns),
      all_again n cs fs w.2 settled.2 reads.2 there.2 (fallback_fits n now k cs e m ns fs settled.0 fits),
    )
      where
        shown : (b : Bool) → is_hidden m ≡ b → IfHidden b (Unit {0}) (AllHiddenWait n seen (contexts_below e cs) ns) → IfHidden b (Unit {0}) (AllReadsHold version (contexts_below e cs) ns)
            → AllSeen visible kept (cond b false true) ns
            → (AllHiddenWait n seen (contexts_below e cs) ns → AllSettled p k ns → AllReadsHold version (contexts_below e cs) ns → AllSeen visible kept true ns → ListFits n p (elements_in ns)
            → AllWaitAgain now (contexts_below e cs) ns)
            → IfHidden b (Unit {0}) (AllWaitAgain now (contexts_below e cs) ns)
        shown true same a r x f = tt
        shown false same a r x f = f a settled.1 r x (children_fit n now k version cs e m ns fs same settled.0 reads.0 fits)

    all_again : (n : ℕ) (cs : Contexts) (ns : Forest) → AllHiddenWait n seen cs ns → AllSettled p k ns → AllReadsHold version cs ns → AllSeen visible kept true ns → ListFits n p (elements_in ns)
        → AllWaitAgain now cs ns
    all_again n cs none w settled reads there fits = tt
    all_again n cs (vacant ns) w settled reads there fits = all_again n cs ns w settled reads there (omega arith)
    all_again n cs (child x ns) w settled reads there fits =
        (node_again n cs x w.0 settled.0 reads.0 there.0 (omega arith), all_again n cs ns w.1 settled.1 reads.1 there.1 (omega arith))

root_fits : (p : Program) → depth_bound p ≤ depth_limit → Fits depth_limit p (root_element p)
unfolding depth_bound
root_fits p deep = omega arith

-- The hidden boundaries wait again in a render since the last commit.
pub render_waits_again : (p : Program) → depth_bound p ≤ depth_limit → length (resources p) ≤ resource_limit
    → (j : Journal) (numbers : Numbers) (tree : Option Node) (lanes : Lanes) (cut : Cut) (known : List Resolution) (last : Cut)
    → Carries p j numbers tree known last → RendersOn p j known last lanes cut → IfWaitsAgain (sight_at p j lanes cut last.resolutions) (default_contexts p) tree
render_waits_again p deep few j numbers None lanes cut known last c r = tt
render_waits_again p deep few j numbers (Some x) lanes cut known last c r =
    node_again p j lanes cut last x (record { updates = j.updates; resolutions = known }) (version_done j.updates) (waits_are_small p few) c.committed (own_numbers_apart numbers.instance x c.sound.own_numbers)
    r.updates_grow r.resolutions_grow depth_limit (default_contexts p) x c.committed.waits c.sound.settled c.sound.reads (tree_seen x)
    (subst (Fits depth_limit p) (sym c.rooted) (root_fits p deep))

-- in one that starts now
pub starting_waits_again : (p : Program) → depth_bound p ≤ depth_limit → length (resources p) ≤ resource_limit → (s : State) → IsCarried p s → (lanes : Lanes)
    → IfWaitsAgain (sight_of p s (starting s lanes)) (default_contexts p) s.tree
starting_waits_again p deep few s c lanes =
    subst (λ (n : ℕ). IfWaitsAgain (sight_at p s.journal lanes (cut_now s.journal) n) (default_contexts p) s.tree) (sym c.4)
    (render_waits_again p deep few s.journal s.numbers s.tree lanes (cut_now s.journal) c.0 c.1 c.2 (start_renders p s.journal s.numbers s.tree lanes c.0 c.1 c.2))

-- and in the one that is in progress
pub progress_waits_again : (p : Program) → depth_bound p ≤ depth_limit → length (resources p) ≤ resource_limit → (s : State) → IsCarried p s → (g : Progress) → s.progress ≡ Some g
    → IfWaitsAgain (sight_of p s g) (default_contexts p) s.tree
progress_waits_again p deep few s c g is =
    subst (λ (n : ℕ). IfWaitsAgain (sight_at p s.journal g.lanes g.cut n) (default_contexts p) s.tree) (sym c.4)
    (render_waits_again p deep few s.journal s.numbers s.tree g.lanes g.cut c.0 c.1 c.2
    (subst (λ (x : Option Progress). IfSome x (λ g. RendersOn p s.journal c.0 c.1 g.lanes g.cut)) is c.3))
