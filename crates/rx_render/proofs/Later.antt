-- What changes nothing of a render in progress: a longer journal, and whatever leaves the journal, the tree, the links and what the last commit saw.
use Rattle.std.specs.Prelude.{◌≡◌, ℤ, ℕ, ◌≤◌, Bool, true, false, List, [], ◌∷◌, ◌++◌, Option, IfSome, length, map, refl}
use Rattle.std.proofs.Common.{sym, ap, ◌∙◌, subst, arith}
use Rattle.std.proofs.lemmas.List.{append-nil, length-append, take-append-le}
use Rattle.rx_base.specs.declared.cut.Cut.{Cut}
use Rattle.rx_ast.specs.Syntax.{Program}
use Rattle.rx_elem.specs.Trees.{Node, element_of}
use Rattle.rx_queue.specs.Journal.{Journal, Posted, resolutions_by}
use Rattle.rx_meaning.specs.Cursor.{Cursor}
use Rattle.rx_meaning.specs.Fresh.{Sight, default_contexts, resource_numbers, root_element, version_seen}
use Rattle.rx_meaning.specs.Again.{AllOpen}
use Rattle.rx_meaning.specs.Touched.{may_throw_anew}
use Rattle.rx_meaning.specs.Settled.{DoneBefore, IfReadsHold, IfSettled, known_by, version_done}
use Rattle.rx_model.specs.State.{State, Progress}
use Rattle.rx_model.specs.Accepting.{with_value}
use Rattle.rx_model.specs.Committing.{sight_of}
use Rattle.rx_model.specs.HooksOf.{KeepsAllHooks}
use Rattle.rx_fiber.specs.Reading.{IsTreeOf}
use Rattle.rx_hook_store.specs.Store.{Kept, kept_hooks}
use Rattle.rx_hook_store.proofs.Staying.{all_stay}
use Rattle.commit_laws.specs.Idle.{IsIdleMark}
use Rattle.commit_laws.specs.WaitsAgain.{without_lanes, IfWaitsAgain}
use Rattle.rx_ways.specs.Ways.{CoversIf, is_way}
use Rattle.render_laws.specs.SameSight.{SeesSame}
use Rattle.render_laws.proofs.LaterEntries.{holds_later, longer_sees_same, longer_versions}
use Rattle.commit_laws.proofs.VersionsStay.{open_versions}
use Rattle.run_laws.proofs.WaitingAgain.{later_waits_again}
use Rattle.rx_render.proofs.Covered.{covered_later, covers_if}
use Rattle.rx_render.proofs.Settled.{settled_later}
use Rattle.rx_render.specs.Rendering.{Rendering}
use Rattle.rx_kept.specs.Seeing.{AsksForDeclared, resources_by}
use Rattle.cost_laws.specs.Undue.{IsUndue}
use Rattle.cost_laws.specs.SameWork.{SeesSameWork}
use Rattle.cost_laws.proofs.CostLaws.{later_costs}
use Rattle.cost_laws.proofs.LaterWork.{longer_sees_same_work, undue_later}
use Rattle.rx_render.specs.Renders.{HasCome, HasCosts, IsPast, Renders, IsLater, with_hooks}

-- A longer journal

done_longer : (cut : Cut) (us new : List Posted) → AllOpen new → DoneBefore cut us → DoneBefore cut (us ++ new)
done_longer cut [] new opened h = open_before new opened
  where
    open_before : (us : List Posted) → AllOpen us → DoneBefore cut us
    open_before [] h = tt
    open_before (u ∷ us) h = ((λ d. let e : false ≡ true = sym h.0 ∙ d in cc), open_before us h.2)
done_longer cut (u ∷ us) new opened h = (h.0, done_longer cut us new opened h.1)

more_are : {A : Type 0} (n : ℕ) (xs ys : List A) → n ≤ length xs → n ≤ length (xs ++ ys)
more_are n xs ys h = let e = length-append xs ys in omega (arith, e, h)

past_longer : (cut : Cut) (g : Progress) (st later : State) → IsLater g st later → IsPast cut st.journal → IsPast cut later.journal
past_longer cut g st later l h =
    record {
      updates = subst (λ us. cut.updates ≤ length us) (sym l.updates) (more_are cut.updates st.journal.updates l.new h.updates);
      resolutions = subst (λ xs. cut.resolutions ≤ length xs) (sym l.resolutions) (more_are cut.resolutions st.journal.resolutions l.more h.resolutions);
    }

-- the sight of the later state is that with the later journal
later_sight : (p : Program) (g : Progress) (st later : State) → IsLater g st later → record (sight_of p st g) { journal = later.journal } ≡ sight_of p later g
later_sight p g st later l = λ i. record { program = p; journal = later.journal; lanes = g.lanes; cut = g.cut; seen = sym l.seen i }

-- the sight of the later state sees the same
later_sees : (p : Program) (g : Progress) (st later : State) → IsPast g.cut st.journal → IsLater g st later → SeesSame (sight_of p st g) later.journal
later_sees p g st later past l =
    let journal : record { updates = st.journal.updates ++ l.new; resolutions = st.journal.resolutions ++ l.more } ≡ later.journal = rw (← l.updates, ← l.resolutions) refl in
    subst (SeesSame (sight_of p st g)) journal (longer_sees_same (sight_of p st g) l.new l.more l.after past.resolutions)

-- so does it if no lanes are seen
later_sees_without : (p : Program) (g : Progress) (st later : State) → IsPast g.cut st.journal → IsLater g st later → SeesSame (without_lanes (sight_of p st g)) later.journal
later_sees_without p g st later past l =
    let journal : record { updates = st.journal.updates ++ l.new; resolutions = st.journal.resolutions ++ l.more } ≡ later.journal = rw (← l.updates, ← l.resolutions) refl in
    subst (SeesSame (without_lanes (sight_of p st g))) journal (longer_sees_same (without_lanes (sight_of p st g)) l.new l.more l.after past.resolutions)

-- where a rendering has come, with what it has cost
abbrev HasComeSo : Sight → Option Node → Rendering → Type 0
HasComeSo s tree v = (h : HasCome s tree v) × HasCosts s tree v h.cursor

-- it has come as far
come_later : (s : Sight) (j : Journal) → SeesSame s j → (tree : Option Node) (v : Rendering) (hooks : Kept) → HasCome s tree v → HasCome (record s { journal = j }) tree (with_hooks v hooks)
come_later s j same tree v hooks h =
    record { cursor = h.cursor; comes = h.comes; goes = holds_later s j same tree v.units v.bodies h.cursor h.goes; drawn = h.drawn; given = h.given; olds = h.olds; rests = h.rests; reached = h.reached }

-- the sight of the later state sees the same work
later_work : (p : Program) (g : Progress) (st later : State) → IsLater g st later → SeesSameWork (sight_of p st g) later.journal
later_work p g st later l =
    let journal : record { updates = st.journal.updates ++ l.new; resolutions = st.journal.resolutions ++ l.more } ≡ later.journal = rw (← l.updates, ← l.resolutions) refl in
    subst (SeesSameWork (sight_of p st g)) journal (longer_sees_same_work (sight_of p st g) l.new l.more l.after l.opened)

-- it has cost as much
costs_later : (s : Sight) (j : Journal) → SeesSame s j → SeesSameWork s j → (tree : Option Node) (v : Rendering) (hooks : Kept) (c : Cursor) → HasCosts s tree v c → HasCosts (record s { journal = j }) tree (with_hooks v hooks) c
costs_later s j same work tree v hooks c h =
    record {
      flags = h.flags;
      are = h.are;
      counted = later_costs s j tree v.bodies h.flags c same work h.counted;
      undue = covers_if (is_way v.ways) (IsUndue s) (IsUndue (record s { journal = j })) (λ m u. undue_later s j m work u) tree h.undue;
    }

-- ways that cover the tree still do
covers_longer : (p : Program) (g : Progress) (st later : State) (way : ℕ → Bool) → IsLater g st later → CoversIf way (IsIdleMark (sight_of p st g)) st.tree → CoversIf way (IsIdleMark (record (sight_of p st g) { journal = later.journal })) st.tree
covers_longer p g st later way l h =
    let journal : record { updates = st.journal.updates ++ l.new; resolutions = st.journal.resolutions ++ l.more } ≡ later.journal = rw (← l.updates, ← l.resolutions) refl in
    subst (λ (j : Journal). CoversIf way (IsIdleMark (record (sight_of p st g) { journal = j })) st.tree) journal (covered_later way (sight_of p st g) l.new l.more l.after l.opened st.tree h)

-- it sees each resource in the same version
versions_later : (p : Program) (g : Progress) (st later : State) → IsLater g st later → (r : ℕ) → version_seen (sight_of p st g) r ≡ version_seen (sight_of p later g) r
versions_later p g st later l r =
    let journal : record { updates = st.journal.updates ++ l.new; resolutions = st.journal.resolutions ++ l.more } ≡ later.journal = rw (← l.updates, ← l.resolutions) refl in
    subst (λ (j : Journal). version_seen (sight_of p st g) r ≡ version_seen (record (sight_of p st g) { journal = j }) r) journal (longer_versions (sight_of p st g) l.new l.more l.after r)

-- the same resolutions lie before the cut
resolutions_later : (g : Progress) (st later : State) → IsPast g.cut st.journal → IsLater g st later → resolutions_by g.cut st.journal ≡ resolutions_by g.cut later.journal
resolutions_later g st later past l = rw l.resolutions (sym (take-append-le g.cut.resolutions st.journal.resolutions l.more past.resolutions))

-- the same versions are done
done_later : (g : Progress) (st later : State) → IsLater g st later → version_done st.journal.updates ≡ version_done later.journal.updates
done_later g st later l = rw l.updates (λ i r. sym (open_versions st.journal.updates l.new l.opened r) i)

pub renders_later : (p : Program) (st later : State) (g : Progress) (v : Rendering) (hooks : Kept) → Renders p st g v → IsLater g st later
    → KeepsAllHooks p later (kept_hooks hooks) → Renders p later g (with_hooks v hooks)
unfolding come_later
renders_later p st later g v hooks r l keeps =
    let same = later_sees p g st later r.past l in
    let sight : Sight = record (sight_of p st g) { journal = later.journal } in
    let at : sight ≡ sight_of p later g = later_sight p g st later l in
    let come =
    subst (λ s. HasComeSo s later.tree (with_hooks v hooks)) at
    (subst (λ t. HasComeSo sight t (with_hooks v hooks)) (sym l.tree)
    (come_later (sight_of p st g) later.journal same st.tree v hooks r.come, costs_later (sight_of p st g) later.journal same (later_work p g st later l) st.tree v hooks r.come.cursor r.costs))
    in
    let work = later_work p g st later l in
    let seen : resources_by (sight_of p st g) ≡ resources_by sight = (λ i. record { versions = map (λ n. same.versions n i) (resource_numbers p); values = same.resources i; refreshes = work.refresh i }) in
    record {
      program = r.program;
      resources = r.resources ∙ seen ∙ ap resources_by at;
      declared = λ n past. sym (versions_later p g st later l n) ∙ r.declared n past;
      lanes = r.lanes;
      cut = r.cut;
      seen = r.seen ∙ sym l.seen;
      throws = r.throws ∙ ap may_throw_anew at;
      current = subst (λ t. IsTreeOf t v.trees.current) (sym l.tree) r.current;
      keeps = keeps;
      done = subst (DoneBefore g.cut) (sym l.updates) (done_longer g.cut st.journal.updates l.new l.opened r.done);
      past = past_longer g.cut g st later l r.past;
      settled = subst (IfSettled p (known_by (sight_of p later g))) (sym l.tree) (settled_later p (sight_of p st g) (sight_of p later g) l.new st.tree l.opened l.updates (resolutions_later g st later r.past l) r.settled);
      rooted = subst (λ t. IfSome t (λ x. element_of x ≡ root_element p)) (sym l.tree) r.rooted;
      waits = subst (IfWaitsAgain (sight_of p later g) (default_contexts p)) (sym l.tree)
          (subst (λ s. IfWaitsAgain s (default_contexts p) st.tree) at (later_waits_again (sight_of p st g) later.journal same (later_sees_without p g st later r.past l) work.refresh (default_contexts p) st.tree r.waits));
      reads = subst (IfReadsHold (version_done later.journal.updates) (default_contexts p)) (sym l.tree) (subst (λ v. IfReadsHold v (default_contexts p) st.tree) (done_later g st later l) r.reads);
      covers = subst (CoversIf (is_way v.ways) (IsIdleMark (sight_of p later g))) (sym l.tree) (subst (λ s. CoversIf (is_way v.ways) (IsIdleMark s) st.tree) at (covers_longer p g st later (is_way v.ways) l r.covers));
      come = come.0;
      costs = come.1;
    }

-- a resource gets its value
pub renders_resolved : (p : Program) (st : State) (g : Progress) (v : Rendering) (resource : ℕ) (x : ℤ) → Renders p st g v → Renders p (with_value st resource x) g v
renders_resolved p st g v resource x r =
    renders_later p st (with_value st resource x) g v v.hooks r
    (record {
      tree = refl;
      seen = refl;
      new = [];
      more = record { resource = resource; value = x } ∷ [];
      updates = sym (append-nil st.journal.updates);
      resolutions = refl;
      after = tt;
      opened = tt;
    })
    (all_stay st (with_value st resource x) refl refl p (kept_hooks v.hooks) (kept_hooks v.hooks) refl (λ n. refl) r.keeps)

-- The same journal

module _ (p : Program) (st later : State) (g : Progress) (v : Rendering) (journal : later.journal ≡ st.journal) (tree : later.tree ≡ st.tree) (linked : later.linked ≡ st.linked) (seen : later.seen ≡ st.seen) where
  sight : sight_of p st g ≡ sight_of p later g
  sight = λ i. record { program = p; journal = sym journal i; lanes = g.lanes; cut = g.cut; seen = sym seen i }

  come_same : Renders p st g v → HasComeSo (sight_of p later g) later.tree v
  come_same r = subst (λ t. HasComeSo (sight_of p later g) t v) (sym tree) (subst (λ s. HasComeSo s st.tree v) sight (r.come, r.costs))

  pub renders_same : Renders p st g v → Renders p later g v
  renders_same r =
      record {
        program = r.program;
        resources = subst (λ s. v.resources ≡ resources_by s) sight r.resources;
        declared = subst AsksForDeclared sight r.declared;
        lanes = r.lanes;
        cut = r.cut;
        seen = r.seen ∙ sym seen;
        throws = r.throws ∙ ap may_throw_anew sight;
        current = subst (λ t. IsTreeOf t v.trees.current) (sym tree) r.current;
        keeps = all_stay st later (ap (λ j. j.updates) journal) linked p (kept_hooks v.hooks) (kept_hooks v.hooks) tree (λ n. refl) r.keeps;
        done = subst (λ j. DoneBefore g.cut j.updates) (sym journal) r.done;
        past = subst (IsPast g.cut) (sym journal) r.past;
        settled = subst (IfSettled p (known_by (sight_of p later g))) (sym tree) (subst (λ s. IfSettled p (known_by s) st.tree) sight r.settled);
        rooted = subst (λ t. IfSome t (λ x. element_of x ≡ root_element p)) (sym tree) r.rooted;
        waits = subst (IfWaitsAgain (sight_of p later g) (default_contexts p)) (sym tree) (subst (λ s. IfWaitsAgain s (default_contexts p) st.tree) sight r.waits);
        reads = subst (IfReadsHold (version_done later.journal.updates) (default_contexts p)) (sym tree) (subst (λ j. IfReadsHold (version_done j.updates) (default_contexts p) st.tree) (sym journal) r.reads);
        covers = subst (CoversIf (is_way v.ways) (IsIdleMark (sight_of p later g))) (sym tree) (subst (λ s. CoversIf (is_way v.ways) (IsIdleMark s) st.tree) sight r.covers);
        come = (come_same r).0;
        costs = (come_same r).1;
      }

-- a render in progress is told by its lanes and its cut
pub renders_as : (p : Program) (st : State) (g h : Progress) (v : Rendering) → h.lanes ≡ g.lanes → h.cut ≡ g.cut → Renders p st g v → Renders p st h v
renders_as p st g h v lanes cut r =
    let sight : sight_of p st g ≡ sight_of p st h = (λ i. record { program = p; journal = st.journal; lanes = sym lanes i; cut = sym cut i; seen = st.seen }) in
    let come = subst (λ s. HasComeSo s st.tree v) sight (r.come, r.costs) in
    record {
      program = r.program;
      resources = subst (λ s. v.resources ≡ resources_by s) sight r.resources;
      declared = subst AsksForDeclared sight r.declared;
      lanes = r.lanes ∙ sym lanes;
      cut = r.cut ∙ sym cut;
      seen = r.seen;
      throws = r.throws ∙ ap may_throw_anew sight;
      current = r.current;
      keeps = r.keeps;
      done = subst (λ c. DoneBefore c st.journal.updates) (sym cut) r.done;
      past = subst (λ c. IsPast c st.journal) (sym cut) r.past;
      settled = subst (λ s. IfSettled p (known_by s) st.tree) sight r.settled;
      rooted = r.rooted;
      waits = subst (λ s. IfWaitsAgain s (default_contexts p) st.tree) sight r.waits;
      reads = r.reads;
      covers = subst (λ s. CoversIf (is_way v.ways) (IsIdleMark s) st.tree) sight r.covers;
      come = come.0;
      costs = come.1;
    }
