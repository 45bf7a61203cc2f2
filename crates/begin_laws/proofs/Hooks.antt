-- Kept hooks that stand for the machine's state tell the causes: what is found in them is an update of the journal, and if nothing is found there is none.
use Rattle.std.specs.Prelude.{◌≡◌, ℕ, suc, ◌+◌, nat_eq, Bool, true, false, not, ◌&&◌, ◌||◌, List, [], ◌∷◌, ℤ, Option, Some, None, IsSome, is_some, map, slice_index_or}
use Rattle.std.specs.List.{enumerate_from, list_any}
use Rattle.std.specs.Option.{option_map_or}
use Rattle.std.proofs.Common.{refl, sym, ap, ◌∙◌, subst, inl, inr, add-one}
use Rattle.rx_base.specs.Awaits.{Awaits, has}
use Rattle.rx_ast.specs.Syntax.{Program}
use Rattle.rx_susp.specs.declared.boundary.BoundaryState.TheVariants.{Hidden}
use Rattle.rx_elem.specs.Trees.{Forest, Instance, Mark, Node, child, children_of, instance_in, mark_of, node, none, of_boundary, of_catcher, of_host, of_instance, plain, vacant}
use Rattle.rx_elem.proofs.Deciding.{same_itself, same_number}
use Rattle.rx_queue.specs.declared.entry.Entry.{Entry}
use Rattle.rx_queue.specs.declared.entry.Standing.{Standing}
use Rattle.rx_queue.specs.declared.update.Update.{Update}
use Rattle.rx_queue.specs.Bridge.{IsHistoryOf, posted_as}
use Rattle.rx_queue.specs.History.{History, includes, includes_new, stands_done}
use Rattle.rx_queue.specs.Journal.{Journal, Posted, Target, hook, updates_of}
use Rattle.rx_hooks.specs.declared.hook.Hook.{Hook}
use Rattle.rx_hooks.specs.Hooks.{HookHistory, HooksStandFor}
use Rattle.rx_meaning.specs.Again.{AreUnresolved}
use Rattle.rx_meaning.specs.Expressions.{answers_of}
use Rattle.rx_meaning.specs.Fresh.{Contexts, Sight, resources_seen, version_seen}
use Rattle.rx_meaning.specs.Settled.{number_of, read_anew, refreshed}
use Rattle.rx_meaning.specs.Touched.{may_throw_anew, sees_refresh}
use Rattle.rx_model.specs.State.{Progress, State}
use Rattle.rx_model.specs.Committing.{sight_of}
use Rattle.rx_model.specs.HooksOf.{AreHooksFrom, KeepsAllHooks}
use Rattle.rx_hook_store.specs.Gives.{has_news_in}
use Rattle.commit_laws.specs.Each as marks
use Rattle.rx_ways.specs.Ways.{Covers, CoversIn}
use Rattle.rx_causes.specs.declared.scene.Scene.{Scene}
use Rattle.rx_causes.specs.Marks.{EachBut, EachButIn, SomeNode, SomeNodeIn, is_spared}
use Rattle.rx_causes.specs.Scenes.{IsSceneOf, TellsCalm, TellsNews, TellsWork}
use Rattle.rx_causes.specs.Hidden.{ForEachIn, HasCauseToTry, HasNews, HasValueOf}
use Rattle.rx_causes.specs.Hidden as hidden
use Rattle.rx_causes.specs.Idle.{Rests}
use Rattle.cost_laws.specs.Causes.{has_value, instance_news, is_called, is_due, is_news, news_at, news_in, some_update, waits_still}
use Rattle.cost_laws.specs.Undue.{IsUndue}
use Rattle.rx_begin.proofs.Keeping.{seen_versions}
use Rattle.begin_laws.specs.Mounting.{HasInstances, HasInstancesIn, IfMounted, IsMountedIn}
use Rattle.begin_laws.specs.Telling.{TellsCauses}

-- Updates of kept hooks

module _ (test : Update → Standing → Bool) where
  -- an update of the journal passes the test
  abbrev passes : Posted → Bool
  passes u = test u.update u.standing

  -- an update of a history passes it
  abbrev passes_in : Entry → Bool
  passes_in e = test e.update e.standing

  posted_pass : (t : Target) (es : List Entry) → list_any passes (map (posted_as t) es) ≡ list_any passes_in es
  posted_pass t [] = refl
  posted_pass t (e ∷ es) = ap (λ b. test e.update e.standing || b) (posted_pass t es)

  -- an update of a hook passes if one of its history does
  in_history : (j : Journal) (t : Target) (x : ℤ) (h : History) → IsHistoryOf j t x h → list_any passes (updates_of t j) ≡ list_any passes_in h.entries
  in_history j t x h is = ap (list_any passes) (sym is.updates_are) ∙ posted_pass t h.entries

  -- an update of an instance's hooks passes if one of their histories does
  in_hooks : (st : State) (n k : ℕ) (xs : List ℤ) (hs : List HookHistory) → AreHooksFrom st n k xs hs
      → list_any (λ h. list_any passes (updates_of (hook n h.0) st.journal)) (enumerate_from k xs) ≡ list_any (λ h. list_any passes_in h.updates.entries) hs
  in_hooks st n k [] [] are = refl
  in_hooks st n k [] (h ∷ hs) are = absurd are
  in_hooks st n k (x ∷ xs) [] are = absurd are
  in_hooks st n k (x ∷ xs) (h ∷ hs) are =
      let rest : list_any (λ h. list_any passes (updates_of (hook n h.0) st.journal)) (enumerate_from (k + 1) xs) ≡ list_any (λ h. list_any passes_in h.updates.entries) hs =
      ap (λ m. list_any (λ h. list_any passes (updates_of (hook n h.0) st.journal)) (enumerate_from m xs)) (add-one k) ∙ in_hooks st n (suc k) xs hs are.1
      in
      λ i. in_history st.journal (hook n k) x h.updates are.0.history_is i || rest i

-- The hooks that are kept of an instance, and the histories of the journal for which they stand.
record HooksFound (p : Program) (st : State) (kept : ℕ → Option (List Hook)) (n : ℕ) (initials : List ℤ) : Type 0 where
  hooks : List Hook
  kept_is : kept n ≡ Some hooks
  histories : List HookHistory
  stand : HooksStandFor (answers_of p) hooks histories
  are : AreHooksFrom st n 0 initials histories

hooks_found : (p : Program) (st : State) (kept : ℕ → Option (List Hook)) (n : ℕ) (initials : List ℤ) → KeepsAllHooks p st kept → IsMountedIn st.tree n initials → HooksFound p st kept n initials
hooks_found p st kept n initials keeps is =
    let (hooks, have, (histories, stand, are)) = keeps is.place is.instance is.there in
    record {
      hooks = hooks;
      kept_is = ap kept (sym is.is_numbered) ∙ have;
      histories = histories;
      stand = stand;
      are =
          subst (λ (m : ℕ). AreHooksFrom st m 0 initials histories) is.is_numbered
          (subst (λ (xs : List ℤ). AreHooksFrom st is.instance.number 0 xs histories) is.is_initially are);
    }

module _ (p : Program) (st : State) (g : Progress) (kept : ℕ → Option (List Hook)) (keeps : KeepsAllHooks p st kept) where
  abbrev seen : Sight
  seen = sight_of p st g

  -- what a test says of work in an instance's hooks is whether one of its updates is due
  work_is : (i : Instance) (n : ℕ) (work : Bool) → IfMounted st.tree (Some i) → i.number ≡ Some n → TellsWork kept g.lanes g.cut (Some i) work → work ≡ some_update (is_due seen) seen n i.initials
  work_is i n work has number tells =
      let own = hooks_found p st kept n i.initials keeps (has i n refl number) in
      tells n (answers_of p) own.hooks own.histories number own.kept_is own.stand
      ∙ sym (in_hooks (λ u standing. includes g.lanes g.cut u standing && not (stands_done standing)) st n 0 i.initials own.histories own.are)

  -- and of news, whether one is neither done nor owed
  news_is : (i : Instance) (n : ℕ) (news : Bool) → IfMounted st.tree (Some i) → i.number ≡ Some n → TellsNews kept g.lanes g.cut (Some i) news → news ≡ some_update (is_news seen) seen n i.initials
  news_is i n news has number tells =
      let own = hooks_found p st kept n i.initials keeps (has i n refl number) in
      tells n (answers_of p) own.hooks own.histories number own.kept_is own.stand
      ∙ sym (in_hooks (λ u standing. includes_new g.lanes g.cut u standing) st n 0 i.initials own.histories own.are)

  -- Components

  flipped : (work anew : Bool) → (work || anew) ≡ not (not work && not anew)
  flipped true anew = refl
  flipped false true = refl
  flipped false false = refl

  -- an instance read a context that has another value here, or a resource that the render sees in another version
  abbrev anew : Contexts → Instance → Bool
  anew cs i = read_anew cs i.reads || refreshed (version_seen seen) i.versions

  instance_called : (cs : Contexts) (i : Instance) (calm work : Bool) → IfMounted st.tree (Some i) → TellsWork kept g.lanes g.cut (Some i) work → (number : Option ℕ) → i.number ≡ number
      → calm ≡ (is_some number && (not work && not (anew cs i))) → is_called seen cs (Some i) ≡ not calm
  instance_called cs i calm work has tells None number is = rw (number, is) refl
  instance_called cs i calm work has tells (Some n) number is =
      ap (λ x. option_map_or (λ n. some_update (is_due seen) seen n i.initials) x true || anew cs i) number
      ∙ (ap (λ b. b || anew cs i) (sym (work_is i n work has number tells)) ∙ (flipped work (anew cs i) ∙ ap not (sym is)))

  called_is : (scene : Scene) (cs : Contexts) (i : Option Instance) (calm : Bool) → IsSceneOf scene seen → IfMounted st.tree i → TellsCalm scene kept cs i calm → is_called seen cs i ≡ not calm
  called_is scene cs None calm sees has tells = ap not (sym tells.is)
  called_is scene cs (Some i) calm sees has tells =
      instance_called cs i calm tells.work has
      (subst (λ l. TellsWork kept l g.cut (Some i) tells.work) (sym sees.lanes) (subst (λ c. TellsWork kept scene.lanes c (Some i) tells.work) (sym sees.cut) tells.tells)) i.number refl
      (subst (λ version. calm ≡ (is_some i.number && (not tells.work && not (read_anew cs i.reads || refreshed version i.versions)))) (seen_versions scene seen sees) tells.is)

  -- Boundaries

  or_left : (a b : Bool) → a ≡ true → (a || b) ≡ true
  or_left true b f = refl
  or_left false b f = absurd (cc f)

  or_right : (a b : Bool) → b ≡ true → (a || b) ≡ true
  or_right true b f = refl
  or_right false b f = f

  has_some : (test : ℕ → Bool) (a : Awaits) (r : ℕ) → has a r ≡ true → test r ≡ true → list_any test a ≡ true
  has_some test [] r there so = there
  has_some test (q ∷ a) r there so = go (nat_eq q r) refl (λ later. has_some test a r later so) there
    where
      go : (b : Bool) → nat_eq q r ≡ b → (has a r ≡ true → list_any test a ≡ true) → (b || has a r) ≡ true → (test q || list_any test a) ≡ true
      go true e next h = or_left (test q) (list_any test a) (subst (λ (m : ℕ). test m ≡ true) (sym (same_number q r e)) so)
      go false e next h = or_right (test q) (list_any test a) (next h)

  has_none : (test : ℕ → Bool) (all a : Awaits) → ((r : ℕ) → has all r ≡ true → test r ≡ false) → ((r : ℕ) → has a r ≡ true → has all r ≡ true) → list_any test a ≡ false
  has_none test all [] fails within = refl
  has_none test all (q ∷ a) fails within =
      let first : test q ≡ false = fails q (within q (or_left (nat_eq q q) (has a q) (same_itself q))) in
      rw first (has_none test all a fails (λ r there. within r (or_right (nat_eq q r) (has a r) there)))

  is_some_of : {A : Type 0} → (x : Option A) → IsSome x → is_some x ≡ true
  is_some_of (Some x) h = refl
  is_some_of None h = absurd (cc h)

  some_news : (m : Mark) → HasNews kept g.lanes g.cut (instance_in m) → IfMounted st.tree (instance_in m) → instance_news seen (instance_in m) ≡ true
  some_news (of_instance i) news has =
      let own = hooks_found p st kept news.number i.initials keeps (has i news.number refl news.is_numbered) in
      let found : has_news_in g.lanes g.cut own.histories ≡ true = news.news (answers_of p) own.hooks own.histories own.kept_is own.stand in
      ap (λ x. option_map_or (λ n. some_update (is_news seen) seen n i.initials) x false) news.is_numbered
      ∙ (in_hooks (λ u standing. includes_new g.lanes g.cut u standing) st news.number 0 i.initials own.histories own.are ∙ found)
  some_news (of_host h) news has = let e = news.is_numbered in let q : ⊥ = cc in absurd q
  some_news plain news has = let e = news.is_numbered in let q : ⊥ = cc in absurd q
  some_news (of_boundary b) news has = let e = news.is_numbered in let q : ⊥ = cc in absurd q
  some_news (of_catcher c) news has = let e = news.is_numbered in let q : ⊥ = cc in absurd q

  no_news : (i : Option Instance) → TellsNews kept g.lanes g.cut i false → IfMounted st.tree i → instance_news seen i ≡ false
  no_news None tells has = refl
  no_news (Some i) tells has = go i.number refl
    where
      go : (number : Option ℕ) → i.number ≡ number → option_map_or (λ n. some_update (is_news seen) seen n i.initials) number false ≡ false
      go None e = refl
      go (Some n) e = sym (news_is i n false has e tells)

  mutual
    news_below : (x : Node) → SomeNode (λ m. HasNews kept g.lanes g.cut (instance_in m)) x → HasInstances st.tree x → news_at seen x ≡ true
    news_below (node e m ns fs) some has = elim some [
      | inl here ↦ or_left (instance_news seen (instance_in m)) (news_in seen ns || news_in seen fs) (some_news m here has.0)
      | inr below ↦ or_right (instance_news seen (instance_in m)) (news_in seen ns || news_in seen fs) (elim below [
        | inl kids ↦ or_left (news_in seen ns) (news_in seen fs) (news_found ns kids has.1)
        | inr beside ↦ or_right (news_in seen ns) (news_in seen fs) (news_found fs beside has.2)
      ])
    ]

    news_found : (ns : Forest) → SomeNodeIn (λ m. HasNews kept g.lanes g.cut (instance_in m)) ns → HasInstancesIn st.tree ns → news_in seen ns ≡ true
    news_found none some has = absurd some
    news_found (vacant ns) some has = news_found ns some has
    news_found (child x ns) some has = elim some [
      | inl first ↦ or_left (news_at seen x) (news_in seen ns) (news_below x first has.0)
      | inr rest ↦ or_right (news_at seen x) (news_in seen ns) (news_found ns rest has.1)
    ]

  mutual
    none_below : (x : Node) → hidden.ForEach (λ i. TellsNews kept g.lanes g.cut i false) x → HasInstances st.tree x → news_at seen x ≡ false
    none_below (node e m ns fs) each has =
        let a = no_news (instance_in m) each.0 has.0 in
        let b = none_found ns each.1 has.1 in
        let c = none_found fs each.2 has.2 in
        rw (a, b, c) refl

    none_found : (ns : Forest) → ForEachIn (λ i. TellsNews kept g.lanes g.cut i false) ns → HasInstancesIn st.tree ns → news_in seen ns ≡ false
    none_found none each has = refl
    none_found (vacant ns) each has = none_found ns each has
    none_found (child x ns) each has =
        let a = none_below x each.0 has.0 in
        let b = none_found ns each.1 has.1 in
        rw (a, b) refl

  -- a boundary waits no longer if there is a cause to try its children again
  tried_is : (scene : Scene) (x : Node) (a : Awaits) → IsSceneOf scene seen → HasInstances st.tree x → mark_of x ≡ of_boundary (Hidden a) → HasCauseToTry scene kept a x → waits_still seen (Some x) ≡ false
  tried_is scene (node e m ns fs) a sees has mark cause =
      let new : (sees_refresh seen || (has_value seen a || (news_in seen ns || may_throw_anew seen))) ≡ true = elim cause [
        | inl another ↦ or_left (sees_refresh seen) (has_value seen a || (news_in seen ns || may_throw_anew seen)) (sym sees.refreshes ∙ another)
        | inr (inl throws) ↦ or_right (sees_refresh seen) (has_value seen a || (news_in seen ns || may_throw_anew seen)) (or_right (has_value seen a) (news_in seen ns || may_throw_anew seen)
            (or_right (news_in seen ns) (may_throw_anew seen) (sym sees.throws ∙ throws)))
        | inr (inr (inl value)) ↦ or_right (sees_refresh seen) (has_value seen a || (news_in seen ns || may_throw_anew seen)) (or_left (has_value seen a) (news_in seen ns || may_throw_anew seen)
            (has_some (λ r. is_some (slice_index_or (resources_seen seen) r None)) a value.resource value.awaited
            (is_some_of (slice_index_or (resources_seen seen) value.resource None) (subst (λ (xs : List (Option ℤ)). IsSome (slice_index_or xs value.resource None)) sees.resources value.value))))
        | inr (inr (inr news)) ↦ or_right (sees_refresh seen) (has_value seen a || (news_in seen ns || may_throw_anew seen)) (or_right (has_value seen a) (news_in seen ns || may_throw_anew seen) (or_left (news_in seen ns) (may_throw_anew seen)
            (news_found ns (subst (λ l. SomeNodeIn (λ m. HasNews kept l g.cut (instance_in m)) ns) (sym sees.lanes) (subst (λ c. SomeNodeIn (λ m. HasNews kept scene.lanes c (instance_in m)) ns) (sym sees.cut) news)) has.1)))
      ] in
      rw (mark, new) refl

  -- and it waits still if no resource has another version, nothing may throw anew, nothing that it awaits has a value, and what it keeps has no news
  waits_is : (x : Node) (a : Awaits) → HasInstances st.tree x → mark_of x ≡ of_boundary (Hidden a) → sees_refresh seen ≡ false → may_throw_anew seen ≡ false → AreUnresolved seen a → ForEachIn (λ i. TellsNews kept g.lanes g.cut i false) (children_of x) → waits_still seen (Some x) ≡ true
  waits_is (node e m ns fs) a has mark still calm unresolved each =
      let gone : has_value seen a ≡ false =
      has_none (λ r. is_some (slice_index_or (resources_seen seen) r None)) a a (λ r there. ap is_some (unresolved r there)) (λ r there. there)
      in
      let none : news_in seen ns ≡ false = none_found ns each has.1 in
      rw (mark, still, gone, none, calm) refl

  -- Rest

  -- no update of an instance is due whose hooks rest
  pub undue_at : (m : Mark) → IfMounted st.tree (instance_in m) → Rests kept g.lanes g.cut m → IsUndue seen m
  undue_at (of_instance i) has rests = go i.number refl rests.0
    where
      go : (number : Option ℕ) → i.number ≡ number → IsSome number → IsUndue seen (of_instance i)
      go None e some = absurd (cc some)
      go (Some n) e some = (n, e, sym (work_is i n false has e rests.1))
  undue_at (of_host h) has rests = tt
  undue_at (of_boundary b) has rests = tt
  undue_at (of_catcher c) has rests = tt
  undue_at plain has rests = tt

  spared_off : (way : ℕ → Bool) (m : Mark) → is_spared way (Some m) ≡ true → (n : ℕ) × (number_of m ≡ Some n) × (way n ≡ false)
  spared_off way m so = go (number_of m) refl so
    where
      off : (b : Bool) → not b ≡ true → b ≡ false
      off false f = refl
      off true f = absurd (cc f)

      go : (o : Option ℕ) → number_of m ≡ o → option_map_or (λ n. not (way n)) o false ≡ true → (n : ℕ) × (number_of m ≡ Some n) × (way n ≡ false)
      go None e f = absurd (cc f)
      go (Some n) e f = (n, e, off (way n) f)

  mutual
    undue_tree : (way : ℕ → Bool) (x : Node) → HasInstances st.tree x → EachBut way (Rests kept g.lanes g.cut) x → Covers way (IsUndue seen) x → marks.ForEach (IsUndue seen) x
    undue_tree way (node e m ns fs) has each covers = elim each [
      | inl spared ↦ let (n, number, off) = spared_off way m spared in covers.0 n number off
      | inr rests ↦ (undue_at m has.0 rests.0, undue_list way ns has.1 rests.1 covers.1, undue_list way fs has.2 rests.2 covers.2)
    ]

    undue_list : (way : ℕ → Bool) (ns : Forest) → HasInstancesIn st.tree ns → EachButIn way (Rests kept g.lanes g.cut) ns → CoversIn way (IsUndue seen) ns → marks.ForEachIn (IsUndue seen) ns
    undue_list way none has each covers = tt
    undue_list way (vacant ns) has each covers = undue_list way ns has each covers
    undue_list way (child x ns) has each covers = (undue_tree way x has.0 each.0 covers.0, undue_list way ns has.1 each.1 covers.1)

  tells_causes : (x : Node) → HasInstances st.tree x → TellsCauses seen kept x
  tells_causes (node e m ns fs) has = record {
    called = λ scene cs calm sees tells. called_is scene cs (instance_in m) calm sees has.0 tells;
    tried = λ scene a sees mark cause. tried_is scene (node e m ns fs) a sees has mark cause;
    waits = λ a mark still calm unresolved each. waits_is (node e m ns fs) a has mark still calm unresolved each;
    undue = λ way each covers. undue_tree way (node e m ns fs) has each covers;
  }

-- hooks that stand for the machine's state tell the causes of each old node
pub hooks_tell : (p : Program) (st : State) (g : Progress) (kept : ℕ → Option (List Hook)) (x : Node) → KeepsAllHooks p st kept → HasInstances st.tree x → TellsCauses (sight_of p st g) kept x
hooks_tell p st g kept x keeps has = tells_causes p st g kept keeps x has
