-- A commit that settles the hooks of each instance of its tree.
use Rattle.std.proofs.Common.{◌≡◌, ◌⊎◌, inl, inr, ℕ, ◌<◌, ◌≤◌, Bool, true, false, nat_eq, nat_lt, Option, Some, None, IsSome, Result, Ok, Err, List, length, map, slice_get, refl, sym, ap, ◌∙◌, subst, arith}
use Rattle.std.proofs.lemmas.Bool.Decides.{nat_tests}
use Rattle.std.proofs.lemmas.Option.{slice_get_within}
use Rattle.std.specs.Result.{OnErr}
use Rattle.rx_base.specs.declared.cut.Cut.{Cut}
use Rattle.rx_lane.specs.Lanes.{Lanes}
use Rattle.rx_ast.specs.Syntax.{Program}
use Rattle.rx_elem.specs.Numbers.{Numbers, numbered}
use Rattle.rx_elem.specs.Trees.{Node}
use Rattle.rx_elem.specs.Spots.{Mounted, mounted, numbers_of}
use Rattle.rx_hooks.specs.declared.hook.Hook.{Hook}
use Rattle.rx_hooks.specs.Hooks.{HooksStandFor, committed_hook, owed_hook}
use Rattle.rx_hooks.specs.Hooks as hooks_of
use Rattle.rx_meaning.specs.Settled.{DoneBefore, HasOwnNumbers, TargetsBelow}
use Rattle.rx_model.specs.State.{Progress, State}
use Rattle.rx_model.specs.Committing.{committed_state, sight_of}
use Rattle.rx_model.specs.HooksOf.{KeepsAllHooks}
use Rattle.rx_hook_store.specs.Commits.{AreMounted, SettlesHooks, hidden, made, shown, untouched}
use Rattle.rx_hook_store.specs.Gives.{has_work_in}
use Rattle.rx_meaning.specs.Expressions.{answers_of}
use Rattle.rx_pruned.specs.Pruned.{ArePruned, later, whole}
use Rattle.rx_pruned.specs.Pruned as pruning
use Rattle.prune_laws.specs.LeftOut.{IsSameInstance}
use Rattle.prune_laws.proofs.Within.{are_within, but_for_owner}
use Rattle.rx_hook_store.specs.Rendered.{IsRendered, KeepsInstance}
use Rattle.rx_hook_store.proofs.Committed.{committed_keeps}
use Rattle.rx_hook_store.proofs.Staying.{there_is}
use Rattle.rx_hook_store.proofs.Stores.{KeptBy, all-keep, each-keeps}
use Rattle.commit_laws.proofs.OwnNumbers.{numbers_stay_own}
use Rattle.run_laws.proofs.AlongRuns.{reached_carries}
use Rattle.end_laws.proofs.Read.{mounted_same}
use Rattle.rx_settle.specs.declared.made.NewHooks.{NewHooks}
use Rattle.rx_settle.specs.Made.{AreMadeFor, kept_with}
use Rattle.rx_settle.specs.Passes.{AllSettled, AreApart, AreKept, AreSettled, ChangesWorking, TellsOf, works, rests, HasAllWorking, IsSettledOver, KeepsOn, StayOld, has_instance}
use Rattle.rx_settle.specs.Settling.{IsSettlingOf}
use Rattle.rx_settle.proofs.Apart.{own_apart}
use Rattle.rx_settle.proofs.Numbers.{has_itself, is_there, left_in, left_out, own_same, pruned_own}
use Rattle.rx_settle.proofs.Making.{IsFound, below_or_not, found, old_stays}
use Rattle.rx_settle.proofs.Mounting.{new_or_old}
use Rattle.rx_settle.proofs.Staying.{same_stay}

-- ---- the second pass

-- instances of one number are one
pub one_instance : (ms : List Mounted) → AreApart ms → (j k : ℕ) (a b : Mounted) → slice_get ms j ≡ Some a → slice_get ms k ≡ Some b → a.number ≡ b.number → a ≡ b
one_instance ms apart j k a b here there same = go (nat_lt j k) refl (nat_lt k j) refl
  where
    itself : (m n : ℕ) → m ≡ n → nat_eq m n ≡ true
    itself m n e = grind (arith, nat_tests)

    differ : (m n : ℕ) → m ≡ n → nat_eq m n ≡ false → a ≡ b
    differ m n e f = let t = itself m n e in cc

    at_one : j ≡ k → a ≡ b
    at_one e = let at : slice_get ms j ≡ slice_get ms k = ap (slice_get ms) e in cc

    go : (t : Bool) → nat_lt j k ≡ t → (u : Bool) → nat_lt k j ≡ u → a ≡ b
    go true before u e = differ a.number b.number same (apart j k a b (grind (arith, nat_tests)) here there)
    go false e true after = differ b.number a.number (sym same) (apart k j b a (grind (arith, nat_tests)) there here)
    go false e false f = at_one (grind (arith, nat_tests))

module _ (lanes : Lanes) (cut : Cut) (first : ℕ) (ms : List Mounted) (xs : List NewHooks) (old settled inserted new : KeptBy) (apart : AreApart ms)
    (are_made : AreMadeFor first ms (length ms) xs) (settles : (k : ℕ) (m : Mounted) → slice_get ms k ≡ Some m → AreSettled lanes cut first old settled m)
    (inserts : (n : ℕ) → inserted n ≡ kept_with xs settled n) (removes : (n : ℕ) → has_instance ms n ≡ true → new n ≡ inserted n) where
  -- what is kept of an instance of the tree is not removed
  still_there : (k : ℕ) (m : Mounted) → slice_get ms k ≡ Some m → new m.number ≡ kept_with xs settled m.number
  still_there k m at = removes m.number (has_itself ms k m at) ∙ inserts m.number

  -- of one that is not new it is what was settled
  not_new : (k : ℕ) (m : Mounted) → slice_get ms k ≡ Some m → m.number < first → new m.number ≡ settled m.number
  not_new k m at below = still_there k m at ∙ old_stays first xs settled m.number each_new below
    where
      each_new : (j : ℕ) (x : NewHooks) → slice_get xs j ≡ Some x → first ≤ x.number
      each_new j x there = let of_new = are_made.all_new j x there in let number = of_new.are_for.number_is in let le = of_new.is_new in omega arith

  -- of a new one it is what was made for it
  its_own : (k : ℕ) (m : Mounted) → slice_get ms k ≡ Some m → IsFound xs settled m.number → AreMounted m.initials (new m.number)
  its_own k m at f =
      let of_new = are_made.all_new f.place f.hooks f.there in
      let same : of_new.instance ≡ m = one_instance ms apart of_new.place k of_new.instance m of_new.there at (sym of_new.are_for.number_is ∙ f.number_is) in
      record {
        hooks = f.hooks.hooks;
        is = still_there k m at ∙ f.kept_is;
        stand = λ answers. subst (λ (y : Mounted). HooksStandFor answers f.hooks.hooks (map hooks_of.mounted y.initials)) same (of_new.are_for.stand answers);
      }

  -- every instance of the tree is settled
  pub all_settled : AllSettled lanes cut first old new ms
  all_settled =
      record {
        kept = λ k m at. record {
          shown = λ below visible.
              subst (λ (o : Option (List Hook)). ChangesWorking (map committed_hook) lanes cut (old m.number) o) (sym (not_new k m at below)) ((settles k m at).shown below visible);
          hidden = λ below visible.
              subst (λ (o : Option (List Hook)). ChangesWorking (map (owed_hook lanes cut)) lanes cut (old m.number) o) (sym (not_new k m at below)) ((settles k m at).hidden below visible);
        };
        made = λ k m at le. its_own k m at (found xs settled m.number (are_made.each_has k m (slice_get_within ms k m at) at le));
      }

-- ---- one instance below another

-- what a commit makes of an instance's hooks does not depend on the nearest instance above
settles_under : (p : Program) (s : State) (g : Progress) (old new : KeptBy) (m : Mounted) (owner : Option ℕ) → SettlesHooks p s g old new m
    → SettlesHooks p s g old new (record m { owner = owner })
settles_under p s g old new m owner (shown is renders change) = shown is renders change
settles_under p s g old new m owner (hidden is keeps change) = hidden is keeps change
settles_under p s g old new m owner (untouched keeps none same) = untouched keeps none same
settles_under p s g old new m owner (made le are) = made le are

settles_as : (p : Program) (s : State) (g : Progress) (old new : KeptBy) (one other : Mounted) → IsSameInstance one other → SettlesHooks p s g old new one
    → SettlesHooks p s g old new other
settles_as p s g old new one other alike settles =
    subst (SettlesHooks p s g old new) (but_for_owner one other alike) (settles_under p s g old new one other.owner settles)

-- neither does whether the instance is new
new_or_kept_as : (p : Program) (s : State) (kept : KeptBy) (one other : Mounted) → IsSameInstance one other
    → (s.numbers.instance ≤ other.number) ⊎ KeepsInstance p s kept other.number other.initials
    → (s.numbers.instance ≤ one.number) ⊎ KeepsInstance p s kept one.number one.initials
new_or_kept_as p s kept one other alike which =
    subst (λ (y : Mounted). (s.numbers.instance ≤ y.number) ⊎ KeepsInstance p s kept y.number y.initials) (sym (but_for_owner one other alike)) which

-- ---- the commit

-- What is kept is settled over pruned trees, and each new instance in whose hooks the render has work is one of the pruned new one.
record SettlesPruned (p : Program) (kept last : KeptBy) (lanes : Lanes) (cut : Cut) (first : ℕ) (new : Node) (pruned_old : Option Node) (pruned_new : Node) : Type 0 where
  over : IsSettledOver p lanes cut first kept last (mounted pruned_old) (mounted (Some pruned_new))
  working : HasAllWorking lanes cut kept new pruned_new

module _ (p : Program) (kept : KeptBy) (old : Option Node) (new : Node) (first : ℕ) (lanes : Lanes) (cut : Cut) (s : State) (g : Progress) (x : Node)
    (h : IsSettlingOf p kept old new first lanes cut s g x) where
  abbrev fixed : Numbers × Node
  fixed = numbered s.numbers x

  -- the tree that is committed has the instances of the one that the render gave
  instances_are : mounted (Some new) ≡ mounted (Some fixed.1)
  instances_are = ap (λ (t : Node). mounted (Some t)) h.new_is ∙ mounted_same (Some fixed.1)

  own_numbers : HasOwnNumbers fixed.0.instance (Some fixed.1)
  own_numbers =
      numbers_stay_own (sight_of p s g) s.tree x s.numbers (let carried = reached_carries p h.bounded.shallow h.bounded.declared s h.reached in carried.2.sound.own_numbers) h.gives

  targets_below : TargetsBelow s.numbers.instance s.journal.updates
  targets_below = let carried = reached_carries p h.bounded.shallow h.bounded.declared s h.reached in carried.2.sound.targets

  -- each instance is new, or hooks are kept of it
  new_or_kept : (k : ℕ) (m : Mounted) → slice_get (mounted (Some fixed.1)) k ≡ Some m → (s.numbers.instance ≤ m.number) ⊎ KeepsInstance p s kept m.number m.initials
  new_or_kept = new_or_old (KeepsInstance p s kept) (sight_of p s g) s.tree x s.numbers (each-keeps p s kept h.keeps) h.gives

  own_new : HasOwnNumbers fixed.0.instance (Some new)
  own_new = own_same fixed.0.instance (Some new) (Some fixed.1) instances_are own_numbers

  own_old : HasOwnNumbers s.numbers.instance old
  own_old =
      own_same s.numbers.instance old s.tree (ap mounted h.old_is ∙ mounted_same s.tree)
      (let carried = reached_carries p h.bounded.shallow h.bounded.declared s h.reached in carried.2.sound.own_numbers)

  -- hooks are kept of each one that is not new
  instances_kept : AreKept first kept (mounted (Some new))
  instances_kept k m at below = go (new_or_kept k m (subst (λ (ms : List Mounted). slice_get ms k ≡ Some m) instances_are at))
    where
      go : (s.numbers.instance ≤ m.number) ⊎ KeepsInstance p s kept m.number m.initials → IsSome (kept m.number)
      go (inl le) = let is = h.first_is in absurd (omega arith)
      go (inr keeps) = there_is p s kept m.number m.initials keeps

  module _ (pruned_old : Option Node) (pruned_new : Node) (pruned : ArePruned old new pruned_old pruned_new) where
    -- no two instances of the pruned tree have one number
    pub pruned_apart : AreApart (mounted (Some pruned_new))
    pruned_apart = own_apart fixed.0.instance pruned_new (pruned_own old new pruned_old pruned_new pruned fixed.0.instance own_new)

    -- hooks are kept of each one that is not new
    pub pruned_kept : AreKept first kept (mounted (Some pruned_new))
    pruned_kept k m at below =
        let whole = are_within old new pruned_old pruned_new pruned k m at in
        let number : whole.1.number ≡ m.number = sym whole.3.number in
        subst (λ n. IsSome (kept n)) number (instances_kept whole.0 whole.1 whole.2 (omega (arith, number)))

    -- if they have the numbers of those of the old one, they stay
    pub pruned_stay : numbers_of (mounted pruned_old) ≡ numbers_of (mounted (Some pruned_new)) → StayOld first (mounted pruned_old) (mounted (Some pruned_new))
    pruned_stay same =
        subst (λ n. StayOld n (mounted pruned_old) (mounted (Some pruned_new))) (sym h.first_is) (same_stay s.numbers.instance old new pruned_old pruned_new pruned own_old same)

    module _ (last : KeptBy) (q : SettlesPruned p kept last g.lanes g.cut s.numbers.instance new pruned_old pruned_new) where
      -- the commit finds the hooks of each instance of the pruned tree settled
      each_settles : (k : ℕ) (m : Mounted) → slice_get (mounted (Some pruned_new)) k ≡ Some m → (s.numbers.instance ≤ m.number) ⊎ KeepsInstance p s kept m.number m.initials
          → SettlesHooks p s g q.over.rendered last m
      each_settles k m at which = go which
        where
          -- one in which the render has no work keeps its hooks
          stays : KeepsInstance p s kept m.number m.initials → TellsOf g.lanes g.cut (q.over.rendered m.number) false → last m.number ≡ q.over.rendered m.number → SettlesHooks p s g q.over.rendered last m
          stays keeps none same =
              let now = q.over.goes_on.keeps s m.number m.initials h.done keeps in
              untouched now (sym (none (answers_of p) now.hooks now.histories now.kept_is now.stand)) same

          shows : m.visible ≡ true → KeepsInstance p s kept m.number m.initials
              → TellsOf g.lanes g.cut (q.over.rendered m.number) false ⊎ ((t : State) → DoneBefore g.cut t.journal.updates → KeepsInstance p t kept m.number m.initials → IsRendered p t g.lanes g.cut q.over.rendered m.number m.initials)
              → ChangesWorking (map committed_hook) g.lanes g.cut (q.over.rendered m.number) (last m.number) → SettlesHooks p s g q.over.rendered last m
          shows is keeps (inr renders) (works all change) = shown is (renders s h.done keeps) change
          shows is keeps (inl none) (works all change) =
              let now = q.over.goes_on.keeps s m.number m.initials h.done keeps in
              let f : true ≡ false = all (answers_of p) now.hooks now.histories now.kept_is now.stand ∙ sym (none (answers_of p) now.hooks now.histories now.kept_is now.stand) in
              cc
          shows is keeps r (rests none same) = stays keeps none same

          hides : m.visible ≡ false → KeepsInstance p s kept m.number m.initials → ChangesWorking (map (owed_hook g.lanes g.cut)) g.lanes g.cut (q.over.rendered m.number) (last m.number)
              → SettlesHooks p s g q.over.rendered last m
          hides is keeps (works all change) = hidden is (q.over.goes_on.keeps s m.number m.initials h.done keeps) change
          hides is keeps (rests none same) = stays keeps none same

          seen : (v : Bool) → m.visible ≡ v → m.number < s.numbers.instance → KeepsInstance p s kept m.number m.initials → SettlesHooks p s g q.over.rendered last m
          seen true is below keeps = shows is keeps (q.over.renders k m at is below) ((q.over.settles.kept k m at).shown below is)
          seen false is below keeps = hides is keeps ((q.over.settles.kept k m at).hidden below is)

          by_number : KeepsInstance p s kept m.number m.initials → (m.number < s.numbers.instance) ⊎ (s.numbers.instance ≤ m.number) → SettlesHooks p s g q.over.rendered last m
          by_number keeps (inl below) = seen m.visible refl below keeps
          by_number keeps (inr le) = made le (q.over.settles.made k m at le)

          go : (s.numbers.instance ≤ m.number) ⊎ KeepsInstance p s kept m.number m.initials → SettlesHooks p s g q.over.rendered last m
          go (inl le) = made le (q.over.settles.made k m at le)
          go (inr keeps) = by_number keeps (below_or_not m.number s.numbers.instance)

      -- and those of one that is left out untouched
      each_left : (m : Mounted) → has_instance (mounted (Some new)) m.number ≡ true → has_instance (mounted (Some pruned_new)) m.number ≡ false
          → (s.numbers.instance ≤ m.number) ⊎ KeepsInstance p s kept m.number m.initials → SettlesHooks p s g q.over.rendered last m
      each_left m has none which = go which
        where
          left : (m.number < s.numbers.instance) × (has_instance (mounted pruned_old) m.number ≡ false)
          left = left_out old new pruned_old pruned_new pruned s.numbers.instance m.number own_old has none

          no_work : (keeps : KeepsInstance p s kept m.number m.initials) (b : Bool) → has_work_in g.lanes g.cut keeps.histories ≡ b → b ≡ false
          no_work keeps false e = refl
          no_work keeps true e =
              let is_in = q.working m.number keeps.hooks has keeps.kept_is (record { answers = answers_of p; histories = keeps.histories; stand = keeps.stand; has = e }) in
              sym is_in ∙ none

          go : (s.numbers.instance ≤ m.number) ⊎ KeepsInstance p s kept m.number m.initials → SettlesHooks p s g q.over.rendered last m
          go (inl le) = let below = left.0 in absurd (omega arith)
          go (inr keeps) =
              untouched
              (record {
                hooks = keeps.hooks;
                kept_is = q.over.not_rendered m.number none ∙ keeps.kept_is;
                histories = keeps.histories;
                stand = keeps.stand;
                are_of = keeps.are_of;
              })
              (no_work keeps (has_work_in g.lanes g.cut keeps.histories) refl) (q.over.others m.number none left.1)

      any_settles : (k : ℕ) (m : Mounted) → slice_get (mounted (Some fixed.1)) k ≡ Some m → SettlesHooks p s g q.over.rendered last m
      any_settles k m at = go (has_instance (mounted (Some pruned_new)) m.number) refl
        where
          in_new : slice_get (mounted (Some new)) k ≡ Some m
          in_new = subst (λ (ms : List Mounted). slice_get ms k ≡ Some m) (sym instances_are) at

          go : (b : Bool) → has_instance (mounted (Some pruned_new)) m.number ≡ b → SettlesHooks p s g q.over.rendered last m
          go false none = each_left m (has_itself (mounted (Some new)) k m in_new) none (new_or_kept k m at)
          go true has =
              let there = is_there (mounted (Some pruned_new)) m.number has in
              let whole = are_within old new pruned_old pruned_new pruned there.place there.instance there.at in
              let same : whole.1 ≡ m =
              one_instance (mounted (Some new)) (own_apart fixed.0.instance new own_new) whole.0 k whole.1 m whole.2 in_new (sym whole.3.number ∙ there.number_is) in
              let alike : IsSameInstance there.instance m = subst (IsSameInstance there.instance) same whole.3 in
              settles_as p s g q.over.rendered last there.instance m alike
              (each_settles there.place there.instance there.at (new_or_kept_as p s kept there.instance m alike (new_or_kept k m at)))

      passes_keep : KeepsAllHooks p (committed_state s g fixed) last
      passes_keep = committed_keeps p s g fixed q.over.rendered last targets_below h.links own_numbers any_settles

    -- so what is kept stands for the state after the commit
    pub settled_keeps : (last : KeptBy) → IsSettledOver p lanes cut first kept last (mounted pruned_old) (mounted (Some pruned_new)) → HasAllWorking lanes cut kept new pruned_new
        → KeepsAllHooks p (committed_state s g (numbered s.numbers x)) last
    settled_keeps last over working =
        passes_keep last
        (subst (λ l. SettlesPruned p kept last l g.cut s.numbers.instance new pruned_old pruned_new) h.lanes_are
        (subst (λ c. SettlesPruned p kept last lanes c s.numbers.instance new pruned_old pruned_new) h.cut_is
        (subst (λ n. SettlesPruned p kept last lanes cut n new pruned_old pruned_new) h.first_is (record { over = over; working = working }))))

-- an old instance that is gone is dropped
pub settled_gone : (p : Program) (kept last : KeptBy) (old : Option Node) (new : Node) (pruned_old : Option Node) (pruned_new : Node) (least : ℕ) (lanes : Lanes) (cut : Cut)
    → ArePruned old new pruned_old pruned_new → IsSettledOver p lanes cut least kept last (mounted pruned_old) (mounted (Some pruned_new))
    → (k : ℕ) (m : Mounted) → slice_get (mounted old) k ≡ Some m → has_instance (mounted (Some new)) m.number ≡ false → last m.number ≡ None
settled_gone p kept last old new pruned_old pruned_new least lanes cut pruned over k m at none =
    let left = left_in old new pruned_old pruned_new pruned m.number (has_itself (mounted old) k m at) none in
    let there = is_there (mounted pruned_old) m.number left.0 in
    subst (λ (n : ℕ). last n ≡ None) there.number_is
    (over.gone there.place there.instance there.at (subst (λ (n : ℕ). has_instance (mounted (Some pruned_new)) n ≡ false) (sym there.number_is) left.1))

-- whole trees are pruned ones too
pub whole_trees : (old : Option Node) (new : Node) → ArePruned old new old new
whole_trees None new = pruning.first
whole_trees (Some o) new = later whole

-- an error that comes with a property
pub on_err : {T E P : Type 0} (r : Result T E) → P → OnErr r P
on_err (Ok x) h = tt
on_err (Err e) h = h

-- if a render goes on what is kept, it stands for the state as before
pub all_go_on : (p : Program) (lanes : Lanes) (cut : Cut) (old new : KeptBy) (s : State) → KeepsOn p lanes cut old new → DoneBefore cut s.journal.updates → KeepsAllHooks p s old
    → KeepsAllHooks p s new
all_go_on p lanes cut old new s goes_on done keeps = all-keep p s new (λ k m at. goes_on.keeps s m.number m.initials done (each-keeps p s old keeps k m at))
