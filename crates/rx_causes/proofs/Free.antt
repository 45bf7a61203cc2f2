-- What the fibers keep tells of their marks: that nothing reads, and that there is neither an instance nor a hidden boundary.
use Rattle.std.specs.Prelude.{◌≡◌, ◌==◌, ℕ, Bool, true, false, not, ◌||◌, List, [], ◌∷◌, Option, Some, None, ◌⊎◌, length}
use Rattle.std.specs.Option.{option_map_or}
use Rattle.std.proofs.Common.{refl, sym, ap, ◌∙◌, subst, inl, inr, arith}
use Rattle.std.proofs.lemmas.Bool.Decides.{nat_tests}
use Rattle.rx_base.specs.declared.cut.Cut.{Cut}
use Rattle.rx_lane.specs.Lanes.{Lanes}
use Rattle.rx_elem.specs.Trees.{Forest, Mark, Node, is_hidden, mark_of, of_boundary, of_catcher, of_host, of_instance, plain}
use Rattle.rx_elem.specs.Trees as trees
use Rattle.rx_elem.proofs.Deciding.{or_fails}
use Rattle.rx_elem.specs.declared.effect.ContextRead.{ContextRead}
use Rattle.rx_elem.specs.declared.effect.VersionRead.{VersionRead}
use Rattle.rx_hooks.specs.declared.hook.Hook.{Hook}
use Rattle.rx_lists.specs.Shapes.{Shape, fiber, first, Holds}
use Rattle.rx_lists.specs.Shapes as shapes
use Rattle.rx_links.specs.Drafts.{kids_of}
use Rattle.rx_links.specs.Readers.{list_from, rest_of, value_of, IsLinked}
use Rattle.rx_meaning.specs.Fresh.{Contexts}
use Rattle.rx_meaning.specs.Settled.{IfHidden, read_anew, refreshed}
use Rattle.rx_meaning.specs.Touched.{contexts_below}
use Rattle.commit_laws.specs.Each.{ForEach, ForEachIn}
use Rattle.rx_fiber.specs.declared.subtree.Subtree.{Subtree}
use Rattle.rx_fiber.specs.Fibers.{Fiber, Stage, waiting, begun, trying, guarding, fallback, joined, marked_subtree, nothing, own_subtree}
use Rattle.rx_fiber.specs.Reading.{IsFor, whole, alone, beside, IsOld}
use Rattle.rx_fiber.specs.Subtrees.{IsGathered, subtrees_of}
use Rattle.rx_fiber.proofs.Gathered.{gathered_at}
use Rattle.rx_causes.specs.Marks.{begun_mark, mark_at, EachFiber, EachFiberBut, is_free, is_passed, is_spared}
use Rattle.rx_causes.specs.Idle.{HasNoCauseAt}
use Rattle.rx_causes.specs.Reads.{AllContextsHold, AllVersionsHold, ContextsHold, VersionsHold, reads_another_value, reads_another_version}
use Rattle.rx_causes.proofs.Marks.{mark_is}
use Rattle.rx_causes.proofs.Walks.{each_node, list_at_links, no_marks}
use Rattle.rx_causes.proofs.Causes.{old_list, shown_again}

-- what a mark tells, if there is one
abbrev pub told_by : Option Mark → Subtree
told_by m = option_map_or marked_subtree m nothing

-- a fiber tells of itself what its mark tells
own_is : (s : Stage) → own_subtree s ≡ told_by (begun_mark s)
own_is (waiting c) = refl
own_is (begun m) = refl
own_is (trying c) = refl
own_is guarding = refl
own_is (fallback a) = refl

-- Free fibers

both_none : (p q r s : Bool) → not ((p || q) || (r || s)) ≡ true → (not (p || r) ≡ true) × (not (q || s) ≡ true)
both_none true q r s h = absurd (cc h)
both_none false true r s h = absurd (cc h)
both_none false false true s h = absurd (cc h)
both_none false false false true h = absurd (cc h)
both_none false false false false h = (refl, refl)

free_parts : (a b : Subtree) → is_free (joined a b) ≡ true → (is_free a ≡ true) × (is_free b ≡ true)
free_parts a b h = both_none a.instances b.instances a.hides b.hides h

-- what is told of each free mark is told of each fiber of a free list
free_each : (way : ℕ → Bool) (P : Option Mark → Type 0) → ((m : Option Mark) → is_free (told_by m) ≡ true → P m) → (s : Shape Fiber) → IsGathered s → is_free (subtrees_of s) ≡ true → EachFiberBut way P s
free_each way P told shapes.none g f = tt
free_each way P told (fiber id v ks rs) g f =
    let both = free_parts v.subtree (subtrees_of rs) f in
    let own = free_parts (own_subtree v.stage) (subtrees_of ks) (subst (λ x. is_free x ≡ true) g.0 both.0) in
    (inr (told (begun_mark v.stage) (subst (λ x. is_free x ≡ true) (own_is v.stage) own.0), free_each way P told ks g.1 own.1), free_each way P told rs g.2 both.1)

-- a free mark has no cause
free_no_cause : (kept : ℕ → Option (List Hook)) (lanes : Lanes) (cut : Cut) (m : Option Mark) → is_free (told_by m) ≡ true → HasNoCauseAt kept lanes cut m
free_no_cause kept lanes cut None h = tt
free_no_cause kept lanes cut (Some (of_instance i)) h = absurd (cc h)
free_no_cause kept lanes cut (Some (of_host n)) h = tt
free_no_cause kept lanes cut (Some (of_boundary b)) h = shown_again (is_hidden (of_boundary b)) h
free_no_cause kept lanes cut (Some (of_catcher c)) h = tt
free_no_cause kept lanes cut (Some plain) h = tt

-- What is read

-- one part of what a fiber tells, which joins as all of it does
module _ (part : Subtree → Bool) (joins : (a b : Subtree) → part (joined a b) ≡ (part a || part b)) where
  -- a mark tells nothing of this part
  abbrev Silent : Option Mark → Type 0
  Silent m = part (told_by m) ≡ false

  silent_own : (v : Fiber) (ks : Shape Fiber) → v.subtree ≡ joined (own_subtree v.stage) (subtrees_of ks) → part v.subtree ≡ false → Silent (begun_mark v.stage) × (part (subtrees_of ks) ≡ false)
  silent_own v ks gathered f =
      let own = or_fails (part (own_subtree v.stage)) (part (subtrees_of ks)) (sym (joins (own_subtree v.stage) (subtrees_of ks)) ∙ (sym (ap part gathered) ∙ f)) in
      (ap part (sym (own_is v.stage)) ∙ own.0, own.1)

  silent_each : (s : Shape Fiber) → IsGathered s → part (subtrees_of s) ≡ false → EachFiber Silent s
  silent_each shapes.none g f = tt
  silent_each (fiber id v ks rs) g f =
      let both = or_fails (part v.subtree) (part (subtrees_of rs)) (sym (joins v.subtree (subtrees_of rs)) ∙ f) in
      let own = silent_own v ks g.0 both.0 in
      (own.0, silent_each ks g.1 own.1, silent_each rs g.2 both.1)

abbrev reads_in : Subtree → Bool
reads_in s = s.reads

abbrev uses_in : Subtree → Bool
uses_in s = s.uses

-- a mark reads no context
abbrev Unread : Option Mark → Type 0
Unread m = (told_by m).reads ≡ false

-- a mark reads no resource
abbrev Unused : Option Mark → Type 0
Unused m = (told_by m).uses ≡ false

some_length : {A : Type 0} (r : A) (rs : List A) → not (length (r ∷ rs) == 0) ≡ true
some_length r rs = grind (arith, nat_tests)

no_reads : (cs : Contexts) (rs : List ContextRead) → not (length rs == 0) ≡ false → read_anew cs rs ≡ false
no_reads cs [] h = refl
no_reads cs (r ∷ rs) h = let f = some_length r rs in cc

no_uses : (version : ℕ → ℕ) (rs : List VersionRead) → not (length rs == 0) ≡ false → refreshed version rs ≡ false
no_uses version [] h = refl
no_uses version (r ∷ rs) h = let f = some_length r rs in cc

-- what read none reads the same everywhere
unread : (cs : Contexts) (m : Mark) → Unread (Some m) → reads_another_value cs m ≡ false
unread cs (of_instance i) h = no_reads cs i.reads h
unread cs (of_host h) k = refl
unread cs (of_boundary b) k = refl
unread cs (of_catcher c) k = refl
unread cs plain k = refl

unused : (version : ℕ → ℕ) (m : Mark) → Unused (Some m) → reads_another_version version m ≡ false
unused version (of_instance i) h = no_uses version i.versions h
unused version (of_host h) k = refl
unused version (of_boundary b) k = refl
unused version (of_catcher c) k = refl
unused version plain k = refl

if_any : (b : Bool) (A : Type 0) → A → IfHidden b (Unit {0}) A
if_any true A x = tt
if_any false A x = x

mutual
  -- so a tree in which nothing reads a context holds everywhere
  unread_holds : (cs : Contexts) (x : Node) → ForEach (λ m. Unread (Some m)) x → ContextsHold cs x
  unread_holds cs (trees.node e m ns fs) h =
      (unread cs m h.0, if_any (is_hidden m) (AllContextsHold (contexts_below e cs) ns) (all_unread_hold (contexts_below e cs) ns h.1), all_unread_hold cs fs h.2)

  all_unread_hold : (cs : Contexts) (ns : Forest) → ForEachIn (λ m. Unread (Some m)) ns → AllContextsHold cs ns
  all_unread_hold cs trees.none h = tt
  all_unread_hold cs (trees.vacant ns) h = all_unread_hold cs ns h
  all_unread_hold cs (trees.child x ns) h = (unread_holds cs x h.0, all_unread_hold cs ns h.1)

mutual
  -- and one in which nothing reads a resource, in all versions
  unused_holds : (version : ℕ → ℕ) (x : Node) → ForEach (λ m. Unused (Some m)) x → VersionsHold version x
  unused_holds version (trees.node e m ns fs) h =
      (unused version m h.0, if_any (is_hidden m) (AllVersionsHold version ns) (all_unused_hold version ns h.1), all_unused_hold version fs h.2)

  all_unused_hold : (version : ℕ → ℕ) (ns : Forest) → ForEachIn (λ m. Unused (Some m)) ns → AllVersionsHold version ns
  all_unused_hold version trees.none h = tt
  all_unused_hold version (trees.vacant ns) h = all_unused_hold version ns h
  all_unused_hold version (trees.child x ns) h = (unused_holds version x h.0, all_unused_hold version ns h.1)

-- what holds of the fibers of a node that hides nothing holds of its tree
first_each_mark : (P : Option Mark → Type 0) (n : ℕ) (x : Node) (id : ℕ) (v : Fiber) (ks rs rest : Shape Fiber) → IsFor n x (fiber id v ks rs) rest → is_hidden (mark_of x) ≡ false → P (begun_mark v.stage) → EachFiber P ks
    → ForEach (λ m. P (Some m)) x
first_each_mark P n _ _ _ _ _ rest (whole {e = e} {m = m} {ns = ns} {ks = ks} is shown a) shows own kids =
    (subst P (ap begun_mark is.stage) own, each_node P 0 ns ks a kids, tt)
first_each_mark P n _ _ _ _ _ rest (alone {m = m} {ns = ns} {fs = fs} {ks = ks} is falling gone a) shows own kids =
    (subst P (ap begun_mark is.stage) own, no_marks (λ m. P (Some m)) ns gone, each_node P 0 fs ks a kids)
first_each_mark P n _ _ _ _ _ rest (beside {m = m} is hidden some a s f) shows own kids = absurd (let q : true ≡ false = sym hidden ∙ shows in let r : ⊥ = cc in r)

-- What a fiber keeps

module _ (c : Shape Fiber) (linked : IsLinked c) (gathered : IsGathered c) (i : ℕ) (held : Holds c i) (v : Fiber) (here : Some v ≡ value_of c i)
    (child : Option ℕ) (child_is : child ≡ first (kids_of c i)) (behind : Option ℕ) (behind_is : behind ≡ first (rest_of c i)) where
  gathered_here : IsGathered (fiber i v (list_from c child) (list_from c behind))
  gathered_here = subst IsGathered (list_at_links c linked i held v here child child_is behind behind_is) (gathered_at c i gathered)

  -- a free fiber has no cause, nor has one below it
  pub free_here : (way : ℕ → Bool) (kept : ℕ → Option (List Hook)) (lanes : Lanes) (cut : Cut) → is_free v.subtree ≡ true
      → HasNoCauseAt kept lanes cut (begun_mark v.stage) × EachFiberBut way (HasNoCauseAt kept lanes cut) (list_from c child)
  free_here way kept lanes cut f =
      let own = free_parts (own_subtree v.stage) (subtrees_of (list_from c child)) (subst (λ x. is_free x ≡ true) gathered_here.0 f) in (
        free_no_cause kept lanes cut (begun_mark v.stage) (subst (λ x. is_free x ≡ true) (own_is v.stage) own.0),
        free_each way (HasNoCauseAt kept lanes cut) (free_no_cause kept lanes cut) (list_from c child) gathered_here.1 own.1,
      )

  -- so if a fiber is passed it stands on no way, or has no cause, nor has one below it
  pub passed_here : (way : ℕ → Bool) (kept : ℕ → Option (List Hook)) (lanes : Lanes) (cut : Cut) → is_passed way v ≡ true
      → (is_spared way (begun_mark v.stage) ≡ true) ⊎ (HasNoCauseAt kept lanes cut (begun_mark v.stage) × EachFiberBut way (HasNoCauseAt kept lanes cut) (list_from c child))
  passed_here way kept lanes cut h = go (is_free v.subtree) refl h
    where
      go : (b : Bool) → is_free v.subtree ≡ b → (b || is_spared way (begun_mark v.stage)) ≡ true
          → (is_spared way (begun_mark v.stage) ≡ true) ⊎ (HasNoCauseAt kept lanes cut (begun_mark v.stage) × EachFiberBut way (HasNoCauseAt kept lanes cut) (list_from c child))
      go true e f = inr (free_here way kept lanes cut e)
      go false e f = inl f

  -- if the fiber tells nothing of one part, neither does a mark of its node's tree
  silent_here : (part : Subtree → Bool) (joins : (a b : Subtree) → part (joined a b) ≡ (part a || part b)) (o : Option ℕ) → o ≡ Some i → option_map_or is_hidden (mark_at c o) false ≡ false → part v.subtree ≡ false
      → (x : Node) → IsOld c o (Some x) → ForEach (λ m. Silent part joins (Some m)) x
  silent_here part joins o o_is shown f x was =
      let list = list_at_links c linked i held v here child child_is behind behind_is in
      let (n, rest, is) = old_list c o x i (fiber i v (list_from c child) (list_from c behind)) was o_is list in
      let own = silent_own part joins v (list_from c child) gathered_here.0 f in
      first_each_mark (Silent part joins) n x i v (list_from c child) (list_from c behind) rest is (sym (ap (λ m. option_map_or is_hidden m false) (mark_is c o (Some x) was)) ∙ shown) own.0
      (silent_each part joins (list_from c child) gathered_here.1 own.1)

  -- so its tree holds in any contexts if nothing at or below it reads one
  pub unread_here : (o : Option ℕ) → o ≡ Some i → option_map_or is_hidden (mark_at c o) false ≡ false → v.subtree.reads ≡ false → (cs : Contexts) (x : Node) → IsOld c o (Some x) → ContextsHold cs x
  unread_here o o_is shown f cs x was = unread_holds cs x (silent_here reads_in (λ a b. refl) o o_is shown f x was)

  -- and in any versions if nothing there reads a resource
  pub unused_here : (o : Option ℕ) → o ≡ Some i → option_map_or is_hidden (mark_at c o) false ≡ false → v.subtree.uses ≡ false → (version : ℕ → ℕ) (x : Node) → IsOld c o (Some x) → VersionsHold version x
  unused_here o o_is shown f version x was = unused_holds version x (silent_here uses_in (λ a b. refl) o o_is shown f x was)
