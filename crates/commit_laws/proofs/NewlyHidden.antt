-- What a render would hide anew, and what is hidden and visible after a commit, awaits only what has no value that the render sees.
use Rattle.std.specs.List.{list_any, zip}
use Rattle.std.specs.Prelude.{Bool, List, None, Option, Some, [], cond, false, filter, fold, length, map, option_and_then, position, refl, true, ℕ, ◌||◌, ◌++◌, ◌∷◌, ◌≡◌, ◌≤◌, ◌⊎◌}
use Rattle.std.proofs.Common.{ap, arith, inl, inr, subst, sym, ◌∙◌}
use Rattle.std.proofs.lemmas.List.{length-map}
use Rattle.rx_ast.specs.Syntax.{Program}
use Rattle.rx_base.specs.Awaits.{Awaits}
use Rattle.rx_rules.specs.Bounds.{depth_bound}
use Rattle.rx_elem.specs.Compare.{Above, Change, Past, above_children, above_fallback, above_root, change_of, changes, changes_in, compare, compare_in, compare_trees, no_past, node_at, old_nodes, pasts}
use Rattle.rx_elem.specs.Elements.{Element}
use Rattle.rx_elem.specs.Identity.{Child, identified, identities_after, is_same_child, moves, moves_after, old_places}
use Rattle.rx_elem.specs.Numbers.{Numbers, numbered, numbered_in, numbered_instance, numbered_mark}
use Rattle.rx_elem.specs.Spots.{Around, Spot, around_children, at_root, spot_mark, spots, spots_in}
use Rattle.rx_elem.specs.Trees.{Forest, Mark, Node, awaits_in, boundary_in, child, children_if, elements_in, fallback_if, is_hidden, mark_of, node, none, of_boundary, of_catcher, of_host, of_instance, places, plain, vacant}
use Rattle.rx_meaning.specs.Fresh.{Sight, depth_limit, fresh, made, version_seen}
use Rattle.rx_meaning.specs.Outcome.{all_awaits, hides_shown, newly_hidden, old_state, visible_awaits}
use Rattle.rx_meaning.specs.Settled.{AllSettled, IfHidden, IfSettled, IsSettled, Known}
use Rattle.rx_queue.specs.Journal.{resolved_by}
use Rattle.rx_susp.specs.declared.boundary.BoundaryState.{BoundaryState}
use Rattle.rx_susp.specs.declared.boundary.BoundaryState.TheVariants.{Hidden, Shown}
use Rattle.rx_elem.proofs.Identities.{child_of}
use Rattle.rx_elem.proofs.SelfMatch.{matches_itself}
use Rattle.commit_laws.proofs.Leaving.{children_settled, fallback_settled, node_settled}
use Rattle.commit_laws.proofs.OpenAwaits.{AllHeld, AreOpen, Held, fresh_holds, union_open}
use Rattle.commit_laws.proofs.Settling.{within_visible}
use Rattle.commit_laws.proofs.Soundness.{marked_hidden}
use Rattle.commit_laws.proofs.TakeOver.{settled_no_null}
use Rattle.rx_base.specs.Awaits as awaits

-- Changes

-- what a change hides anew awaits what is open
abbrev IsOpenIfNew : Sight → Change → Type 0
IsOpenIfNew s c = hides_shown c ≡ true → AreOpen s (awaits_in (mark_of c.new))

abbrev AllOpenIfNew : Sight → List Change → Type 0
AllOpenIfNew s [] = Unit {0}
AllOpenIfNew s (c ∷ cs) = IsOpenIfNew s c × AllOpenIfNew s cs

both_open : (s : Sight) (cs ds : List Change) → AllOpenIfNew s cs → AllOpenIfNew s ds → AllOpenIfNew s (cs ++ ds)
both_open s [] ds h k = k
both_open s (c ∷ cs) ds h k = (h.0, both_open s cs ds h.1 k)

-- the old nodes of the pasts of children are those that the elements find

moves_length : (earlier : List ℕ) (ps : List (Option ℕ)) → length (moves_after earlier ps) ≡ length ps
moves_length earlier [] = refl
moves_length earlier (None ∷ ps) = omega (arith, moves_length earlier ps)
moves_length earlier (Some p ∷ ps) = omega (arith, moves_length (p ∷ earlier) ps)

zip_first : (xs : List (Option Node)) (ys : List Bool) → length xs ≤ length ys
    → map (λ (p : Past). p.old) (map (λ (x : Option Node × Bool). let r : Past = record { old = x.0; moved = x.1 } in r) (zip xs ys)) ≡ xs
zip_first [] ys h = refl
zip_first (x ∷ xs) [] h = absurd (omega arith)
zip_first (x ∷ xs) (y ∷ ys) h = let rest = zip_first xs ys (omega arith) in rw rest refl

pasts_old : (old : Forest) (es : List Element) → map (λ (p : Past). p.old) (pasts old es) ≡ old_nodes old es
pasts_old old es =
    zip_first (old_nodes old es) (moves (old_places (elements_in old) es))
    (omega (arith, moves_length [] (old_places (elements_in old) es), length-map (old_places (elements_in old) es) (option_and_then (node_at old))))

-- A tree beside itself

not_hidden_anew : (v : Bool) (b : Option BoundaryState) → (c : Change) → c.was_visible ≡ v → old_state c ≡ b → boundary_in (mark_of c.new) ≡ b → hides_shown c ≡ false
not_hidden_anew true None c e f g = rw (f, g) refl
not_hidden_anew false None c e f g = rw (f, g) refl
not_hidden_anew true (Some Shown) c e f g = rw (f, g, e) refl
not_hidden_anew false (Some Shown) c e f g = rw (f, g, e) refl
not_hidden_anew true (Some (Hidden a)) c e f g = rw (f, g, e) refl
not_hidden_anew false (Some (Hidden a)) c e f g = rw (f, g, e) refl

module _ (s : Sight) (p : Program) (k : Known) where
  mutual
    self_open : (a : Above) (q : Past) (n : Node) → q.old ≡ Some n → IsSettled p k n → AllOpenIfNew s (changes (compare a q n))
    self_open a q (node e m ns fs) same settled = (
      λ h. absurd (never h),
      both_open s (changes_in (compare_in (above_children (change_of a q (node e m ns fs))) (pasts (children_if q.old) (elements_in ns)) ns))
          (changes_in (compare_in (above_fallback (change_of a q (node e m ns fs))) (pasts (fallback_if q.old) (elements_in fs)) fs))
          (all_self_open (above_children (change_of a q (node e m ns fs))) (pasts (children_if q.old) (elements_in ns)) ns
          (pasts_old (children_if q.old) (elements_in ns) ∙ (ap (λ (o : Option Node). old_nodes (children_if o) (elements_in ns)) same ∙ matches_itself ns (settled_no_null p k ns settled.1))) settled.1)
          (all_self_open (above_fallback (change_of a q (node e m ns fs))) (pasts (fallback_if q.old) (elements_in fs)) fs
          (pasts_old (fallback_if q.old) (elements_in fs) ∙ (ap (λ (o : Option Node). old_nodes (fallback_if o) (elements_in fs)) same ∙ matches_itself fs (settled_no_null p k fs settled.2))) settled.2),
    )
      where
        never : hides_shown (change_of a q (node e m ns fs)) ≡ true → ⊥
        never h =
            cc (
              h,
              not_hidden_anew (change_of a q (node e m ns fs)).was_visible (boundary_in m) (change_of a q (node e m ns fs)) refl
                  (ap (λ (o : Option Node). option_and_then (λ x. boundary_in (mark_of x)) o) same) refl,
            )

    all_self_open : (a : Above) (qs : List Past) (ns : Forest) → map (λ (q : Past). q.old) qs ≡ places ns → AllSettled p k ns → AllOpenIfNew s (changes_in (compare_in a qs ns))
    all_self_open a qs none same settled = tt
    all_self_open a [] (vacant ns) same settled = absurd (cc same)
    all_self_open a (q ∷ qs) (vacant ns) same settled =
        let rest : map (λ (q : Past). q.old) qs ≡ places ns = cc in all_self_open a qs ns rest settled
    all_self_open a [] (child n ns) same settled = absurd (cc same)
    all_self_open a (q ∷ qs) (child n ns) same settled =
        let first : q.old ≡ Some n = cc in
        let rest : map (λ (q : Past). q.old) qs ≡ places ns = cc in
        both_open s (changes (compare a q n)) (changes_in (compare_in a qs ns)) (self_open a q n first settled.0) (all_self_open a qs ns rest settled.1)

  -- A tree beside the one that it was rendered against

  -- settled old nodes
  abbrev OldsSettled : List (Option Node) → Type 0
  OldsSettled [] = Unit {0}
  OldsSettled (o ∷ olds) = IfSettled p k o × OldsSettled olds

  olds_are : (ns : Forest) → AllSettled p k ns → (all : List Child) (before es : List Element)
      → OldsSettled (map (option_and_then (node_at ns)) (map (λ c. position (is_same_child c) all) (map child_of (zip (identities_after before es) es))))
  olds_are ns h all before [] = tt
  olds_are ns h all before (e ∷ es) = (node_settled p k ns h (position (is_same_child _) all), olds_are ns h all (before ++ e ∷ []) es)

  pasts_settled : (old : Forest) (es : List Element) → AllSettled p k old → OldsSettled (map (λ (q : Past). q.old) (pasts old es))
  pasts_settled old es h = subst OldsSettled (sym (pasts_old old es)) (olds_are old h (identified (elements_in old)) [] es)

  mutual
    held_open : (a : Above) (q : Past) (n : Node) → IfSettled p k q.old → Held s q.old n → AllOpenIfNew s (changes (compare a q n))
    held_open a q (node e m ns fs) settled h = (
      λ new. h.0,
      both_open s (changes_in (compare_in (above_children (change_of a q (node e m ns fs))) (pasts (children_if q.old) (elements_in ns)) ns))
          (changes_in (compare_in (above_fallback (change_of a q (node e m ns fs))) (pasts (fallback_if q.old) (elements_in fs)) fs))
          (kids (is_hidden m) h.1 (λ all. all_held_open (above_children (change_of a q (node e m ns fs))) (pasts (children_if q.old) (elements_in ns)) ns
          (pasts_settled (children_if q.old) (elements_in ns) (children_settled p k q.old settled))
          (subst (λ (olds : List (Option Node)). AllHeld s olds ns) (sym (pasts_old (children_if q.old) (elements_in ns))) all)))
          (all_held_open (above_fallback (change_of a q (node e m ns fs))) (pasts (fallback_if q.old) (elements_in fs)) fs
          (pasts_settled (fallback_if q.old) (elements_in fs) (fallback_settled p k q.old settled))
          (subst (λ (olds : List (Option Node)). AllHeld s olds fs) (sym (pasts_old (fallback_if q.old) (elements_in fs))) h.2)),
    )
      where
        kept : ns ≡ children_if q.old → AllOpenIfNew s (changes_in (compare_in (above_children (change_of a q (node e m ns fs))) (pasts (children_if q.old) (elements_in ns)) ns))
        kept same =
            let settled_kids : AllSettled p k ns = subst (AllSettled p k) (sym same) (children_settled p k q.old settled) in
            all_self_open (above_children (change_of a q (node e m ns fs))) (pasts (children_if q.old) (elements_in ns)) ns
            (pasts_old (children_if q.old) (elements_in ns)
            ∙ (ap (λ (xs : Forest). old_nodes xs (elements_in ns)) (sym same) ∙ matches_itself ns (settled_no_null p k ns settled_kids))) settled_kids

        nothing_kept : (b : Above) (qs : List Past) (xs : Forest) → xs ≡ none → AllOpenIfNew s (changes_in (compare_in b qs xs))
        nothing_kept b qs xs same = subst (λ (ys : Forest). AllOpenIfNew s (changes_in (compare_in b qs ys))) (sym same) tt

        kids : (b : Bool) → IfHidden b ((ns ≡ children_if q.old) ⊎ (ns ≡ none)) (AllHeld s (old_nodes (children_if q.old) (elements_in ns)) ns)
            → (AllHeld s (old_nodes (children_if q.old) (elements_in ns)) ns
            → AllOpenIfNew s (changes_in (compare_in (above_children (change_of a q (node e m ns fs))) (pasts (children_if q.old) (elements_in ns)) ns)))
            → AllOpenIfNew s (changes_in (compare_in (above_children (change_of a q (node e m ns fs))) (pasts (children_if q.old) (elements_in ns)) ns))
        kids true (inl x) f = kept x
        kids true (inr x) f = nothing_kept (above_children (change_of a q (node e m ns fs))) (pasts (children_if q.old) (elements_in ns)) ns x
        kids false x f = f x

    all_held_open : (a : Above) (qs : List Past) (ns : Forest) → OldsSettled (map (λ (q : Past). q.old) qs) → AllHeld s (map (λ (q : Past). q.old) qs) ns
        → AllOpenIfNew s (changes_in (compare_in a qs ns))
    all_held_open a qs none settled h = tt
    all_held_open a [] (vacant ns) settled h = all_held_open a [] ns settled h
    all_held_open a (q ∷ qs) (vacant ns) settled h = all_held_open a qs ns settled.1 h
    all_held_open a [] (child n ns) settled h =
        both_open s (changes (compare a no_past n)) (changes_in (compare_in a [] ns)) (held_open a no_past n tt h.0) (all_held_open a [] ns settled h.1)
    all_held_open a (q ∷ qs) (child n ns) settled h =
        both_open s (changes (compare a q n)) (changes_in (compare_in a qs ns)) (held_open a q n settled.0 h.0) (all_held_open a qs ns settled.1 h.1)

-- What a deferral waits for

fold_open : (s : Sight) (acc : Awaits) (ws : List Change) → AreOpen s acc → AllOpenIfNew s ws → AreOpen s (fold awaits.union acc (map (λ c. awaits_in (mark_of c.new)) (filter hides_shown ws)))
fold_open s acc [] h all = h
fold_open s acc (c ∷ cs) h all = go (hides_shown c) refl (fold_open s (awaits.union acc (awaits_in (mark_of c.new))) cs) (fold_open s acc cs h all.1)
  where
    go : (b : Bool) → hides_shown c ≡ b
        → (AreOpen s (awaits.union acc (awaits_in (mark_of c.new))) → AllOpenIfNew s cs
        → AreOpen s (fold awaits.union (awaits.union acc (awaits_in (mark_of c.new))) (map (λ c. awaits_in (mark_of c.new)) (filter hides_shown cs))))
        → AreOpen s (fold awaits.union acc (map (λ c. awaits_in (mark_of c.new)) (filter hides_shown cs)))
        → AreOpen s (fold awaits.union acc (map (λ c. awaits_in (mark_of c.new)) (cond b (c ∷ filter hides_shown cs) (filter hides_shown cs))))
    go true e f g = f (union_open s acc (awaits_in (mark_of c.new)) h (all.0 e)) all.1
    go false e f g = g

-- All that a render would hide anew awaits what was not resolved before its cut.
pub deferred_open : (s : Sight) (k : Known) (old : Option Node) (new : Node) → depth_bound s.program ≤ depth_limit → IfSettled s.program k old → fresh s old ≡ made new
    → AreOpen s (all_awaits (newly_hidden old new))
deferred_open s k old new deep settled gives =
    fold_open s awaits.nothing (changes (compare_trees old new)) (λ r h. absurd (cc h))
    (held_open s s.program k above_root (record { old = old; moved = false }) new settled (fresh_holds s old new deep gives))

-- Visible hidden boundaries

abbrev SpotOpen : Sight → Spot → Type 0
SpotOpen s x = x.around.visible ≡ true → AreOpen s (awaits_in (spot_mark x))

abbrev SpotsOpen : Sight → List Spot → Type 0
SpotsOpen s [] = Unit {0}
SpotsOpen s (x ∷ xs) = SpotOpen s x × SpotsOpen s xs

both_spots : (s : Sight) (xs ys : List Spot) → SpotsOpen s xs → SpotsOpen s ys → SpotsOpen s (xs ++ ys)
both_spots s [] ys h k = k
both_spots s (x ∷ xs) ys h k = (h.0, both_spots s xs ys h.1 k)

stays_unseen : (a : Around) (m : Mark) → a.visible ≡ false → (around_children a m).visible ≡ false
stays_unseen a m h = within_visible a m ∙ go (is_hidden m)
  where
    go : (b : Bool) → cond b false a.visible ≡ false
    go true = refl
    go false = h

mutual
  unseen : (s : Sight) (a : Around) (n : Node) → a.visible ≡ false → SpotsOpen s (spots a n)
  unseen s a (node e m ns fs) h = (
    λ seen. absurd (cc (seen, h)),
    both_spots s (spots_in (around_children a m) ns) (spots_in a fs) (all_unseen s (around_children a m) ns (stays_unseen a m h)) (all_unseen s a fs h),
  )

  all_unseen : (s : Sight) (a : Around) (ns : Forest) → a.visible ≡ false → SpotsOpen s (spots_in a ns)
  all_unseen s a none h = tt
  all_unseen s a (vacant ns) h = all_unseen s a ns h
  all_unseen s a (child n ns) h = both_spots s (spots a n) (spots_in a ns) (unseen s a n h) (all_unseen s a ns h)

numbered_awaits : (c : Numbers) (m : Mark) → awaits_in (numbered_mark c m).1 ≡ awaits_in m
numbered_awaits c (of_instance i) = go i.number
  where
    go : (n : Option ℕ) → awaits_in (numbered_instance c i n).1 ≡ awaits.nothing
    go None = refl
    go (Some n) = refl
numbered_awaits c (of_host None) = refl
numbered_awaits c (of_host (Some n)) = refl
numbered_awaits c (of_boundary b) = refl
numbered_awaits c (of_catcher k) = refl
numbered_awaits c plain = refl

mutual
  seen_open : (s : Sight) (a : Around) (c : Numbers) (old : Option Node) (n : Node) → Held s old n → SpotsOpen s (spots a (numbered c n).1)
  seen_open s a c old (node e m ns fs) h = (
    λ seen. subst (AreOpen s) (sym (numbered_awaits c m)) h.0,
    both_spots s (spots_in (around_children a (numbered_mark c m).1) (numbered_in (numbered_mark c m).0 ns).1) (spots_in a (numbered_in (numbered_in (numbered_mark c m).0 ns).0 fs).1)
        (kids (is_hidden m) refl h.1 (λ all. all_seen_open s (around_children a (numbered_mark c m).1) (numbered_mark c m).0 (old_nodes (children_if old) (elements_in ns)) ns all))
        (all_seen_open s a (numbered_in (numbered_mark c m).0 ns).0 (old_nodes (fallback_if old) (elements_in fs)) fs h.2),
  )
    where
      kids : (b : Bool) → is_hidden m ≡ b → IfHidden b ((ns ≡ children_if old) ⊎ (ns ≡ none)) (AllHeld s (old_nodes (children_if old) (elements_in ns)) ns)
          → (AllHeld s (old_nodes (children_if old) (elements_in ns)) ns → SpotsOpen s (spots_in (around_children a (numbered_mark c m).1) (numbered_in (numbered_mark c m).0 ns).1))
          → SpotsOpen s (spots_in (around_children a (numbered_mark c m).1) (numbered_in (numbered_mark c m).0 ns).1)
      kids true e x f =
          let hidden : is_hidden (numbered_mark c m).1 ≡ true = sym (marked_hidden c m) ∙ e in
          all_unseen s (around_children a (numbered_mark c m).1) (numbered_in (numbered_mark c m).0 ns).1
          (within_visible a (numbered_mark c m).1 ∙ ap (λ b. cond b false a.visible) hidden)
      kids false e x f = f x

  all_seen_open : (s : Sight) (a : Around) (c : Numbers) (olds : List (Option Node)) (ns : Forest) → AllHeld s olds ns → SpotsOpen s (spots_in a (numbered_in c ns).1)
  all_seen_open s a c olds none h = tt
  all_seen_open s a c [] (vacant ns) h = all_seen_open s a c [] ns h
  all_seen_open s a c (o ∷ olds) (vacant ns) h = all_seen_open s a c olds ns h
  all_seen_open s a c [] (child n ns) h =
      both_spots s (spots a (numbered c n).1) (spots_in a (numbered_in (numbered c n).0 ns).1) (seen_open s a c None n h.0) (all_seen_open s a (numbered c n).0 [] ns h.1)
  all_seen_open s a c (o ∷ olds) (child n ns) h =
      both_spots s (spots a (numbered c n).1) (spots_in a (numbered_in (numbered c n).0 ns).1) (seen_open s a c o n h.0) (all_seen_open s a (numbered c n).0 olds ns h.1)

-- each of these waits is for what is open
abbrev pub EachOpen : Sight → List Awaits → Type 0
EachOpen s [] = Unit {0}
EachOpen s (w ∷ ws) = AreOpen s w × EachOpen s ws

listed_open : (s : Sight) (xs : List Spot) → SpotsOpen s xs → EachOpen s (map (λ x. awaits_in (spot_mark x)) (filter (λ x. x.around.visible) (filter (λ x. is_hidden (spot_mark x)) xs)))
listed_open s [] h = tt
listed_open s (x ∷ xs) h = go (is_hidden (spot_mark x)) x.around.visible refl (listed_open s xs h.1)
  where
    go : (b v : Bool) → x.around.visible ≡ v
        → EachOpen s (map (λ x. awaits_in (spot_mark x)) (filter (λ x. x.around.visible) (filter (λ x. is_hidden (spot_mark x)) xs)))
        → EachOpen s (map (λ x. awaits_in (spot_mark x)) (filter (λ x. x.around.visible) (cond b (x ∷ filter (λ x. is_hidden (spot_mark x)) xs) (filter (λ x. is_hidden (spot_mark x)) xs))))
    go true true e rest = rw e (h.0 e, rest)
    go true false e rest = rw e rest
    go false v e rest = rest

-- Each visible hidden boundary of a tree that is committed awaits what was not resolved before the cut.
pub committed_open : (s : Sight) (old : Option Node) (new : Node) (from : Numbers) → depth_bound s.program ≤ depth_limit → fresh s old ≡ made new
    → EachOpen s (visible_awaits (Some (numbered from new).1))
committed_open s old new from deep gives =
    listed_open s (spots at_root (numbered from new).1) (seen_open s at_root from old new (fresh_holds s old new deep gives))

-- so a resource that one of them awaits
pub awaited_open : (s : Sight) (ws : List Awaits) → EachOpen s ws → (r : ℕ) → list_any (λ w. awaits.has w r) ws ≡ true → resolved_by s.cut s.journal r (version_seen s r) ≡ None
awaited_open s [] h r there = absurd (cc there)
awaited_open s (w ∷ ws) h r there = go (awaits.has w r) refl there (awaited_open s ws h.1 r)
  where
    go : (b : Bool) → awaits.has w r ≡ b → (b || list_any (λ w. awaits.has w r) ws) ≡ true
        → (list_any (λ w. awaits.has w r) ws ≡ true → resolved_by s.cut s.journal r (version_seen s r) ≡ None) → resolved_by s.cut s.journal r (version_seen s r) ≡ None
    go true e x k = h.0 r e
    go false e x k = k x
