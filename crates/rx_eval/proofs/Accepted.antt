-- The lists of a program that is accepted are short.
use Rattle.std.specs.Prelude.{◌≡◌, ℕ, zero, suc, ◌≤◌, Bool, true, false, ◌||◌, nat_lt, List, [], ◌∷◌, ◌++◌, Option, Some, None, find, fold, filter_map, slice_get, refl}
use Rattle.std.specs.List.{cons_option}
use Rattle.std.proofs.Common.{◌⊎◌, inl, inr, sym, subst, arith}
use Rattle.rx_base.specs.Values.{Name}
use Rattle.rx_ast.specs.Syntax.{Slot, Slots, Declaration, of_context, of_function, of_component, as_component, Component, Program, body_slots}
use Rattle.rx_ast.specs.Syntax as syntax
use Rattle.rx_rules.specs.Names.{component_at}
use Rattle.rx_rules.specs.Keys.{carries_key}
use Rattle.rx_rules.specs.Versions.{list_limit}
use Rattle.rx_rules.proofs.Limits.{limits_turns}
use Rattle.rx_mentions.specs.Mentions.{Scope, no_scope, bound, slot_mentions, slots_mentions, attributes_mentions, taken_first, first_key_mentions, last_key_mentions, expr_mentions, parameters_mentions, statements_mentions, after_statement, component_scope, component_mentions, function_mentions, declarations_mentions, mentions}
use Rattle.rx_check.specs.Checks.{measure_in}
use Rattle.rx_check.specs.Accepted.{IsAccepted}
use Rattle.rx_mentions.specs.Mention.{Mention}
use Rattle.rx_mentions.specs.Mention as mention
use Rattle.rx_mentions.specs.declared.count.Count.TheVariants as count
use Rattle.rx_eval.specs.Loops.{HasShortLoops, HaveShortLoops}

-- the mention stands in the list
abbrev IsIn : Mention → List Mention → Type 0
IsIn m [] = ⊥
IsIn m (x ∷ xs) = (m ≡ x) ⊎ IsIn m xs

left : (m : Mention) (xs ys : List Mention) → IsIn m xs → IsIn m (xs ++ ys)
left m [] ys h = absurd h
left m (x ∷ xs) ys (inl e) = inl e
left m (x ∷ xs) ys (inr h) = inr (left m xs ys h)

right : (m : Mention) (xs ys : List Mention) → IsIn m ys → IsIn m (xs ++ ys)
right m [] ys h = h
right m (x ∷ xs) ys h = inr (right m xs ys h)

-- each mention is one of these
abbrev Among : List Mention → List Mention → Type 0
Among xs all = (m : Mention) → IsIn m xs → IsIn m all

among-left : (xs ys all : List Mention) → Among (xs ++ ys) all → Among xs all
among-left xs ys all h m i = h m (left m xs ys i)

among-right : (xs ys all : List Mention) → Among (xs ++ ys) all → Among ys all
among-right xs ys all h m i = h m (right m xs ys i)

-- no list of these mentions is longer
abbrev Short : List Mention → Type 0
Short all = (n : ℕ) → IsIn (mention.Counted count.List n) all → n ≤ 1024

first_within : (limit n : ℕ) (ns : List ℕ) → find (nat_lt limit) (n ∷ ns) ≡ None → n ≤ limit
first_within limit n ns e = go (nat_lt limit n) refl
  where
    go : (b : Bool) → nat_lt limit n ≡ b → n ≤ limit
    go true t = let bad : Some n ≡ None = (rw t at e) in absurd (cc)
    go false t = grind (arith, t)

rest_within : (limit n : ℕ) (ns : List ℕ) → find (nat_lt limit) (n ∷ ns) ≡ None → find (nat_lt limit) ns ≡ None
rest_within limit n ns e = go (nat_lt limit n) refl
  where
    go : (b : Bool) → nat_lt limit n ≡ b → find (nat_lt limit) ns ≡ None
    go true t = let bad : Some n ≡ None = (rw t at e) in absurd (cc)
    go false t = rw t at e

behind_within : (limit : ℕ) (o : Option ℕ) (ns : List ℕ) → find (nat_lt limit) (cons_option o ns) ≡ None → find (nat_lt limit) ns ≡ None
behind_within limit None ns e = e
behind_within limit (Some k) ns e = rest_within limit k ns e

within : (limit n : ℕ) (ms : List Mention) → find (nat_lt limit) (filter_map (measure_in count.List) ms) ≡ None → IsIn (mention.Counted count.List n) ms → n ≤ limit
within limit n [] e h = absurd h
within limit n (m ∷ ms) e (inl s) =
    let P : Mention → Type 0 = λ k. find (nat_lt limit) (filter_map (measure_in count.List) (k ∷ ms)) ≡ None in
    first_within limit n (filter_map (measure_in count.List) ms) (subst P (sym s) e)
within limit n (m ∷ ms) e (inr h) = within limit n ms (behind_within limit (measure_in count.List m) (filter_map (measure_in count.List) ms) e) h

mutual
  slot-short : (all : List Mention) → Short all → (s : Scope) (second : Bool) (t : Slot) → Among (slot_mentions s second t) all → HasShortLoops t
  slot-short all short s second syntax.null h = tt
  slot-short all short s second (syntax.words t) h = tt
  slot-short all short s second (syntax.number_of e) h = tt
  slot-short all short s second syntax.children h = tt
  slot-short all short s second (syntax.repeated i e limit item) h =
      let behind = among-right (expr_mentions s.values e) (mention.Counted count.List limit ∷ slot_mentions (bound s i) false item) all (λ m k. h m (inr k)) in
      (short limit (behind (mention.Counted count.List limit) (inl refl)), slot-short all short (bound s i) false item (λ m k. behind m (inr k)))
  slot-short all short s second (syntax.choice c a b) h =
      let behind = among-right (expr_mentions s.values c) (slot_mentions s second a ++ slot_mentions s second b) all h in (
        slot-short all short s second a (among-left (slot_mentions s second a) (slot_mentions s second b) all behind),
        slot-short all short s second b (among-right (slot_mentions s second a) (slot_mentions s second b) all behind),
      )
  slot-short all short s second (syntax.host n attrs w ss) h =
      slots-short all short s false ss (among-right (attributes_mentions s.values (taken_first second) attrs) (slots_mentions s false ss) all (λ m k. h m (inr (inr k))))
  slot-short all short s second (syntax.comp n attrs w ss) h =
      slots-short all short s false ss (among-right (attributes_mentions s.values (taken_first second) attrs) (slots_mentions s false ss) all (λ m k. h m (inr (inr k))))
  slot-short all short s second (syntax.boundary k f w ss) h =
      let first = first_key_mentions s.values second k in
      let last = last_key_mentions s.values second k in
      let own = first ++ (slot_mentions s false f ++ last) in (
        slot-short all short s false f (among-left (slot_mentions s false f) last all (among-right first (slot_mentions s false f ++ last) all (among-left own (slots_mentions s false ss) all h))),
        slots-short all short s false ss (among-right own (slots_mentions s false ss) all h),
      )
  slot-short all short s second (syntax.catcher k f w ss) h =
      let first = first_key_mentions s.values second k in
      let last = last_key_mentions s.values second k in
      let own = first ++ (slot_mentions s false f ++ last) in (
        slot-short all short s false f (among-left (slot_mentions s false f) last all (among-right first (slot_mentions s false f ++ last) all (among-left own (slots_mentions s false ss) all h))),
        slots-short all short s false ss (among-right own (slots_mentions s false ss) all h),
      )
  slot-short all short s second (syntax.provider n k e w ss) h =
      slots-short all short s false ss
      (among-right (first_key_mentions s.values second k ++ (expr_mentions s.values e ++ last_key_mentions s.values second k)) (slots_mentions s false ss) all (λ m i. h m (inr i)))
  slot-short all short s second (syntax.enclosed b t) h = slot-short all short s second t h

  slots-short : (all : List Mention) → Short all → (s : Scope) (second : Bool) (ts : Slots) → Among (slots_mentions s second ts) all → HaveShortLoops ts
  slots-short all short s second syntax.no_slots h = tt
  slots-short all short s second (syntax.slot t ts) h = (
    slot-short all short s second t (among-left (slot_mentions s second t) (slots_mentions s (second || carries_key t) ts) all h),
    slots-short all short s (second || carries_key t) ts (among-right (slot_mentions s second t) (slots_mentions s (second || carries_key t) ts) all h),
  )

-- the mentions of a component stand among those of the declarations
component-In : (ds : List Declaration) (taken : List Name) (i : ℕ) (c : Component) (m : Mention) → slice_get (filter_map as_component ds) i ≡ Some c → IsIn m (component_mentions c) → IsIn m (declarations_mentions taken ds)
component-In [] taken i c m e h = absurd (cc)
component-In (of_context d ∷ ds) taken i c m e h = inr (component-In ds _ i c m e h)
component-In (of_function d ∷ ds) taken i c m e h = inr (right m (function_mentions d) _ (component-In ds _ i c m e h))
component-In (of_component d ∷ ds) taken zero c m e h =
    let same : c ≡ d = cc in inr (left m (component_mentions d) _ (let P : Component → Type 0 = λ k. IsIn m (component_mentions k) in subst P same h))
component-In (of_component d ∷ ds) taken (suc i) c m e h = inr (right m (component_mentions d) _ (component-In ds _ i c m e h))

-- the lists of a program that is accepted are short
short : (p : Program) → IsAccepted p → Short (mentions p)
short p a n h = omega (arith, limits_turns p, within (list_limit p) n (mentions p) (a.within_counts count.List) h)

-- no `for` in a component of a program that is accepted makes more than 1,024 turns
pub accepted-short : (p : Program) → IsAccepted p → (i : ℕ) (c : Component) → component_at p i ≡ Some c → HaveShortLoops (body_slots c.body)
unfolding mentions
accepted-short p a i c e =
    let scope = fold after_statement (component_scope c) c.statements in
    slots-short (mentions p) (short p a) scope false (body_slots c.body)
    (λ m k. component-In p.declarations [] i c m e
    (inr (inr (right m (parameters_mentions no_scope c.parameters) _ (right m (statements_mentions (component_scope c) c.statements) _ k)))))
