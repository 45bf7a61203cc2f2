-- The elements of a body fit the program, if each name of it is known.
use Rattle.std.specs.Prelude.{◌≡◌, ℕ, Bool, true, false, ◌||◌, cond, List, [], ◌∷◌, ◌++◌, ℤ, pos, Some, fold, length, map, option_map, refl}
use Rattle.std.specs.List.{range_with_len}
use Rattle.std.proofs.Common.{inl, inr, sym, ap, subst}
use Rattle.std.proofs.lemmas.List.{length-map}
use Rattle.rx_base.specs.Arithmetic.{is_zero}
use Rattle.rx_ast.specs.Syntax.{Attribute, Component, Program, Slot, Slots, body_slots}
use Rattle.rx_ast.specs.Syntax as syntax
use Rattle.rx_rules.specs.Keys.{carries_key}
use Rattle.rx_rules.specs.Names.{component_at, component_names, component_number, has_name, prop_names}
use Rattle.rx_names.specs.Listed.{context_names}
use Rattle.rx_mentions.specs.Mentions.{Scope, after_statement, attributes_mentions, bound, component_scope, expr_mentions, first_key_mentions, given_names, is_filled, last_key_mentions, mentions, no_scope, parameters_mentions, slot_mentions, slots_mentions, statements_mentions, taken_first}
use Rattle.rx_mentions.specs.Mention.{Mention}
use Rattle.rx_mentions.specs.Mention as mention
use Rattle.rx_mentions.specs.declared.count.Count.TheVariants as count
use Rattle.rx_mentions.proofs.Among.{IsIn, IsIn-left, IsIn-right, component-mentioned}
use Rattle.rx_check.specs.Checks.{unknowns}
use Rattle.rx_elem.specs.Elements.{Element, gathered}
use Rattle.rx_elem.specs.declared.effect.ContextRead.{ContextRead}
use Rattle.rx_elem.specs.declared.effect.EffectRecord.{EffectRecord}
use Rattle.rx_elem.specs.declared.effect.VersionRead.{VersionRead}
use Rattle.rx_meaning.specs.Body.{Inputs, Taken, body_of, elements_of, finished, opening_frame, prop_named, props_of, ready, stopped_at, take_all, taken, thrown, turns}
use Rattle.rx_meaning.specs.Body as body
use Rattle.rx_meaning.specs.Expressions.{Env, value_in}
use Rattle.draw_laws.specs.Drawn.{AreDrawn, IsDrawn}
use Rattle.draw_laws.proofs.Known.{component_known, component_there, context_known, context_there}

-- the components and contexts that a slot names are declared
abbrev mutual
  IsKnown : Program → Slot → Type 0
  IsKnown p syntax.null = Unit {0}
  IsKnown p (syntax.words t) = Unit {0}
  IsKnown p (syntax.number_of e) = Unit {0}
  IsKnown p syntax.children = Unit {0}
  IsKnown p (syntax.repeated i e limit s) = IsKnown p s
  IsKnown p (syntax.choice c a b) = IsKnown p a × IsKnown p b
  IsKnown p (syntax.host n attrs w ss) = AreKnown p ss
  IsKnown p (syntax.comp n attrs w ss) = (has_name (component_names p) n ≡ true) × AreKnown p ss
  IsKnown p (syntax.boundary k f w ss) = IsKnown p f × AreKnown p ss
  IsKnown p (syntax.catcher k f w ss) = IsKnown p f × AreKnown p ss
  IsKnown p (syntax.provider n k e w ss) = (has_name (context_names p) n ≡ true) × AreKnown p ss
  IsKnown p (syntax.enclosed b s) = IsKnown p s

  -- so are those of each slot of a list
  AreKnown : Program → Slots → Type 0
  AreKnown p syntax.no_slots = Unit {0}
  AreKnown p (syntax.slot s ss) = IsKnown p s × AreKnown p ss

-- Mentions

-- each mention is one of these
abbrev Among : List Mention → List Mention → Type 0
Among xs all = (m : Mention) → IsIn m xs → IsIn m all

among-left : (xs ys all : List Mention) → Among (xs ++ ys) all → Among xs all
among-left xs ys all h m i = h m (IsIn-left m xs ys i)

among-right : (xs ys all : List Mention) → Among (xs ++ ys) all → Among ys all
among-right xs ys all h m i = h m (IsIn-right m xs ys i)

module _ (p : Program) (known : unknowns p ≡ []) where
  mutual
    slot_known : (s : Scope) (second : Bool) (t : Slot) → Among (slot_mentions s second t) (mentions p) → IsKnown p t
    slot_known s second syntax.null h = tt
    slot_known s second (syntax.words t) h = tt
    slot_known s second (syntax.number_of e) h = tt
    slot_known s second syntax.children h = tt
    slot_known s second (syntax.repeated i e limit item) h =
        slot_known (bound s i) false item
        (λ m k. h m (inr (IsIn-right m (expr_mentions s.values e) (mention.Counted count.List limit ∷ slot_mentions (bound s i) false item) (inr k))))
    slot_known s second (syntax.choice c a b) h =
        let behind = among-right (expr_mentions s.values c) (slot_mentions s second a ++ slot_mentions s second b) (mentions p) h in (
          slot_known s second a (among-left (slot_mentions s second a) (slot_mentions s second b) (mentions p) behind),
          slot_known s second b (among-right (slot_mentions s second a) (slot_mentions s second b) (mentions p) behind),
        )
    slot_known s second (syntax.host n attrs w ss) h =
        slots_known s false ss (among-right (attributes_mentions s.values (taken_first second) attrs) (slots_mentions s false ss) (mentions p) (λ m k. h m (inr (inr k))))
    slot_known s second (syntax.comp n attrs w ss) h = (
      component_known p n (given_names attrs) (is_filled ss) known (h (mention.Element n (given_names attrs) (is_filled ss)) (inl refl)),
      slots_known s false ss (among-right (attributes_mentions s.values (taken_first second) attrs) (slots_mentions s false ss) (mentions p) (λ m k. h m (inr (inr k)))),
    )
    slot_known s second (syntax.boundary k f w ss) h =
        let first = first_key_mentions s.values second k in
        let last = last_key_mentions s.values second k in
        let own = first ++ (slot_mentions s false f ++ last) in (
          slot_known s false f (among-left (slot_mentions s false f) last (mentions p) (among-right first (slot_mentions s false f ++ last) (mentions p) (among-left own (slots_mentions s false ss) (mentions p) h))),
          slots_known s false ss (among-right own (slots_mentions s false ss) (mentions p) h),
        )
    slot_known s second (syntax.catcher k f w ss) h =
        let first = first_key_mentions s.values second k in
        let last = last_key_mentions s.values second k in
        let own = first ++ (slot_mentions s false f ++ last) in (
          slot_known s false f (among-left (slot_mentions s false f) last (mentions p) (among-right first (slot_mentions s false f ++ last) (mentions p) (among-left own (slots_mentions s false ss) (mentions p) h))),
          slots_known s false ss (among-right own (slots_mentions s false ss) (mentions p) h),
        )
    slot_known s second (syntax.provider n k e w ss) h = (
      context_known p n known (h (mention.Context n) (inl refl)),
      slots_known s false ss
          (among-right (first_key_mentions s.values second k ++ (expr_mentions s.values e ++ last_key_mentions s.values second k)) (slots_mentions s false ss) (mentions p) (λ m i. h m (inr i))),
    )
    slot_known s second (syntax.enclosed b t) h = slot_known s second t h

    slots_known : (s : Scope) (second : Bool) (ts : Slots) → Among (slots_mentions s second ts) (mentions p) → AreKnown p ts
    slots_known s second syntax.no_slots h = tt
    slots_known s second (syntax.slot t ts) h = (
      slot_known s second t (among-left (slot_mentions s second t) (slots_mentions s (second || carries_key t) ts) (mentions p) h),
      slots_known s (second || carries_key t) ts (among-right (slot_mentions s second t) (slots_mentions s (second || carries_key t) ts) (mentions p) h),
    )

  -- the names of a component's body are known
  body_known : (number : ℕ) (c : Component) → component_at p number ≡ Some c → AreKnown p (body_slots c.body)
  body_known number c e =
      slots_known (fold after_statement (component_scope c) c.statements) false (body_slots c.body)
      (λ m k. component-mentioned p number c m e
      (inr (inr (IsIn-right m (parameters_mentions no_scope c.parameters) _ (IsIn-right m (statements_mentions (component_scope c) c.statements) _ k)))))

-- Elements

-- the props of a component are as many as its integer parameters
props_fit : (p : Program) (env : Env) (attrs : List Attribute) (c : ℕ) (d : Component) → component_at p c ≡ Some d
    → option_map (λ (d : Component). length (prop_names d)) (component_at p c) ≡ Some (length (props_of p env attrs c))
props_fit p env attrs c d e = rw e (ap (λ n. Some n) (sym (length-map (prop_names d) (prop_named p env attrs))))

items_drawn : (p : Program) (f : ℕ → Element) → ((k : ℕ) → IsDrawn p (f k)) → (ks : List ℕ) → AreDrawn p (gathered (map f ks))
items_drawn p f h [] = tt
items_drawn p f h (k ∷ ks) = (h k, items_drawn p f h ks)

chosen_drawn : (p : Program) (b : Bool) (x y : Element) → IsDrawn p x → IsDrawn p y → IsDrawn p (cond b x y)
chosen_drawn p true x y h k = h
chosen_drawn p false x y h k = k

module _ (p : Program) (kids : List Element) (given : AreDrawn p (gathered kids)) where
  mutual
    slot_drawn : (env : Env) (s : Slot) → IsKnown p s → IsDrawn p (body.element_of p kids env s)
    slot_drawn env syntax.null h = tt
    slot_drawn env (syntax.words t) h = tt
    slot_drawn env (syntax.number_of e) h = tt
    slot_drawn env syntax.children h = given
    slot_drawn env (syntax.repeated i e limit s) h =
        items_drawn p (λ k. body.element_of p kids ((i, pos k) ∷ env) s) (λ k. slot_drawn ((i, pos k) ∷ env) s h) (range_with_len 0 (turns (value_in p env e) limit))
    slot_drawn env (syntax.choice c a b) h =
        chosen_drawn p (is_zero (value_in p env c)) (body.element_of p kids env b) (body.element_of p kids env a) (slot_drawn env b h.1) (slot_drawn env a h.0)
    slot_drawn env (syntax.host n attrs w ss) h = slots_drawn env ss h
    slot_drawn env (syntax.comp n attrs w ss) h =
        let there = component_there p n h.0 in (props_fit p env attrs (component_number p n) there.0 there.1, slots_drawn env ss h.1)
    slot_drawn env (syntax.boundary k f w ss) h = (slot_drawn env f h.0, slots_drawn env ss h.1)
    slot_drawn env (syntax.catcher k f w ss) h = (slot_drawn env f h.0, slots_drawn env ss h.1)
    slot_drawn env (syntax.provider n k e w ss) h = (context_there p n h.0, slots_drawn env ss h.1)
    slot_drawn env (syntax.enclosed b s) h = slot_drawn env s h

    slots_drawn : (env : Env) (ss : Slots) → AreKnown p ss → AreDrawn p (gathered (elements_of p kids env ss))
    slots_drawn env syntax.no_slots h = tt
    slots_drawn env (syntax.slot s ss) h = (slot_drawn env s h.0, slots_drawn env ss h.1)

-- the elements of a body that is ready fit
pub body_drawn : (p : Program) (number : ℕ) (c : Component) (i : Inputs) (es : List Element) (effects : List EffectRecord) (initials : List ℤ) (reads : List ContextRead) (versions : List VersionRead)
    → unknowns p ≡ [] → component_at p number ≡ Some c → AreDrawn p (gathered i.children) → body_of p c i ≡ ready es effects initials reads versions → AreDrawn p (gathered es)
unfolding body_of
body_drawn p number c i es effects initials reads versions known at given same = go (take_all p i c.statements (opening_frame c i.props)) same
  where
    go : (t : Taken) → finished p i (body_slots c.body) t ≡ ready es effects initials reads versions → AreDrawn p (gathered es)
    go (stopped_at r v) same = absurd (cc same)
    go (thrown x) same = absurd (cc same)
    go (taken f) same =
        let equal : elements_of p i.children f.env (body_slots c.body) ≡ es = cc in
        subst (λ (xs : List Element). AreDrawn p (gathered xs)) equal (slots_drawn p i.children given f.env (body_slots c.body) (body_known p known number c at))
