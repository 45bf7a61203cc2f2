-- In a program that is accepted, at most one place of a child list carries a key.
use Rattle.std.proofs.Common.{◌≡◌, ◌≤◌, ◌+◌, ◌⊎◌, inl, inr, Bool, true, false, ◌||◌, List, [], ◌∷◌, ◌++◌, refl, sym, ap, subst, arith}
use Rattle.std.specs.Prelude.{ℕ, cond, is_some, fold}
use Rattle.std.proofs.lemmas.List.Folds.{list_any-append}
use Rattle.rx_base.specs.Values.{Name}
use Rattle.rx_ast.specs.Syntax.{Program, Component, Slot, Slots, body_slots, Attribute, key, computed, literal, key_of, KeyPlace, unkeyed, key_first, key_last, key_in}
use Rattle.rx_ast.specs.Syntax as syntax
use Rattle.rx_rules.specs.Names.{has_name}
use Rattle.rx_rules.specs.Keys.{carries_key, keyed_places, SlotKeysApart, SlotsKeysApart, KeysApart}
use Rattle.rx_mentions.specs.Mentions.{Scope, bound, key_name, expr_mentions, attributes_mentions, first_key_mentions, last_key_mentions, taken_first, slot_mentions, slots_mentions, statements_mentions, parameters_mentions, component_mentions, component_scope, after_statement, no_scope, mentions}
use Rattle.rx_check.specs.Checks.{repeat_in, repeats}
use Rattle.rx_check.specs.Accepted.{IsAccepted}
use Rattle.rx_mentions.specs.Mention.{Mention}
use Rattle.rx_mentions.specs.Mention as mention
use Rattle.rx_mentions.proofs.Among.{IsIn, IsIn-left, IsIn-right, IsIn-filter_map, component-mentioned}

-- no name is introduced again
abbrev NoRepeat : List Mention → Type 0
NoRepeat ms = (x : Name) → IsIn (mention.Introduced x true) ms → ⊥

left : (ms ns : List Mention) → NoRepeat (ms ++ ns) → NoRepeat ms
left ms ns h x i = h x (IsIn-left _ ms ns i)

right : (ms ns : List Mention) → NoRepeat (ms ++ ns) → NoRepeat ns
right ms ns h x i = h x (IsIn-right _ ms ns i)

or-true : (a b : Bool) → (a || b) ≡ true → (a ≡ true) ⊎ (b ≡ true)
or-true true b h = inl refl
or-true false b h = inr h

-- a name that stands stays if more are added
stays : (taken : List Name) (x y : Name) → has_name taken y ≡ true → has_name (taken ++ x ∷ []) y ≡ true
stays taken x y h = rw (list_any-append, h) refl

-- a key among attributes is introduced again if one stands
attributes-again : (scope taken : List Name) (attrs : List Attribute) → has_name taken key_name ≡ true → is_some (key_of attrs) ≡ true
    → IsIn (mention.Introduced key_name true) (attributes_mentions scope taken attrs)
attributes-again scope taken [] h k = cc
attributes-again scope taken (key e ∷ attrs) h k = inl (ap (λ b. mention.Introduced key_name b) (sym h))
attributes-again scope taken (computed x e ∷ attrs) h k =
    inr (IsIn-right _ (expr_mentions scope e) _ (attributes-again scope (taken ++ x ∷ []) attrs (stays taken x key_name h) k))
attributes-again scope taken (literal x t ∷ attrs) h k = inr (inr (attributes-again scope (taken ++ x ∷ []) attrs (stays taken x key_name h) k))

-- the same of the key of a boundary, of Suspense or of errors, or of a provider
place-again : (scope : List Name) (k : KeyPlace) (others : List Mention) → is_some (key_in k) ≡ true
    → IsIn (mention.Introduced key_name true) (first_key_mentions scope true k ++ (others ++ last_key_mentions scope true k))
place-again scope unkeyed others h = cc
place-again scope (key_first e) others h = inl refl
place-again scope (key_last e) others h = IsIn-right _ others _ (inl refl)

-- a place that carries a key introduces it again behind another
key-again : (s : Scope) (t : Slot) → carries_key t ≡ true → IsIn (mention.Introduced key_name true) (slot_mentions s true t)
key-again s syntax.null h = cc
key-again s (syntax.words t) h = cc
key-again s (syntax.number_of e) h = cc
key-again s syntax.children h = cc
key-again s (syntax.repeated i e n t) h = cc
key-again s (syntax.choice c a b) h =
    elim (or-true (carries_key a) (carries_key b) h) [
      | inl k ↦ IsIn-right _ (expr_mentions s.values c) _ (IsIn-left _ (slot_mentions s true a) _ (key-again s a k))
      | inr k ↦ IsIn-right _ (expr_mentions s.values c) _ (IsIn-right _ (slot_mentions s true a) _ (key-again s b k))
    ]
key-again s (syntax.host n attrs w ss) h = inr (inr (IsIn-left _ (attributes_mentions s.values (taken_first true) attrs) _ (attributes-again s.values (key_name ∷ []) attrs refl h)))
key-again s (syntax.comp n attrs w ss) h = inr (inr (IsIn-left _ (attributes_mentions s.values (taken_first true) attrs) _ (attributes-again s.values (key_name ∷ []) attrs refl h)))
key-again s (syntax.boundary k f w ss) h = IsIn-left _ (first_key_mentions s.values true k ++ (slot_mentions s false f ++ last_key_mentions s.values true k)) _ (place-again s.values k (slot_mentions s false f) h)
key-again s (syntax.catcher k f w ss) h = IsIn-left _ (first_key_mentions s.values true k ++ (slot_mentions s false f ++ last_key_mentions s.values true k)) _ (place-again s.values k (slot_mentions s false f) h)
key-again s (syntax.provider n k e w ss) h = inr (IsIn-left _ (first_key_mentions s.values true k ++ (expr_mentions s.values e ++ last_key_mentions s.values true k)) _ (place-again s.values k (expr_mentions s.values e) h))
key-again s (syntax.enclosed b t) h = key-again s t h

-- one place more of a child list
place-counts : (s : Scope) (second : Bool) (t : Slot) (n : ℕ) → NoRepeat (slot_mentions s second t) → cond (second || carries_key t) 1 0 + n ≤ 1
    → cond second 1 0 + (cond (carries_key t) 1 0 + n) ≤ 1
place-counts s false t n h k = omega (arith, k)
place-counts s true t n h k = go (carries_key t) refl
  where
    go : (b : Bool) → carries_key t ≡ b → 1 + (cond b 1 0 + n) ≤ 1
    go true e = absurd (h key_name (key-again s t e))
    go false e = omega (arith, k)

-- no place before
unzero : {A : Type 0} (n : ℕ) → (0 + n ≤ 1) × A → (n ≤ 1) × A
unzero n r = (omega (arith, r.0), r.1)

mutual
  slot-apart : (s : Scope) (second : Bool) (t : Slot) → NoRepeat (slot_mentions s second t) → SlotKeysApart t
  slot-apart s second syntax.null h = tt
  slot-apart s second (syntax.words t) h = tt
  slot-apart s second (syntax.number_of e) h = tt
  slot-apart s second syntax.children h = tt
  slot-apart s second (syntax.repeated i e n t) h =
      slot-apart (bound s i) false t (λ x j. h x (inr (IsIn-right _ (expr_mentions s.values e) _ (inr j))))
  slot-apart s second (syntax.choice c a b) h =
      let r = right (expr_mentions s.values c) _ h in
      (slot-apart s second a (left _ (slot_mentions s second b) r), slot-apart s second b (right (slot_mentions s second a) _ r))
  slot-apart s second (syntax.host n attrs w ss) h =
      unzero (keyed_places ss) (slots-apart s false ss (λ x i. h x (inr (inr (IsIn-right _ (attributes_mentions s.values (taken_first second) attrs) _ i)))))
  slot-apart s second (syntax.comp n attrs w ss) h =
      unzero (keyed_places ss) (slots-apart s false ss (λ x i. h x (inr (inr (IsIn-right _ (attributes_mentions s.values (taken_first second) attrs) _ i)))))
  slot-apart s second (syntax.boundary k f w ss) h =
      let first = left (first_key_mentions s.values second k ++ (slot_mentions s false f ++ last_key_mentions s.values second k)) (slots_mentions s false ss) h in
      let r = unzero (keyed_places ss) (slots-apart s false ss (right (first_key_mentions s.values second k ++ (slot_mentions s false f ++ last_key_mentions s.values second k)) (slots_mentions s false ss) h)) in
      (slot-apart s false f (left _ (last_key_mentions s.values second k) (right (first_key_mentions s.values second k) _ first)), r.0, r.1)
  slot-apart s second (syntax.catcher k f w ss) h =
      let first = left (first_key_mentions s.values second k ++ (slot_mentions s false f ++ last_key_mentions s.values second k)) (slots_mentions s false ss) h in
      let r = unzero (keyed_places ss) (slots-apart s false ss (right (first_key_mentions s.values second k ++ (slot_mentions s false f ++ last_key_mentions s.values second k)) (slots_mentions s false ss) h)) in
      (slot-apart s false f (left _ (last_key_mentions s.values second k) (right (first_key_mentions s.values second k) _ first)), r.0, r.1)
  slot-apart s second (syntax.provider n k e w ss) h =
      unzero (keyed_places ss) (slots-apart s false ss (λ x i. h x (inr (IsIn-right _ (first_key_mentions s.values second k ++ (expr_mentions s.values e ++ last_key_mentions s.values second k)) _ i))))
  slot-apart s second (syntax.enclosed b t) h = slot-apart s second t h

  slots-apart : (s : Scope) (second : Bool) (ss : Slots) → NoRepeat (slots_mentions s second ss) → (cond second 1 0 + keyed_places ss ≤ 1) × SlotsKeysApart ss
  slots-apart s true syntax.no_slots h = (omega arith, tt)
  slots-apart s false syntax.no_slots h = (omega arith, tt)
  slots-apart s second (syntax.slot t ts) h =
      let one = left (slot_mentions s second t) _ h in
      let r = slots-apart s (second || carries_key t) ts (right (slot_mentions s second t) _ h) in
      (place-counts s second t (keyed_places ts) one r.0, (slot-apart s second t one, r.1))

-- none is introduced again in a program that is accepted
none-again : (p : Program) → IsAccepted p → NoRepeat (mentions p)
none-again p a x i =
    let bad : IsIn x (repeats p) = IsIn-filter_map repeat_in (mention.Introduced x true) x (mentions p) refl i in
    let P : List Name → Type 0 = λ ns. IsIn x ns in subst P a.introduced_once bad

-- the keys of a program that is accepted are apart
pub accepted-apart : (p : Program) → IsAccepted p → KeysApart p
accepted-apart p a c d e =
    let s = fold after_statement (component_scope d) d.statements in
    let whole : NoRepeat (component_mentions d) = λ x i. none-again p a x (component-mentioned p c d _ e i) in
    unzero (keyed_places (body_slots d.body))
    (slots-apart s false (body_slots d.body) (λ x i. whole x (inr (inr (IsIn-right _ (parameters_mentions no_scope d.parameters) _ (IsIn-right _ (statements_mentions (component_scope d) d.statements) _ i))))))
