-- In a program that is accepted, no host has two attributes of one name.
use Rattle.std.proofs.Common.{◌≡◌, inl, inr, Bool, true, false, ◌||◌, List, [], ◌∷◌, ◌++◌, length, refl, sym, ap, ◌∙◌, subst}
use Rattle.std.specs.Prelude.{fold, bytes_eq}
use Rattle.std.proofs.lemmas.List.Folds.{list_any-append}
use Rattle.std.proofs.lemmas.Slice.Eq.{bytes_eq-Decides}
use Rattle.rx_base.specs.Values.{Name}
use Rattle.rx_ast.specs.Syntax.{Program, Component, Slot, Slots, body_slots, Attribute, key, computed, literal}
use Rattle.rx_ast.specs.Syntax as syntax
use Rattle.rx_rules.specs.Names.{has_name}
use Rattle.rx_rules.specs.Keys.{carries_key}
use Rattle.rx_mentions.specs.Mention.{Mention}
use Rattle.rx_mentions.specs.Mention as mention
use Rattle.rx_mentions.specs.Mentions.{Scope, bound, key_name, expr_mentions, attributes_mentions, first_key_mentions, last_key_mentions, taken_first, slot_mentions, slots_mentions, statements_mentions, parameters_mentions, component_mentions, component_scope, after_statement, no_scope, mentions}
use Rattle.rx_mentions.proofs.Among.{IsIn, IsIn-left, IsIn-right, IsIn-filter_map, component-mentioned}
use Rattle.rx_check.specs.Checks.{repeat_in, repeats}
use Rattle.rx_check.specs.Accepted.{IsAccepted}
use Rattle.replay_laws.specs.Attributes.{attribute_names, StandOnce, SlotAttributesApart, SlotsAttributesApart, AttributesApart}

-- no name is introduced again
abbrev NoneAgain : List Mention → Type 0
NoneAgain ms = (x : Name) → IsIn (mention.Introduced x true) ms → ⊥

left : (ms ns : List Mention) → NoneAgain (ms ++ ns) → NoneAgain ms
left ms ns h x i = h x (IsIn-left _ ms ns i)

right : (ms ns : List Mention) → NoneAgain (ms ++ ns) → NoneAgain ns
right ms ns h x i = h x (IsIn-right _ ms ns i)

-- a name that is taken stays so
stays_taken : (taken : List Name) (x y : Name) → has_name taken y ≡ true → has_name (taken ++ x ∷ []) y ≡ true
stays_taken taken x y h = rw (list_any-append, h) refl

-- and so is the name that is taken last
or_true : (a b : Bool) → b ≡ true → (a || b) ≡ true
or_true true b h = refl
or_true false b h = h

same_name : (x : Name) → bytes_eq x x ≡ true
same_name x = (bytes_eq-Decides x x).1 refl

last_taken : (taken : List Name) (x : Name) → has_name (taken ++ x ∷ []) x ≡ true
last_taken taken x = list_any-append (bytes_eq x) taken (x ∷ []) ∙ or_true (has_name taken x) (bytes_eq x x || false) (rw (same_name x) refl)

-- the names of attributes stand once, and none of them is taken
record AreNew (taken : List Name) (attrs : List Attribute) : Type 0 where
  once : StandOnce (attribute_names attrs)
  free : (y : Name) → has_name taken y ≡ true → has_name (attribute_names attrs) y ≡ false

-- a name that is introduced and not again is not taken
not_taken : (taken : List Name) (x : Name) (ms : List Mention) → NoneAgain (mention.Introduced x (has_name taken x) ∷ ms) → has_name taken x ≡ false
not_taken taken x ms h = go (has_name taken x) refl
  where
    go : (b : Bool) → has_name taken x ≡ b → has_name taken x ≡ false
    go true e = absurd (h x (inl (ap (λ (c : Bool). mention.Introduced x c) (sym e))))
    go false e = e

named : (taken : List Name) (x : Name) (a : Attribute) (attrs : List Attribute) → attribute_names (a ∷ attrs) ≡ x ∷ attribute_names attrs
    → has_name taken x ≡ false → AreNew (taken ++ x ∷ []) attrs → AreNew taken (a ∷ attrs)
named taken x a attrs names new r =
    record {
      once = subst StandOnce (sym names) (r.free x (last_taken taken x), r.once);
      free = λ y h. subst (λ (ns : List Name). has_name ns y ≡ false) (sym names) (go y h (bytes_eq y x) refl);
    }
  where
    go : (y : Name) → has_name taken y ≡ true → (b : Bool) → bytes_eq y x ≡ b → (bytes_eq y x || has_name (attribute_names attrs) y) ≡ false
    go y h true e =
        let same : y ≡ x = (bytes_eq-Decides y x).0 e in
        let bad : has_name taken x ≡ true = subst (λ (n : Name). has_name taken n ≡ true) same h in
        absurd (cc (bad, new))
    go y h false e = rw e (r.free y (stays_taken taken x y h))

attributes_new : (scope taken : List Name) (attrs : List Attribute) → NoneAgain (attributes_mentions scope taken attrs) → AreNew taken attrs
attributes_new scope taken [] h = record { once = tt; free = λ y e. refl }
attributes_new scope taken (key e ∷ attrs) h =
    let r = attributes_new scope (taken ++ key_name ∷ []) attrs (λ x i. h x (inr (IsIn-right _ (expr_mentions scope e) _ i))) in
    record { once = r.once; free = λ y t. r.free y (stays_taken taken key_name y t) }
attributes_new scope taken (computed x e ∷ attrs) h =
    named taken x (computed x e) attrs refl (not_taken taken x (expr_mentions scope e ++ attributes_mentions scope (taken ++ x ∷ []) attrs) h)
    (attributes_new scope (taken ++ x ∷ []) attrs (λ y i. h y (inr (IsIn-right _ (expr_mentions scope e) _ i))))
attributes_new scope taken (literal x t ∷ attrs) h =
    named taken x (literal x t) attrs refl (not_taken taken x (mention.Quoted (length t) ∷ attributes_mentions scope (taken ++ x ∷ []) attrs) h)
    (attributes_new scope (taken ++ x ∷ []) attrs (λ y i. h y (inr (inr i))))

mutual
  slot_once : (s : Scope) (second : Bool) (t : Slot) → NoneAgain (slot_mentions s second t) → SlotAttributesApart t
  slot_once s second syntax.null h = tt
  slot_once s second (syntax.words t) h = tt
  slot_once s second (syntax.number_of e) h = tt
  slot_once s second syntax.children h = tt
  slot_once s second (syntax.repeated i e n t) h =
      slot_once (bound s i) false t (λ x j. h x (inr (IsIn-right _ (expr_mentions s.values e) _ (inr j))))
  slot_once s second (syntax.choice c a b) h =
      let r = right (expr_mentions s.values c) _ h in
      (slot_once s second a (left _ (slot_mentions s second b) r), slot_once s second b (right (slot_mentions s second a) _ r))
  slot_once s second (syntax.host n attrs w ss) h = (
    (attributes_new s.values (taken_first second) attrs (λ x i. h x (inr (inr (IsIn-left _ (attributes_mentions s.values (taken_first second) attrs) _ i))))).once,
    slots_once s false ss (λ x i. h x (inr (inr (IsIn-right _ (attributes_mentions s.values (taken_first second) attrs) _ i)))),
  )
  slot_once s second (syntax.comp n attrs w ss) h =
      slots_once s false ss (λ x i. h x (inr (inr (IsIn-right _ (attributes_mentions s.values (taken_first second) attrs) _ i))))
  slot_once s second (syntax.boundary k f w ss) h =
      let first = left (first_key_mentions s.values second k ++ (slot_mentions s false f ++ last_key_mentions s.values second k)) (slots_mentions s false ss) h in (
        slot_once s false f (left _ (last_key_mentions s.values second k) (right (first_key_mentions s.values second k) _ first)),
        slots_once s false ss (right (first_key_mentions s.values second k ++ (slot_mentions s false f ++ last_key_mentions s.values second k)) (slots_mentions s false ss) h),
      )
  slot_once s second (syntax.catcher k f w ss) h =
      let first = left (first_key_mentions s.values second k ++ (slot_mentions s false f ++ last_key_mentions s.values second k)) (slots_mentions s false ss) h in (
        slot_once s false f (left _ (last_key_mentions s.values second k) (right (first_key_mentions s.values second k) _ first)),
        slots_once s false ss (right (first_key_mentions s.values second k ++ (slot_mentions s false f ++ last_key_mentions s.values second k)) (slots_mentions s false ss) h),
      )
  slot_once s second (syntax.provider n k e w ss) h =
      slots_once s false ss (λ x i. h x (inr (IsIn-right _ (first_key_mentions s.values second k ++ (expr_mentions s.values e ++ last_key_mentions s.values second k)) _ i)))
  slot_once s second (syntax.enclosed b t) h = slot_once s second t h

  slots_once : (s : Scope) (second : Bool) (ss : Slots) → NoneAgain (slots_mentions s second ss) → SlotsAttributesApart ss
  slots_once s second syntax.no_slots h = tt
  slots_once s second (syntax.slot t ts) h =
      (slot_once s second t (left (slot_mentions s second t) _ h), slots_once s (second || carries_key t) ts (right (slot_mentions s second t) _ h))

none_again : (p : Program) → IsAccepted p → NoneAgain (mentions p)
none_again p a x i =
    let bad : IsIn x (repeats p) = IsIn-filter_map repeat_in (mention.Introduced x true) x (mentions p) refl i in
    let P : List Name → Type 0 = λ ns. IsIn x ns in subst P a.introduced_once bad

-- no host of a program that is accepted has two attributes of one name
pub attributes_apart : (p : Program) → IsAccepted p → AttributesApart p
attributes_apart p a c d e =
    let s = fold after_statement (component_scope d) d.statements in
    let whole : NoneAgain (component_mentions d) = λ x i. none_again p a x (component-mentioned p c d _ e i) in
    slots_once s false (body_slots d.body) (λ x i. whole x (inr (inr (IsIn-right _ (parameters_mentions no_scope d.parameters) _ (IsIn-right _ (statements_mentions (component_scope d) d.statements) _ i)))))
