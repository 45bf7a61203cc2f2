-- What a program's elements name: components that are declared, and attributes each of a name of its own.
use Rattle.std.specs.Prelude.{◌≡◌, ℕ, Bool, true, false, cond, List, [], ◌∷◌, ℤ, Some, None, pos, is_some, filter_map, map, bytes_eq, refl}
use Rattle.std.specs.List.{range_with_len}
use Rattle.std.specs.Cmp.Lexicographic.{slice_cmp}
use Rattle.std.specs.Ordering.{nat_cmp, match_ordering}
use Rattle.std.specs.declared.cmp.Ordering.{Ordering}
use Rattle.std.specs.declared.cmp.Ordering.TheVariants.{Less, Equal, Greater}
use Rattle.std.proofs.Common.{sym, subst}
use Rattle.std.proofs.lemmas.Slice.Eq.{bytes_eq-Decides}
use Rattle.rx_base.specs.Values.{Name}
use Rattle.rx_base.specs.Arithmetic.{is_zero}
use Rattle.rx_ast.specs.Syntax.{Component, Program, Slot, Slots, Attribute, key, computed, literal, body_slots, components}
use Rattle.rx_ast.specs.Syntax as syntax
use Rattle.rx_rules.specs.Names.{component_at, has_name}
use Rattle.rx_elem.specs.Elements.{Element, Elements, gathered, listed}
use Rattle.rx_elem.specs.Elements as elements
use Rattle.rx_elem.specs.declared.attr.Attr.{Attr}
use Rattle.rx_elem.specs.declared.effect.EffectRecord.{EffectRecord}
use Rattle.rx_elem.specs.declared.effect.ContextRead.{ContextRead}
use Rattle.rx_elem.specs.declared.effect.VersionRead.{VersionRead}
use Rattle.rx_meaning.specs.Expressions.{Env, value_in}
use Rattle.rx_meaning.specs.Body.{Inputs, Taken, attr_in, body_of, elements_of, finished, opening_frame, ready, stopped_at, take_all, taken, thrown, turns}
use Rattle.rx_meaning.specs.Body as body
use Rattle.rx_forest.specs.Hosts.{with_attr, by_name}
use Rattle.rx_forest.specs.HostOps.{attr_named}
use Rattle.commit_laws.proofs.Naming.{HasComponents, number_named}
use Rattle.host_laws.specs.Related.{HaveOwnNames}
use Rattle.host_laws.proofs.Placing.{neither}
use Rattle.replay_laws.specs.Attributes.{attribute_names, StandOnce, SlotAttributesApart, SlotsAttributesApart}
use Rattle.rx_meaning.proofs.Depths.{gathered-listed}

-- each component that an element names is there, and no host in it has two attributes of one name
abbrev mutual
  pub Named : Program → Element → Type 0
  Named p elements.null = Unit {0}
  Named p (elements.text t) = Unit {0}
  Named p (elements.host n k attrs es) = HaveOwnNames (by_name attrs) × AllNamed p es
  Named p (elements.comp c k ps es) = (is_some (component_at p c) ≡ true) × AllNamed p es
  Named p (elements.list marked es) = AllNamed p es
  Named p (elements.boundary k f es) = Named p f × AllNamed p es
  Named p (elements.catcher k f es) = Named p f × AllNamed p es
  Named p (elements.provider c k x es) = AllNamed p es

  pub AllNamed : Program → Elements → Type 0
  AllNamed p elements.none = Unit {0}
  AllNamed p (elements.more e es) = Named p e × AllNamed p es

-- Attributes

name_turned : (x y : Name) → bytes_eq x y ≡ false → bytes_eq y x ≡ false
name_turned x y e = go (bytes_eq y x) refl
  where
    go : (b : Bool) → bytes_eq y x ≡ b → b ≡ false
    go true f = let back : bytes_eq x y ≡ true = (bytes_eq-Decides x y).1 (sym ((bytes_eq-Decides y x).0 f)) in absurd (cc)
    go false f = refl

no_attr : (p : Program) (env : Env) (attrs : List Attribute) (name : Name) → has_name (attribute_names attrs) name ≡ false
    → attr_named (filter_map (attr_in p env) attrs) name ≡ None
no_attr p env [] name h = refl
no_attr p env (key e ∷ attrs) name h = no_attr p env attrs name h
no_attr p env (computed x e ∷ attrs) name h =
    let parts : (bytes_eq name x ≡ false) × (has_name (attribute_names attrs) name ≡ false) = neither _ _ h in
    rw (name_turned name x parts.0) (no_attr p env attrs name parts.1)
no_attr p env (literal x t ∷ attrs) name h =
    let parts : (bytes_eq name x ≡ false) × (has_name (attribute_names attrs) name ≡ false) = neither _ _ h in
    rw (name_turned name x parts.0) (no_attr p env attrs name parts.1)

-- if no name stands twice, the attributes have names of their own
attrs_own : (p : Program) (env : Env) (attrs : List Attribute) → StandOnce (attribute_names attrs) → HaveOwnNames (filter_map (attr_in p env) attrs)
attrs_own p env [] h = tt
attrs_own p env (key e ∷ attrs) h = attrs_own p env attrs h
attrs_own p env (computed x e ∷ attrs) h = (no_attr p env attrs x h.0, attrs_own p env attrs h.1)
attrs_own p env (literal x t ∷ attrs) h = (no_attr p env attrs x h.0, attrs_own p env attrs h.1)

split_named : (b : Attr) (bs : List Attr) (x : Name) → attr_named (b ∷ bs) x ≡ None → (bytes_eq b.name x ≡ false) × (attr_named bs x ≡ None)
split_named b bs x h = go (bytes_eq b.name x) h
  where
    go : (c : Bool) → cond c (Some b) (attr_named bs x) ≡ None → (c ≡ false) × (attr_named bs x ≡ None)
    go true k = absurd (cc)
    go false k = (refl, k)

no_with : (a : Attr) (bs : List Attr) (x : Name) → bytes_eq a.name x ≡ false → attr_named bs x ≡ None → attr_named (with_attr a bs) x ≡ None
no_with a [] x h k = rw h refl
no_with a (b ∷ bs) x h k = go (slice_cmp nat_cmp a.name b.name) (no_with a bs x h)
  where
    go : (o : Ordering) → (attr_named bs x ≡ None → attr_named (with_attr a bs) x ≡ None)
        → attr_named (match_ordering o (a ∷ b ∷ bs) (a ∷ b ∷ bs) (b ∷ with_attr a bs)) x ≡ None
    go Less rest = rw h k
    go Equal rest = rw h k
    go Greater rest = let parts = split_named b bs x k in rw parts.0 (rest parts.1)

no_sorted : (attrs : List Attr) (x : Name) → attr_named attrs x ≡ None → attr_named (by_name attrs) x ≡ None
no_sorted [] x h = refl
no_sorted (a ∷ attrs) x h = let parts = split_named a attrs x h in no_with a (by_name attrs) x parts.0 (no_sorted attrs x parts.1)

own_with : (a : Attr) (bs : List Attr) → HaveOwnNames bs → attr_named bs a.name ≡ None → HaveOwnNames (with_attr a bs)
own_with a [] own h = (refl, tt)
own_with a (b ∷ bs) own h = go (slice_cmp nat_cmp a.name b.name) (own_with a bs own.1)
  where
    go : (o : Ordering) → (attr_named bs a.name ≡ None → HaveOwnNames (with_attr a bs)) → HaveOwnNames (match_ordering o (a ∷ b ∷ bs) (a ∷ b ∷ bs) (b ∷ with_attr a bs))
    go Less rest = (h, own)
    go Equal rest = (h, own)
    go Greater rest = let parts = split_named b bs a.name h in (no_with a bs b.name (name_turned b.name a.name parts.0) own.0, rest parts.1)

sorted_own : (attrs : List Attr) → HaveOwnNames attrs → HaveOwnNames (by_name attrs)
sorted_own [] own = tt
sorted_own (a ∷ attrs) own = own_with a (by_name attrs) (sorted_own attrs own.1) (no_sorted attrs a.name own.0)

-- Bodies

items_named : (p : Program) (f : ℕ → Element) → ((k : ℕ) → Named p (f k)) → (ks : List ℕ) → AllNamed p (gathered (map f ks))
items_named p f h [] = tt
items_named p f h (k ∷ ks) = (h k, items_named p f h ks)

chosen_named : (p : Program) (b : Bool) (x y : Element) → Named p x → Named p y → Named p (cond b x y)
chosen_named p true x y h k = h
chosen_named p false x y h k = k

module _ (p : Program) (some : HasComponents p) (kids : List Element) (given : AllNamed p (gathered kids)) where
  mutual
    slot_named : (env : Env) (s : Slot) → SlotAttributesApart s → Named p (body.element_of p kids env s)
    slot_named env syntax.null apart = tt
    slot_named env (syntax.words t) apart = tt
    slot_named env (syntax.number_of e) apart = tt
    slot_named env syntax.children apart = given
    slot_named env (syntax.repeated i e limit s) apart =
        items_named p (λ k. body.element_of p kids ((i, pos k) ∷ env) s) (λ k. slot_named ((i, pos k) ∷ env) s apart) (range_with_len 0 (turns (value_in p env e) limit))
    slot_named env (syntax.choice c a b) apart =
        chosen_named p (is_zero (value_in p env c)) (body.element_of p kids env b) (body.element_of p kids env a) (slot_named env b apart.1) (slot_named env a apart.0)
    slot_named env (syntax.host n attrs w ss) apart =
        (sorted_own (filter_map (attr_in p env) attrs) (attrs_own p env attrs apart.0), slots_named env ss apart.1)
    slot_named env (syntax.comp n attrs w ss) apart = (number_named p n some, slots_named env ss apart)
    slot_named env (syntax.boundary k f w ss) apart = (slot_named env f apart.0, slots_named env ss apart.1)
    slot_named env (syntax.catcher k f w ss) apart = (slot_named env f apart.0, slots_named env ss apart.1)
    slot_named env (syntax.provider n k e w ss) apart = slots_named env ss apart
    slot_named env (syntax.enclosed b s) apart = slot_named env s apart

    pub slots_named : (env : Env) (ss : Slots) → SlotsAttributesApart ss → AllNamed p (gathered (elements_of p kids env ss))
    slots_named env syntax.no_slots apart = tt
    slots_named env (syntax.slot s ss) apart = (slot_named env s apart.0, slots_named env ss apart.1)

pub body_named : (p : Program) → HasComponents p → (c : Component) → SlotsAttributesApart (body_slots c.body) → (i : Inputs) → AllNamed p (gathered i.children)
    → (es : List Element) (effects : List EffectRecord) (initials : List ℤ) (reads : List ContextRead) (versions : List VersionRead) → body_of p c i ≡ ready es effects initials reads versions → AllNamed p (gathered es)
unfolding body_of
body_named p some c apart i h es effects initials reads versions same = go (take_all p i c.statements (opening_frame c i.props)) same
  where
    go : (t : Taken) → finished p i (body_slots c.body) t ≡ ready es effects initials reads versions → AllNamed p (gathered es)
    go (stopped_at r v) same = absurd (cc same)
    go (thrown x) same = absurd (cc same)
    go (taken f) same =
        let equal : elements_of p i.children f.env (body_slots c.body) ≡ es = cc in
        subst (λ (xs : List Element). AllNamed p (gathered xs)) equal (slots_named p some i.children h f.env (body_slots c.body) apart)

-- of a list's elements as of the list
pub listed_named : (p : Program) (es : Elements) → AllNamed p es → AllNamed p (gathered (listed es))
listed_named p es h = subst (AllNamed p) (sym (gathered-listed es)) h
