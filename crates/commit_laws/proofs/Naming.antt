-- If a program has components, each element that its bodies give names one of them.
use Rattle.std.specs.List.{position_or_len, range_with_len}
use Rattle.std.specs.Prelude.{Bool, List, None, Some, [], bytes_eq, cond, false, is_some, length, map, nat_lt, pos, refl, slice_get, suc, true, unwrap_or, zero, ℕ, ℤ, ◌<◌, ◌∷◌, ◌≡◌}
use Rattle.std.proofs.Common.{arith, subst, sym}
use Rattle.std.proofs.lemmas.Bool.Decides.{nat_tests}
use Rattle.rx_ast.specs.Syntax.{Component, Program, Slot, Slots, body_slots, components}
use Rattle.rx_base.specs.Arithmetic.{is_zero}
use Rattle.rx_base.specs.Values.{Name}
use Rattle.rx_rules.specs.Names.{component_at, component_number, place_among}
use Rattle.rx_elem.specs.Elements.{Element, Elements, gathered, listed}
use Rattle.rx_elem.specs.declared.effect.ContextRead.{ContextRead}
use Rattle.rx_elem.specs.declared.effect.EffectRecord.{EffectRecord}
use Rattle.rx_elem.specs.declared.effect.VersionRead.{VersionRead}
use Rattle.rx_meaning.specs.Body.{Inputs, Taken, body_of, elements_of, finished, opening_frame, ready, stopped_at, take_all, taken, thrown, turns}
use Rattle.rx_meaning.specs.Expressions.{Env, value_in}
use Rattle.rx_meaning.proofs.Depths.{gathered-listed}
use Rattle.rx_elem.specs.Elements as elements
use Rattle.rx_ast.specs.Syntax as syntax
use Rattle.rx_meaning.specs.Body as body

-- each component that an element names is there
abbrev mutual
  pub Named : Program → Element → Type 0
  Named p elements.null = Unit {0}
  Named p (elements.text t) = Unit {0}
  Named p (elements.host n k attrs es) = AllNamed p es
  Named p (elements.comp c k ps es) = (is_some (component_at p c) ≡ true) × AllNamed p es
  Named p (elements.list marked es) = AllNamed p es
  Named p (elements.boundary k f es) = Named p f × AllNamed p es
  Named p (elements.catcher k f es) = Named p f × AllNamed p es
  Named p (elements.provider c k x es) = AllNamed p es

  pub AllNamed : Program → Elements → Type 0
  AllNamed p elements.none = Unit {0}
  AllNamed p (elements.more e es) = Named p e × AllNamed p es

-- a program has a component
abbrev pub HasComponents : Program → Type 0
HasComponents p = 0 < length (components p)

got_some : {X : Type 0} (xs : List X) (k : ℕ) → k < length xs → is_some (slice_get xs k) ≡ true
got_some [] k h = absurd (omega arith)
got_some (x ∷ xs) zero h = refl
got_some (x ∷ xs) (suc k) h = got_some xs k (omega arith)

pub some_got : {X : Type 0} (xs : List X) (k : ℕ) → is_some (slice_get xs k) ≡ true → 0 < length xs
some_got [] k h = absurd (cc h)
some_got (x ∷ xs) k h = omega arith

names_length : (cs : List Component) → length (map (λ c. c.name) cs) ≡ length cs
names_length [] = refl
names_length (c ∷ cs) = omega (arith, names_length cs)

pub place_within : (names : List Name) (name : Name) → 0 < length names → (k : ℕ) (b : Bool) → nat_lt k (length names) ≡ b → unwrap_or (cond b (Some k) None) 0 < length names
place_within names name some k true e = grind (arith, nat_tests)
place_within names name some k false e = some

number_within : (p : Program) (name : Name) → HasComponents p → component_number p name < length (components p)
number_within p name some =
    let same = names_length (components p) in
    let h : place_among (map (λ c. c.name) (components p)) name < length (map (λ c. c.name) (components p)) =
    place_within (map (λ c. c.name) (components p)) name (omega arith)
    (position_or_len (bytes_eq name) (map (λ c. c.name) (components p)))
    (nat_lt (position_or_len (bytes_eq name) (map (λ c. c.name) (components p))) (length (map (λ c. c.name) (components p)))) refl in
    omega arith

pub number_named : (p : Program) (name : Name) → HasComponents p → is_some (component_at p (component_number p name)) ≡ true
number_named p name some = got_some (components p) (component_number p name) (number_within p name some)

items_named : (p : Program) (f : ℕ → Element) → ((k : ℕ) → Named p (f k)) → (ks : List ℕ) → AllNamed p (gathered (map f ks))
items_named p f h [] = tt
items_named p f h (k ∷ ks) = (h k, items_named p f h ks)

chosen_named : (p : Program) (b : Bool) (x y : Element) → Named p x → Named p y → Named p (cond b x y)
chosen_named p true x y h k = h
chosen_named p false x y h k = k

mutual
  slot_named : (p : Program) → HasComponents p → (kids : List Element) → AllNamed p (gathered kids) → (env : Env) (s : Slot) → Named p (body.element_of p kids env s)
  slot_named p some kids h env syntax.null = tt
  slot_named p some kids h env (syntax.words t) = tt
  slot_named p some kids h env (syntax.number_of e) = tt
  slot_named p some kids h env syntax.children = h
  slot_named p some kids h env (syntax.repeated i e limit s) =
      items_named p (λ k. body.element_of p kids ((i, pos k) ∷ env) s) (λ k. slot_named p some kids h ((i, pos k) ∷ env) s) (range_with_len 0 (turns (value_in p env e) limit))
  slot_named p some kids h env (syntax.choice c a b) =
      chosen_named p (is_zero (value_in p env c)) (body.element_of p kids env b) (body.element_of p kids env a) (slot_named p some kids h env b) (slot_named p some kids h env a)
  slot_named p some kids h env (syntax.host n attrs w ss) = slots_named p some kids h env ss
  slot_named p some kids h env (syntax.comp n attrs w ss) = (number_named p n some, slots_named p some kids h env ss)
  slot_named p some kids h env (syntax.boundary k f w ss) = (slot_named p some kids h env f, slots_named p some kids h env ss)
  slot_named p some kids h env (syntax.catcher k f w ss) = (slot_named p some kids h env f, slots_named p some kids h env ss)
  slot_named p some kids h env (syntax.provider n k e w ss) = slots_named p some kids h env ss
  slot_named p some kids h env (syntax.enclosed b s) = slot_named p some kids h env s

  slots_named : (p : Program) → HasComponents p → (kids : List Element) → AllNamed p (gathered kids) → (env : Env) (ss : Slots)
      → AllNamed p (gathered (elements_of p kids env ss))
  slots_named p some kids h env syntax.no_slots = tt
  slots_named p some kids h env (syntax.slot s ss) = (slot_named p some kids h env s, slots_named p some kids h env ss)

pub body_named : (p : Program) → HasComponents p → (c : Component) (i : Inputs) → AllNamed p (gathered i.children)
    → (es : List Element) (effects : List EffectRecord) (initials : List ℤ) (reads : List ContextRead) (versions : List VersionRead) → body_of p c i ≡ ready es effects initials reads versions → AllNamed p (gathered es)
unfolding body_of
body_named p some c i h es effects initials reads versions same = go (take_all p i c.statements (opening_frame c i.props)) same
  where
    go : (t : Taken) → finished p i (body_slots c.body) t ≡ ready es effects initials reads versions → AllNamed p (gathered es)
    go (stopped_at r v) same = absurd (cc same)
    go (thrown x) same = absurd (cc same)
    go (taken f) same =
        let equal : elements_of p i.children f.env (body_slots c.body) ≡ es = cc in
        subst (λ (xs : List Element). AllNamed p (gathered xs)) equal (slots_named p some i.children h f.env (body_slots c.body))

-- of a list's elements as of the list
pub listed_named : (p : Program) (es : Elements) → AllNamed p es → AllNamed p (gathered (listed es))
listed_named p es h = subst (AllNamed p) (sym (gathered-listed es)) h
