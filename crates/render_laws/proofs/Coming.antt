-- Which elements a plan can give, and that the elements of a body come from the body's plan.
use Rattle.std.specs.Prelude.{◌≡◌, ℕ, zero, suc, ◌+◌, ◌≤◌, Bool, true, false, ◌||◌, cond, List, [], ◌∷◌, map, ℤ, pos, negsuc, Option, Some, None, is_some}
use Rattle.std.specs.List.{range_with_len}
use Rattle.std.proofs.Common.{arith}
use Rattle.rx_base.specs.Values.{Name}
use Rattle.rx_base.specs.Arithmetic.{is_zero}
use Rattle.rx_ast.specs.Syntax.{Program, Slot, Slots, Expr, key_of, key_in}
use Rattle.rx_ast.specs.Syntax as syntax
use Rattle.rx_rules.specs.Names.{component_number, component_at}
use Rattle.rx_elem.specs.Elements.{Element, Elements, gathered}
use Rattle.rx_elem.specs.Elements as elements
use Rattle.rx_meaning.specs.Expressions.{Env, value_in}
use Rattle.rx_meaning.specs.Body.{element_of, elements_of, turns, key_value}
use Rattle.rx_rules.specs.Keys.{carries_key, keyed_places, SlotKeysApart, SlotsKeysApart}
use Rattle.render_laws.proofs.Plans.{Alts, nil, alt, Plan, fixed, every, Row, end, next, joined, no_plan, only, slot_alts, slots_row, slots_keyed, slots_plan, body_plan}

-- these plans are those of an alternative
pub data Has : Plan → Plan → Alts → Type 0 where
  here : {p f : Plan} {a : Alts} → Has p f (alt p f a)
  there : {p f q g : Plan} {a : Alts} → Has p f a → Has p f (alt q g a)

-- all alternatives of the first are among those of the second
abbrev pub Within : Alts → Alts → Type 0
Within a b = (p f : Plan) → Has p f a → Has p f b

pub within_first : (a b : Alts) → Within a (joined a b)
within_first nil b p f h = elim h [ ]
within_first (alt q g a) b p f here = here
within_first (alt q g a) b p f (there h) = there (within_first a b p f h)

pub within_second : (a b : Alts) → Within b (joined a b)
within_second nil b p f h = h
within_second (alt q g a) b p f h = there (within_second a b p f h)

-- an element has a key
abbrev pub is_keyed : Element → Bool
is_keyed e = is_some (elements.key_of e)

-- how many elements there are, and how many of them have a key
abbrev pub count_all : Elements → ℕ
count_all elements.none = 0
count_all (elements.more e es) = 1 + count_all es

abbrev pub count_keyed : Elements → ℕ
count_keyed elements.none = 0
count_keyed (elements.more e es) = cond (is_keyed e) 1 0 + count_keyed es

-- a list has no more elements than its plan has places
abbrev pub IsFew : Plan → Elements → Type 0
IsFew (fixed row keyed) es = count_keyed es ≤ 1
IsFew (every limit a) es = count_all es ≤ limit

abbrev pub row_head : Row → Alts
row_head end = nil
row_head (next a row) = a

abbrev pub row_tail : Row → Row
row_tail end = end
row_tail (next a row) = row

-- a component of this number is declared
abbrev pub IsDeclared : Program → ℕ → Type 0
IsDeclared p c = is_some (component_at p c) ≡ true

-- An element comes from alternatives: one of them has the plans of its children. The body of a component unfolds at least so deep.
abbrev mutual
  pub Comes : ℕ → Program → Alts → Element → Type 0
  Comes d p a elements.null = Unit {0}
  Comes d p a (elements.text t) = (q : Plan) × (f : Plan) × Has q f a
  Comes d p a (elements.host n k attrs es) = (q : Plan) × (f : Plan) × Has q f a × IsFew q es × AllCome d p q es
  Comes d p a (elements.comp c k ps es) =
      (m : ℕ) × (q : Plan) × (f : Plan) × (d ≤ m) × Has (body_plan m p c q) f a × IsFew q es × AllCome d p q es × IsDeclared p c
  Comes d p a (elements.list marked es) = (q : Plan) × (f : Plan) × Has q f a × IsFew q es × AllCome d p q es
  Comes d p a (elements.boundary k e es) =
      (q : Plan) × (b : Alts) × (c : Alts) × Has q (fixed (next b end) c) a × IsFew q es × AllCome d p q es × Comes d p (cond (is_keyed e) c b) e
  Comes d p a (elements.catcher k e es) =
      (q : Plan) × (b : Alts) × (c : Alts) × Has q (fixed (next b end) c) a × IsFew q es × AllCome d p q es × Comes d p (cond (is_keyed e) c b) e
  Comes d p a (elements.provider c k x es) = (q : Plan) × (f : Plan) × Has q f a × IsFew q es × AllCome d p q es

  pub AllCome : ℕ → Program → Plan → Elements → Type 0
  AllCome d p q elements.none = Unit {0}
  AllCome d p (fixed row keyed) (elements.more e es) =
      Comes d p (cond (is_keyed e) keyed (row_head row)) e × AllCome d p (fixed (row_tail row) keyed) es
  AllCome d p (every limit a) (elements.more e es) = Comes d p a e × AllCome d p (every limit a) es

-- from more alternatives no less comes
pub comes_within : (d : ℕ) (p : Program) (a b : Alts) → Within a b → (e : Element) → Comes d p a e → Comes d p b e
comes_within d p a b w elements.null h = tt
comes_within d p a b w (elements.text t) h = (h.0, h.1, w h.0 h.1 h.2)
comes_within d p a b w (elements.host n k attrs es) h = (h.0, h.1, w h.0 h.1 h.2, h.3, h.4)
comes_within d p a b w (elements.comp c k ps es) h = (h.0, h.1, h.2, h.3, w (body_plan h.0 p c h.1) h.2 h.4, h.5, h.6, h.7)
comes_within d p a b w (elements.list marked es) h = (h.0, h.1, w h.0 h.1 h.2, h.3, h.4)
comes_within d p a b w (elements.boundary k e es) h = (h.0, h.1, h.2, w h.0 (fixed (next h.1 end) h.2) h.3, h.4, h.5, h.6)
comes_within d p a b w (elements.catcher k e es) h = (h.0, h.1, h.2, w h.0 (fixed (next h.1 end) h.2) h.3, h.4, h.5, h.6)
comes_within d p a b w (elements.provider c k x es) h = (h.0, h.1, w h.0 h.1 h.2, h.3, h.4)

-- what comes to some depth comes to one less
mutual
  pub comes_less : (d : ℕ) (p : Program) (a : Alts) (e : Element) → Comes (suc d) p a e → Comes d p a e
  comes_less d p a elements.null h = tt
  comes_less d p a (elements.text t) h = h
  comes_less d p a (elements.host n k attrs es) h = (h.0, h.1, h.2, h.3, all_come_less d p h.0 es h.4)
  comes_less d p a (elements.comp c k ps es) h = (h.0, h.1, h.2, (omega (arith, h.3)), h.4, h.5, all_come_less d p h.1 es h.6, h.7)
  comes_less d p a (elements.list marked es) h = (h.0, h.1, h.2, h.3, all_come_less d p h.0 es h.4)
  comes_less d p a (elements.boundary k e es) h =
      (h.0, h.1, h.2, h.3, h.4, all_come_less d p h.0 es h.5, comes_less d p (cond (is_keyed e) h.2 h.1) e h.6)
  comes_less d p a (elements.catcher k e es) h =
      (h.0, h.1, h.2, h.3, h.4, all_come_less d p h.0 es h.5, comes_less d p (cond (is_keyed e) h.2 h.1) e h.6)
  comes_less d p a (elements.provider c k x es) h = (h.0, h.1, h.2, h.3, all_come_less d p h.0 es h.4)

  pub all_come_less : (d : ℕ) (p : Program) (q : Plan) (es : Elements) → AllCome (suc d) p q es → AllCome d p q es
  all_come_less d p q elements.none h = tt
  all_come_less d p (fixed row keyed) (elements.more e es) h =
      (comes_less d p (cond (is_keyed e) keyed (row_head row)) e h.0, all_come_less d p (fixed (row_tail row) keyed) es h.1)
  all_come_less d p (every limit a) (elements.more e es) h = (comes_less d p a e h.0, all_come_less d p (every limit a) es h.1)

-- The elements of slots

abbrev number : Bool → ℕ
number b = cond b 1 0

choice_keyed : (t : Bool) (x y : Element) (a b : Bool) → number (is_keyed x) ≤ number a → number (is_keyed y) ≤ number b
    → number (is_keyed (cond t x y)) ≤ number (b || a)
choice_keyed true x y a b h k = more a b h
  where
    more : (a b : Bool) → number (is_keyed x) ≤ number a → number (is_keyed x) ≤ number (b || a)
    more a true h = least (is_keyed x)
      where
        least : (c : Bool) → number c ≤ 1
        least true = omega arith
        least false = omega arith
    more a false h = h
choice_keyed false x y a b h k = more a b k
  where
    more : (a b : Bool) → number (is_keyed y) ≤ number b → number (is_keyed y) ≤ number (b || a)
    more a true h = h
    more true false h = omega arith
    more false false h = h

value_keyed : (p : Program) (env : Env) (k : Option Expr) → number (is_some (key_value p env k)) ≤ number (is_some k)
value_keyed p env None = omega arith
value_keyed p env (Some e) = omega arith

slot_keyed : (p : Program) (kids : List Element) (env : Env) (s : Slot) → number (is_keyed (element_of p kids env s)) ≤ number (carries_key s)
slot_keyed p kids env syntax.null = omega arith
slot_keyed p kids env (syntax.words t) = omega arith
slot_keyed p kids env (syntax.number_of e) = omega arith
slot_keyed p kids env syntax.children = omega arith
slot_keyed p kids env (syntax.repeated i e limit s) = omega arith
slot_keyed p kids env (syntax.choice c a b) =
    choice_keyed (is_zero (value_in p env c)) (element_of p kids env b) (element_of p kids env a) (carries_key b) (carries_key a)
    (slot_keyed p kids env b) (slot_keyed p kids env a)
slot_keyed p kids env (syntax.host n attrs w ss) = value_keyed p env (key_of attrs)
slot_keyed p kids env (syntax.comp n attrs w ss) = value_keyed p env (key_of attrs)
slot_keyed p kids env (syntax.boundary k f w ss) = value_keyed p env (key_in k)
slot_keyed p kids env (syntax.catcher k f w ss) = value_keyed p env (key_in k)
slot_keyed p kids env (syntax.provider n k e w ss) = value_keyed p env (key_in k)
slot_keyed p kids env (syntax.enclosed b s) = slot_keyed p kids env s

pub slots_few : (p : Program) (kids : List Element) (env : Env) (ss : Slots) → count_keyed (gathered (elements_of p kids env ss)) ≤ keyed_places ss
slots_few p kids env syntax.no_slots = omega arith
slots_few p kids env (syntax.slot s ss) = omega (arith, slot_keyed p kids env s, slots_few p kids env ss)

range_few : (f : ℕ → Element) (a n : ℕ) → count_all (gathered (map f (range_with_len a n))) ≤ n
range_few f a zero = omega arith
range_few f a (suc n) = omega (arith, range_few f (a + 1) n)

turns_few : (x : ℤ) (limit : ℕ) → turns x limit ≤ limit
turns_few (pos n) limit = omega arith
turns_few (negsuc n) limit = omega arith

has_only : (p : Program) (env : Env) (k : Option Expr) (q f : Plan) → Has q f (only (is_some (key_value p env k)) (is_some k) (alt q f nil))
has_only p env None q f = here
has_only p env (Some e) q f = here

module _ (m d : ℕ) (p : Program) (declared : (n : Name) → IsDeclared p (component_number p n)) (deep : d ≤ m) (given : Plan) (kids : List Element) (few : IsFew given (gathered kids)) (come : AllCome d p given (gathered kids)) where
  -- a slot's alternatives
  abbrev alts_of : Bool → Slot → Alts
  alts_of keyed s = slot_alts (body_plan m p) given p keyed s

  items_come : (limit : ℕ) (a : Alts) (f : ℕ → Element) → ((k : ℕ) → Comes d p a (f k)) → (ks : List ℕ)
      → AllCome d p (every limit a) (gathered (map f ks))
  items_come limit a f h [] = tt
  items_come limit a f h (k ∷ ks) = (h k, items_come limit a f h ks)

  both_within : (keyed : Bool) (s : Slot) → Within (alts_of keyed s) (joined (alts_of false s) (alts_of true s))
  both_within true s = within_second (alts_of false s) (alts_of true s)
  both_within false s = within_first (alts_of false s) (alts_of true s)

  chosen_come : (t : Bool) (a b : Slot) (x y : Element) → Comes d p (alts_of (is_keyed x) b) x → Comes d p (alts_of (is_keyed y) a) y
      → Comes d p (joined (alts_of (is_keyed (cond t x y)) a) (alts_of (is_keyed (cond t x y)) b)) (cond t x y)
  chosen_come true a b x y h k =
      comes_within d p (alts_of (is_keyed x) b) (joined (alts_of (is_keyed x) a) (alts_of (is_keyed x) b))
      (within_second (alts_of (is_keyed x) a) (alts_of (is_keyed x) b)) x h
  chosen_come false a b x y h k =
      comes_within d p (alts_of (is_keyed y) a) (joined (alts_of (is_keyed y) a) (alts_of (is_keyed y) b))
      (within_first (alts_of (is_keyed y) a) (alts_of (is_keyed y) b)) y k

  -- a place of a child list, with more alternatives for what has a key
  place_comes : (keyed : Bool) (s : Slot) (more : Alts) → Within (alts_of true s) more → (e : Element)
      → Comes d p (alts_of keyed s) e → Comes d p (cond keyed more (alts_of false s)) e
  place_comes true s more w e h = comes_within d p (alts_of true s) more w e h
  place_comes false s more w e h = h

  mutual
    pub slot_comes : (env : Env) (s : Slot) → SlotKeysApart s → Comes d p (alts_of (is_keyed (element_of p kids env s)) s) (element_of p kids env s)
    slot_comes env syntax.null apart = tt
    slot_comes env (syntax.words t) apart = (no_plan, no_plan, here)
    slot_comes env (syntax.number_of e) apart = (no_plan, no_plan, here)
    slot_comes env syntax.children apart = (given, no_plan, here, few, come)
    slot_comes env (syntax.repeated i e limit s) apart =
        let f = λ (k : ℕ). element_of p kids ((i, pos k) ∷ env) s in
        let a = joined (alts_of false s) (alts_of true s) in
        let n = turns (value_in p env e) limit in (
          every limit a,
          no_plan,
          here,
          omega (arith, range_few f 0 n, turns_few (value_in p env e) limit),
          items_come limit a f
              (λ k. comes_within d p (alts_of (is_keyed (f k)) s) a (both_within (is_keyed (f k)) s) (f k) (slot_comes ((i, pos k) ∷ env) s apart))
              (range_with_len 0 n),
        )
    slot_comes env (syntax.choice c a b) apart =
        chosen_come (is_zero (value_in p env c)) a b (element_of p kids env b) (element_of p kids env a)
        (slot_comes env b apart.1) (slot_comes env a apart.0)
    slot_comes env (syntax.host n attrs w ss) apart =
        let q = slots_plan (body_plan m p) given p ss in (
          q,
          no_plan,
          has_only p env (key_of attrs) q no_plan,
          omega (arith, slots_few p kids env ss, apart.0),
          slots_come env ss (slots_keyed (body_plan m p) given p ss) (λ q f h. h) apart.1,
        )
    slot_comes env (syntax.comp n attrs w ss) apart =
        let q = slots_plan (body_plan m p) given p ss in (
          m,
          q,
          no_plan,
          deep,
          has_only p env (key_of attrs) (body_plan m p (component_number p n) q) no_plan,
          omega (arith, slots_few p kids env ss, apart.0),
          slots_come env ss (slots_keyed (body_plan m p) given p ss) (λ q f h. h) apart.1,
          declared n,
        )
    slot_comes env (syntax.boundary k f w ss) apart =
        let q = slots_plan (body_plan m p) given p ss in
        let e = element_of p kids env f in (
          q,
          alts_of false f,
          alts_of true f,
          has_only p env (key_in k) q (fixed (next (alts_of false f) end) (alts_of true f)),
          omega (arith, slots_few p kids env ss, apart.1),
          slots_come env ss (slots_keyed (body_plan m p) given p ss) (λ q f h. h) apart.2,
          place_comes (is_keyed e) f (alts_of true f) (λ q f h. h) e (slot_comes env f apart.0),
        )
    slot_comes env (syntax.catcher k f w ss) apart =
        let q = slots_plan (body_plan m p) given p ss in
        let e = element_of p kids env f in (
          q,
          alts_of false f,
          alts_of true f,
          has_only p env (key_in k) q (fixed (next (alts_of false f) end) (alts_of true f)),
          omega (arith, slots_few p kids env ss, apart.1),
          slots_come env ss (slots_keyed (body_plan m p) given p ss) (λ q f h. h) apart.2,
          place_comes (is_keyed e) f (alts_of true f) (λ q f h. h) e (slot_comes env f apart.0),
        )
    slot_comes env (syntax.provider n k e w ss) apart =
        let q = slots_plan (body_plan m p) given p ss in (
          q,
          no_plan,
          has_only p env (key_in k) q no_plan,
          omega (arith, slots_few p kids env ss, apart.0),
          slots_come env ss (slots_keyed (body_plan m p) given p ss) (λ q f h. h) apart.1,
        )
    slot_comes env (syntax.enclosed b s) apart = slot_comes env s apart

    pub slots_come : (env : Env) (ss : Slots) (more : Alts) → Within (slots_keyed (body_plan m p) given p ss) more → SlotsKeysApart ss
        → AllCome d p (fixed (slots_row (body_plan m p) given p ss) more) (gathered (elements_of p kids env ss))
    slots_come env syntax.no_slots more w apart = tt
    slots_come env (syntax.slot s ss) more w apart =
        let e = element_of p kids env s in
        let keyed = slots_keyed (body_plan m p) given p ss in (
          place_comes (is_keyed e) s more (λ q f h. w q f (within_first (alts_of true s) keyed q f h)) e (slot_comes env s apart.0),
          slots_come env ss more (λ q f h. w q f (within_second (alts_of true s) keyed q f h)) apart.1,
        )
