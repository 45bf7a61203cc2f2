-- If the root waits, it waits for one component alone, and so if it throws.
use Rattle.std.proofs.Common.{◌≡◌, ◌⊎◌, inl, inr, Bool, true, false, ◌&&◌, ◌||◌, List, [], ◌∷◌, Option, Some, None, refl, ap, ◌∙◌, map}
use Rattle.std.specs.Prelude.{ℕ, zero, suc, bytes_eq, filter, slice_get}
use Rattle.std.proofs.lemmas.Slice.Eq.{bytes_eq-Decides}
use Rattle.rx_base.specs.Values.{Name}
use Rattle.rx_ast.specs.Syntax.{Program, Component, components, Slot, Slots, body_slots}
use Rattle.rx_ast.specs.Syntax as syntax
use Rattle.rx_rules.specs.Names.{component_number, component_at, component_names}
use Rattle.rx_rules.specs.Bounds.{Column, slot_by, slots_by, body_if, body_by, Waits, either, passed, may_wait, reads_resource, may_throw, has_throw}
use Rattle.rx_mentions.proofs.Among.{IsIn}

-- the test of one name
abbrev only : Name → Component → Bool
only n c = bytes_eq c.name n

-- the test that all pass
abbrev any : Component → Bool
any c = true

-- it holds for the name of a component
abbrev Alone : Program → (Name → Bool) → Type 0
Alone p q = (n : Name) × IsIn n (component_names p) × (q n ≡ true)

-- what waits (or throws) if all components count does so for one of them alone, and the given children stand alike
abbrev ForOne : Program → Waits → (Name → Waits) → Type 0
ForOne p w f = (w.own ≡ true → Alone p (λ n. (f n).own)) × ((n : Name) → (f n).given ≡ w.given)

-- a column of which each form waits (or throws) by one of its parts
pub record Parted (p : Program) (k : (Component → Bool) → Column Waits) : Type 0 where
  pub at_nothing : ForOne p (k any).nothing (λ n. (k (only n)).nothing)
  pub at_text : ForOne p (k any).text (λ n. (k (only n)).text)
  pub at_children : ForOne p (k any).children (λ n. (k (only n)).children)
  pub at_repeated : (m : ℕ) (w : Waits) (f : Name → Waits) → ForOne p w f → ForOne p ((k any).repeated m w) (λ n. (k (only n)).repeated m (f n))
  pub at_choice : (w v : Waits) (f g : Name → Waits) → ForOne p w f → ForOne p v g → ForOne p ((k any).choice w v) (λ n. (k (only n)).choice (f n) (g n))
  pub at_around : (w : Waits) (f : Name → Waits) → ForOne p w f → ForOne p ((k any).around w) (λ n. (k (only n)).around (f n))
  pub at_boundary : (w v : Waits) (f g : Name → Waits) → ForOne p w f → ForOne p v g → ForOne p ((k any).boundary w v) (λ n. (k (only n)).boundary (f n) (g n))
  pub at_catcher : (w v : Waits) (f g : Name → Waits) → ForOne p w f → ForOne p v g → ForOne p ((k any).catcher w v) (λ n. (k (only n)).catcher (f n) (g n))
  pub at_component : (w v : Waits) (f g : Name → Waits) → ForOne p w f → ForOne p v g → ForOne p ((k any).component w v) (λ n. (k (only n)).component (f n) (g n))
  pub at_body : (c : Component) → IsIn c.name (component_names p) → (w : Waits) (f : Name → Waits) → ForOne p w f → ForOne p ((k any).body c w) (λ n. (k (only n)).body c (f n))
  pub at_beside : (w v : Waits) (f g : Name → Waits) → ForOne p w f → ForOne p v g → ForOne p ((k any).beside w v) (λ n. (k (only n)).beside (f n) (g n))

or-cases : (a b : Bool) → (a || b) ≡ true → (a ≡ true) ⊎ (b ≡ true)
or-cases true b h = inl refl
or-cases false b h = inr h

and-cases : (a b : Bool) → (a && b) ≡ true → (a ≡ true) × (b ≡ true)
and-cases true b h = (refl, h)
and-cases false b h = cc

or-left : (a b : Bool) → a ≡ true → (a || b) ≡ true
or-left a b h = rw h refl

or-right : (a b : Bool) → b ≡ true → (a || b) ≡ true
or-right true b h = refl
or-right false b h = h

both : (a b : Bool) → a ≡ true → b ≡ true → (a && b) ≡ true
both a b h k = rw (h, k) refl

itself : (n : Name) → bytes_eq n n ≡ true
itself n = (bytes_eq-Decides n n).1 refl

for-either : (p : Program) (w v : Waits) (f g : Name → Waits) → ForOne p w f → ForOne p v g → ForOne p (either w v) (λ n. either (f n) (g n))
for-either p w v f g h l = (
  λ t. elim (or-cases w.own v.own t) [
    | inl a ↦ let r = h.0 a in (r.0, r.1, or-left _ _ r.2)
    | inr a ↦ let r = l.0 a in (r.0, r.1, or-right _ _ r.2)
  ],
  λ n. let a = h.1 n in let b = l.1 n in cc,
)

for-passed : (p : Program) (w v : Waits) (f g : Name → Waits) → ForOne p w f → ForOne p v g → ForOne p (passed w v) (λ n. passed (f n) (g n))
for-passed p w v f g h l = (
  λ t. elim (or-cases w.own (w.given && v.own) t) [
    | inl a ↦ let r = h.0 a in (r.0, r.1, or-left _ _ r.2)
    | inr a ↦ let two = and-cases w.given v.own a in let r = l.0 two.1 in (r.0, r.1, or-right _ _ (both _ _ (h.1 r.0 ∙ two.0) r.2))
  ],
  λ n. let a = h.1 n in let b = l.1 n in cc,
)

for-body : (p : Program) (own : Component → Bool) (c : Component) → IsIn c.name (component_names p) → (w : Waits) (f : Name → Waits) → ForOne p w f
    → ForOne p (record w { own = own c || w.own }) (λ n. record (f n) { own = (only n c && own c) || (f n).own })
for-body p own c i w f h = (
  λ t. elim (or-cases (own c) w.own t) [
    | inl a ↦ (c.name, i, or-left _ _ (both _ _ (itself c.name) a))
    | inr a ↦ let r = h.0 a in (r.0, r.1, or-right _ _ r.2)
  ],
  h.1,
)

waits-parted : (p : Program) → Parted p may_wait
waits-parted p = record {
  at_nothing = (λ h. cc, λ n. refl);
  at_text = (λ h. cc, λ n. refl);
  at_children = (λ h. cc, λ n. refl);
  at_repeated = λ m w f h. h;
  at_choice = for-either p;
  at_around = λ w f h. h;
  at_boundary = λ w v f g h l. l;
  at_catcher = for-either p;
  at_component = for-passed p;
  at_body = for-body p reads_resource;
  at_beside = for-either p;
}

throws-parted : (p : Program) → Parted p may_throw
throws-parted p = record {
  at_nothing = (λ h. cc, λ n. refl);
  at_text = (λ h. cc, λ n. refl);
  at_children = (λ h. cc, λ n. refl);
  at_repeated = λ m w f h. h;
  at_choice = for-either p;
  at_around = λ w f h. h;
  at_boundary = for-either p;
  at_catcher = λ w v f g h l. l;
  at_component = for-passed p;
  at_body = for-body p has_throw;
  at_beside = for-either p;
}

-- what a column counts of a slot, for one component
abbrev single : ((Component → Bool) → Column Waits) → (Name → ℕ → Waits) → Program → Slot → Name → Waits
single k g p s n = slot_by (k (only n)) (g n) p s

abbrev singles : ((Component → Bool) → Column Waits) → (Name → ℕ → Waits) → Program → Slots → Name → Waits
singles k g p ss n = slots_by (k (only n)) (g n) p ss

mutual
  slot-parted : (k : (Component → Bool) → Column Waits) (f : ℕ → Waits) (g : Name → ℕ → Waits) (p : Program) → Parted p k → ((c : ℕ) → ForOne p (f c) (λ n. g n c)) → (s : Slot)
      → ForOne p (slot_by (k any) f p s) (single k g p s)
  slot-parted k f g p r h syntax.null = r.at_nothing
  slot-parted k f g p r h (syntax.words t) = r.at_text
  slot-parted k f g p r h (syntax.number_of x) = r.at_text
  slot-parted k f g p r h syntax.children = r.at_children
  slot-parted k f g p r h (syntax.repeated i b n s) = r.at_repeated n (slot_by (k any) f p s) (single k g p s) (slot-parted k f g p r h s)
  slot-parted k f g p r h (syntax.choice c s t) =
      r.at_choice (slot_by (k any) f p s) (slot_by (k any) f p t) (single k g p s) (single k g p t) (slot-parted k f g p r h s) (slot-parted k f g p r h t)
  slot-parted k f g p r h (syntax.host x attrs q ss) = r.at_around (slots_by (k any) f p ss) (singles k g p ss) (slots-parted k f g p r h ss)
  slot-parted k f g p r h (syntax.comp x attrs q ss) =
      r.at_component (f (component_number p x)) (slots_by (k any) f p ss) (λ n. g n (component_number p x)) (singles k g p ss) (h (component_number p x)) (slots-parted k f g p r h ss)
  slot-parted k f g p r h (syntax.boundary q s w ss) =
      r.at_boundary (slots_by (k any) f p ss) (slot_by (k any) f p s) (singles k g p ss) (single k g p s) (slots-parted k f g p r h ss) (slot-parted k f g p r h s)
  slot-parted k f g p r h (syntax.catcher q s w ss) =
      r.at_catcher (slots_by (k any) f p ss) (slot_by (k any) f p s) (singles k g p ss) (single k g p s) (slots-parted k f g p r h ss) (slot-parted k f g p r h s)
  slot-parted k f g p r h (syntax.provider x q v w ss) = r.at_around (slots_by (k any) f p ss) (singles k g p ss) (slots-parted k f g p r h ss)
  slot-parted k f g p r h (syntax.enclosed b s) = slot-parted k f g p r h s

  slots-parted : (k : (Component → Bool) → Column Waits) (f : ℕ → Waits) (g : Name → ℕ → Waits) (p : Program) → Parted p k → ((c : ℕ) → ForOne p (f c) (λ n. g n c)) → (ss : Slots)
      → ForOne p (slots_by (k any) f p ss) (singles k g p ss)
  slots-parted k f g p r h syntax.no_slots = r.at_nothing
  slots-parted k f g p r h (syntax.slot s ss) =
      r.at_beside (slot_by (k any) f p s) (slots_by (k any) f p ss) (single k g p s) (singles k g p ss) (slot-parted k f g p r h s) (slots-parted k f g p r h ss)

-- a component that stands in a list has its name among the names
named-In : (cs : List Component) (i : ℕ) (c : Component) → slice_get cs i ≡ Some c → IsIn c.name (map (λ d. d.name) cs)
named-In [] i c e = cc
named-In (d ∷ ds) zero c e = let same : c ≡ d = cc in inl (ap (λ k. k.name) same)
named-In (d ∷ ds) (suc i) c e = inr (named-In ds i c e)

body_if-parted : (k : (Component → Bool) → Column Waits) (f : ℕ → Waits) (g : Name → ℕ → Waits) (p : Program) → Parted p k → ((c : ℕ) → ForOne p (f c) (λ n. g n c))
    → (i : ℕ) (o : Option Component) → component_at p i ≡ o → ForOne p (body_if (k any) f p o) (λ n. body_if (k (only n)) (g n) p o)
body_if-parted k f g p r h i None at = r.at_nothing
body_if-parted k f g p r h i (Some c) at =
    r.at_body c (named-In (components p) i c at) (slots_by (k any) f p (body_slots c.body)) (singles k g p (body_slots c.body)) (slots-parted k f g p r h (body_slots c.body))

body-parted : (k : (Component → Bool) → Column Waits) (p : Program) → Parted p k → (n c : ℕ) → ForOne p (body_by (k any) n p c) (λ x. body_by (k (only x)) n p c)
unfolding body_by
body-parted k p r zero c = r.at_nothing
body-parted k p r (suc n) c = body_if-parted k (body_by (k any) n p) (λ x. body_by (k (only x)) n p) p r (body-parted k p r n) c (component_at p c) refl

-- if none is left of a filter, the test fails for each
none-left : (q : Name → Bool) (ns : List Name) (n : Name) → filter q ns ≡ [] → IsIn n ns → q n ≡ false
none-left q [] n e h = absurd h
none-left q (m ∷ ms) n e h = go (λ f. none-left q ms n f) (q m) refl h
  where
    go : (filter q ms ≡ [] → IsIn n ms → q n ≡ false) → (b : Bool) → q m ≡ b → (n ≡ m) ⊎ IsIn n ms → q n ≡ false
    go later true t i = let bad : m ∷ filter q ms ≡ [] = rw t at e in cc
    go later false t (inl s) = ap q s ∙ t
    go later false t (inr i) = later (rw t at e) i

none-one : (k : (Component → Bool) → Column Waits) (p : Program) → Parted p k → (n c : ℕ) → filter (λ x. (body_by (k (only x)) n p c).own) (component_names p) ≡ []
    → (body_by (k any) n p c).own ≡ false
none-one k p r n c e = go (body_by (k any) n p c).own refl
  where
    go : (b : Bool) → (body_by (k any) n p c).own ≡ b → b ≡ false
    go true w = let s = (body-parted k p r n c).0 w in let no = none-left (λ x. (body_by (k (only x)) n p c).own) (component_names p) s.0 e s.1 in cc
    go false w = refl

-- if no component makes the body wait alone, it does not wait
pub none-waits : (p : Program) (n c : ℕ) → filter (λ x. (body_by (may_wait (λ d. bytes_eq d.name x)) n p c).own) (component_names p) ≡ []
    → (body_by (may_wait (λ d. true)) n p c).own ≡ false
none-waits p = none-one may_wait p (waits-parted p)

-- and if none makes it throw alone, it does not throw
pub none-throws : (p : Program) (n c : ℕ) → filter (λ x. (body_by (may_throw (λ d. bytes_eq d.name x)) n p c).own) (component_names p) ≡ []
    → (body_by (may_throw (λ d. true)) n p c).own ≡ false
none-throws p = none-one may_throw p (throws-parted p)
