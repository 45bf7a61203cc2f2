-- Columns of counts that go along with one another.
use Rattle.std.proofs.Common.{Option, Some, None}
use Rattle.std.specs.Prelude.{ℕ, zero, suc}
use Rattle.rx_ast.specs.Syntax.{Program, Component, Slot, Slots, body_slots}
use Rattle.rx_ast.specs.Syntax as syntax
use Rattle.rx_rules.specs.Names.{component_number, component_at}
use Rattle.rx_rules.specs.Bounds.{Column, slot_by, slots_by, body_if, body_by}

-- what two columns give goes along, form by form
pub record Along {A B : Type 0} (k : Column A) (l : Column B) (R : A → B → Type 0) : Type 0 where
  pub at_nothing : R k.nothing l.nothing
  pub at_text : R k.text l.text
  pub at_children : R k.children l.children
  pub at_repeated : (n : ℕ) (a : A) (b : B) → R a b → R (k.repeated n a) (l.repeated n b)
  pub at_choice : (a a' : A) (b b' : B) → R a b → R a' b' → R (k.choice a a') (l.choice b b')
  pub at_around : (a : A) (b : B) → R a b → R (k.around a) (l.around b)
  pub at_boundary : (a a' : A) (b b' : B) → R a b → R a' b' → R (k.boundary a a') (l.boundary b b')
  pub at_catcher : (a a' : A) (b b' : B) → R a b → R a' b' → R (k.catcher a a') (l.catcher b b')
  pub at_component : (a a' : A) (b b' : B) → R a b → R a' b' → R (k.component a a') (l.component b b')
  pub at_body : (c : Component) (a : A) (b : B) → R a b → R (k.body c a) (l.body c b)
  pub at_beside : (a a' : A) (b b' : B) → R a b → R a' b' → R (k.beside a a') (l.beside b b')

-- then what they give of a slot does
mutual
  pub slot-along : {A B : Type 0} (k : Column A) (l : Column B) (R : A → B → Type 0) → Along k l R → (f : ℕ → A) (g : ℕ → B) → ((c : ℕ) → R (f c) (g c))
      → (p : Program) (s : Slot) → R (slot_by k f p s) (slot_by l g p s)
  slot-along k l R h f g e p syntax.null = h.at_nothing
  slot-along k l R h f g e p (syntax.words t) = h.at_text
  slot-along k l R h f g e p (syntax.number_of x) = h.at_text
  slot-along k l R h f g e p syntax.children = h.at_children
  slot-along k l R h f g e p (syntax.repeated i b n s) = h.at_repeated n _ _ (slot-along k l R h f g e p s)
  slot-along k l R h f g e p (syntax.choice c s t) = h.at_choice _ _ _ _ (slot-along k l R h f g e p s) (slot-along k l R h f g e p t)
  slot-along k l R h f g e p (syntax.host x attrs w ss) = h.at_around _ _ (slots-along k l R h f g e p ss)
  slot-along k l R h f g e p (syntax.comp x attrs w ss) = h.at_component _ _ _ _ (e (component_number p x)) (slots-along k l R h f g e p ss)
  slot-along k l R h f g e p (syntax.boundary q s w ss) = h.at_boundary _ _ _ _ (slots-along k l R h f g e p ss) (slot-along k l R h f g e p s)
  slot-along k l R h f g e p (syntax.catcher q s w ss) = h.at_catcher _ _ _ _ (slots-along k l R h f g e p ss) (slot-along k l R h f g e p s)
  slot-along k l R h f g e p (syntax.provider x q v w ss) = h.at_around _ _ (slots-along k l R h f g e p ss)
  slot-along k l R h f g e p (syntax.enclosed b s) = slot-along k l R h f g e p s

  pub slots-along : {A B : Type 0} (k : Column A) (l : Column B) (R : A → B → Type 0) → Along k l R → (f : ℕ → A) (g : ℕ → B) → ((c : ℕ) → R (f c) (g c))
      → (p : Program) (ss : Slots) → R (slots_by k f p ss) (slots_by l g p ss)
  slots-along k l R h f g e p syntax.no_slots = h.at_nothing
  slots-along k l R h f g e p (syntax.slot s ss) = h.at_beside _ _ _ _ (slot-along k l R h f g e p s) (slots-along k l R h f g e p ss)

body_if-along : {A B : Type 0} (k : Column A) (l : Column B) (R : A → B → Type 0) → Along k l R → (f : ℕ → A) (g : ℕ → B) → ((c : ℕ) → R (f c) (g c))
    → (p : Program) (o : Option Component) → R (body_if k f p o) (body_if l g p o)
body_if-along k l R h f g e p None = h.at_nothing
body_if-along k l R h f g e p (Some c) = h.at_body c _ _ (slots-along k l R h f g e p (body_slots c.body))

-- and of a body
pub body-along : {A B : Type 0} (k : Column A) (l : Column B) (R : A → B → Type 0) → Along k l R → (n : ℕ) (p : Program) (c : ℕ)
    → R (body_by k n p c) (body_by l n p c)
unfolding body_by
body-along k l R h zero p c = h.at_nothing
body-along k l R h (suc n) p c = body_if-along k l R h (body_by k n p) (body_by l n p) (body-along k l R h n p) p (component_at p c)
