-- How the logic stores a slot.
use Rattle.std.specs.Prelude.{◌≡◌, ℕ, List, refl}
use Rattle.std.specs.Coded.{Coded, coded_list}
use base.Stored.{Gv, gnil, gnum, gcons}
use mathlib.Core.Path.{ap}
use Rattle.rx_ast.specs.Codes.{head, tail, value, text, expr_code}
use Rattle.rx_ast.specs.Syntax.{Attribute, key, computed, literal, KeyPlace, unkeyed, key_first, key_last, Ending, at_once, by_tag, Brackets, parentheses, braces}
use Rattle.rx_ast.specs.Syntax.{Slot, null, words, number_of, children, repeated, choice, host, comp, boundary, catcher, provider, enclosed, Slots, no_slots, slot}

abbrev pub stored_attribute : Attribute → Gv
stored_attribute (key e) = gcons (gnum 0) (expr_code.code e)
stored_attribute (computed x e) = gcons (gnum 1) (gcons (text.code x) (expr_code.code e))
stored_attribute (literal x t) = gcons (gnum 2) (gcons (text.code x) (text.code t))

pub stored_attribute_one : (a b : Attribute) → stored_attribute a ≡ stored_attribute b → a ≡ b
stored_attribute_one (key d) (key e) p = ap key (expr_code.inj d e (ap tail p))
stored_attribute_one (computed x d) (computed y e) p =
    λ i. computed (text.inj x y (ap (λ g. head (tail g)) p) i) (expr_code.inj d e (ap (λ g. tail (tail g)) p) i)
stored_attribute_one (literal x t) (literal y u) p =
    λ i. literal (text.inj x y (ap (λ g. head (tail g)) p) i) (text.inj t u (ap (λ g. tail (tail g)) p) i)
stored_attribute_one _ _ p = cc

abbrev pub attribute_code : Coded Attribute
attribute_code = record { code = stored_attribute; inj = stored_attribute_one }

abbrev pub attributes_code : Coded (List Attribute)
attributes_code = coded_list attribute_code

abbrev pub stored_key : KeyPlace → Gv
stored_key unkeyed = gnil
stored_key (key_first e) = gcons (gnum 0) (expr_code.code e)
stored_key (key_last e) = gcons (gnum 1) (expr_code.code e)

stored_key_one : (j k : KeyPlace) → stored_key j ≡ stored_key k → j ≡ k
stored_key_one unkeyed unkeyed p = refl
stored_key_one (key_first d) (key_first e) p = ap key_first (expr_code.inj d e (ap tail p))
stored_key_one (key_last d) (key_last e) p = ap key_last (expr_code.inj d e (ap tail p))
stored_key_one _ _ p = cc

abbrev pub ending_number : Ending → ℕ
ending_number at_once = 0
ending_number by_tag = 1

ending_one : (v w : Ending) → ending_number v ≡ ending_number w → v ≡ w
ending_one at_once at_once p = refl
ending_one by_tag by_tag p = refl
ending_one _ _ p = cc

abbrev pub brackets_number : Brackets → ℕ
brackets_number parentheses = 0
brackets_number braces = 1

brackets_one : (b c : Brackets) → brackets_number b ≡ brackets_number c → b ≡ c
brackets_one parentheses parentheses p = refl
brackets_one braces braces p = refl
brackets_one _ _ p = cc

abbrev mutual
  pub stored_slot : Slot → Gv
  stored_slot null = gcons (gnum 0) gnil
  stored_slot (words t) = gcons (gnum 1) (text.code t)
  stored_slot (number_of e) = gcons (gnum 2) (expr_code.code e)
  stored_slot children = gcons (gnum 3) gnil
  stored_slot (repeated x e n s) = gcons (gnum 4) (gcons (text.code x) (gcons (expr_code.code e) (gcons (gnum n) (stored_slot s))))
  stored_slot (choice e s t) = gcons (gnum 5) (gcons (expr_code.code e) (gcons (stored_slot s) (stored_slot t)))
  stored_slot (host x attrs w ss) =
      gcons (gnum 6) (gcons (text.code x) (gcons (attributes_code.code attrs) (gcons (gnum (ending_number w)) (stored_slots ss))))
  stored_slot (comp x attrs w ss) =
      gcons (gnum 7) (gcons (text.code x) (gcons (attributes_code.code attrs) (gcons (gnum (ending_number w)) (stored_slots ss))))
  stored_slot (boundary k s w ss) =
      gcons (gnum 8) (gcons (stored_key k) (gcons (stored_slot s) (gcons (gnum (ending_number w)) (stored_slots ss))))
  stored_slot (provider x k e w ss) =
      gcons (gnum 9) (gcons (text.code x) (gcons (stored_key k) (gcons (expr_code.code e) (gcons (gnum (ending_number w)) (stored_slots ss)))))
  stored_slot (enclosed b s) = gcons (gnum 10) (gcons (gnum (brackets_number b)) (stored_slot s))
  stored_slot (catcher k s w ss) =
      gcons (gnum 11) (gcons (stored_key k) (gcons (stored_slot s) (gcons (gnum (ending_number w)) (stored_slots ss))))

  pub stored_slots : Slots → Gv
  stored_slots no_slots = gnil
  stored_slots (slot s ss) = gcons (stored_slot s) (stored_slots ss)

-- the parts behind the first number
abbrev first : Gv → Gv
first g = head (tail g)

abbrev second : Gv → Gv
second g = head (tail (tail g))

abbrev third : Gv → Gv
third g = head (tail (tail (tail g)))

mutual
  pub stored_slot_one : (x y : Slot) → stored_slot x ≡ stored_slot y → x ≡ y
  stored_slot_one null null p = refl
  stored_slot_one (words t) (words u) p = ap words (text.inj t u (ap tail p))
  stored_slot_one (number_of d) (number_of e) p = ap number_of (expr_code.inj d e (ap tail p))
  stored_slot_one children children p = refl
  stored_slot_one (repeated x d m s) (repeated y e n t) p =
      λ i. repeated (text.inj x y (ap first p) i) (expr_code.inj d e (ap second p) i) (value (third (p i)))
      (stored_slot_one s t (ap (λ g. tail (tail (tail (tail g)))) p) i)
  stored_slot_one (choice d s t) (choice e u v) p =
      λ i. choice (expr_code.inj d e (ap first p) i) (stored_slot_one s u (ap second p) i)
      (stored_slot_one t v (ap (λ g. tail (tail (tail g))) p) i)
  stored_slot_one (host x a v ss) (host y b w ts) p =
      λ i. host (text.inj x y (ap first p) i) (attributes_code.inj a b (ap second p) i)
      (ending_one v w (ap (λ g. value (third g)) p) i)
      (stored_slots_one ss ts (ap (λ g. tail (tail (tail (tail g)))) p) i)
  stored_slot_one (comp x a v ss) (comp y b w ts) p =
      λ i. comp (text.inj x y (ap first p) i) (attributes_code.inj a b (ap second p) i)
      (ending_one v w (ap (λ g. value (third g)) p) i)
      (stored_slots_one ss ts (ap (λ g. tail (tail (tail (tail g)))) p) i)
  stored_slot_one (boundary j s v ss) (boundary k t w ts) p =
      λ i. boundary (stored_key_one j k (ap first p) i) (stored_slot_one s t (ap second p) i)
      (ending_one v w (ap (λ g. value (third g)) p) i)
      (stored_slots_one ss ts (ap (λ g. tail (tail (tail (tail g)))) p) i)
  stored_slot_one (catcher j s v ss) (catcher k t w ts) p =
      λ i. catcher (stored_key_one j k (ap first p) i) (stored_slot_one s t (ap second p) i)
      (ending_one v w (ap (λ g. value (third g)) p) i)
      (stored_slots_one ss ts (ap (λ g. tail (tail (tail (tail g)))) p) i)
  stored_slot_one (provider x j d v ss) (provider y k e w ts) p =
      λ i. provider (text.inj x y (ap first p) i) (stored_key_one j k (ap second p) i) (expr_code.inj d e (ap third p) i)
      (ending_one v w (ap (λ g. value (head (tail (tail (tail (tail g)))))) p) i)
      (stored_slots_one ss ts (ap (λ g. tail (tail (tail (tail (tail g))))) p) i)
  stored_slot_one (enclosed b s) (enclosed c t) p =
      λ i. enclosed (brackets_one b c (ap (λ g. value (first g)) p) i) (stored_slot_one s t (ap (λ g. tail (tail g)) p) i)
  stored_slot_one _ _ p = cc

  pub stored_slots_one : (x y : Slots) → stored_slots x ≡ stored_slots y → x ≡ y
  stored_slots_one no_slots no_slots p = refl
  stored_slots_one (slot s ss) (slot t ts) p = λ i. slot (stored_slot_one s t (ap head p) i) (stored_slots_one ss ts (ap tail p) i)
  stored_slots_one _ _ p = cc

abbrev pub slot_code : Coded Slot
slot_code = record { code = stored_slot; inj = stored_slot_one }

abbrev pub slots_code : Coded Slots
slots_code = record { code = stored_slots; inj = stored_slots_one }
