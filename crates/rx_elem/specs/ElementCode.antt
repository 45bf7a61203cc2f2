-- How the logic stores elements.
use Rattle.std.specs.Prelude.{◌≡◌, ℕ, List, ℤ, Option, ◌⊎◌, refl}
use Rattle.std.specs.Coded.{Coded, code_by, coded×, coded⊎, coded_bool, coded_ℕ, coded_ℤ, coded_list, coded_option}
use Rattle.std.proofs.Common.{inl, inr}
use base.Stored.{Gv, gnil, gnum, gcons}
use mathlib.Core.Path.{ap}
use Rattle.rx_elem.specs.Elements.{Element, null, text, host, comp, list, boundary, catcher, provider, Elements, none, more}
use Rattle.rx_elem.specs.declared.attr.Attr.{Attr}
use Rattle.rx_elem.specs.declared.attr.AttrValue.{AttrValue}
use Rattle.rx_elem.specs.declared.attr.AttrValue.TheVariants.{Number, Text}

abbrev pub head : Gv → Gv
head gnil = gnil
head (gnum n) = gnil
head (gcons a b) = a

abbrev pub tail : Gv → Gv
tail gnil = gnil
tail (gnum n) = gnil
tail (gcons a b) = b

-- what lies behind so many parts
abbrev pub third : Gv → Gv
third g = tail (tail g)

abbrev pub fourth : Gv → Gv
fourth g = tail (tail (tail g))

abbrev pub fifth : Gv → Gv
fifth g = tail (tail (tail (tail g)))

abbrev number : Gv → ℕ
number gnil = 0
number (gnum n) = n
number (gcons a b) = 0

abbrev bytes : Coded (List ℕ)
bytes = coded_list coded_ℕ

abbrev integers : Coded (List ℤ)
integers = coded_list coded_ℤ

abbrev keys : Coded (Option ℤ)
keys = coded_option coded_ℤ

abbrev as_sum : AttrValue → ℤ ⊎ List ℕ
as_sum (Number x) = inl x
as_sum (Text t) = inr t

abbrev of_sum : ℤ ⊎ List ℕ → AttrValue
of_sum (inl x) = Number x
of_sum (inr t) = Text t

abbrev back : (v : AttrValue) → of_sum (as_sum v) ≡ v
back (Number x) = refl
back (Text t) = refl

-- the value of an attribute as it is stored
abbrev pub value_code : Coded AttrValue
value_code = code_by (ℤ ⊎ List ℕ) (coded⊎ coded_ℤ bytes) as_sum of_sum back

-- an attribute as it is stored
abbrev pub attr_code : Coded Attr
attr_code = code_by (List ℕ × AttrValue) (coded× bytes value_code) (λ a. (a.name, a.value)) (λ p. record { name = p.0; value = p.1 }) (λ _. refl)

abbrev attributes : Coded (List Attr)
attributes = coded_list attr_code

abbrev mutual
  pub stored : Element → Gv
  stored null = gcons (gnum 0) gnil
  stored (text t) = gcons (gnum 1) (bytes.code t)
  stored (host n k attrs es) = gcons (gnum 2) (gcons (bytes.code n) (gcons (keys.code k) (gcons (attributes.code attrs) (stored_in es))))
  stored (comp c k ps es) = gcons (gnum 3) (gcons (gnum c) (gcons (keys.code k) (gcons (integers.code ps) (stored_in es))))
  stored (list b es) = gcons (gnum 4) (gcons (coded_bool.code b) (stored_in es))
  stored (boundary k f es) = gcons (gnum 5) (gcons (keys.code k) (gcons (stored f) (stored_in es)))
  stored (catcher k f es) = gcons (gnum 7) (gcons (keys.code k) (gcons (stored f) (stored_in es)))
  stored (provider c k x es) = gcons (gnum 6) (gcons (gnum c) (gcons (keys.code k) (gcons (coded_ℤ.code x) (stored_in es))))

  pub stored_in : Elements → Gv
  stored_in none = gnil
  stored_in (more e es) = gcons (stored e) (stored_in es)

mutual
  pub stored_one : (x y : Element) → stored x ≡ stored y → x ≡ y
  stored_one null null p = refl
  stored_one (text s) (text t) p = ap text (bytes.inj s t (ap tail p))
  stored_one (host m k attrs es) (host n l others fs) p =
      λ i. host (bytes.inj m n (ap (λ g. head (tail g)) p) i) (keys.inj k l (ap (λ g. head (third g)) p) i) (attributes.inj attrs others (ap (λ g. head (fourth g)) p) i) (stored_in_one es fs (ap fifth p) i)
  stored_one (comp c k ps es) (comp d l qs fs) p =
      λ i. comp (number (head (tail (p i)))) (keys.inj k l (ap (λ g. head (third g)) p) i) (integers.inj ps qs (ap (λ g. head (fourth g)) p) i) (stored_in_one es fs (ap fifth p) i)
  stored_one (list b es) (list c fs) p = λ i. list (coded_bool.inj b c (ap (λ g. head (tail g)) p) i) (stored_in_one es fs (ap third p) i)
  stored_one (boundary k e es) (boundary l f fs) p =
      λ i. boundary (keys.inj k l (ap (λ g. head (tail g)) p) i) (stored_one e f (ap (λ g. head (third g)) p) i) (stored_in_one es fs (ap fourth p) i)
  stored_one (catcher k e es) (catcher l f fs) p =
      λ i. catcher (keys.inj k l (ap (λ g. head (tail g)) p) i) (stored_one e f (ap (λ g. head (third g)) p) i) (stored_in_one es fs (ap fourth p) i)
  stored_one (provider c k x es) (provider d l y fs) p =
      λ i. provider (number (head (tail (p i)))) (keys.inj k l (ap (λ g. head (third g)) p) i) (coded_ℤ.inj x y (ap (λ g. head (fourth g)) p) i) (stored_in_one es fs (ap fifth p) i)
  stored_one _ _ p = cc

  pub stored_in_one : (x y : Elements) → stored_in x ≡ stored_in y → x ≡ y
  stored_in_one none none p = refl
  stored_in_one (more e es) (more f fs) p = λ i. more (stored_one e f (ap head p) i) (stored_in_one es fs (ap tail p) i)
  stored_in_one _ _ p = cc

-- an element as it is stored, from which it can be read back
abbrev pub element_code : Coded Element
element_code = record { code = stored; inj = stored_one }
