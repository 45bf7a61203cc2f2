-- How the logic stores nodes.
use Rattle.std.specs.Prelude.{◌≡◌, ℕ, Bool, List, ℤ, Option, Some, None, ◌⊎◌, refl}
use Rattle.std.specs.Coded.{Coded, code_by, coded×, coded⊎, coded_ℕ, coded_ℤ, coded_bool, coded_list, coded_option}
use Rattle.std.proofs.Common.{inl, inr}
use base.Stored.{Gv, gnil, gcons}
use mathlib.Core.Path.{ap}
use Rattle.rx_base.specs.Awaits.{Awaits}
use Rattle.rx_susp.specs.declared.boundary.BoundaryState.{BoundaryState}
use Rattle.rx_susp.specs.declared.boundary.BoundaryState.TheVariants.{Shown, Hidden}
use Rattle.rx_catch.specs.declared.state.CatchState.{CatchState}
use Rattle.rx_catch.specs.declared.state.CatchState.TheVariants.{Fine, Caught}
use Rattle.rx_elem.specs.ElementCode.{element_code, head, tail, third}
use Rattle.rx_elem.specs.Trees.{Instance, Mark, of_instance, of_host, of_boundary, of_catcher, plain, Node, node, Forest, none, vacant, child}
use Rattle.rx_elem.specs.declared.effect.EffectRecord.{EffectRecord}
use Rattle.rx_elem.specs.declared.effect.ContextRead.{ContextRead}
use Rattle.rx_elem.specs.declared.effect.VersionRead.{VersionRead}

abbrev numbers : Coded (List ℕ)
numbers = coded_list coded_ℕ

abbrev integers : Coded (List ℤ)
integers = coded_list coded_ℤ

abbrev read_code : Coded ContextRead
read_code = code_by (ℕ × ℤ) (coded× coded_ℕ coded_ℤ) (λ r. (r.context, r.value)) (λ p. record { context = p.0; value = p.1 }) (λ _. refl)

abbrev version_code : Coded VersionRead
version_code = code_by (ℕ × ℕ) (coded× coded_ℕ coded_ℕ) (λ r. (r.resource, r.version)) (λ p. record { resource = p.0; version = p.1 }) (λ _. refl)

abbrev effect_code : Coded EffectRecord
effect_code =
    code_by (Bool × (List ℕ × List ℤ)) (coded× coded_bool (coded× numbers integers)) (λ e. (e.layout, (e.label, e.values)))
    (λ p. record { layout = p.0; label = p.1.0; values = p.1.1 }) (λ _. refl)

abbrev InstanceParts : Type 0
InstanceParts = Option ℕ × (ℕ × (List ℤ × (List ContextRead × (List VersionRead × List EffectRecord))))

abbrev instance_code : Coded Instance
instance_code =
    code_by InstanceParts (coded× (coded_option coded_ℕ) (coded× coded_ℕ (coded× integers (coded× (coded_list read_code) (coded× (coded_list version_code) (coded_list effect_code))))))
    (λ i. (i.number, (i.component, (i.initials, (i.reads, (i.versions, i.effects))))))
    (λ p. record { number = p.0; component = p.1.0; initials = p.1.1.0; reads = p.1.1.1.0; versions = p.1.1.1.1.0; effects = p.1.1.1.1.1 }) (λ _. refl)

abbrev of_state : BoundaryState → Option Awaits
of_state Shown = None
of_state (Hidden a) = Some a

abbrev to_state : Option Awaits → BoundaryState
to_state None = Shown
to_state (Some a) = Hidden a

abbrev state_back : (b : BoundaryState) → to_state (of_state b) ≡ b
state_back Shown = refl
state_back (Hidden a) = refl

abbrev state_code : Coded BoundaryState
state_code = code_by (Option Awaits) (coded_option numbers) of_state to_state state_back

abbrev of_catch : CatchState → Option ℤ
of_catch Fine = None
of_catch (Caught x) = Some x

abbrev to_catch : Option ℤ → CatchState
to_catch None = Fine
to_catch (Some x) = Caught x

abbrev catch_back : (c : CatchState) → to_catch (of_catch c) ≡ c
catch_back Fine = refl
catch_back (Caught x) = refl

abbrev catch_code : Coded CatchState
catch_code = code_by (Option ℤ) (coded_option coded_ℤ) of_catch to_catch catch_back

abbrev MarkParts : Type 0
MarkParts = (Instance ⊎ Option ℕ) ⊎ (CatchState ⊎ Option BoundaryState)

abbrev of_mark : Mark → MarkParts
of_mark (of_instance i) = inl (inl i)
of_mark (of_host n) = inl (inr n)
of_mark (of_boundary b) = inr (inr (Some b))
of_mark (of_catcher c) = inr (inl c)
of_mark plain = inr (inr None)

abbrev to_mark : MarkParts → Mark
to_mark (inl (inl i)) = of_instance i
to_mark (inl (inr n)) = of_host n
to_mark (inr (inl c)) = of_catcher c
to_mark (inr (inr (Some b))) = of_boundary b
to_mark (inr (inr None)) = plain

abbrev mark_back : (m : Mark) → to_mark (of_mark m) ≡ m
mark_back (of_instance i) = refl
mark_back (of_host n) = refl
mark_back (of_boundary b) = refl
mark_back (of_catcher c) = refl
mark_back plain = refl

-- what a node has beside its element and its children, as it is stored
abbrev pub mark_code : Coded Mark
mark_code = code_by MarkParts (coded⊎ (coded⊎ instance_code (coded_option coded_ℕ)) (coded⊎ catch_code (coded_option state_code))) of_mark to_mark mark_back

abbrev mutual
  pub stored : Node → Gv
  stored (node e m ns fs) = gcons (element_code.code e) (gcons (mark_code.code m) (gcons (stored_in ns) (stored_in fs)))

  pub stored_in : Forest → Gv
  stored_in none = gnil
  stored_in (vacant ns) = gcons gnil (stored_in ns)
  stored_in (child n ns) = gcons (stored n) (stored_in ns)

mutual
  pub stored_one : (x y : Node) → stored x ≡ stored y → x ≡ y
  stored_one (node e m ns fs) (node f k ms gs) p =
      λ i. node (element_code.inj e f (ap head p) i) (mark_code.inj m k (ap (λ g. head (tail g)) p) i) (stored_in_one ns ms (ap (λ g. head (third g)) p) i) (stored_in_one fs gs (ap (λ g. tail (third g)) p) i)

  pub stored_in_one : (x y : Forest) → stored_in x ≡ stored_in y → x ≡ y
  stored_in_one none none p = refl
  stored_in_one (vacant ns) (vacant ms) p = ap vacant (stored_in_one ns ms (ap tail p))
  stored_in_one (child n ns) (child m ms) p = λ i. child (stored_one n m (ap head p) i) (stored_in_one ns ms (ap tail p) i)
  stored_in_one (vacant ns) (child (node e m ks fs) ms) p = cc
  stored_in_one (child (node e m ks fs) ns) (vacant ms) p = cc
  stored_in_one _ _ p = cc

-- a node as it is stored, from which it can be read back
abbrev pub node_code : Coded Node
node_code = record { code = stored; inj = stored_one }
