-- What is within its limits in a program that is accepted.
use Rattle.std.proofs.Common.{◌≡◌, ◌≤◌, ◌⊎◌, inl, inr, Bool, true, false, List, [], ◌∷◌, Option, Some, None, refl, arith, length}
use Rattle.std.proofs.lemmas.List.{length-map}
use Rattle.std.specs.List.{cons_option}
use Rattle.std.specs.Prelude.{ℕ, suc, nat_lt, find, filter_map, slice_get}
use Rattle.rx_ast.specs.Syntax.{Program, Component, Function, as_component, as_function, as_context, components, functions}
use Rattle.rx_rules.specs.Names.{component_names, resources}
use Rattle.rx_names.specs.Listed.{function_names, context_names}
use Rattle.rx_check.specs.Checks.{measure_in}
use Rattle.rx_check.specs.Accepted.{IsAccepted}
use Rattle.rx_mentions.specs.declared.count.Count.TheVariants as count
use Rattle.rx_mentions.specs.Mention as mention
use Rattle.rx_check.proofs.Accepting.{not-over}
use Rattle.rx_mentions.proofs.Among.{IsIn, IsIn-filter_map, component-mentioned, function-mentioned}

-- a number in a list of which none is over a limit is within it
pub within-find : (limit n : ℕ) (ns : List ℕ) → find (nat_lt limit) ns ≡ None → IsIn n ns → n ≤ limit
within-find limit n [] e h = absurd h
within-find limit n (m ∷ ms) e h = go (λ f. within-find limit n ms f) (nat_lt limit m) refl h
  where
    go : (find (nat_lt limit) ms ≡ None → IsIn n ms → n ≤ limit) → (b : Bool) → nat_lt limit m ≡ b → (n ≡ m) ⊎ IsIn n ms → n ≤ limit
    go later true t i = let bad : Some m ≡ None = (rw t at e) in cc
    go later false t (inl s) = grind (arith, t, s)
    go later false t (inr i) = later (rw t at e) i

pub fewer : {X Y : Type 0} (f : X → Option Y) (xs : List X) → length (filter_map f xs) ≤ length xs
fewer f [] = omega arith
fewer f (x ∷ xs) = elim (f x) as (λ o. length (cons_option o (filter_map f xs)) ≤ suc (length xs)) [ None ↦ omega (arith, fewer f xs) | Some w ↦ omega (arith, fewer f xs) ]

few-declarations : (p : Program) → IsAccepted p → length p.declarations ≤ 256
few-declarations p a = not-over 256 (length p.declarations) (a.within_counts count.Declarations)

pub few-components : (p : Program) → IsAccepted p → length (components p) ≤ 256
few-components p a = omega (arith, few-declarations p a, fewer as_component p.declarations)

pub few-functions : (p : Program) → IsAccepted p → length (functions p) ≤ 256
few-functions p a = omega (arith, few-declarations p a, fewer as_function p.declarations)

pub few-component_names : (p : Program) → IsAccepted p → length (component_names p) ≤ 256
few-component_names p a = rw length-map (few-components p a)

pub few-function_names : (p : Program) → IsAccepted p → length (function_names p) ≤ 256
few-function_names p a = rw length-map (few-functions p a)

pub few-context_names : (p : Program) → IsAccepted p → length (context_names p) ≤ 256
few-context_names p a = rw length-map (omega (arith, few-declarations p a, fewer as_context p.declarations))

pub few-resources : (p : Program) → IsAccepted p → length (resources p) ≤ 64
few-resources p a = not-over 64 (length (resources p)) (a.within_counts count.Resources)

-- a component has few statements
pub few-statements : (p : Program) → IsAccepted p → (i : ℕ) (c : Component) → slice_get (components p) i ≡ Some c → length c.statements ≤ 64
few-statements p a i c e =
    within-find 64 (length c.statements) _ (a.within_counts count.Statements)
    (IsIn-filter_map (measure_in count.Statements) (mention.Counted count.Statements (length c.statements)) _ _ refl (component-mentioned p i c _ e (inr (inl refl))))

-- a function has few parameters
pub few-parameters : (p : Program) → IsAccepted p → (i : ℕ) (f : Function) → slice_get (functions p) i ≡ Some f → length f.parameters ≤ 16
few-parameters p a i f e =
    within-find 16 (length f.parameters) _ (a.within_counts count.Parameters)
    (IsIn-filter_map (measure_in count.Parameters) (mention.Counted count.Parameters (length f.parameters)) _ _ refl (function-mentioned p i f _ e (inl refl)))
