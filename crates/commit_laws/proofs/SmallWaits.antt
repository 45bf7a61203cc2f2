-- Bodies of a program with few resources wait for numbers below the limit.
use Rattle.std.specs.List.{position_or_len}
use Rattle.std.specs.Prelude.{Bool, List, None, Option, Some, [], bytes_eq, cond, false, if◌then◌else◌, length, nat_lt, refl, slice_index_or, true, unwrap_or, ℕ, ℤ, ◌<◌, ◌∷◌, ◌≡◌, ◌≤◌}
use Rattle.std.proofs.Common.{arith, subst}
use Rattle.std.proofs.lemmas.Bool.Decides.{nat_tests}
use Rattle.rx_ast.specs.Syntax.{Component, Program, Statement, body_slots, constant, context, effect, reducer, state, throw_if, transition, use_resource}
use Rattle.rx_base.specs.Arithmetic.{is_zero}
use Rattle.rx_base.specs.Awaits.{resource_limit}
use Rattle.rx_base.specs.Values.{Name}
use Rattle.rx_rules.specs.Names.{resource_number, resources}
use Rattle.rx_meaning.specs.Body.{Frame, Inputs, Taken, and_then, body_of, finished, opening_frame, stopped_at, take_all, take_one, taken, thrown, wait, with_resource, with_throw}
use Rattle.rx_meaning.specs.Expressions.{value_in}
use Rattle.rx_meaning.specs.Again.{WaitsAreSmall}

number_small : (names : List Name) (name : Name) → length names ≤ resource_limit → (k : ℕ) (b : Bool) → nat_lt k (length names) ≡ b
    → unwrap_or (cond b (Some k) None) 0 < resource_limit
number_small names name l k true e = let lt : k < length names = grind (arith, nat_tests) in omega arith
number_small names name l k false e = omega arith

resource_small : (p : Program) → length (resources p) ≤ resource_limit → (name : Name) → resource_number p name < resource_limit
resource_small p l name =
    number_small (resources p) name l (position_or_len (bytes_eq name) (resources p)) (nat_lt (position_or_len (bytes_eq name) (resources p)) (length (resources p))) refl

abbrev IsSmall : Taken → Type 0
IsSmall (stopped_at r v) = r < resource_limit
IsSmall (thrown x) = Unit {0}
IsSmall (taken f) = Unit {0}

one_resource : (name : Name) (r v : ℕ) (x : Option ℤ) (f : Frame) → r < resource_limit → IsSmall (with_resource name r v x f)
one_resource name r v None f l = l
one_resource name r v (Some x) f l = tt

one_throw : (x : ℤ) (f : Frame) → IsSmall (with_throw x f)
one_throw x f = go (is_zero x)
  where
    go : (z : Bool) → IsSmall (if z then taken f else thrown x)
    go true = tt
    go false = tt

one_small : (p : Program) → length (resources p) ≤ resource_limit → (i : Inputs) (s : Statement) (f : Frame) → IsSmall (take_one p i s f)
one_small p l i (state name setter e) f = tt
one_small p l i (reducer name setter function e) f = tt
one_small p l i (transition name starter) f = tt
one_small p l i (context name source) f = tt
one_small p l i (use_resource name resource) f =
    one_resource name (resource_number p resource) (slice_index_or i.versions (resource_number p resource) 0) (slice_index_or i.resources (resource_number p resource) None) f (resource_small p l resource)
one_small p l i (constant name e) f = tt
one_small p l i (effect layout label depends) f = tt
one_small p l i (throw_if e) f = one_throw (value_in p f.env e) f

all_small : (p : Program) → length (resources p) ≤ resource_limit → (i : Inputs) (ss : List Statement) (f : Frame) → IsSmall (take_all p i ss f)
all_small p l i [] f = tt
all_small p l i (s ∷ ss) f = go (take_one p i s f) (one_small p l i s f) (all_small p l i ss)
  where
    go : (t : Taken) → IsSmall t → ((g : Frame) → IsSmall (take_all p i ss g)) → IsSmall (and_then t (take_all p i ss))
    go (stopped_at r v) h k = h
    go (thrown x) h k = tt
    go (taken g) h k = k g

body_small : (p : Program) → length (resources p) ≤ resource_limit → (c : Component) (i : Inputs) (r v : ℕ) → body_of p c i ≡ wait r v → r < resource_limit
unfolding body_of
body_small p l c i r v h = go (take_all p i c.statements (opening_frame c i.props)) (all_small p l i c.statements (opening_frame c i.props)) h
  where
    go : (t : Taken) → IsSmall t → finished p i (body_slots c.body) t ≡ wait r v → r < resource_limit
    go (stopped_at q w) small same = let equal : q ≡ r = cc in subst (λ (n : ℕ). n < resource_limit) equal small
    go (thrown x) small same = absurd (cc same)
    go (taken g) small same = absurd (cc same)

-- If a program has no more resources than the limit, its bodies wait for numbers below it.
pub waits_are_small : (p : Program) → length (resources p) ≤ resource_limit → WaitsAreSmall p
waits_are_small p l c d i r v there h = body_small p l d i r v h
