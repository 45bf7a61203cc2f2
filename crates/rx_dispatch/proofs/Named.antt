-- The hooks of a component by their names.
use Rattle.std.proofs.Common.{◌≡◌, ℕ, ◌+◌, ◌^◌, ◌<◌, ◌≤◌, Bool, true, false, cond, List, [], ◌∷◌, Option, Some, None, length, map, IfOk, Vec, Global, refl, sym, ap, ◌∙◌, arith}
use Rattle.std.specs.Prelude.{Result, Ok, Err, option_map, option_and_then, unwrap_or, find, bytes_eq, nat_lt}
use Rattle.std.specs.List.{position_from, position_or_len}
use Rattle.std.specs.Option.{option_map_or}
use Rattle.std.proofs.lemmas.Bool.Decides.{nat_tests}
use Rattle.std.proofs.lemmas.Iterator.Adapters.{position_from-zero}
use Rattle.std.proofs.lemmas.Slice.Eq.{bytes_eq-Decides}
use Rattle.std.proofs.lemmas.List.{length-map}
use Rattle.rx_base.specs.Values.{Name}
use Rattle.rx_ast.specs.Syntax.{Component, Program}
use Rattle.rx_rules.specs.Names.{StateHook, component_at, function_number, has_name, hook_in, hook_names, hooks_of, place_among}
use Rattle.rx_names.specs.Listed.{function_names}
use Rattle.rx_check.specs.Accepted.{IsAccepted}
use Rattle.rx_check.specs.Tables.{hook_among, hook_named, kind_of, plain_kind}
use Rattle.rx_check.specs.declared.hook.HookKind.TheVariants as kind
use Rattle.rx_check.proofs.Limited.{few-statements, fewer}
use Rattle.rx_dispatch.specs.Kinds.{function_in, number_in}
use Rattle.rx_model.specs.State.{hook_number, reducer_named}

number_of_kind : (fs : List Name) (n : ℕ) (r : Option Name) (flag : Bool)
    → number_in (option_map_or (λ f. kind.Reducer n (place_among fs f)) r (plain_kind flag n)) ≡ n
number_of_kind fs n None false = refl
number_of_kind fs n None true = refl
number_of_kind fs n (Some f) flag = refl

function_of_kind : (fs : List Name) (n : ℕ) (r : Option Name) (flag : Bool)
    → function_in fs (Some (option_map_or (λ f. kind.Reducer n (place_among fs f)) r (plain_kind flag n))) ≡ place_among fs (unwrap_or r [])
function_of_kind fs n None false = refl
function_of_kind fs n None true = refl
function_of_kind fs n (Some f) flag = refl

-- a hook that is found stands where its name does
among-number : (fs : List Name) (name : Name) (n : ℕ) (hs : List StateHook)
    → option_map number_in (hook_among fs name n hs) ≡ position_from (bytes_eq name) n (map (λ h. h.name) hs)
among-number fs name n [] = refl
among-number fs name n (h ∷ hs) = go (bytes_eq name h.name) (among-number fs name (n + 1) hs)
  where
    go : (b : Bool) → option_map number_in (hook_among fs name (n + 1) hs) ≡ position_from (bytes_eq name) (n + 1) (map (λ h. h.name) hs)
        → option_map number_in (cond b (Some (kind_of fs n h)) (hook_among fs name (n + 1) hs)) ≡ cond b (Some n) (position_from (bytes_eq name) (n + 1) (map (λ h. h.name) hs))
    go true e = ap Some (number_of_kind fs n h.reducer h.flag)
    go false e = e

same_tests : (x y : Name) → bytes_eq x y ≡ bytes_eq y x
same_tests x y = go (bytes_eq x y) refl (bytes_eq y x) refl
  where
    go : (a : Bool) → bytes_eq x y ≡ a → (b : Bool) → bytes_eq y x ≡ b → a ≡ b
    go true e true f = refl
    go false e false f = refl
    go true e false f = absurd (let bad : bytes_eq y x ≡ true = (bytes_eq-Decides y x).1 (sym ((bytes_eq-Decides x y).0 e)) in cc)
    go false e true f = absurd (let bad : bytes_eq x y ≡ true = (bytes_eq-Decides x y).1 (sym ((bytes_eq-Decides y x).0 f)) in cc)

-- the function of a hook that is found is that of the first hook of its name
among-function : (fs : List Name) (name : Name) (n : ℕ) (hs : List StateHook)
    → function_in fs (hook_among fs name n hs) ≡ place_among fs (unwrap_or (option_and_then (λ h. h.reducer) (find (λ h. bytes_eq h.name name) hs)) [])
among-function fs name n [] = refl
among-function fs name n (h ∷ hs) = rw (same_tests h.name name) (go (bytes_eq name h.name) (among-function fs name (n + 1) hs))
  where
    go : (b : Bool)
        → function_in fs (hook_among fs name (n + 1) hs) ≡ place_among fs (unwrap_or (option_and_then (λ h. h.reducer) (find (λ h. bytes_eq h.name name) hs)) [])
        → function_in fs (cond b (Some (kind_of fs n h)) (hook_among fs name (n + 1) hs))
        ≡ place_among fs (unwrap_or (option_and_then (λ h. h.reducer) (cond b (Some h) (find (λ h. bytes_eq h.name name) hs))) [])
    go true e = function_of_kind fs n h.reducer h.flag
    go false e = e

-- the number of a hook of a component
pub number-named : (p : Program) (c : ℕ) (name : Name) → unwrap_or (option_map number_in (hook_named p c name)) 0 ≡ hook_number p c name
number-named p c name = go (component_at p c)
  where
    go : (o : Option Component) → unwrap_or (option_map number_in (option_and_then (λ d. hook_among (function_names p) name 0 (hooks_of d)) o)) 0
        ≡ place_among (option_map_or hook_names o []) name
    go None = refl
    go (Some d) =
        ap (λ o. unwrap_or o 0) (among-number (function_names p) name 0 (hooks_of d) ∙ sym (position_from-zero (bytes_eq name) (hook_names d)))

-- the number of the function of a reducer of a component
pub function-named : (p : Program) (c : ℕ) (name : Name) → function_in (function_names p) (hook_named p c name) ≡ function_number p (reducer_named p c name)
function-named p c name = go (component_at p c)
  where
    go : (o : Option Component) → function_in (function_names p) (option_and_then (λ d. hook_among (function_names p) name 0 (hooks_of d)) o)
        ≡ place_among (function_names p) (unwrap_or (option_and_then (λ h. h.reducer) (find (λ h. bytes_eq h.name name) (option_map_or hooks_of o []))) [])
    go None = refl
    go (Some d) = among-function (function_names p) name 0 (hooks_of d)

-- the place of a name that is there is below their count
pub place-below : (ns : List Name) (x : Name) → has_name ns x ≡ true → place_among ns x < length ns
place-below [] x h = cc
place-below (n ∷ ns) x h = go (nat_lt (position_or_len (bytes_eq x) (n ∷ ns)) (length (n ∷ ns))) refl
  where
    go : (b : Bool) → nat_lt (position_or_len (bytes_eq x) (n ∷ ns)) (length (n ∷ ns)) ≡ b
        → unwrap_or (cond b (Some (position_or_len (bytes_eq x) (n ∷ ns))) None) 0 < length (n ∷ ns)
    go true e = grind (arith, nat_tests, e)
    go false e = omega arith

-- a component has few hooks
pub few-hooks : (p : Program) → IsAccepted p → (i : ℕ) (c : Component) → component_at p i ≡ Some c → length (hook_names c) ≤ 64
few-hooks p a i c is = omega (arith, length-map (hooks_of c) (λ h. h.name), fewer hook_in c.statements, few-statements p a i c is)

-- so do their names, once they are listed
pub few-names : {E : Type 0} (r : Result (Vec Name Global) E) (names : List Name) → IfOk r (λ v. v.items ≡ names) → length names ≤ 64 → IfOk r (λ v. length v.items < 2 ^ 32)
few-names (Ok v) names is few = rw is (omega (arith, few))
few-names (Err e) names is few = tt
