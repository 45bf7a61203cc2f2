-- What stands in a list, and where the mentions of a declaration stand.
use Rattle.std.proofs.Common.{◌≡◌, ◌⊎◌, inl, inr, List, [], ◌∷◌, ◌++◌, Option, Some, None, refl, sym, subst, ap, ◌∙◌}
use Rattle.std.specs.Prelude.{ℕ, zero, suc, filter_map, slice_get}
use Rattle.std.specs.List.{cons_option}
use Rattle.rx_base.specs.Values.{Name}
use Rattle.rx_ast.specs.Syntax.{Program, Declaration, of_context, of_function, of_component, as_component, as_function, components, functions, Component, Function}
use Rattle.rx_mentions.specs.Mention.{Mention}
use Rattle.rx_mentions.specs.Mentions.{mentions, declarations_mentions, component_mentions, function_mentions}

-- it stands in the list
abbrev pub IsIn : {X : Type 0} → X → List X → Type 0
IsIn x [] = ⊥
IsIn x (y ∷ ys) = (x ≡ y) ⊎ IsIn x ys

pub IsIn-left : {X : Type 0} (x : X) (ys zs : List X) → IsIn x ys → IsIn x (ys ++ zs)
IsIn-left x [] zs h = absurd h
IsIn-left x (y ∷ ys) zs (inl e) = inl e
IsIn-left x (y ∷ ys) zs (inr h) = inr (IsIn-left x ys zs h)

pub IsIn-right : {X : Type 0} (x : X) (ys zs : List X) → IsIn x zs → IsIn x (ys ++ zs)
IsIn-right x [] zs h = h
IsIn-right x (y ∷ ys) zs h = inr (IsIn-right x ys zs h)

-- what comes of something in a list stands in what comes of the list
pub IsIn-filter_map : {X Y : Type 0} (f : X → Option Y) (x : X) (y : Y) (xs : List X) → f x ≡ Some y → IsIn x xs → IsIn y (filter_map f xs)
IsIn-filter_map f x y [] e h = absurd h
IsIn-filter_map f x y (z ∷ zs) e (inl s) = rw (ap f (sym s) ∙ e) (inl refl)
IsIn-filter_map f x y (z ∷ zs) e (inr h) =
    elim (f z) as (λ o. IsIn y (cons_option o (filter_map f zs))) [ None ↦ IsIn-filter_map f x y zs e h | Some w ↦ inr (IsIn-filter_map f x y zs e h) ]

-- the mentions of a component stand among those of the declarations
component-In : (ds : List Declaration) (taken : List Name) (i : ℕ) (c : Component) (m : Mention)
    → slice_get (filter_map as_component ds) i ≡ Some c → IsIn m (component_mentions c) → IsIn m (declarations_mentions taken ds)
component-In [] taken i c m e h = cc
component-In (of_context d ∷ ds) taken i c m e h = inr (component-In ds _ i c m e h)
component-In (of_function d ∷ ds) taken i c m e h = inr (IsIn-right m (function_mentions d) _ (component-In ds _ i c m e h))
component-In (of_component d ∷ ds) taken zero c m e h =
    let same : c ≡ d = cc in inr (IsIn-left m (component_mentions d) _ (let P : Component → Type 0 = λ k. IsIn m (component_mentions k) in subst P same h))
component-In (of_component d ∷ ds) taken (suc i) c m e h = inr (IsIn-right m (component_mentions d) _ (component-In ds _ i c m e h))

-- the mentions of a component stand among those of the program
pub component-mentioned : (p : Program) (i : ℕ) (c : Component) (m : Mention)
    → slice_get (components p) i ≡ Some c → IsIn m (component_mentions c) → IsIn m (mentions p)
unfolding mentions
component-mentioned p i c m e h = component-In p.declarations [] i c m e h

-- the mentions of a function stand among those of the declarations
function-In : (ds : List Declaration) (taken : List Name) (i : ℕ) (f : Function) (m : Mention)
    → slice_get (filter_map as_function ds) i ≡ Some f → IsIn m (function_mentions f) → IsIn m (declarations_mentions taken ds)
function-In [] taken i f m e h = cc
function-In (of_context d ∷ ds) taken i f m e h = inr (function-In ds _ i f m e h)
function-In (of_component d ∷ ds) taken i f m e h = inr (IsIn-right m (component_mentions d) _ (function-In ds _ i f m e h))
function-In (of_function d ∷ ds) taken zero f m e h =
    let same : f ≡ d = cc in inr (IsIn-left m (function_mentions d) _ (let P : Function → Type 0 = λ k. IsIn m (function_mentions k) in subst P same h))
function-In (of_function d ∷ ds) taken (suc i) f m e h = inr (IsIn-right m (function_mentions d) _ (function-In ds _ i f m e h))

-- the mentions of a function stand among those of the program
pub function-mentioned : (p : Program) (i : ℕ) (f : Function) (m : Mention)
    → slice_get (functions p) i ≡ Some f → IsIn m (function_mentions f) → IsIn m (mentions p)
unfolding mentions
function-mentioned p i f m e h = function-In p.declarations [] i f m e h
