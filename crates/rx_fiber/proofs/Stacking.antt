-- The stack of contexts at the beginning and at the end of an open node.
use Rattle.std.specs.Prelude.{◌≡◌, ℕ, ℤ, Bool, List, [], ◌∷◌, Some, None, slice_set}
use Rattle.std.proofs.Common.{refl, sym, ap, ◌∙◌, subst}
use Rattle.rx_ctx.specs.Contexts.{Stack, values_at}
use Rattle.rx_ctx.specs.Contexts as contexts
use Rattle.rx_meaning.specs.Fresh.{Contexts}
use Rattle.rx_meaning.specs.Cursor.{Open, Frame}
use Rattle.rx_fiber.specs.Stood.{one_more}
use Rattle.rx_fiber.specs.Surround.{given_by, given_along}
use Rattle.rx_fiber.specs.Standing.{IsStack, bottom, same, gives, opened}

-- an open node that gives nothing leaves the stack as it is
pub kept : (st : Stack) (x : Open) (cs : Contexts) (xs : List (Open × Contexts)) → given_by x ≡ None → IsStack st ((x, cs) ∷ xs) → IsStack st xs
kept st x cs xs none (same g v rest) = rest
kept _ x cs xs none (gives g v rest) = absurd (let h : ⊥ = cc in h)

below_one : (s t : Stack) (p q : ℕ × ℤ) (a b : Bool) → contexts.below p.0 p.1 a s ≡ contexts.below q.0 q.1 b t → s ≡ t
below_one s t p q a b e =
    let d : s.defaults ≡ t.defaults = ap (λ x. x.defaults) e in
    let f : (p ∷ s.given) ≡ (q ∷ t.given) = ap (λ x. x.given) e in
    let g : s.given ≡ t.given = cc in
    let m : ((p.0, a) ∷ s.moves) ≡ ((q.0, b) ∷ t.moves) = ap (λ x. x.moves) e in
    let n : s.moves ≡ t.moves = cc in
    λ i. record { defaults = d i; given = g i; moves = n i }

-- a provider leaves the stack without what it gave
pub popped : (st new : Stack) (x : Open) (cs : Contexts) (xs : List (Open × Contexts)) (c d : ℕ) (y z : ℤ) (a : Bool)
    → given_by x ≡ Some (c, y) → IsStack st ((x, cs) ∷ xs) → st ≡ contexts.below d z a new → IsStack new xs
popped st new x cs xs c d y z a given (same g v rest) e = absurd (let h : ⊥ = cc in h)
popped _ new x cs xs c d y z a given (gives {st = old} g v rest) e = subst (λ s. IsStack s xs) (below_one old new _ _ _ _ e) rest

-- so something is on the stack there
pub provided : (st : Stack) (x : Open) (cs : Contexts) (xs : List (Open × Contexts)) (c : ℕ) (y : ℤ)
    → given_by x ≡ Some (c, y) → IsStack st ((x, cs) ∷ xs) → st.given ≡ [] → ⊥
provided st x cs xs c y given (same g v rest) e = cc
provided _ x cs xs c y given (gives g v rest) e = cc

-- a provider opens
pub pushed : (st : Stack) (x : Open) (xs : List (Open × Contexts)) (c : ℕ) (y : ℤ) (a : Bool)
    → given_by x ≡ Some (c, y) → IsStack st xs → IsStack (contexts.below c y a st) ((x, slice_set (values_at st) c y) ∷ xs)
pushed st x xs c y a given stack = gives given refl stack

-- any other node opens
pub unchanged : (st : Stack) (x : Open) (xs : List (Open × Contexts)) → given_by x ≡ None → IsStack st xs → IsStack st ((x, values_at st) ∷ xs)
unchanged st x xs given stack = same given refl stack

-- the stack has what the open nodes give
pub stack_given : (st : Stack) (fs : List Frame) → IsStack st (opened fs) → st.given ≡ given_along fs
stack_given st [] (bottom none) = none
stack_given st (f ∷ fs) (same g v rest) = stack_given st fs rest ∙ ap (λ o. one_more o (given_along fs)) (sym g)
stack_given _ (f ∷ fs) (gives {st = st} {c = c} {x = x} g v rest) = ap (λ l. (c, x) ∷ l) (stack_given st fs rest) ∙ ap (λ o. one_more o (given_along fs)) (sym g)
