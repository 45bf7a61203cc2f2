-- The values that are kept are those of the stack.
use Rattle.std.proofs.Common.{◌≡◌, ◌≢◌, ℕ, ◌<◌, Bool, true, false, List, [], ◌∷◌, ℤ, pos, length, nat_eq, refl, sym, ap, ◌∙◌, arith, subst, option_map, unwrap_or, find, cond, Some, reverse, ◌++◌}
use Rattle.std.proofs.Math.ListN.{set, get_or, length-set}
use Rattle.std.proofs.lemmas.List.{get_or-set_same, get_or-set_other, set-get_or, set-set, reverse-append, get_or_default}
use Rattle.std.proofs.lemmas.Bool.Decides.{nat_tests}
use Rattle.rx_ctx.specs.declared.stack.HiddenValue.{HiddenValue}
use Rattle.rx_ctx.specs.Contexts.{Stack, value_at, values_at, below}
use Rattle.rx_ctx.specs.Hidden.{given_in, defaults_in, AreContexts, stack_of}

-- the values are those of the stack
pub values_at-stack_of : (values : List ℤ) (others : List Bool) (hs : List HiddenValue) → values_at (stack_of values others hs) ≡ values
values_at-stack_of values others [] = refl
values_at-stack_of values others (h ∷ hs) =
    ap (λ vs. set vs h.context (get_or values h.context (pos 0))) (values_at-stack_of (set values h.context h.value) (set others h.context h.other) hs)
    ∙ set-set values h.context h.value (get_or values h.context (pos 0))
    ∙ set-get_or values h.context (pos 0)

-- what a context is is read from the values
pub value_at-stack_of : (values : List ℤ) (others : List Bool) (hs : List HiddenValue) (c : ℕ) → value_at (stack_of values others hs) c ≡ get_or values c (pos 0)
value_at-stack_of values others [] c = refl
value_at-stack_of values others (h ∷ hs) c = go (nat_eq h.context c) refl (value_at-stack_of (set values h.context h.value) (set others h.context h.other) hs c)
  where
    after : List ℤ
    after = set values h.context h.value

    go : (b : Bool) → nat_eq h.context c ≡ b → value_at (stack_of after (set others h.context h.other) hs) c ≡ get_or after c (pos 0)
        → unwrap_or (option_map (λ (p : ℕ × ℤ). p.1) (cond b (Some (h.context, get_or values h.context (pos 0))) (find (λ p. nat_eq p.0 c) (given_in after hs)))) (get_or (defaults_in after hs) c (pos 0))
        ≡ get_or values c (pos 0)
    go true e rest = let same : h.context ≡ c = grind (arith, nat_tests) in ap (λ i. get_or values i (pos 0)) same
    go false e rest = let other : c ≢ h.context = grind (arith, nat_tests) in rest ∙ get_or-set_other values h.context c h.value (pos 0) other

-- the contexts are among as many values after a write
pub AreContexts-set : (values : List ℤ) (i : ℕ) (x : ℤ) (hs : List HiddenValue) → AreContexts (length values) hs → AreContexts (length (set values i x)) hs
AreContexts-set values i x hs h = subst (λ n. AreContexts n hs) (sym (length-set values i x)) h

-- what one write hides, a second brings back
pub back : {X : Type 0} (xs : List X) (c : ℕ) (x d : X) → set (set xs c x) c (get_or xs c d) ≡ xs
back xs c x d = set-set xs c x (get_or xs c d) ∙ set-get_or xs c d

-- a provider's value hides the one before
pub stack_of-set : (values : List ℤ) (others : List Bool) (c : ℕ) (x : ℤ) (b : Bool) (hs : List HiddenValue) → c < length values → c < length others
    → stack_of (set values c x) (set others c b) (record { context = c; value = get_or values c (pos 0); other = get_or others c false } ∷ hs) ≡ below c x b (stack_of values others hs)
stack_of-set values others c x b hs h k =
    rw (back values c x (pos 0), get_or-set_same values c x (pos 0) h, back others c b false, get_or-set_same others c b false k) refl

-- a context of the stack is one of the values
pub in_range : (values : List ℤ) (others : List Bool) (hs : List HiddenValue) (s : Stack) (c : ℕ) → stack_of values others hs ≡ s → c < length (values_at s) → c < length values
in_range values others hs s c e h =
    subst (λ (vs : List ℤ). c < length vs) (values_at-stack_of values others hs) (subst (λ (t : Stack). c < length (values_at t)) (sym e) h)

-- what is read is what the context is
pub read-value_at : (values : List ℤ) (others : List Bool) (hs : List HiddenValue) (s : Stack) (c : ℕ) (x : ℤ) → stack_of values others hs ≡ s → c < length values → x ≡ get_or values c x → x ≡ value_at s c
read-value_at values others hs s c x e h r =
    r ∙ get_or_default values c x (pos 0) h ∙ sym (value_at-stack_of values others hs c) ∙ ap (λ (t : Stack). value_at t c) e

-- the values are those of the stack
pub all-values_at : (values : List ℤ) (others : List Bool) (hs : List HiddenValue) (s : Stack) → stack_of values others hs ≡ s → values ≡ values_at s
all-values_at values others hs s e = sym (values_at-stack_of values others hs) ∙ ap values_at e

-- what one more provider hides stands first
pub reverse-pushed : (hs items : List HiddenValue) (h : HiddenValue) → items ≡ hs ++ h ∷ [] → reverse items ≡ h ∷ reverse hs
reverse-pushed hs items h e = ap reverse e ∙ reverse-append hs (h ∷ [])

pub stack_of-pushed : (values : List ℤ) (others : List Bool) (hs items : List HiddenValue) (s : Stack) (c : ℕ) (x old : ℤ) (b was : Bool) → c < length values → c < length others
    → old ≡ get_or values c old → was ≡ get_or others c was → items ≡ hs ++ record { context = c; value = old; other = was } ∷ [] → stack_of values others (reverse hs) ≡ s
    → stack_of (set values c x) (set others c b) (reverse items) ≡ below c x b s
stack_of-pushed values others hs items s c x old b was lt lt_too r q e v =
    ap (stack_of (set values c x) (set others c b)) (reverse-pushed hs items (record { context = c; value = old; other = was }) e)
    ∙ ap (λ (y : ℤ). stack_of (set values c x) (set others c b) (record { context = c; value = y; other = was } ∷ reverse hs)) (r ∙ get_or_default values c old (pos 0) lt)
    ∙ ap (λ (y : Bool). stack_of (set values c x) (set others c b) (record { context = c; value = get_or values c (pos 0); other = y } ∷ reverse hs)) (q ∙ get_or_default others c was false lt_too)
    ∙ stack_of-set values others c x b (reverse hs) lt lt_too
    ∙ ap (below c x b) v
