-- Which contexts have another value at a place, and how many.
use Rattle.std.proofs.Common.{◌≡◌, ◌≢◌, ℕ, zero, suc, ◌+◌, ◌<◌, ◌≤◌, Bool, true, false, not, ◌&&◌, ◌||◌, if◌then◌else◌, List, [], ◌∷◌, ℤ, length, nat_eq, refl, sym, ap, ◌∙◌, arith, subst, reverse, ◌++◌, cond, replicate}
use Rattle.std.proofs.Math.ListN.{set, get_or, length-set}
use Rattle.std.proofs.lemmas.List.{get_or-set_other, get_or_default, length-replicate}
use Rattle.std.proofs.lemmas.Bool.Decides.{nat_tests}
use Rattle.rx_ctx.specs.declared.stack.HiddenValue.{HiddenValue}
use Rattle.rx_ctx.specs.Contexts.{is_among, moved_by, moved_in, none_moved, all_but}
use Rattle.rx_ctx.specs.Hidden.{AreContexts, IsKept, NoneOther, count_true, moves_in}
use Rattle.rx_ctx.proofs.Stacks.{back, reverse-pushed}

-- How many hold

-- if one of them is written
pub true_set : (bs : List Bool) (i : ℕ) (b : Bool) → i < length bs → count_true (set bs i b) + (if get_or bs i false then 1 else 0) ≡ count_true bs + (if b then 1 else 0)
true_set [] i b h = omega (arith, h)
true_set (a ∷ bs) zero b h = by_both a b
  where
    by_both : (a b : Bool) → (if b then suc (count_true bs) else count_true bs) + (if a then 1 else 0) ≡ (if a then suc (count_true bs) else count_true bs) + (if b then 1 else 0)
    by_both true true = omega arith
    by_both true false = omega arith
    by_both false true = omega arith
    by_both false false = omega arith
true_set (a ∷ bs) (suc i) b h = by_first a (true_set bs i b (omega (arith, h)))
  where
    by_first : (a : Bool) → count_true (set bs i b) + (if get_or bs i false then 1 else 0) ≡ count_true bs + (if b then 1 else 0)
        → (if a then suc (count_true (set bs i b)) else count_true (set bs i b)) + (if get_or bs i false then 1 else 0) ≡ (if a then suc (count_true bs) else count_true bs) + (if b then 1 else 0)
    by_first true e = omega (arith, e)
    by_first false e = e

pub true_most : (bs : List Bool) → count_true bs ≤ length bs
true_most [] = omega arith
true_most (true ∷ bs) = omega (arith, true_most bs)
true_most (false ∷ bs) = omega (arith, true_most bs)

pub true_one : (bs : List Bool) (i : ℕ) → get_or bs i false ≡ true → 0 < count_true bs
true_one [] i h = absurd (let q : ⊥ = cc in q)
true_one (true ∷ bs) i h = omega arith
true_one (false ∷ bs) zero h = absurd (let q : ⊥ = cc in q)
true_one (false ∷ bs) (suc i) h = true_one bs i h

none_true : (bs : List Bool) → count_true bs ≡ 0 → (i : ℕ) → get_or bs i false ≡ false
none_true [] h i = refl
none_true (true ∷ bs) h i = absurd (omega (arith, h))
none_true (false ∷ bs) h zero = refl
none_true (false ∷ bs) h (suc i) = none_true bs h i

some_true : (bs : List Bool) → 0 < count_true bs → (i : ℕ) × (get_or bs i false ≡ true)
some_true [] h = absurd (omega (arith, h))
some_true (true ∷ bs) h = (zero, refl)
some_true (false ∷ bs) h = let (i, f) = some_true bs h in (suc i, f)

-- Contexts with other values

same_nat : (c : ℕ) → nat_eq c c ≡ true
same_nat c = grind (arith, nat_tests)

among_without : (c d : ℕ) (ms : List ℕ) → is_among c (all_but d ms) ≡ (not (nat_eq d c) && is_among c ms)
among_without c d [] = by_same (nat_eq d c)
  where
    by_same : (b : Bool) → false ≡ (not b && false)
    by_same true = refl
    by_same false = refl
among_without c d (e ∷ ms) = go (nat_eq e d) refl (nat_eq e c) refl (among_without c d ms)
  where
    go : (a : Bool) → nat_eq e d ≡ a → (b : Bool) → nat_eq e c ≡ b → is_among c (all_but d ms) ≡ (not (nat_eq d c) && is_among c ms)
        → is_among c (cond a (all_but d ms) (e ∷ all_but d ms)) ≡ (not (nat_eq d c) && (b || is_among c ms))
    go true f true g rest = let same : nat_eq d c ≡ true = grind (arith, nat_tests) in rest ∙ rw same refl
    go true f false g rest = rest
    go false f true g rest = let other : nat_eq d c ≡ false = grind (arith, nat_tests) in rw (g, other) refl
    go false f false g rest = rw g rest

-- what a provider makes of whether a context is one
pub among_by : (c d : ℕ) (b : Bool) (ms : List ℕ) → is_among c (moved_by d b ms) ≡ (if nat_eq d c then b else is_among c ms)
among_by c d b ms = go b (nat_eq d c) refl (among_without c d ms)
  where
    go : (b same : Bool) → nat_eq d c ≡ same → is_among c (all_but d ms) ≡ (not (nat_eq d c) && is_among c ms) → is_among c (moved_by d b ms) ≡ (if same then b else is_among c ms)
    go true true f rest = rw f refl
    go true false f rest = rw f (rest ∙ rw f refl)
    go false true f rest = rest ∙ rw f refl
    go false false f rest = rest ∙ rw f refl

-- The contexts that are known to have another value are those of the stack.
pub among_moved : (others : List Bool) (hs : List HiddenValue) → NoneOther others hs → (c : ℕ) → is_among c (moved_in (moves_in others hs)) ≡ get_or others c false
among_moved others [] none c = sym (none c)
among_moved others (h ∷ hs) none c =
    among_by c h.context (get_or others h.context false) (moved_in (moves_in (set others h.context h.other) hs))
    ∙ go (nat_eq h.context c) refl (among_moved (set others h.context h.other) hs none c)
  where
    go : (b : Bool) → nat_eq h.context c ≡ b → is_among c (moved_in (moves_in (set others h.context h.other) hs)) ≡ get_or (set others h.context h.other) c false
        → (if b then get_or others h.context false else is_among c (moved_in (moves_in (set others h.context h.other) hs))) ≡ get_or others c false
    go true e rest = let same : h.context ≡ c = grind (arith, nat_tests) in ap (λ i. get_or others i false) same
    go false e rest = let other : c ≢ h.context = grind (arith, nat_tests) in rest ∙ get_or-set_other others h.context c h.other false other

-- none is one if none is among them
nothing_among : (ms : List ℕ) → ((c : ℕ) → is_among c ms ≡ false) → none_moved ms ≡ true
nothing_among [] none = refl
nothing_among (c ∷ ms) none = absurd (let e : true ≡ false = sym (ap (λ b. b || is_among c ms) (same_nat c)) ∙ none c in let q : ⊥ = cc in q)

something_among : (ms : List ℕ) (c : ℕ) → is_among c ms ≡ true → none_moved ms ≡ false
something_among [] c h = absurd (let q : ⊥ = cc in q)
something_among (d ∷ ms) c h = refl

-- So they are none if they are counted to be none.
pub counts_moved : (others : List Bool) (hs : List HiddenValue) (count : ℕ) → NoneOther others hs → count ≡ count_true others → nat_eq count 0 ≡ none_moved (moved_in (moves_in others hs))
counts_moved others hs zero none counted = sym (nothing_among (moved_in (moves_in others hs)) (λ c. among_moved others hs none c ∙ none_true others (sym counted) c))
counts_moved others hs (suc n) none counted =
    let (i, f) = some_true others (omega (arith, counted)) in
    let some : nat_eq (suc n) 0 ≡ false = grind (arith, nat_tests) in
    some ∙ sym (something_among (moved_in (moves_in others hs)) i (among_moved others hs none i ∙ f))

-- one, if it holds
abbrev one_if : Bool → ℕ
one_if b = if b then 1 else 0

-- What is kept

fewer : (n m : ℕ) (hs : List HiddenValue) → n ≡ m → AreContexts n hs → AreContexts m hs
fewer n m hs e h = subst (λ k. AreContexts k hs) e h

pub kept_pushed : (values : List ℤ) (others : List Bool) (hs items : List HiddenValue) (count counted c : ℕ) (x old : ℤ) (b was : Bool) → c < length values
    → IsKept values others count (reverse hs) → was ≡ get_or others c was → items ≡ hs ++ record { context = c; value = old; other = was } ∷ []
    → counted + (if was then 1 else 0) ≡ count + (if b then 1 else 0) → IsKept (set values c x) (set others c b) counted (reverse items)
kept_pushed values others hs items count counted c x old b was lt kept q e counts =
    subst (IsKept (set values c x) (set others c b) counted) (sym (reverse-pushed hs items (record { context = c; value = old; other = was }) e))
    (record {
      contexts = fewer (length values) (length (set values c x)) (record { context = c; value = old; other = was } ∷ reverse hs) (sym (length-set values c x)) (lt, kept.contexts);
      each = length-set others c b ∙ (kept.each ∙ sym (length-set values c x));
      none = subst (λ l. NoneOther l (reverse hs)) (sym returned) kept.none;
      counted = omega (arith, counts, kept.counted, known, true_set others c b lt_too);
    })
  where
    lt_too : c < length others
    lt_too = omega (arith, lt, kept.each)

    is : was ≡ get_or others c false
    is = q ∙ get_or_default others c was false lt_too

    known : one_if was ≡ one_if (get_or others c false)
    known = ap one_if is

    returned : set (set others c b) c was ≡ others
    returned = ap (λ a. set (set others c b) c a) is ∙ back others c b false

pub kept_popped : (values : List ℤ) (others : List Bool) (hs items : List HiddenValue) (h : HiddenValue) (count counted : ℕ) (was : Bool)
    → IsKept values others count (reverse items) → items ≡ hs ++ h ∷ [] → was ≡ get_or others h.context was
    → counted + (if was then 1 else 0) ≡ count + (if h.other then 1 else 0) → IsKept (set values h.context h.value) (set others h.context h.other) counted (reverse hs)
kept_popped values others hs items h count counted was kept e q counts = record {
  contexts = fewer (length values) (length (set values h.context h.value)) (reverse hs) (sym (length-set values h.context h.value)) all.contexts.1;
  each = length-set others h.context h.other ∙ (all.each ∙ sym (length-set values h.context h.value));
  none = all.none;
  counted = omega (arith, counts, all.counted, known, true_set others h.context h.other lt);
}
  where
    all : IsKept values others count (h ∷ reverse hs)
    all = subst (IsKept values others count) (reverse-pushed hs items h e) kept

    lt : h.context < length others
    lt = omega (arith, all.contexts.0, all.each)

    known : one_if was ≡ one_if (get_or others h.context false)
    known = ap one_if (q ∙ get_or_default others h.context was false lt)

-- the context of what is hidden last is among them
pub popped_range : (values : List ℤ) (others : List Bool) (hs items : List HiddenValue) (h : HiddenValue) (count : ℕ) → IsKept values others count (reverse items) → items ≡ hs ++ h ∷ [] → h.context < length others
popped_range values others hs items h count kept e =
    let all : IsKept values others count (h ∷ reverse hs) = subst (IsKept values others count) (reverse-pushed hs items h e) kept in
    omega (arith, all.contexts.0, all.each)

-- they are as many as values
pub kept_range : (values : List ℤ) (others : List Bool) (count : ℕ) (hs : List HiddenValue) (c : ℕ) → IsKept values others count hs → c < length values → c < length others
kept_range values others count hs c kept lt = omega (arith, lt, kept.each)

-- how many there may be
pub kept_few : (values : List ℤ) (others : List Bool) (count : ℕ) (hs : List HiddenValue) → IsKept values others count hs → count ≤ length others
kept_few values others count hs kept = omega (arith, kept.counted, true_most others)

pub kept_one : (values : List ℤ) (others : List Bool) (count : ℕ) (hs : List HiddenValue) (c : ℕ) (was : Bool) → IsKept values others count hs → c < length others → was ≡ get_or others c was → was ≡ true → 0 < count
kept_one values others count hs c was kept lt q so = omega (arith, kept.counted, true_one others c (sym (q ∙ get_or_default others c was false lt) ∙ so))

-- At first no context has another value.
all_false : (n c : ℕ) → get_or (replicate n false) c false ≡ false
all_false zero c = refl
all_false (suc n) zero = refl
all_false (suc n) (suc c) = all_false n c

none_counted : (n : ℕ) → count_true (replicate n false) ≡ 0
none_counted zero = refl
none_counted (suc n) = none_counted n

pub kept_first : (values : List ℤ) (others : List Bool) (hs : List HiddenValue) (n : ℕ) → n ≡ length values → others ≡ replicate n false → hs ≡ [] → IsKept values others 0 (reverse hs)
kept_first values others hs n many are none =
    rw (are, none)
    (record {
      contexts = tt;
      each = length-replicate n false ∙ many;
      none = all_false n;
      counted = sym (none_counted n);
    })
