-- A path, part by part.
use Rattle.std.proofs.Common.{◌≡◌, ℕ, suc, ◌+◌, ◌<◌, ◌≤◌, Bool, true, false, List, [], ◌∷◌, Option, Some, None, length, get_or, drop, drop-cons, add-one, refl, sym, ap, ◌∙◌}
use Rattle.std.specs.Prelude.{filter, option_and_then, slice_get}
use Rattle.std.proofs.lemmas.List.{drop_all}
use Rattle.rx_base.specs.Values.{Name}
use Rattle.rx_ast.specs.Syntax.{Program}
use Rattle.rx_step.specs.Steps.{Path}
use Rattle.rx_elem.specs.Spots.{Mounted}
use Rattle.rx_model.specs.State.{find_from, step_to}

-- what is left of a list from an element on
left_from : {A : Type 0} (xs : List A) (i : ℕ) (x : A) → i < length xs → x ≡ get_or xs i x → drop i xs ≡ x ∷ drop (i + 1) xs
left_from xs i x within is = rw (add-one, drop-cons xs i x) (ap (λ y. y ∷ drop (suc i) xs) (sym is))

-- an element that passes comes next
passes : {A : Type 0} (f : A → Bool) (xs : List A) (i : ℕ) (x : A) → i < length xs → x ≡ get_or xs i x → f x ≡ true → filter f (drop i xs) ≡ x ∷ filter f (drop (i + 1) xs)
passes f xs i x within is true_is = rw (left_from xs i x within is, true_is) refl

-- and another is passed over
pub passed : {A : Type 0} (f : A → Bool) (xs : List A) (i n : ℕ) (x : A) (o : Option A) → i < length xs → x ≡ get_or xs i x → f x ≡ false
    → slice_get (filter f (drop i xs)) n ≡ o → slice_get (filter f (drop (i + 1) xs)) n ≡ o
passed f xs i n x o within is false_is before =
    let same : filter f (drop i xs) ≡ filter f (drop (i + 1) xs) = rw (left_from xs i x within is, false_is) refl in
    ap (λ ys. slice_get ys n) (sym same) ∙ before

-- the one that is looked for
pub found_here : {A : Type 0} (f : A → Bool) (xs : List A) (i n : ℕ) (x : A) (o : Option A) → i < length xs → x ≡ get_or xs i x → f x ≡ true → n ≡ 0
    → slice_get (filter f (drop i xs)) n ≡ o → Some x ≡ o
found_here f xs i n x o within is true_is zero_is before =
    sym (ap (λ ys. slice_get ys 0) (passes f xs i x within is true_is)) ∙ ap (slice_get (filter f (drop i xs))) (sym zero_is) ∙ before

-- one less is left to come
pub counted : {A : Type 0} (f : A → Bool) (xs : List A) (i n m : ℕ) (x : A) (o : Option A) → i < length xs → x ≡ get_or xs i x → f x ≡ true → n ≡ suc m
    → slice_get (filter f (drop i xs)) n ≡ o → slice_get (filter f (drop (i + 1) xs)) m ≡ o
counted f xs i n m x o within is true_is more before =
    sym (ap (λ ys. slice_get ys (suc m)) (passes f xs i x within is true_is)) ∙ ap (slice_get (filter f (drop i xs))) (sym more) ∙ before

-- none is left
pub none_left : {A : Type 0} (f : A → Bool) (xs : List A) (i n : ℕ) (o : Option A) → length xs ≤ i → slice_get (filter f (drop i xs)) n ≡ o → None ≡ o
none_left f xs i n o past before = sym (ap (λ ys. slice_get (filter f ys) n) (drop_all i xs past)) ∙ before

-- the instance that further parts lead to, from one on
abbrev pub led_from : Program → List Mounted → Mounted → Path → Option Mounted
led_from p all m [] = Some m
led_from p all m (part ∷ parts) = option_and_then (λ n. led_from p all n parts) (step_to p all (Some m.number) part)

-- a path leads where its first part and then the others lead
led_by : (p : Program) (all : List Mounted) (owner : Option ℕ) (part : Name × ℕ) (parts : Path)
    → find_from p all owner (part ∷ parts) ≡ option_and_then (λ m. led_from p all m parts) (step_to p all owner part)
led_by p all owner part [] = go (step_to p all owner part)
  where
    go : (o : Option Mounted) → o ≡ option_and_then (λ m. Some m) o
    go None = refl
    go (Some m) = refl
led_by p all owner part (q ∷ parts) = go (λ m. led_by p all (Some m.number) q parts) (step_to p all owner part)
  where
    go : ((m : Mounted) → find_from p all (Some m.number) (q ∷ parts) ≡ led_from p all m (q ∷ parts)) → (o : Option Mounted)
        → option_and_then (λ m. find_from p all (Some m.number) (q ∷ parts)) o ≡ option_and_then (λ m. led_from p all m (q ∷ parts)) o
    go later None = refl
    go later (Some m) = later m

-- no part leads nowhere
pub no_part : (p : Program) (all : List Mounted) (path : Path) → path ≡ [] → None ≡ find_from p all None path
no_part p all path is = rw is refl

-- the first part of a path
pub first_led : (p : Program) (all : List Mounted) (path rest : Path) (part : Name × ℕ) (m : Mounted) → path ≡ part ∷ rest → Some m ≡ step_to p all None part
    → led_from p all m (drop 0 rest) ≡ find_from p all None path
first_led p all path rest part m is at =
    ap (option_and_then (λ n. led_from p all n rest)) at ∙ sym (led_by p all None part rest) ∙ ap (find_from p all None) (sym is)

pub first_nowhere : (p : Program) (all : List Mounted) (path rest : Path) (part : Name × ℕ) → path ≡ part ∷ rest → None ≡ step_to p all None part → None ≡ find_from p all None path
first_nowhere p all path rest part is at =
    ap (option_and_then (λ n. led_from p all n rest)) at ∙ sym (led_by p all None part rest) ∙ ap (find_from p all None) (sym is)

-- a further part of a path
pub next_led : (p : Program) (all : List Mounted) (rest : Path) (i : ℕ) (part : Name × ℕ) (m n : Mounted) (o : Option Mounted) → i < length rest → part ≡ get_or rest i part
    → Some n ≡ step_to p all (Some m.number) part → led_from p all m (drop i rest) ≡ o → led_from p all n (drop (i + 1) rest) ≡ o
next_led p all rest i part m n o within is at before =
    ap (option_and_then (λ x. led_from p all x (drop (i + 1) rest))) at ∙ sym (ap (led_from p all m) (left_from rest i part within is)) ∙ before

pub next_nowhere : (p : Program) (all : List Mounted) (rest : Path) (i : ℕ) (part : Name × ℕ) (m : Mounted) (o : Option Mounted) → i < length rest → part ≡ get_or rest i part
    → None ≡ step_to p all (Some m.number) part → led_from p all m (drop i rest) ≡ o → None ≡ o
next_nowhere p all rest i part m o within is at before =
    ap (option_and_then (λ x. led_from p all x (drop (i + 1) rest))) at ∙ sym (ap (led_from p all m) (left_from rest i part within is)) ∙ before

-- behind the last part
pub all_led : (p : Program) (all : List Mounted) (rest : Path) (i : ℕ) (m : Mounted) (o : Option Mounted) → length rest ≤ i → led_from p all m (drop i rest) ≡ o → Some m ≡ o
all_led p all rest i m o past before = sym (ap (led_from p all m) (drop_all i rest past)) ∙ before
