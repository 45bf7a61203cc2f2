-- The values of an instance's hooks one by one, and a report that grows by lines.
use Rattle.std.proofs.Common.{◌≡◌, ℕ, suc, ◌+◌, ◌<◌, ◌≤◌, min, Bool, true, false, nat_lt, not, List, [], ◌∷◌, ◌++◌, ℤ, Option, Some, length, get_or, take, map, refl, sym, ap, ◌∙◌, arith}
use Rattle.std.specs.Prelude.{Result, Ok, Err, OnOk, slice_get}
use Rattle.std.specs.List.{enumerate_from, zip}
use Rattle.std.proofs.lemmas.List.{length-map, map-append, take_more, take_all}
use Rattle.std.proofs.lemmas.Bool.Decides.{nat_tests}
use Rattle.std.proofs.lemmas.Option.{get_or_from_slice_get, slice_get_within, slice_get-get_or}
use Rattle.rx_base.specs.Values.{Name}
use Rattle.rx_ast.specs.Syntax.{Program}
use Rattle.rx_elem.specs.Spots.{Mounted}
use Rattle.rx_queue.specs.Journal.{Journal}
use Rattle.rx_hooks.specs.declared.hook.Hook.{Hook}
use Rattle.rx_lines.specs.Lines.{HookValue, Line, Written, state_of, with_line}
use Rattle.rx_model.specs.State.{State, committed_values, hooks_at, hooks_shown, name_of, state_line}
use Rattle.rx_mounts.specs.Shown.{KeepsOne, KeepsThese}
use Rattle.rx_writing.specs.Written.{with_lines}
use Rattle.rx_writing.proofs.Behind.{with_lines-append, with_lines-one}

length-enumerate : {A : Type 0} (n : ℕ) (xs : List A) → length (enumerate_from n xs) ≡ length xs
length-enumerate n [] = refl
length-enumerate n (x ∷ xs) = ap suc (length-enumerate (n + 1) xs)

-- an instance has a committed value for each of its values at mount
pub length-committed : (p : Program) (j : Journal) (m : Mounted) → length (committed_values p j m) ≡ length m.initials
length-committed p j m = length-map (enumerate_from 0 m.initials) _ ∙ length-enumerate 0 m.initials

-- one more of a list
pub next-value : {A : Type 0} (xs : List A) (k : ℕ) (x : A) (before after : List A) → slice_get xs k ≡ Some x → before ≡ take k xs → after ≡ before ++ x ∷ []
    → after ≡ take (k + 1) xs
next-value xs k x before after is so_far more =
    more ∙ ap (λ ys. ys ++ x ∷ []) so_far
    ∙ sym (take_more xs k x (slice_get_within xs k x is) ∙ ap (λ y. take k xs ++ y ∷ []) (get_or_from_slice_get xs k x x is))

-- so many of a list, or all
pub take-least : {A : Type 0} (xs : List A) (k n : ℕ) → k ≡ min (length xs) n → take k xs ≡ take n xs
take-least xs k n is = go (nat_lt n (length xs)) refl
  where
    go : (b : Bool) → nat_lt n (length xs) ≡ b → take k xs ≡ take n xs
    go true e = let same : k ≡ n = grind (arith, nat_tests, e, is) in ap (λ i. take i xs) same
    go false e =
        let past : length xs ≤ n = grind (arith, nat_tests, e) in
        take_all k xs (omega (arith, is, past)) ∙ sym (take_all n xs past)

-- what is paired needs no more than there is to pair with
pub zip-take : {A B : Type 0} (xs : List A) (ys : List B) → zip xs (take (length xs) ys) ≡ zip xs ys
zip-take [] ys = refl
zip-take (x ∷ xs) [] = refl
zip-take (x ∷ xs) (y ∷ ys) = ap (λ zs. (x, y) ∷ zs) (zip-take xs ys)

-- the lines of one instance more
pub one-line : (r before after : Written) (first : Line) (line : Mounted → Line) (ms : List Mounted) (k : ℕ) (m : Mounted) → k < length ms → m ≡ get_or ms k m
    → before ≡ with_lines r (first ∷ map line (take k ms)) → after ≡ with_line before (line m) → after ≡ with_lines r (first ∷ map line (take (k + 1) ms))
one-line r before after first line ms k m h e so_far now =
    now ∙ ap (λ w. with_line w (line m)) so_far
    ∙ sym (with_lines-one (with_lines r (first ∷ map line (take k ms))) (line m))
    ∙ sym (with_lines-append r (first ∷ map line (take k ms)) (line m ∷ []))
    ∙ ap (λ ls. with_lines r (first ∷ ls)) (sym (map-append line (take k ms) (m ∷ [])) ∙ ap (map line) (ap (λ y. take k ms ++ y ∷ []) e ∙ sym (take_more ms k m h)))

-- the lines of all
pub all-lines : (r after : Written) (first : Line) (line : Mounted → Line) (ms : List Mounted) (k : ℕ) → length ms ≤ k
    → after ≡ with_lines r (first ∷ map line (take k ms)) → after ≡ with_lines r (first ∷ map line ms)
all-lines r after first line ms k h so_far = so_far ∙ ap (λ ys. with_lines r (first ∷ map line ys)) (take_all k ms h)

-- a state that has these instances has each of them
pub one-of : (p : Program) (s : State) (kept : ℕ → Option (List Hook)) (all : List Mounted) → KeepsThese p s kept all
    → (k : ℕ) (m : Mounted) → k < length all → m ≡ get_or all k m → KeepsOne p s kept m
one-of p s kept all keeps k m h e = record {
  place = k;
  is_there = ap (λ ms. slice_get ms k) (sym keeps.are) ∙ (slice_get-get_or all k m h ∙ ap (λ x. Some x) (sym e));
  keeps = keeps.keeps;
}

abbrev shown : Name × ℤ → HookValue
shown x = record { name = x.0; value = x.1 }

-- the line of an instance, once it is written
pub written-line : {A E : Type 0} (call : Result A E) (p : Program) (kept : ℕ → Option (List Hook)) (m : Mounted) (r after : Written)
    (number : ℕ) (name : Name) (names : List Name) (values : List ℤ) (hidden : Bool)
    → number ≡ m.number → name ≡ name_of p m.component → names ≡ hooks_at p m.component → hidden ≡ not m.visible
    → ((s : State) → KeepsOne p s kept m → values ≡ take (length names) (committed_values p s.journal m))
    → OnOk call (after ≡ with_line r (state_of number name (map (λ x. record { name = x.0; value = x.1 }) (zip names values)) hidden))
    → OnOk call ((s : State) → KeepsOne p s kept m → after ≡ with_line r (state_line p s.journal m))
written-line (Err e) p kept m r after number name names values hidden is_number is_name are hides values_are h = tt
written-line (Ok x) p kept m r after number name names values hidden is_number is_name are hides values_are h = λ s k.
    let pairs : zip names values ≡ zip (hooks_at p m.component) (committed_values p s.journal m) =
    ap (zip names) (values_are s k) ∙ zip-take names (committed_values p s.journal m) ∙ ap (λ ns. zip ns (committed_values p s.journal m)) are in
    h ∙ ap (λ n. with_line r (state_of n name (map shown (zip names values)) hidden)) is_number
    ∙ ap (λ n. with_line r (state_of m.number n (map shown (zip names values)) hidden)) is_name
    ∙ ap (λ zs. with_line r (state_of m.number (name_of p m.component) (map shown zs) hidden)) pairs
    ∙ ap (λ b. with_line r (state_of m.number (name_of p m.component) (hooks_shown p s.journal m) b)) hides
