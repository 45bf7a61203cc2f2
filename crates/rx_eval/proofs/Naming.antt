-- What a name names, by its number.
use Rattle.std.specs.Prelude.{◌≡◌, ℕ, suc, ◌+◌, ◌≤◌, Bool, true, false, not, cond, nat_lt, List, [], ◌∷◌, Some, None, Contains, find, length, map, bytes_eq, position, slice_get, refl}
use Rattle.std.specs.List.{prefix_len}
use Rattle.std.proofs.Common.{sym, ◌∙◌, ap, arith}
use Rattle.std.proofs.lemmas.Bool.Decides.{nat_tests}
use Rattle.std.proofs.lemmas.List.{length-map}
use Rattle.std.proofs.lemmas.Option.{slice_get_past, slice_get_within, get_or_from_slice_get}
use Rattle.std.proofs.lemmas.Slice.Eq.{bytes_eq-Decides}
use Rattle.rx_base.specs.Values.{Name}
use Rattle.rx_ast.specs.Syntax.{Program, Function, functions}
use Rattle.rx_rules.specs.Names.{function_named}

same_turned : (x y : Name) (b c : Bool) → bytes_eq x y ≡ b → bytes_eq y x ≡ c → b ≡ c
same_turned x y true true e f = refl
same_turned x y false false e f = refl
same_turned x y true false e f =
    let back : bytes_eq y x ≡ true = (bytes_eq-Decides y x).1 (sym ((bytes_eq-Decides x y).0 e)) in absurd (cc)
same_turned x y false true e f =
    let back : bytes_eq x y ≡ true = (bytes_eq-Decides x y).1 (sym ((bytes_eq-Decides y x).0 f)) in absurd (cc)

-- a name is the same as another if that is the same as it
pub bytes_eq-turned : (x y : Name) → bytes_eq x y ≡ bytes_eq y x
bytes_eq-turned x y = same_turned x y (bytes_eq x y) (bytes_eq y x) refl refl

-- the number of functions before the first of a name
abbrev before : Name → List Function → ℕ
before name fs = prefix_len (λ n. not (bytes_eq name n)) (map (λ f. f.name) fs)

got_behind : (f : Function) (fs : List Function) (n : ℕ) → slice_get (f ∷ fs) (1 + n) ≡ slice_get fs n
got_behind f fs n = let e : 1 + n ≡ suc n = omega arith in rw e refl

found : (name : Name) (fs : List Function) → find (λ f. bytes_eq f.name name) fs ≡ slice_get fs (before name fs)
found name [] = refl
found name (f ∷ fs) = go (found name fs) (bytes_eq name f.name) refl
  where
    go : find (λ g. bytes_eq g.name name) fs ≡ slice_get fs (before name fs) → (b : Bool) → bytes_eq name f.name ≡ b → find (λ g. bytes_eq g.name name) (f ∷ fs) ≡ slice_get (f ∷ fs) (cond (not b) (1 + before name fs) 0)
    go rest true e = rw (bytes_eq-turned f.name name, e) refl
    go rest false e = rw (bytes_eq-turned f.name name, e) (rest ∙ sym (got_behind f fs (before name fs)))

-- the first function of a name is that of the first number of the name
pub named_at : (p : Program) (name : Name) (n : ℕ) → position (bytes_eq name) (map (λ f. f.name) (functions p)) ≡ Some n → function_named p name ≡ slice_get (functions p) n
named_at p name n e = go (nat_lt k (length names)) e
  where
    names : List Name
    names = map (λ f. f.name) (functions p)

    k : ℕ
    k = before name (functions p)

    go : (b : Bool) → cond b (Some k) None ≡ Some n → function_named p name ≡ slice_get (functions p) n
    go true e = let same : k ≡ n = cc in found name (functions p) ∙ ap (slice_get (functions p)) same
    go false e = absurd (cc)

-- a name without a number has no function
pub named_nowhere : (p : Program) (name : Name) → position (bytes_eq name) (map (λ f. f.name) (functions p)) ≡ None → function_named p name ≡ None
named_nowhere p name e = go (nat_lt k (length names)) refl e
  where
    names : List Name
    names = map (λ f. f.name) (functions p)

    k : ℕ
    k = before name (functions p)

    go : (b : Bool) → nat_lt k (length names) ≡ b → cond b (Some k) None ≡ None → function_named p name ≡ None
    go true t e = absurd (cc)
    go false t e =
        let past : length names ≤ k = grind (arith, nat_tests) in
        let same : length names ≡ length (functions p) = length-map (functions p) (λ (f : Function). f.name) in
        found name (functions p) ∙ slice_get_past (functions p) k (omega arith)

-- a function that a name names is one of the program's
pub named-contained : (p : Program) (name : Name) (f : Function) → function_named p name ≡ Some f → Contains (functions p) f
named-contained p name f e =
    let fs = functions p in
    let here : slice_get fs (before name fs) ≡ Some f = sym (found name fs) ∙ e in
    (before name fs, slice_get_within fs (before name fs) f here, get_or_from_slice_get fs (before name fs) f f here)
