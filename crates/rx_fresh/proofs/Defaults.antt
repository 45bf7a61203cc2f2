-- The defaults of the contexts, declaration by declaration.
use Rattle.std.specs.Prelude.{◌≡◌, ℕ, suc, ◌+◌, ◌<◌, List, [], ◌∷◌, ◌++◌, ℤ, Some, None, filter_map, map, length, refl}
use Rattle.std.proofs.Common.{sym, ap, ◌∙◌, append_assoc, add-one, drop, drop-cons, get_or}
use Rattle.rx_ast.specs.Syntax.{Program, Declaration, Context, as_context}
use Rattle.rx_meaning.specs.Fresh.{default_of}

-- what is left from a declaration on
left_from : (ds : List Declaration) (i : ℕ) (d : Declaration) → i < length ds → d ≡ get_or ds i d → drop i ds ≡ d ∷ drop (i + 1) ds
left_from ds i d within is = rw (add-one, drop-cons ds i d) (ap (λ x. x ∷ drop (suc i) ds) (sym is))

-- a context's default comes next
pub default_taken : (p : Program) (vs new all : List ℤ) (ds : List Declaration) (i : ℕ) (d : Declaration) (x : Context) → i < length ds → d ≡ get_or ds i d
    → as_context d ≡ Some x → new ≡ vs ++ default_of p x ∷ [] → vs ++ map (default_of p) (filter_map as_context (drop i ds)) ≡ all
    → new ++ map (default_of p) (filter_map as_context (drop (i + 1) ds)) ≡ all
default_taken p vs new all ds i d x within is some made before =
    let f : filter_map as_context (drop i ds) ≡ x ∷ filter_map as_context (drop (i + 1) ds) = rw (left_from ds i d within is, some) refl in
    rw made (append_assoc vs (default_of p x ∷ []) (map (default_of p) (filter_map as_context (drop (i + 1) ds)))
    ∙ (ap (λ cs. vs ++ map (default_of p) cs) (sym f) ∙ before))

-- what is no context has none
pub default_passed : (p : Program) (vs new all : List ℤ) (ds : List Declaration) (i : ℕ) (d : Declaration) → i < length ds → d ≡ get_or ds i d
    → as_context d ≡ None → new ≡ vs → vs ++ map (default_of p) (filter_map as_context (drop i ds)) ≡ all
    → new ++ map (default_of p) (filter_map as_context (drop (i + 1) ds)) ≡ all
default_passed p vs new all ds i d within is none same before =
    let f : filter_map as_context (drop i ds) ≡ filter_map as_context (drop (i + 1) ds) = rw (left_from ds i d within is, none) refl in
    rw same (ap (λ cs. vs ++ map (default_of p) cs) (sym f) ∙ before)
