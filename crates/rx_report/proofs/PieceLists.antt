-- Pieces of text, one for each item of a list, written one after another.
use Rattle.std.proofs.Common.{◌≡◌, ℕ, ◌+◌, ◌*◌, ◌<◌, ◌≤◌, List, [], ◌∷◌, ◌++◌, ℤ, length, drop, get_or, refl, sym, ap, ◌∙◌, arith, append_assoc, append-nil}
use Rattle.std.specs.Prelude.{map, flat_map, replicate}
use Rattle.std.specs.List.{zip}
use Rattle.std.proofs.lemmas.List.{drop_more, drop_all, replicate-append-replicate}
use Rattle.rx_base.specs.Values.{Text, Name}
use Rattle.rx_lines.specs.Lines.{hook_text}

-- what is written by now is these pieces up to those that are left
pub record Writes {A : Type 0} (piece : A → Text) (log old : Text) (all left : List A) : Type 0 where
  pub so_far : log ++ flat_map piece left ≡ old ++ flat_map piece all

pub writes-begin : {A : Type 0} (piece : A → Text) (old : Text) (all : List A) → Writes piece old old all all
writes-begin piece old all = record { so_far = refl }

pub writes-next : {A : Type 0} (piece : A → Text) (all : List A) (i : ℕ) (d : A) (log old new : Text) → i < length all → Writes piece log old all (drop i all)
    → new ≡ log ++ piece (get_or all i d) → Writes piece new old all (drop (i + 1) all)
writes-next {A} piece all i d log old new h before is =
    record {
      so_far =
          ap (λ (t : Text). t ++ flat_map piece (drop (i + 1) all)) is ∙ append_assoc log (piece (get_or all i d)) (flat_map piece (drop (i + 1) all))
          ∙ ap (λ (left : List A). log ++ flat_map piece left) (sym (drop_more all i d h)) ∙ before.so_far;
    }

pub writes-end : {A : Type 0} (piece : A → Text) (all : List A) (i : ℕ) (log old : Text) → length all ≤ i → Writes piece log old all (drop i all)
    → log ≡ old ++ flat_map piece all
writes-end {A} piece all i log old h before =
    sym (append-nil log) ∙ ap (λ (left : List A). log ++ flat_map piece left) (sym (drop_all i all h)) ∙ before.so_far

-- the hooks with these names and values
abbrev pub hooks_text : List Name → List ℤ → Text
hooks_text names values = flat_map hook_text (map (λ x. record { name = x.0; value = x.1 }) (zip names values))

zip-none : (names : List Name) → hooks_text names [] ≡ []
zip-none [] = refl
zip-none (n ∷ ns) = refl

-- a hook is written
pub hooks-next : (names : List Name) (values : List ℤ) (i : ℕ) (n : Name) (x : ℤ) (log new whole : Text) → i < length names → i < length values
    → new ≡ log ++ hook_text (record { name = get_or names i n; value = get_or values i x }) → log ++ hooks_text (drop i names) (drop i values) ≡ whole
    → new ++ hooks_text (drop (i + 1) names) (drop (i + 1) values) ≡ whole
hooks-next names values i n x log new whole h k is before =
    let hook : Text = hook_text (record { name = get_or names i n; value = get_or values i x }) in
    let rest : Text = hooks_text (drop (i + 1) names) (drop (i + 1) values) in
    let here : hooks_text (drop i names) (drop i values) ≡ hook ++ rest = rw (drop_more names i n h, drop_more values i x k) refl in
    ap (λ (t : Text). t ++ rest) is ∙ append_assoc log hook rest ∙ ap (λ (t : Text). log ++ t) (sym here) ∙ before

-- a name behind the last value
pub hooks-past : (names : List Name) (values : List ℤ) (i : ℕ) (log whole : Text) → length values ≤ i
    → log ++ hooks_text (drop i names) (drop i values) ≡ whole → log ++ hooks_text (drop (i + 1) names) (drop (i + 1) values) ≡ whole
hooks-past names values i log whole past before =
    let here : drop i values ≡ [] = drop_all i values past in
    let next : drop (i + 1) values ≡ [] = drop_all (i + 1) values (omega arith) in
    let now : hooks_text (drop i names) (drop i values) ≡ [] = ap (λ (vs : List ℤ). hooks_text (drop i names) vs) here ∙ zip-none (drop i names) in
    let then : hooks_text (drop (i + 1) names) (drop (i + 1) values) ≡ [] = ap (λ (vs : List ℤ). hooks_text (drop (i + 1) names) vs) next ∙ zip-none (drop (i + 1) names) in
    ap (λ (t : Text). log ++ t) (then ∙ sym now) ∙ before

-- no name is left
pub hooks-end : (names : List Name) (values : List ℤ) (i : ℕ) (log whole : Text) → length names ≤ i
    → log ++ hooks_text (drop i names) (drop i values) ≡ whole → log ≡ whole
hooks-end names values i log whole past before =
    sym (append-nil log) ∙ ap (λ (ns : List Name). log ++ hooks_text ns (drop i values)) (sym (drop_all i names past)) ∙ before

-- one level more
pub level-next : (i : ℕ) (log old new : Text) → new ≡ log ++ 32 ∷ 32 ∷ [] → log ≡ old ++ replicate (2 * i) 32 → new ≡ old ++ replicate (2 * (i + 1)) 32
level-next i log old new is before =
    let twice : 2 * i + 2 ≡ 2 * (i + 1) = omega arith in
    let more : replicate (2 * i) 32 ++ replicate 2 32 ≡ replicate (2 * i + 2) 32 = replicate-append-replicate (2 * i) 2 32 in
    is ∙ ap (λ (t : Text). t ++ 32 ∷ 32 ∷ []) before ∙ append_assoc old (replicate (2 * i) 32) (32 ∷ 32 ∷ [])
    ∙ ap (λ (t : Text). old ++ t) (more ∙ ap (λ (n : ℕ). replicate n 32) twice)

-- no level yet
pub level-begin : (old : Text) → old ≡ old ++ replicate (2 * 0) 32
level-begin old = sym (append-nil old)
