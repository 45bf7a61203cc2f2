-- The trees of a list up to the last that is there.
use Rattle.std.proofs.Common.{◌≡◌, ℕ, zero, suc, ◌+◌, ◌<◌, ◌≤◌, List, [], ◌∷◌, ◌++◌, Option, Some, None, length, get_or, drop, replicate, refl, sym, ap, ◌∙◌, add-one}
use Rattle.std.proofs.lemmas.List.{drop_all}
use Rattle.rx_elem.specs.Elements.{Element}
use Rattle.rx_elem.specs.Trees.{Forest, Mark, Node, child, children_of, element_of, fallback_of, forest, mark_of, node, none, vacant}
use Rattle.end_laws.specs.Trimmed.{trimmed, trimmed_in, vacant_before}
use Rattle.rx_numbers.proofs.Fronts.{in_front, in_front-none, in_front-push, left_from}

-- so many vacant places before others, but none if no place follows
abbrev pub vacants : ℕ → Forest → Forest
vacants zero f = f
vacants (suc k) f = vacant_before (vacants k f)

vacants-inside : (k : ℕ) (f : Forest) → vacants k (vacant_before f) ≡ vacants (suc k) f
vacants-inside zero f = refl
vacants-inside (suc k) f = ap vacant_before (vacants-inside k f)

-- before a tree they stay
vacants-stay : (k : ℕ) (n : Node) (f : Forest) → vacants k (child n f) ≡ in_front (replicate k None) (child n f)
vacants-stay zero n f = refl
vacants-stay (suc zero) n f = refl
vacants-stay (suc (suc k)) n f = let inside = vacants-stay (suc k) n f in ap vacant_before inside

vacants-none : (k : ℕ) → vacants k none ≡ none
vacants-none zero = refl
vacants-none (suc k) = ap vacant_before (vacants-none k)

in_front-append : (xs ys : List (Option Node)) (f : Forest) → in_front (xs ++ ys) f ≡ in_front xs (in_front ys f)
in_front-append [] ys f = refl
in_front-append (None ∷ xs) ys f = ap vacant (in_front-append xs ys f)
in_front-append (Some n ∷ xs) ys f = ap (child n) (in_front-append xs ys f)

-- one vacant place more
pub one_vacant : (ns done : List (Option Node)) (i k : ℕ) (x : Option Node) (whole : Forest) → i < length ns → x ≡ get_or ns i x → x ≡ None
    → in_front done (vacants k (trimmed_in (forest (drop i ns)))) ≡ whole → in_front done (vacants (k + 1) (trimmed_in (forest (drop (i + 1) ns)))) ≡ whole
one_vacant ns done i k x whole within at is so_far =
    let rest = forest (drop (i + 1) ns) in
    let left : forest (drop i ns) ≡ vacant rest = left_from ns i x within at ∙ ap (λ y. in_front (y ∷ []) rest) is in
    ap (λ j. in_front done (vacants j (trimmed_in rest))) (add-one k)
    ∙ ap (in_front done) (sym (vacants-inside k (trimmed_in rest)) ∙ sym (ap (λ f. vacants k (trimmed_in f)) left)) ∙ so_far

-- a tree, behind the vacant places before it
pub one_trimmed : (ns done filled more : List (Option Node)) (i k : ℕ) (x : Option Node) (n m : Node) (whole : Forest) → i < length ns → x ≡ get_or ns i x → x ≡ Some n → m ≡ trimmed n
    → filled ≡ done ++ replicate k None → more ≡ filled ++ Some m ∷ []
    → in_front done (vacants k (trimmed_in (forest (drop i ns)))) ≡ whole → in_front more (vacants 0 (trimmed_in (forest (drop (i + 1) ns)))) ≡ whole
one_trimmed ns done filled more i k x n m whole within at is made are pushed so_far =
    let rest = forest (drop (i + 1) ns) in
    let left : forest (drop i ns) ≡ child n rest = left_from ns i x within at ∙ ap (λ y. in_front (y ∷ []) rest) is in
    ap (λ zs. in_front zs (trimmed_in rest)) pushed ∙ in_front-push filled (Some m) (trimmed_in rest)
    ∙ ap (λ zs. in_front zs (child m (trimmed_in rest))) are ∙ in_front-append done (replicate k None) (child m (trimmed_in rest))
    ∙ ap (λ y. in_front done (in_front (replicate k None) (child y (trimmed_in rest)))) made
    ∙ ap (in_front done) (sym (vacants-stay k (trimmed n) (trimmed_in rest)) ∙ sym (ap (λ f. vacants k (trimmed_in f)) left)) ∙ so_far

-- at the end of the list those that are left go
pub all_trimmed : (ns done : List (Option Node)) (i k : ℕ) (whole : Forest) → length ns ≤ i → in_front done (vacants k (trimmed_in (forest (drop i ns)))) ≡ whole → forest done ≡ whole
all_trimmed ns done i k whole past so_far =
    sym (in_front-none done) ∙ ap (in_front done) (sym (vacants-none k)) ∙ sym (ap (λ zs. in_front done (vacants k (trimmed_in (forest zs)))) (drop_all i ns past)) ∙ so_far

-- a node with its lists trimmed
pub whole_trimmed : (n : Node) (e : Element) (m : Mark) (kids falls ns fs : Forest) → e ≡ element_of n → m ≡ mark_of n → kids ≡ children_of n → ns ≡ trimmed_in kids → falls ≡ fallback_of n
    → fs ≡ trimmed_in falls → node e m ns fs ≡ trimmed n
whole_trimmed (node e m ns fs) e' m' kids falls xs ys is_e is_m are_kids is_xs are_falls is_ys =
    let xs_are : xs ≡ trimmed_in ns = is_xs ∙ ap trimmed_in are_kids in
    let ys_are : ys ≡ trimmed_in fs = is_ys ∙ ap trimmed_in are_falls in
    λ i. node (is_e i) (is_m i) (xs_are i) (ys_are i)
