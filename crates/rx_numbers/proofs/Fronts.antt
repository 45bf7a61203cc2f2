-- The trees of a list that are done, in front of those that are left.
use Rattle.std.proofs.Common.{◌≡◌, ℕ, zero, suc, ◌+◌, ◌<◌, ◌≤◌, List, [], ◌∷◌, ◌++◌, Option, Some, None, length, get_or, drop, drop-cons, add-one, refl, sym, ap, ◌∙◌, arith}
use Rattle.std.proofs.lemmas.List.{drop_all}
use Rattle.rx_elem.specs.Numbers.{Numbers, numbered, numbered_in}
use Rattle.rx_elem.specs.Trees.{Forest, Node, child, forest, height, height_in, none, vacant}

-- some places in front of others
abbrev pub in_front : List (Option Node) → Forest → Forest
in_front [] f = f
in_front (None ∷ ns) f = vacant (in_front ns f)
in_front (Some n ∷ ns) f = child n (in_front ns f)

pub in_front-push : (ns : List (Option Node)) (x : Option Node) (f : Forest) → in_front (ns ++ x ∷ []) f ≡ in_front ns (in_front (x ∷ []) f)
in_front-push [] x f = refl
in_front-push (None ∷ ns) x f = ap vacant (in_front-push ns x f)
in_front-push (Some n ∷ ns) x f = ap (child n) (in_front-push ns x f)

pub in_front-none : (ns : List (Option Node)) → in_front ns none ≡ forest ns
in_front-none [] = refl
in_front-none (None ∷ ns) = ap vacant (in_front-none ns)
in_front-none (Some n ∷ ns) = ap (child n) (in_front-none ns)

-- what is left of a list from a place on
pub left_from : (ns : List (Option Node)) (i : ℕ) (x : Option Node) → i < length ns → x ≡ get_or ns i x → forest (drop i ns) ≡ in_front (x ∷ []) (forest (drop (i + 1) ns))
left_from ns i x within is =
    let left : drop i ns ≡ x ∷ drop (i + 1) ns = rw (add-one, drop-cons ns i x within) (ap (λ y. y ∷ drop (suc i) ns) (sym is)) in
    ap forest left ∙ go x
  where
    go : (y : Option Node) → forest (y ∷ drop (i + 1) ns) ≡ in_front (y ∷ []) (forest (drop (i + 1) ns))
    go None = refl
    go (Some n) = refl

-- a tree is numbered
pub one_numbered : (next after : Numbers) (ns done more : List (Option Node)) (i : ℕ) (x : Option Node) (n m : Node) (whole : Forest) → i < length ns → x ≡ get_or ns i x → x ≡ Some n
    → m ≡ (numbered next n).1 → after ≡ (numbered next n).0 → more ≡ done ++ Some m ∷ []
    → in_front done (numbered_in next (forest (drop i ns))).1 ≡ whole → in_front more (numbered_in after (forest (drop (i + 1) ns))).1 ≡ whole
one_numbered next after ns done more i x n m whole within at is made now pushed so_far =
    let rest = forest (drop (i + 1) ns) in
    let left : forest (drop i ns) ≡ child n rest = left_from ns i x within at ∙ ap (λ y. in_front (y ∷ []) rest) is in
    ap (λ zs. in_front zs (numbered_in after rest).1) pushed ∙ in_front-push done (Some m) (numbered_in after rest).1
    ∙ ap (in_front done) ((λ j. child (made j) (numbered_in (now j) rest).1) ∙ sym (ap (λ f. (numbered_in next f).1) left)) ∙ so_far

pub one_counted : (next after : Numbers) (ns : List (Option Node)) (i : ℕ) (x : Option Node) (n : Node) (end : Numbers) → i < length ns → x ≡ get_or ns i x → x ≡ Some n
    → after ≡ (numbered next n).0 → (numbered_in next (forest (drop i ns))).0 ≡ end → (numbered_in after (forest (drop (i + 1) ns))).0 ≡ end
one_counted next after ns i x n end within at is now so_far =
    let rest = forest (drop (i + 1) ns) in
    let left : forest (drop i ns) ≡ child n rest = left_from ns i x within at ∙ ap (λ y. in_front (y ∷ []) rest) is in
    ap (λ (p : Numbers). (numbered_in p rest).0) now ∙ sym (ap (λ f. (numbered_in next f).0) left) ∙ so_far

-- a vacant place has nothing to number
pub none_numbered : (next : Numbers) (ns done more : List (Option Node)) (i : ℕ) (x : Option Node) (whole : Forest) → i < length ns → x ≡ get_or ns i x → x ≡ None → more ≡ done ++ None ∷ []
    → in_front done (numbered_in next (forest (drop i ns))).1 ≡ whole → in_front more (numbered_in next (forest (drop (i + 1) ns))).1 ≡ whole
none_numbered next ns done more i x whole within at is pushed so_far =
    let rest = forest (drop (i + 1) ns) in
    let left : forest (drop i ns) ≡ vacant rest = left_from ns i x within at ∙ ap (λ y. in_front (y ∷ []) rest) is in
    ap (λ zs. in_front zs (numbered_in next rest).1) pushed ∙ in_front-push done None (numbered_in next rest).1
    ∙ ap (in_front done) (sym (ap (λ f. (numbered_in next f).1) left)) ∙ so_far

pub none_counted : (next : Numbers) (ns : List (Option Node)) (i : ℕ) (x : Option Node) (end : Numbers) → i < length ns → x ≡ get_or ns i x → x ≡ None
    → (numbered_in next (forest (drop i ns))).0 ≡ end → (numbered_in next (forest (drop (i + 1) ns))).0 ≡ end
none_counted next ns i x end within at is so_far =
    let rest = forest (drop (i + 1) ns) in
    let left : forest (drop i ns) ≡ vacant rest = left_from ns i x within at ∙ ap (λ y. in_front (y ∷ []) rest) is in
    sym (ap (λ f. (numbered_in next f).0) left) ∙ so_far

-- at the end of the list all are done
pub all_numbered : (next : Numbers) (ns done : List (Option Node)) (i : ℕ) (whole : Forest) → length ns ≤ i → in_front done (numbered_in next (forest (drop i ns))).1 ≡ whole → forest done ≡ whole
all_numbered next ns done i whole past so_far =
    sym (in_front-none done) ∙ sym (ap (λ zs. in_front done (numbered_in next (forest zs)).1) (drop_all i ns past)) ∙ so_far

pub all_counted : (next : Numbers) (ns : List (Option Node)) (i : ℕ) (end : Numbers) → length ns ≤ i → (numbered_in next (forest (drop i ns))).0 ≡ end → next ≡ end
all_counted next ns i end past so_far = sym (ap (λ zs. (numbered_in next (forest zs)).0) (drop_all i ns past)) ∙ so_far

-- a node of a list is no higher than the list
pub height-get : (ns : List (Option Node)) (k : ℕ) (o : Option Node) (n : Node) → k < length ns → o ≡ get_or ns k o → o ≡ Some n → height n ≤ height_in (forest ns)
height-get [] k o n h e f = absurd (omega arith)
height-get (None ∷ ns) zero o n h e f = absurd (cc)
height-get (Some m ∷ ns) zero o n h e f = let g : m ≡ n = cc in omega (arith, ap height g)
height-get (None ∷ ns) (suc k) o n h e f = height-get ns k o n (omega arith) e f
height-get (Some m ∷ ns) (suc k) o n h e f = omega (arith, height-get ns k o n (omega arith) e f)
