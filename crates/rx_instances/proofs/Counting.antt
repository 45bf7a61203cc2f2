-- How the fibers before one that is looked for are counted.
use Rattle.std.proofs.Common.{◌≡◌, ℕ, zero, suc, ◌+◌, ◌-◌, ◌<◌, List, [], ◌∷◌, ◌++◌, Option, Some, None, length, slice_get, refl, sym, ap, subst, ◌∙◌, arith, length-append}
use Rattle.std.proofs.lemmas.Option.{none-some, slice_get_within}
use Rattle.rx_base.specs.Values.{Name}
use Rattle.rx_ast.specs.Syntax.{Program}
use Rattle.rx_lists.specs.Shapes.{Shape, Holds, fiber, first, size}
use Rattle.rx_links.specs.Drafts.{kids_of}
use Rattle.rx_links.specs.Readers.{IsLinked, list_from, rest_of}
use Rattle.rx_fiber.specs.Fibers.{Fiber}
use Rattle.rx_instances.specs.NearFibers.{Counts, near_fibers, near_first}

get-front : (xs ys : List ℕ) (k : ℕ) (x : ℕ) → slice_get xs k ≡ Some x → slice_get (xs ++ ys) k ≡ Some x
get-front [] ys k x is = absurd (none-some x is)
get-front (y ∷ xs) ys zero x is = is
get-front (y ∷ xs) ys (suc k) x is = get-front xs ys k x is

get-behind : (xs ys : List ℕ) (k : ℕ) → slice_get xs k ≡ None → slice_get (xs ++ ys) k ≡ slice_get ys (k - length xs)
get-behind [] ys k is = let e : k - 0 ≡ k = omega arith in rw e refl
get-behind (y ∷ xs) ys zero is = absurd (none-some y (sym is))
get-behind (y ∷ xs) ys (suc k) is = let e : suc k - suc (length xs) ≡ k - length xs = omega arith in rw e (get-behind xs ys k is)

-- nothing is looked at
pub counts-nothing : (k : ℕ) → Counts [] None k k
counts-nothing k = record { found_is = refl; left_is = omega arith }

-- what is found among the first fibers is found
counts-front : (xs ys : List ℕ) (x : ℕ) (k l : ℕ) → Counts xs (Some x) k l → Counts (xs ++ ys) (Some x) k l
counts-front xs ys x k l c = record {
  found_is = sym (get-front xs ys k x (sym c.found_is));
  left_is = omega (arith, c.left_is, slice_get_within xs k x (sym c.found_is), length-append xs ys);
}

-- and if none is, it is looked for among the fibers behind them
counts-behind : (xs ys : List ℕ) (found : Option ℕ) (k l m : ℕ) → Counts xs None k l → Counts ys found l m → Counts (xs ++ ys) found k m
counts-behind xs ys found k l m c d = record {
  found_is = d.found_is ∙ ap (slice_get ys) c.left_is ∙ sym (get-behind xs ys k (sym c.found_is));
  left_is = omega (arith, c.left_is, d.left_is, length-append xs ys);
}

-- what is found among the fibers that are left is found among all
abbrev pub LeadsOn : (all rest : List ℕ) → (before left : ℕ) → Type 0
LeadsOn all rest before left = (found : Option ℕ) (after : ℕ) → Counts rest found left after → Counts all found before after

module _ (p : Program) (name : Name) (c : Shape Fiber) (linked : IsLinked c) where
  -- the first fiber of a list, and those behind it
  near_parts : (s : Shape Fiber) (i : ℕ) (v : Fiber) (ks rs : Shape Fiber) → s ≡ fiber i v ks rs → near_fibers p name s ≡ near_first p name s ++ near_fibers p name rs
  near_parts s i v ks rs e = ap (near_fibers p name) e ∙ ap (λ (t : Shape Fiber). near_first p name t ++ near_fibers p name rs) (sym e)

  near_more : (o : Option ℕ) (i : ℕ) → Holds c i → o ≡ Some i
      → near_fibers p name (list_from c o) ≡ near_first p name (list_from c (Some i)) ++ near_fibers p name (list_from c (first (rest_of c i)))
  near_more o i h e =
      let (v, is, l) = linked.list i h in
      ap (λ q. near_fibers p name (list_from c q)) e
      ∙ near_parts (list_from c (Some i)) i v (kids_of c i) (rest_of c i) l
      ∙ ap (λ (t : Shape Fiber). near_first p name (list_from c (Some i)) ++ near_fibers p name t) (linked.rest i h)

  -- what is found at a fiber of the list
  pub leads-found : (o : Option ℕ) (i x : ℕ) (all : List ℕ) (before left after : ℕ) → Holds c i → o ≡ Some i → LeadsOn all (near_fibers p name (list_from c o)) before left
      → Counts (near_first p name (list_from c (Some i))) (Some x) left after → Counts all (Some x) before after
  leads-found o i x all before left after h e leads d =
      leads (Some x) after
      (subst (λ (xs : List ℕ). Counts xs (Some x) left after) (sym (near_more o i h e))
      (counts-front (near_first p name (list_from c (Some i))) (near_fibers p name (list_from c (first (rest_of c i)))) x left after d))

  -- and if nothing is found
  pub leads-more : (o q : Option ℕ) (i : ℕ) (all : List ℕ) (before left now : ℕ) → Holds c i → o ≡ Some i → q ≡ first (rest_of c i)
      → LeadsOn all (near_fibers p name (list_from c o)) before left → Counts (near_first p name (list_from c (Some i))) None left now
      → LeadsOn all (near_fibers p name (list_from c q)) before now
  leads-more o q i all before left now h e f leads d = λ found after g.
      leads found after
      (subst (λ (xs : List ℕ). Counts xs found left after) (sym (near_more o i h e))
      (counts-behind (near_first p name (list_from c (Some i))) (near_fibers p name (list_from c (first (rest_of c i)))) found left now after d
      (subst (λ r. Counts (near_fibers p name (list_from c r)) found now after) f g)))

  -- nothing is left at the end
  pub leads-nowhere : (o : Option ℕ) (all : List ℕ) (before left : ℕ) → o ≡ None → LeadsOn all (near_fibers p name (list_from c o)) before left → Counts all None before left
  leads-nowhere o all before left e leads = leads None left (subst (λ r. Counts (near_fibers p name (list_from c r)) None left left) (sym e) (counts-nothing left))

-- lists grow smaller
pub kids_smaller : (c : Shape Fiber) → IsLinked c → (i : ℕ) (q : Option ℕ) → Holds c i → q ≡ first (kids_of c i) → size (list_from c q) < size (list_from c (Some i))
kids_smaller c linked i q h e =
    let (v, is, l) = linked.list i h in
    let below : size (list_from c q) ≡ size (kids_of c i) = ap (λ r. size (list_from c r)) e ∙ ap size (sym (linked.kids i h)) in
    let all : size (list_from c (Some i)) ≡ suc (size (kids_of c i) + size (rest_of c i)) = ap size l in
    omega (arith, below, all)

pub rest_smaller : (c : Shape Fiber) → IsLinked c → (i : ℕ) (o q : Option ℕ) → Holds c i → o ≡ Some i → q ≡ first (rest_of c i) → size (list_from c q) < size (list_from c o)
rest_smaller c linked i o q h f e =
    let (v, is, l) = linked.list i h in
    let behind : size (list_from c q) ≡ size (rest_of c i) = ap (λ r. size (list_from c r)) e ∙ ap size (sym (linked.rest i h)) in
    let all : size (list_from c o) ≡ suc (size (kids_of c i) + size (rest_of c i)) = ap (λ r. size (list_from c r)) f ∙ ap size l in
    omega (arith, behind, all)
