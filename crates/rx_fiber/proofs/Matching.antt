-- For each new child of a node its old fiber is that of its old node.
use Rattle.std.specs.Prelude.{◌≡◌, ℕ, zero, suc, ◌+◌, ◌≤◌, Bool, true, false, cond, nat_lt, List, [], ◌∷◌, ◌++◌, length, map, Option, Some, None, slice_get, option_and_then, option_map, position, ◌⊎◌, ◌-◌, if◌then◌else◌}
use Rattle.std.specs.Option.{option_flatten}
use Rattle.std.specs.List.{zip, position_or_len}
use Rattle.std.proofs.Common.{refl, sym, ap, ◌∙◌, subst, inl, inr, arith}
use Rattle.std.proofs.lemmas.Bool.Decides.{nat_tests}
use Rattle.std.proofs.lemmas.List.{append_assoc, append-nil}
use Rattle.std.proofs.lemmas.Option.{slice_get_past}
use Rattle.rx_elem.specs.Elements.{Element, key_of}
use Rattle.rx_elem.specs.Elements as elements
use Rattle.rx_elem.specs.Identity.{Identity, Child, identity_after, identities_after, identified, is_same_child}
use Rattle.rx_elem.specs.Compare.{node_at, old_nodes}
use Rattle.rx_elem.specs.Trees.{Node, Forest, element_of, elements_in, places}
use Rattle.rx_elem.specs.Trees as trees
use Rattle.rx_lists.specs.Shapes.{Shape, none, fiber, first}
use Rattle.rx_links.specs.Drafts.{list_at}
use Rattle.rx_links.specs.Readers.{IsLinked}
use Rattle.rx_fiber.specs.Fibers.{Fiber}
use Rattle.rx_fiber.specs.Reading.{AreFor, no_more, gap, next, IsFor, whole, alone, beside, IsOld, new, of}
use Rattle.rx_fiber.specs.OldLists.{is_fallback, filled, spread, old_elements, old_fibers, fiber_at, matched}
use Rattle.rx_fiber.proofs.OldLists.{list_begins, IsListIn, list_is, rest_listed, spread_gap, spread_node, IsListFor}

-- Each place of an old list

-- the elements of a list are those that its fibers tell, but for places without a node at its end
pub elements_are : (n : ℕ) (ns : Forest) (s : Shape Fiber) → AreFor n ns s
    → (m : ℕ) × (elements_in ns ≡ spread elements.null (λ id v. v.element) n s ++ filled m elements.null)
elements_are n _ _ no_more = (0, refl)
elements_are n (trees.vacant ns) none (gap a) = let (m, e) = elements_are (suc n) ns none a in (suc m, ap (λ l. elements.null ∷ l) e)
elements_are n (trees.vacant ns) (fiber id v ks rs) (gap a) =
    let (m, e) = elements_are (suc n) ns (fiber id v ks rs) a in
    let f = spread_gap elements.null (λ id v. v.element) n id v ks rs (list_begins (suc n) ns (fiber id v ks rs) a) in
    (m, ap (λ l. elements.null ∷ l) e ∙ ap (λ l. l ++ filled m elements.null) (sym f))
elements_are n (trees.child x ns) s (next {rest = rest} is a) =
    let (m, e) = elements_are (suc n) ns rest a in
    let (id, v, f, same, g) = spread_node elements.null (λ id v. v.element) n x s rest is in (
      m,
      ap (λ l. element_of x ∷ l) e
          ∙ (ap (λ x. x ∷ (spread elements.null (λ id v. v.element) (suc n) rest ++ filled m elements.null)) (sym same)
          ∙ ap (λ l. l ++ filled m elements.null) (sym g)),
    )

pub at_first : (c s : Shape Fiber) (id : ℕ) → IsListIn c s → first s ≡ Some id → list_at c id ≡ Some s
at_first c none id l f = cc
at_first c (fiber jd v ks rs) id l f = let q : jd ≡ id = cc in subst (λ i. list_at c i ≡ Some (fiber jd v ks rs)) q (list_is c jd v ks rs l)

pub rest_in : (c : Shape Fiber) → IsLinked c → (n : ℕ) (x : Node) (s rest : Shape Fiber) → IsFor n x s rest → IsListIn c s → IsListIn c rest
rest_in c linked n _ _ rest (whole {id = id} {v = v} {ks = ks} is shown a) l = rest_listed c id v ks rest linked l
rest_in c linked n _ _ rest (alone {id = id} {v = v} {ks = ks} is hidden gone a) l = rest_listed c id v ks rest linked l
rest_in c linked n _ _ rest (beside {id = id} {jd = jd} {v = v} {w = w} {ks = ks} {ws = ws} is hidden some a s b) l =
    rest_listed c jd w ws rest linked (rest_listed c id v ks (fiber jd w ws rest) linked l)

-- the fiber that stands at a place of a list, and the node
abbrev slot_at : List (Option ℕ) → ℕ → Option ℕ
slot_at os p = option_flatten (slice_get os p)

abbrev node_in : List (Option Node) → ℕ → Option Node
node_in xs p = option_flatten (slice_get xs p)

one_place : (c : Shape Fiber) (o : Option ℕ) (x : Option Node) (os : List (Option ℕ)) (xs : List (Option Node)) → IsOld c o x
    → ((p : ℕ) → IsOld c (slot_at os p) (node_in xs p)) → (p : ℕ) → IsOld c (slot_at (o ∷ os) p) (node_in (x ∷ xs) p)
one_place c o x os xs h f zero = h
one_place c o x os xs h f (suc p) = f p

none_here : (c : Shape Fiber) (xs : List (Option Node)) → ((p : ℕ) → IsOld c (slot_at [] p) (node_in xs p)) → (p : ℕ) → IsOld c (slot_at [] p) (node_in (None ∷ xs) p)
none_here c xs f zero = new
none_here c xs f (suc p) = f p

-- the fiber at each place of a list is that of the node there
olds_from : (c : Shape Fiber) → IsLinked c → (n : ℕ) (ns : Forest) (s : Shape Fiber) → AreFor n ns s → IsListIn c s → (p : ℕ)
    → IsOld c (slot_at (spread None (λ id v. Some id) n s) p) (node_in (places ns) p)
olds_from c linked n _ _ no_more l p = new
olds_from c linked n (trees.vacant ns) none (gap a) l p = none_here c (places ns) (olds_from c linked (suc n) ns none a l) p
olds_from c linked n (trees.vacant ns) (fiber id v ks rs) (gap a) l p =
    let e = spread_gap None (λ id v. Some id) n id v ks rs (list_begins (suc n) ns (fiber id v ks rs) a) in
    subst (λ x. IsOld c (slot_at x p) (node_in (None ∷ places ns) p)) (sym e)
    (one_place c None None (spread None (λ id v. Some id) (suc n) (fiber id v ks rs)) (places ns) new (olds_from c linked (suc n) ns (fiber id v ks rs) a l) p)
olds_from c linked n (trees.child x ns) s (next {rest = rest} is a) l p =
    let (id, v, f, same, e) = spread_node None (λ id v. Some id) n x s rest is in
    subst (λ y. IsOld c (slot_at y p) (node_in (Some x ∷ places ns) p)) (sym e)
    (one_place c (Some id) (Some x) (spread None (λ id v. Some id) (suc n) rest) (places ns) (of (at_first c s id l f) f (next is a))
    (olds_from c linked (suc n) ns rest a (rest_in c linked n x s rest is l)) p)

-- The fiber at a place of an old list is that of the node there.
pub old_at : (c : Shape Fiber) → IsLinked c → (ns : Forest) (s : Shape Fiber) → IsListFor c ns s → (p : ℕ) → IsOld c (fiber_at s p) (node_at ns p)
old_at c linked ns s h p = olds_from c linked 0 ns s h.are h.listed p

-- Places found among more

-- each list that fibers tell has the same length
module _ {A B : Type 0} (g : A) (h : B) (f : ℕ → Fiber → A) (k : ℕ → Fiber → B) where
  filled_length : (n : ℕ) (x : A) (y : B) (xs : List A) (ys : List B) → length xs ≡ length ys → length (filled n g ++ x ∷ xs) ≡ length (filled n h ++ y ∷ ys)
  filled_length zero x y xs ys e = ap suc e
  filled_length (suc n) x y xs ys e = ap suc (filled_length n x y xs ys e)

  length_choice : (b : Bool) (ls bs : List A) (xs ys : List B) → length ls ≡ length xs → length bs ≡ length ys → length (if b then ls else bs) ≡ length (if b then xs else ys)
  length_choice true ls bs xs ys d e = d
  length_choice false ls bs xs ys d e = e

  pub spread_length : (n : ℕ) (s : Shape Fiber) → length (spread g f n s) ≡ length (spread h k n s)
  spread_length n none = refl
  spread_length n (fiber id v ks rs) =
      length_choice (is_fallback v.stage) (spread g f n rs) _ (spread h k n rs) _ (spread_length n rs)
      (filled_length (v.place - n) (f id v) (k id v) (spread g f (suc (n + (v.place - n))) rs) (spread h k (suc (n + (v.place - n))) rs) (spread_length (suc (n + (v.place - n))) rs))

ids_append : (before xs ys : List Element) → identities_after before (xs ++ ys) ≡ identities_after before xs ++ identities_after (before ++ xs) ys
ids_append before [] ys = ap (λ b. identities_after b ys) (sym (append-nil before))
ids_append before (x ∷ xs) ys =
    ap (λ l. identity_after before (key_of x) ∷ l)
    (ids_append (before ++ x ∷ []) xs ys ∙ ap (λ b. identities_after (before ++ x ∷ []) xs ++ identities_after b ys) (append_assoc before (x ∷ []) xs))

abbrev paired : Identity × Element → Child
paired c = record { identity = c.0; element = c.1 }

zip_append : (before : List Element) (xs : List Element) (is : List Identity) (ys : List Element)
    → map paired (zip (identities_after before xs ++ is) (xs ++ ys)) ≡ map paired (zip (identities_after before xs) xs) ++ map paired (zip is ys)
zip_append before [] is ys = refl
zip_append before (x ∷ xs) is ys = ap (λ l. paired (identity_after before (key_of x), x) ∷ l) (zip_append (before ++ x ∷ []) xs is ys)

-- the children of a longer list begin with those of the shorter one
more_identified : (xs ys : List Element) → (zs : List Child) × (identified (xs ++ ys) ≡ identified xs ++ zs)
more_identified xs ys =
    (map paired (zip (identities_after xs ys) ys), ap (λ l. map paired (zip l (xs ++ ys))) (ids_append [] xs ys) ∙ zip_append [] xs (identities_after xs ys) ys)

length_identified : (before xs : List Element) → length (map paired (zip (identities_after before xs) xs)) ≡ length xs
length_identified before [] = refl
length_identified before (x ∷ xs) = ap suc (length_identified (before ++ x ∷ []) xs)

found_behind : (a n : ℕ) → cond (nat_lt (1 + a) (suc n)) (Some (1 + a)) None ≡ option_map (λ q. suc q) (cond (nat_lt a n) (Some a) None)
found_behind a n = by_test (nat_lt a n) refl
  where
    by_test : (b : Bool) → nat_lt a n ≡ b → cond (nat_lt (1 + a) (suc n)) (Some (1 + a)) None ≡ option_map (λ q. suc q) (cond (nat_lt a n) (Some a) None)
    by_test true e =
        let f : nat_lt (1 + a) (suc n) ≡ true = grind (arith, nat_tests) in
        let g : 1 + a ≡ suc a = omega arith in
        rw (e, f, g) refl
    by_test false e =
        let f : nat_lt (1 + a) (suc n) ≡ false = grind (arith, nat_tests) in
        rw (e, f) refl

module _ (test : Child → Bool) where
  position_here : (x : Child) (xs : List Child) → test x ≡ true → position test (x ∷ xs) ≡ Some 0
  position_here x xs e =
      let f : nat_lt 0 (suc (length xs)) ≡ true = grind (arith, nat_tests) in
      rw (e, f) refl

  position_later : (x : Child) (xs : List Child) → test x ≡ false → position test (x ∷ xs) ≡ option_map (λ q. suc q) (position test xs)
  position_later x xs e = rw e (found_behind (position_or_len test xs) (length xs))

-- what a test finds in a longer list it finds in the shorter one, or behind it
found_more : (test : Child → Bool) (xs zs : List Child)
    → (position test (xs ++ zs) ≡ position test xs) ⊎ ((position test xs ≡ None) × ((q : ℕ) × (length xs ≤ q) × (position test (xs ++ zs) ≡ Some q)))
found_more test [] zs = by_answer (position test zs) refl
  where
    by_answer : (o : Option ℕ) → position test zs ≡ o
        → (position test zs ≡ position test []) ⊎ ((position test [] ≡ None) × ((q : ℕ) × (0 ≤ q) × (position test zs ≡ Some q)))
    by_answer None e = inl e
    by_answer (Some q) e = inr (refl, (q, omega arith, e))
found_more test (x ∷ xs) zs = by_test (test x) refl (found_more test xs zs)
  where
    by_test : (b : Bool) → test x ≡ b
        → (position test (xs ++ zs) ≡ position test xs) ⊎ ((position test xs ≡ None) × ((q : ℕ) × (length xs ≤ q) × (position test (xs ++ zs) ≡ Some q)))
        → (position test (x ∷ (xs ++ zs)) ≡ position test (x ∷ xs)) ⊎ ((position test (x ∷ xs) ≡ None) × ((q : ℕ) × (suc (length xs) ≤ q) × (position test (x ∷ (xs ++ zs)) ≡ Some q)))
    by_test true e h = inl (position_here test x (xs ++ zs) e ∙ sym (position_here test x xs e))
    by_test false e (inl h) =
        inl (position_later test x (xs ++ zs) e ∙ (ap (option_map (λ q. suc q)) h ∙ sym (position_later test x xs e)))
    by_test false e (inr (h, (q, l, f))) =
        inr (position_later test x xs e ∙ ap (option_map (λ q. suc q)) h, (suc q, omega arith, position_later test x (xs ++ zs) e ∙ ap (option_map (λ q. suc q)) f))

-- For each new child

-- the old fibers of children are those of their old nodes
abbrev pub AreOld : Shape Fiber → List (Option ℕ) → List (Option Node) → Type 0
AreOld c [] [] = Unit {0}
AreOld c (o ∷ os) (x ∷ xs) = IsOld c o x × AreOld c os xs
AreOld c [] (x ∷ xs) = ⊥
AreOld c (o ∷ os) [] = ⊥

one_old : (c : Shape Fiber) → IsLinked c → (ns : Forest) (s : Shape Fiber) → IsListFor c ns s → (test : Child → Bool)
    → IsOld c (option_and_then (fiber_at s) (position test (identified (old_elements s)))) (option_and_then (node_at ns) (position test (identified (elements_in ns))))
one_old c linked ns s h test =
    let (m, e) = elements_are 0 ns s h.are in
    let (zs, f) = more_identified (old_elements s) (filled m elements.null) in
    let whole : identified (elements_in ns) ≡ identified (old_elements s) ++ zs = ap identified e ∙ f in
    subst (λ l. IsOld c (option_and_then (fiber_at s) (position test (identified (old_elements s)))) (option_and_then (node_at ns) (position test l))) (sym whole)
    (by_find zs (found_more test (identified (old_elements s)) zs))
  where
    at : (o : Option ℕ) → IsOld c (option_and_then (fiber_at s) o) (option_and_then (node_at ns) o)
    at None = new
    at (Some p) = old_at c linked ns s h p

    past : (q : ℕ) → length (identified (old_elements s)) ≤ q → fiber_at s q ≡ None
    past q l =
        let a = length_identified [] (old_elements s) in
        let b : length (old_fibers s) ≡ length (old_elements s) = spread_length None elements.null (λ id v. Some id) (λ id v. v.element) 0 s in
        ap option_flatten (slice_get_past (old_fibers s) q (omega arith))

    by_find : (zs : List Child)
        → (position test (identified (old_elements s) ++ zs) ≡ position test (identified (old_elements s)))
        ⊎ ((position test (identified (old_elements s)) ≡ None) × ((q : ℕ) × (length (identified (old_elements s)) ≤ q) × (position test (identified (old_elements s) ++ zs) ≡ Some q)))
        → IsOld c (option_and_then (fiber_at s) (position test (identified (old_elements s)))) (option_and_then (node_at ns) (position test (identified (old_elements s) ++ zs)))
    by_find zs (inl g) =
        subst (λ o. IsOld c (option_and_then (fiber_at s) (position test (identified (old_elements s)))) (option_and_then (node_at ns) o)) (sym g)
        (at (position test (identified (old_elements s))))
    by_find zs (inr (gone, (q, l, g))) =
        let x : IsOld c None (node_at ns q) = subst (λ o. IsOld c o (node_at ns q)) (past q l) (old_at c linked ns s h q) in
        subst (λ o. IsOld c (option_and_then (fiber_at s) o) (option_and_then (node_at ns) (position test (identified (old_elements s) ++ zs)))) (sym gone)
        (subst (λ o. IsOld c None (option_and_then (node_at ns) o)) (sym g) x)

all_old : (c : Shape Fiber) → IsLinked c → (ns : Forest) (s : Shape Fiber) → IsListFor c ns s → (cs : List Child)
    → AreOld c (map (option_and_then (fiber_at s)) (map (λ x. position (is_same_child x) (identified (old_elements s))) cs))
    (map (option_and_then (node_at ns)) (map (λ x. position (is_same_child x) (identified (elements_in ns))) cs))
all_old c linked ns s h [] = tt
all_old c linked ns s h (x ∷ xs) = (one_old c linked ns s h (is_same_child x), all_old c linked ns s h xs)

-- The old fibers of new children, matched by what the old fibers tell, are those of their old nodes.
pub matched_old : (c : Shape Fiber) → IsLinked c → (ns : Forest) (s : Shape Fiber) → IsListFor c ns s → (es : List Element) → AreOld c (matched s es) (old_nodes ns es)
matched_old c linked ns s h es = all_old c linked ns s h (identified es)
