-- The children of a fiber are gone through.
use Rattle.std.specs.Prelude.{◌≡◌, ◌<◌, ◌+◌, ℕ, suc, Option, Some, None}
use Rattle.std.proofs.Common.{arith, sym, ap, ◌∙◌, subst}
use Rattle.rx_lists.specs.Shapes.{first}
use Rattle.rx_links.specs.Drafts.{Draft, taken, made, Trees, Makes, IsMadeList, entry, grafted, made_size}
use Rattle.rx_links.specs.Places.{Around, below, after, placed}
use Rattle.rx_links.specs.Readers.{made_list_at, made_value_in, made_value_of, made_kids_in, made_kids_of, made_rest_in, made_rest_of}
use Rattle.rx_fiber.specs.declared.subtree.Subtree.{Subtree}
use Rattle.rx_fiber.specs.Fibers.{Fiber, nothing, joined}
use Rattle.rx_fiber.specs.Subtrees.{subtrees_of}
use Rattle.rx_fiber.proofs.Gathered.{joined_again, joined_nothing}
use Rattle.rx_complete.specs.Ends.{HasMadeList}
use Rattle.rx_complete.proofs.Completed.{KnowsPlaces}

-- the walk has come to this fiber of a list of made ones, and has taken those before it
pub record ComesAlong (t : Trees Fiber) (q : ℕ) (taken_so : Subtree) (next : Option ℕ) : Type 0 where
  pub around : Around Fiber
  pub left : Draft Fiber
  pub here : t.draft ≡ placed around left
  pub all_made : IsMadeList left
  pub next_is : next ≡ entry left
  pub tells : joined taken_so (subtrees_of (grafted left)) ≡ subtrees_of (grafted (made_kids_of t.draft q))

-- how many fibers are left, with those below them
abbrev pub size_in : Option (Draft Fiber) → ℕ
size_in None = 0
size_in (Some d) = made_size d

abbrev pub size_from : Draft Fiber → Option ℕ → ℕ
size_from w None = 0
size_from w (Some i) = size_in (made_list_at w i)

pub list_made : (t : Trees Fiber) (q : ℕ) → KnowsPlaces t → HasMadeList t q → Makes t.draft q
list_made t q knows h = (knows h.around q h.value h.old h.kids h.rest h.here).makes

pub along_first : (t : Trees Fiber) (q : ℕ) → KnowsPlaces t → HasMadeList t q → (b : Subtree) (next : Option ℕ) → b ≡ nothing → next ≡ entry (made_kids_of t.draft q) → ComesAlong t q b next
along_first t q knows h b next none_yet leads =
    let at = knows h.around q h.value h.old h.kids h.rest h.here in
    let kids : made_kids_of t.draft q ≡ h.kids = ap made_kids_in at.list in
    record {
      around = below q h.value h.old h.rest h.around;
      left = h.kids;
      here = h.here;
      all_made = h.all_made;
      next_is = leads ∙ ap entry kids;
      tells = ap (λ x. joined x (subtrees_of (grafted h.kids))) none_yet ∙ ap (λ d. subtrees_of (grafted d)) (sym kids);
    }

-- a fiber of the list
pub record Here (t : Trees Fiber) (q : ℕ) (b : Subtree) (i : ℕ) : Type 0 where
  pub around : Around Fiber
  pub value : Fiber
  pub old : Option ℕ
  pub kids : Draft Fiber
  pub rest : Draft Fiber
  pub here : t.draft ≡ placed around (made i value old kids rest)
  pub all_made : IsMadeList rest
  pub tells : joined b (joined value.subtree (subtrees_of (grafted rest))) ≡ subtrees_of (grafted (made_kids_of t.draft q))

by_left : (t : Trees Fiber) (q : ℕ) (b : Subtree) (i : ℕ) (k : Around Fiber) (d : Draft Fiber) → t.draft ≡ placed k d → IsMadeList d → Some i ≡ entry d
    → joined b (subtrees_of (grafted d)) ≡ subtrees_of (grafted (made_kids_of t.draft q)) → Here t q b i
by_left t q b i k (taken s) here m is tells = absurd (let e : Some i ≡ None = is ∙ ap first m in let n : ⊥ = cc in n)
by_left t q b i k (made id v o ks rs) here m is tells =
    let e : i ≡ id = cc in
    record { around = k; value = v; old = o; kids = ks; rest = rs; here = here ∙ ap (λ x. placed k (made x v o ks rs)) (sym e); all_made = m; tells = tells }

pub along_here : (t : Trees Fiber) (q : ℕ) (b : Subtree) (next : Option ℕ) (i : ℕ) → ComesAlong t q b next → next ≡ Some i → Here t q b i
along_here t q b next i a is = by_left t q b i a.around a.left a.here a.all_made (sym is ∙ a.next_is) a.tells

pub here_made : (t : Trees Fiber) (q : ℕ) (b : Subtree) (i : ℕ) → KnowsPlaces t → Here t q b i → Makes t.draft i
here_made t q b i knows h = (knows h.around i h.value h.old h.kids h.rest h.here).makes

-- one is taken more
pub along_more : (t : Trees Fiber) (q : ℕ) (b : Subtree) (i : ℕ) → KnowsPlaces t → Here t q b i → (v : Fiber) (more : Subtree) (next : Option ℕ)
    → Some v ≡ made_value_of t.draft i → more ≡ joined b v.subtree → next ≡ entry (made_rest_of t.draft i) → ComesAlong t q more next
along_more t q b i knows h v more next value is leads =
    let at = knows h.around i h.value h.old h.kids h.rest h.here in
    let same : v ≡ h.value = (let e : Some v ≡ Some h.value = value ∙ ap made_value_in at.list in cc) in
    record {
      around = after i h.value h.old h.kids h.around;
      left = h.rest;
      here = h.here;
      all_made = h.all_made;
      next_is = leads ∙ ap entry (ap made_rest_in at.list);
      tells = ap (λ x. joined x (subtrees_of (grafted h.rest))) (is ∙ ap (λ u. joined b u.subtree) same) ∙ (joined_again b h.value.subtree (subtrees_of (grafted h.rest)) ∙ h.tells);
    }

rest_fewer : (t : Trees Fiber) → KnowsPlaces t → (k : Around Fiber) (rs : Draft Fiber) → t.draft ≡ placed k rs → IsMadeList rs → (n m : ℕ) → size_from t.draft (entry rs) < suc (m + made_size rs)
rest_fewer t knows k (taken s) here is n m = rw is (omega arith)
rest_fewer t knows k (made id v o ks rs) here is n m =
    let at = knows k id v o ks rs here in
    let e : size_from t.draft (Some id) ≡ made_size (made id v o ks rs) = ap size_in at.list in
    omega (arith, e)

-- and fewer are left
pub along_fewer : (t : Trees Fiber) (q : ℕ) (b : Subtree) (i : ℕ) → KnowsPlaces t → Here t q b i → (before next : Option ℕ) → before ≡ Some i → next ≡ entry (made_rest_of t.draft i)
    → size_from t.draft next < size_from t.draft before
along_fewer t q b i knows h before next is leads =
    let at = knows h.around i h.value h.old h.kids h.rest h.here in
    let to : next ≡ entry h.rest = leads ∙ ap entry (ap made_rest_in at.list) in
    let from : size_from t.draft before ≡ suc (made_size h.kids + made_size h.rest) = ap (size_from t.draft) is ∙ ap size_in at.list in
    let less = rest_fewer t knows (after i h.value h.old h.kids h.around) h.rest h.here h.all_made 0 (made_size h.kids) in
    subst (λ x. x < size_from t.draft before) (sym (ap (size_from t.draft) to)) (subst (λ x. size_from t.draft (entry h.rest) < x) (sym from) less)

by_end : (t : Trees Fiber) (q : ℕ) (b : Subtree) (d : Draft Fiber) → IsMadeList d → None ≡ entry d → joined b (subtrees_of (grafted d)) ≡ subtrees_of (grafted (made_kids_of t.draft q))
    → b ≡ subtrees_of (grafted (made_kids_of t.draft q))
by_end t q b (taken s) m is tells = sym (joined_nothing b) ∙ (ap (λ x. joined b (subtrees_of x)) (sym m) ∙ tells)
by_end t q b (made id v o ks rs) m is tells = absurd (let n : ⊥ = cc in n)

-- all are taken
pub along_end : (t : Trees Fiber) (q : ℕ) (b : Subtree) (next : Option ℕ) → ComesAlong t q b next → next ≡ None → b ≡ subtrees_of (grafted (made_kids_of t.draft q))
along_end t q b next a is = by_end t q b a.left a.all_made (sym is ∙ a.next_is) a.tells
