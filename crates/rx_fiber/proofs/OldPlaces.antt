-- How the places of an old list are gone through.
use Rattle.std.specs.Prelude.{◌≡◌, ℕ, zero, suc, ◌+◌, ◌-◌, ◌<◌, ◌≤◌, Bool, true, false, List, [], ◌∷◌, ◌++◌, length, Option, Some}
use Rattle.std.proofs.Common.{refl, sym, ap, ◌∙◌, subst, arith}
use Rattle.std.proofs.lemmas.List.{append_assoc, append-nil, length-append}
use Rattle.rx_lists.specs.Shapes.{Shape, fiber, first, Holds, size}
use Rattle.rx_links.specs.Drafts.{kids_of}
use Rattle.rx_links.specs.Readers.{rest_of, value_of, list_from, IsLinked}
use Rattle.rx_fiber.specs.Fibers.{Fiber}
use Rattle.rx_fiber.specs.OldLists.{is_fallback, filled, told, spread}

module _ {A : Type 0} where
  filled_length : (n : ℕ) (g : A) → length (filled n g) ≡ n
  filled_length zero g = refl
  filled_length (suc n) g = ap suc (filled_length n g)

  -- one place more is filled
  pub fill_step : (xs : List A) (g : A) (p n : ℕ) → n < p → (xs ++ g ∷ []) ++ filled (p - suc n) g ≡ xs ++ filled (p - n) g
  fill_step xs g p n h =
      let e : p - n ≡ suc (p - suc n) = omega arith in
      append_assoc xs (g ∷ []) (filled (p - suc n) g) ∙ rw e refl

  pub fill_end : (xs : List A) (g : A) (p n : ℕ) → p ≤ n → xs ++ filled (p - n) g ≡ xs
  fill_end xs g p n h = let e : p - n ≡ 0 = omega arith in rw e (append-nil xs)

  told_length : (g x : A) (n : ℕ) (v : Fiber) → is_fallback v.stage ≡ false → length (told g x n v) ≡ suc (v.place - n)
  told_length g x n v f =
      let a = filled_length (v.place - n) g in
      rw (f, length-append) (omega arith)

  -- the list from a fiber on is what the fiber tells, and the rest
  pub spread_told : (g : A) (tells : ℕ → Fiber → A) (n id : ℕ) (v : Fiber) (ks rs : Shape Fiber)
      → spread g tells n (fiber id v ks rs) ≡ told g (tells id v) n v ++ spread g tells (n + length (told g (tells id v) n v)) rs
  spread_told g tells n id v ks rs = by_stage (is_fallback v.stage) refl
    where
      by_stage : (b : Bool) → is_fallback v.stage ≡ b
          → spread g tells n (fiber id v ks rs) ≡ told g (tells id v) n v ++ spread g tells (n + length (told g (tells id v) n v)) rs
      by_stage true f = let e : n + 0 ≡ n = omega arith in rw (f, e) refl
      by_stage false f =
          let l = told_length g (tells id v) n v f in
          let e : n + length (told g (tells id v) n v) ≡ suc (n + (v.place - n)) = omega arith in
          rw (e, f) (sym (append_assoc (filled (v.place - n) g) (tells id v ∷ []) (spread g tells (suc (n + (v.place - n))) rs)))

  -- one fiber more is told
  pub told_step : (xs ys all : List A) (g : A) (tells : ℕ → Fiber → A) (id : ℕ) (v : Fiber) (ks rs : Shape Fiber)
      → xs ++ spread g tells (length xs) (fiber id v ks rs) ≡ all → ys ≡ xs ++ told g (tells id v) (length xs) v → ys ++ spread g tells (length ys) rs ≡ all
  told_step xs ys all g tells id v ks rs before e =
      let l : length ys ≡ length xs + length (told g (tells id v) (length xs) v) = ap length e ∙ length-append xs (told g (tells id v) (length xs) v) in
      ap (λ n. ys ++ spread g tells n rs) l
      ∙ (ap (λ l. l ++ spread g tells (length xs + length (told g (tells id v) (length xs) v)) rs) e
      ∙ (append_assoc xs (told g (tells id v) (length xs) v) (spread g tells (length xs + length (told g (tells id v) (length xs) v)) rs)
      ∙ (ap (λ l. xs ++ l) (sym (spread_told g tells (length xs) id v ks rs)) ∙ before)))

module _ (c : Shape Fiber) (linked : IsLinked c) (i : ℕ) (h : Holds c i) where
  -- the list from a fiber on, by its value and its links
  pub list_here : (v : Fiber) → Some v ≡ value_of c i → list_from c (Some i) ≡ fiber i v (kids_of c i) (rest_of c i)
  list_here v e =
      let (u, f, g) = linked.list i h in
      let q : v ≡ u = cc in
      subst (λ x. list_from c (Some i) ≡ fiber i x (kids_of c i) (rest_of c i)) (sym q) g

  pub rest_here : list_from c (first (rest_of c i)) ≡ rest_of c i
  rest_here = sym (linked.rest i h)

  pub rest_less : size (list_from c (first (rest_of c i))) < size (list_from c (Some i))
  rest_less =
      let (u, f, g) = linked.list i h in
      let a : size (list_from c (Some i)) ≡ suc (size (kids_of c i) + size (rest_of c i)) = ap size g in
      let b : size (list_from c (first (rest_of c i))) ≡ size (rest_of c i) = ap size rest_here in
      omega arith

-- a place without a node is filled
pub fill_more : {A : Type 0} (xs ys : List A) (g x : A) (p n m : ℕ) → ys ≡ xs ++ x ∷ [] → x ≡ g → n < p → m ≡ suc n → ys ++ filled (p - m) g ≡ xs ++ filled (p - n) g
fill_more xs ys g x p n m e f h l = rw (e, f, l) (fill_step xs g p n h)

pub one_longer : {A : Type 0} (xs ys : List A) (x : A) → ys ≡ xs ++ x ∷ [] → length ys ≡ suc (length xs)
one_longer xs ys x e = ap length e ∙ (length-append xs (x ∷ []) ∙ (let q : length xs + 1 ≡ suc (length xs) = omega arith in q))

told_alike : {A B : Type 0} (g x : A) (h y : B) (n : ℕ) (v : Fiber) → length (told g x n v) ≡ length (told h y n v)
told_alike g x h y n v = by_stage (is_fallback v.stage) refl
  where
    by_stage : (b : Bool) → is_fallback v.stage ≡ b → length (told g x n v) ≡ length (told h y n v)
    by_stage true f = rw f refl
    by_stage false f = told_length g x n v f ∙ sym (told_length h y n v f)

-- a fiber tells as many places of each list
pub told_same : {A B : Type 0} (xs ys : List A) (us vs : List B) (g x : A) (h y : B) (v : Fiber) → length xs ≡ length us
    → ys ≡ xs ++ told g x (length xs) v → vs ≡ us ++ told h y (length us) v → length ys ≡ length vs
told_same xs ys us vs g x h y v same e f =
    let a : length ys ≡ length xs + length (told g x (length xs) v) = ap length e ∙ length-append xs (told g x (length xs) v) in
    let b : length vs ≡ length us + length (told h y (length us) v) = ap length f ∙ length-append us (told h y (length us) v) in
    let c : length (told g x (length us) v) ≡ length (told h y (length us) v) = told_alike g x h y (length us) v in
    let d : length (told g x (length xs) v) ≡ length (told g x (length us) v) = ap (λ n. length (told g x n v)) same in
    omega arith

-- the walk along an old list
pub listed_step : {A : Type 0} (c : Shape Fiber) → IsLinked c → (id : ℕ) → Holds c id → (link beyond : Option ℕ) (v : Fiber) (xs ys all : List A) (g : A) (tells : ℕ → Fiber → A)
    → link ≡ Some id → Some v ≡ value_of c id → beyond ≡ first (rest_of c id) → xs ++ spread g tells (length xs) (list_from c link) ≡ all → ys ≡ xs ++ told g (tells id v) (length xs) v
    → ys ++ spread g tells (length ys) (list_from c beyond) ≡ all
listed_step c linked id h link beyond v xs ys all g tells e value f before more =
    let here : list_from c link ≡ fiber id v (kids_of c id) (rest_of c id) = ap (list_from c) e ∙ list_here c linked id h v value in
    let later : list_from c beyond ≡ rest_of c id = ap (list_from c) f ∙ rest_here c linked id h in
    ap (λ s. ys ++ spread g tells (length ys) s) later
    ∙ told_step xs ys all g tells id v (kids_of c id) (rest_of c id) (ap (λ s. xs ++ spread g tells (length xs) s) (sym here) ∙ before) more
