-- How the links of the current tree go.
use Rattle.std.proofs.Common.{◌≡◌, ◌≢◌, ◌⊎◌, inl, inr, ℕ, refl, sym, ap, Some, eq-eqb}
use Rattle.rx_lists.specs.Shapes.{Shape, none, fiber, first, Holds, IsTree}
use Rattle.rx_lists.proofs.Frames.{same_or_not, eqb-false}
use Rattle.rx_links.specs.Drafts.{list_at, kids_at, shape_or_none, kids_of}
use Rattle.rx_links.specs.Readers.{rest_of, value_of, list_from, IsLinked}
use Rattle.rx_links.proofs.Edits.{kids_at-absent}
use Rattle.rx_links.proofs.Reading.{holds_or_not, list_at-absent}

module _ {F : Type 0} where
  -- the list stands in the tree
  abbrev pub IsPart : Shape F → Shape F → Type 0
  IsPart none s = s ≡ none
  IsPart (fiber id v ks rs) s = (s ≡ fiber id v ks rs) ⊎ (IsPart ks s ⊎ IsPart rs s)

  part-held : (c : Shape F) (id : ℕ) (v : F) (ks rs : Shape F) → IsPart c (fiber id v ks rs) → Holds c id
  part-held none id v ks rs p = cc
  part-held (fiber jd u ls ts) id v ks rs (inl e) = inl (let q : id ≡ jd = cc in q)
  part-held (fiber jd u ls ts) id v ks rs (inr (inl p)) = inr (inl (part-held ls id v ks rs p))
  part-held (fiber jd u ls ts) id v ks rs (inr (inr p)) = inr (inr (part-held ts id v ks rs p))

  whole-part : (c : Shape F) → IsPart c c
  whole-part none = refl
  whole-part (fiber id v ks rs) = inl refl

  part-kids : (c : Shape F) (id : ℕ) (v : F) (ks rs : Shape F) → IsPart c (fiber id v ks rs) → IsPart c ks
  part-kids none id v ks rs p = cc
  part-kids (fiber jd u ls ts) id v ks rs (inl e) = inr (inl (let q : ls ≡ ks = cc in rw q (whole-part ks)))
  part-kids (fiber jd u ls ts) id v ks rs (inr (inl p)) = inr (inl (part-kids ls id v ks rs p))
  part-kids (fiber jd u ls ts) id v ks rs (inr (inr p)) = inr (inr (part-kids ts id v ks rs p))

  part-rest : (c : Shape F) (id : ℕ) (v : F) (ks rs : Shape F) → IsPart c (fiber id v ks rs) → IsPart c rs
  part-rest none id v ks rs p = cc
  part-rest (fiber jd u ls ts) id v ks rs (inl e) = inr (inr (let q : ts ≡ rs = cc in rw q (whole-part rs)))
  part-rest (fiber jd u ls ts) id v ks rs (inr (inl p)) = inr (inl (part-rest ls id v ks rs p))
  part-rest (fiber jd u ls ts) id v ks rs (inr (inr p)) = inr (inr (part-rest ts id v ks rs p))

  part-list : (c : Shape F) (id : ℕ) (v : F) (ks rs : Shape F) → IsTree c → IsPart c (fiber id v ks rs) → list_at c id ≡ Some (fiber id v ks rs)
  part-list none id v ks rs t p = cc
  part-list (fiber jd u ls ts) id v ks rs t (inl e) =
      let q : jd ≡ id = cc in rw (eq-eqb jd id q) (ap Some (sym e))
  part-list (fiber jd u ls ts) id v ks rs t (inr (inl p)) =
      rw (eqb-false jd id (λ e. t.0 (rw e (part-held ls id v ks rs p))), part-list ls id v ks rs t.3 p) refl
  part-list (fiber jd u ls ts) id v ks rs t (inr (inr p)) =
      let h = part-held ts id v ks rs p in
      rw (eqb-false jd id (λ e. t.1 (rw e h)), list_at-absent ls id (λ m. t.2 id m h), part-list ts id v ks rs t.4 p) refl

  pub part-from : (c s : Shape F) → IsTree c → IsPart c s → list_from c (first s) ≡ s
  part-from c none t p = refl
  part-from c (fiber id v ks rs) t p = ap shape_or_none (part-list c id v ks rs t p)

  part-tree : (c s : Shape F) → IsTree c → IsPart c s → IsTree s
  part-tree none s t p = rw p tt
  part-tree (fiber id v ks rs) s t (inl e) = rw e t
  part-tree (fiber id v ks rs) s t (inr (inl p)) = part-tree ks s t.3 p
  part-tree (fiber id v ks rs) s t (inr (inr p)) = part-tree rs s t.4 p

  part-all : (c s : Shape F) (j : ℕ) → IsPart c s → Holds s j → Holds c j
  part-all none s j p h = let q = rw p at h in q
  part-all (fiber id v ks rs) s j (inl e) h = rw e at h
  part-all (fiber id v ks rs) s j (inr (inl p)) h = inr (inl (part-all ks s j p h))
  part-all (fiber id v ks rs) s j (inr (inr p)) h = inr (inr (part-all rs s j p h))

  -- a fiber of the tree begins a list of it
  pub record Begins (c : Shape F) (i : ℕ) : Type 0 where
    pub value : F
    pub kids : Shape F
    pub rest : Shape F
    pub list : list_at c i ≡ Some (fiber i value kids rest)
    pub kids_are : kids_at c i ≡ Some kids
    pub part : IsPart c (fiber i value kids rest)

  pub begins : (c : Shape F) (i : ℕ) → Holds c i → Begins c i
  begins none i h = absurd h
  begins (fiber id v ks rs) i h = by_cases (same_or_not id i) (holds_or_not ks i) (λ m. begins ks i m) (λ m. begins rs i m) h
    where
      by_cases : (id ≡ i) ⊎ (id ≢ i) → Holds ks i ⊎ (Holds ks i → ⊥) → (Holds ks i → Begins ks i) → (Holds rs i → Begins rs i) → Holds (fiber id v ks rs) i → Begins (fiber id v ks rs) i
      by_cases (inl e) _ f g h =
          record { value = v; kids = ks; rest = rs; list = rw (eq-eqb id i e, e) refl; kids_are = rw (eq-eqb id i e) refl; part = inl (rw e refl) }
      by_cases (inr n) (inl m) f g h =
          let x = f m in
          record { value = x.value; kids = x.kids; rest = x.rest; list = rw (eqb-false id i n, x.list) refl; kids_are = rw (eqb-false id i n, x.kids_are) refl; part = inr (inl x.part) }
      by_cases (inr n) (inr m) f g (inl e) = absurd (n (sym e))
      by_cases (inr n) (inr m) f g (inr (inl h)) = absurd (m h)
      by_cases (inr n) (inr m) f g (inr (inr h)) =
          let x = g h in
          record {
            value = x.value;
            kids = x.kids;
            rest = x.rest;
            list = rw (eqb-false id i n, list_at-absent ks i m, x.list) refl;
            kids_are = rw (eqb-false id i n, kids_at-absent ks i m, x.kids_are) refl;
            part = inr (inr x.part);
          }

  root-list : (c : Shape F) → c ≡ list_from c (first c)
  root-list none = refl
  root-list (fiber id v ks rs) = rw (eq-eqb id id refl) refl

  pub linked : (c : Shape F) → IsTree c → IsLinked c
  linked c t = record {
    root = root-list c;
    kids = λ i h. let b = begins c i h in kids_case i b;
    rest = λ i h. let b = begins c i h in rest_case i b;
    list = λ i h. let b = begins c i h in list_case i b;
    once = λ i h. let b = begins c i h in once_case i b;
    below = λ i j h q. let b = begins c i h in below_case i j b q;
    behind = λ i j h q. let b = begins c i h in behind_case i j b q;
  }
    where
      kids_case : (i : ℕ) → Begins c i → kids_of c i ≡ list_from c (first (kids_of c i))
      kids_case i b = let y = b.kids_are in let p = b.part in rw y (sym (part-from c b.kids t (part-kids c i b.value b.kids b.rest p)))

      rest_case : (i : ℕ) → Begins c i → rest_of c i ≡ list_from c (first (rest_of c i))
      rest_case i b = let y = b.list in let p = b.part in rw y (sym (part-from c b.rest t (part-rest c i b.value b.kids b.rest p)))

      list_case : (i : ℕ) → Begins c i → (v : F) × (value_of c i ≡ Some v) × (list_from c (Some i) ≡ fiber i v (kids_of c i) (rest_of c i))
      list_case i b = let x = b.list in let y = b.kids_are in (b.value, rw x refl, rw (x, y) refl)

      once_case : (i : ℕ) → Begins c i → IsTree (list_from c (Some i))
      once_case i b = let x = b.list in let p = b.part in rw x (part-tree c (fiber i b.value b.kids b.rest) t p)

      below_case : (i j : ℕ) → Begins c i → Holds (kids_of c i) j → Holds c j
      below_case i j b q = let y = b.kids_are in let p = b.part in part-all c b.kids j (part-kids c i b.value b.kids b.rest p) (rw y at q)

      behind_case : (i j : ℕ) → Begins c i → Holds (rest_of c i) j → Holds c j
      behind_case i j b q = let y = b.list in let p = b.part in part-all c b.rest j (part-rest c i b.value b.kids b.rest p) (rw y at q)
