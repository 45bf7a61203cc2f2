-- How the laws of steps make those of a reading.
use Rattle.std.proofs.Common.{◌≡◌, ℕ, zero, suc, ◌<◌, ◌≤◌, Bool, true, false, ◌||◌, cond, ◌⊎◌, inl, inr, ⊎_elim, Option, Some, None, Ok, Err, List, [], ◌∷◌, ◌++◌, length, refl, sym, ap, ◌∙◌, subst, append_assoc, append-nil, length-append, arith}
use Rattle.rx_lex.specs.declared.token.Kind.{Kind}
use Rattle.rx_grammar.specs.Steps.{Read, ◌>>=◌, fault_at, next, is_end, taken, taken_as, within}
use Rattle.rx_grammar.proofs.Readings.{kind_rank, rank, NoEnd, NoEnd-append, Begun, StopsAt, Reads, said, bind_ok, bind_err, chosen, same_ends}

-- nothing is read
pub nothing : {A : Type 0} (L : A → List Kind → Type 0) (low high : ℕ) → ((a : A) (p : List Kind) → L a p → ⊥) → Reads {A = A} (λ ts. fault_at ts) L low high false
nothing {A} L low high none = record {
  opens = λ a p rest l lt. absurd (none a p l);
  plain = λ a p l. absurd (none a p l);
  sound = λ ts x h. absurd (let b : ⊥ = cc in b);
  complete = λ a p rest l lt. absurd (none a p l);
  keeps = λ p k v u a h. absurd (let b : ⊥ = cc in b);
  fails = λ p k v u h.
      let same : length (p ++ k ∷ v) ≡ suc (length v) = cc in
      let one : length (p ++ k ∷ u) ≡ suc (length u) = omega (arith, length-append p (k ∷ v), length-append p (k ∷ u)) in
      ap (λ n. Err n) one;
  stops = λ ts m h. let count : length ts ≡ m = cc in record { before = []; left = ts; split = refl; count = count; begun = inl refl };
  some = λ e. absurd (let b : ⊥ = cc in b);
}

pub made : {A : Type 0} (y x : A × List Kind) → ◌≡◌ {A = Read A} (Ok y) (Ok x) → y ≡ x
made y x h = cc

-- nothing is taken
pub pure : {A : Type 0} (a : A) (high : ℕ) → Reads {A = A} (λ ts. Ok (a, ts)) (λ c p. (c ≡ a) × (p ≡ [])) (suc high) high true
pure {A} a high = record {
  opens = λ c p rest l lt. let up : suc high ≤ rank rest = omega arith in subst (λ q. suc high ≤ rank (q ++ rest)) (sym l.1) up;
  plain = λ c p l. subst NoEnd (sym l.1) tt;
  sound = λ ts x h. let e = made (a, ts) x h in ([], ap (λ z. z.1) e, (ap (λ z. z.0) (sym e), refl));
  complete = λ c p rest l lt. λ i. Ok (sym l.0 i, l.1 i ++ rest);
  keeps = λ p k v u c h.
      let e = made (a, p ++ k ∷ v) (c, k ∷ v) h in
      let ends = same_ends p (k ∷ v) [] (k ∷ v) (ap (λ z. z.1) e) refl in
      λ i. Ok (ap (λ z. z.0) e i, ends.0 i ++ (k ∷ u));
  fails = λ p k v u h. absurd (let b : ⊥ = cc in b);
  stops = λ ts m h. absurd (let b : ⊥ = cc in b);
  some = λ e. (a, [], (refl, refl));
}

-- what is taken from a token, and the token that it stands for, if it is such a one
pub record IsToken {A : Type 0} (g : Kind → Option A) (mk : A → Kind) (Of : A → Type 0) (low : ℕ) : Type 0 where
  pub makes : (x : A) → Of x → g (mk x) ≡ Some x
  pub is : (k : Kind) (x : A) → g k ≡ Some x → (k ≡ mk x) × Of x
  pub ranked : (x : A) → Of x → low ≤ kind_rank (mk x)
  pub inner : (x : A) → is_end (mk x) ≡ false
  pub one : (x : A) × Of x

-- one token
abbrev pub One : {A : Type 0} → (A → Kind) → (A → Type 0) → A → List Kind → Type 0
One mk Of x p = (p ≡ mk x ∷ []) × Of x

pub taken_as_ok : {A : Type 0} (o : Option A) (ts behind : List Kind) (x : A × List Kind) → taken_as o ts behind ≡ Ok x → (o ≡ Some x.0) × (behind ≡ x.1)
taken_as_ok (Some y) ts behind x h = let e = made (y, behind) x h in (ap (λ z. Some z.0) e, ap (λ z. z.1) e)
taken_as_ok None ts behind x h = absurd (let b : ⊥ = cc in b)

pub taken_as_err : {A : Type 0} (o : Option A) (ts behind : List Kind) (m : ℕ) → taken_as o ts behind ≡ Err m → (o ≡ None) × (length ts ≡ m)
taken_as_err (Some y) ts behind m h = absurd (let b : ⊥ = cc in b)
taken_as_err None ts behind m h = (refl, cc)

pub taken_ok : {A : Type 0} (g : Kind → Option A) (ts : List Kind) (x : A × List Kind) → taken g ts ≡ Ok x → (k : Kind) × (g k ≡ Some x.0) × (ts ≡ k ∷ x.1)
taken_ok g [] x h = absurd (let b : ⊥ = cc in b)
taken_ok g (k ∷ ts) x h = let w = taken_as_ok (g k) (k ∷ ts) ts x h in (k, w.0, ap (λ z. k ∷ z) w.1)

taken_keeps : {A : Type 0} (g : Kind → Option A) (p : List Kind) (k : Kind) (v u : List Kind) (a : A) → taken g (p ++ k ∷ v) ≡ Ok (a, k ∷ v) → taken g (p ++ k ∷ u) ≡ Ok (a, k ∷ u)
taken_keeps g [] k v u a h = let w = taken_as_ok (g k) (k ∷ v) v (a, k ∷ v) h in absurd (omega (arith, ap length w.1))
taken_keeps g (j ∷ p) k v u a h =
    let w = taken_as_ok (g j) (j ∷ (p ++ k ∷ v)) (p ++ k ∷ v) (a, k ∷ v) h in
    let ends = same_ends p (k ∷ v) [] (k ∷ v) w.1 refl in
    λ i. taken_as (w.0 i) (j ∷ (p ++ k ∷ u)) (ends.0 i ++ (k ∷ u))

taken_fails : {A : Type 0} (g : Kind → Option A) (p : List Kind) (k : Kind) (v u : List Kind) → taken g (p ++ k ∷ v) ≡ Err (suc (length v)) → taken g (p ++ k ∷ u) ≡ Err (suc (length u))
taken_fails g [] k v u h = let w = taken_as_err (g k) (k ∷ v) v (suc (length v)) h in ap (λ o. taken_as o (k ∷ u) u) w.0
taken_fails g (j ∷ p) k v u h =
    let w = taken_as_err (g j) (j ∷ (p ++ k ∷ v)) (p ++ k ∷ v) (suc (length v)) h in
    absurd (omega (arith, w.1, length-append p (k ∷ v)))

taken_stops : {A : Type 0} (g : Kind → Option A) (L : A → List Kind → Type 0) (ts : List Kind) (m : ℕ) → taken g ts ≡ Err m → StopsAt L ts m
taken_stops g L [] m h = let count : zero ≡ m = cc in record { before = []; left = []; split = refl; count = count; begun = inl refl }
taken_stops g L (k ∷ ts) m h =
    let w = taken_as_err (g k) (k ∷ ts) ts m h in record { before = []; left = k ∷ ts; split = refl; count = w.1; begun = inl refl }

-- one token
pub token : {A : Type 0} {g : Kind → Option A} {mk : A → Kind} {Of : A → Type 0} {low : ℕ} → IsToken g mk Of low → Reads (taken g) (One mk Of) low 0 true
token {A} {g} {mk} {Of} {low} t = record {
  opens = λ a p rest l lt. subst (λ q. low ≤ rank (q ++ rest)) (sym l.0) (t.ranked a l.1);
  plain = λ a p l. subst NoEnd (sym l.0) (t.inner a, tt);
  sound = λ ts x h.
      let w = taken_ok g ts x h in
      let k = t.is w.0 x.0 w.1 in
      (mk x.0 ∷ [], w.2 ∙ ap (λ z. z ∷ x.1) k.0, (refl, k.1));
  complete = λ a p rest l lt. ap (λ q. taken g (q ++ rest)) l.0 ∙ ap (λ o. taken_as o (mk a ∷ rest) rest) (t.makes a l.1);
  keeps = taken_keeps g;
  fails = taken_fails g;
  stops = taken_stops g (One mk Of);
  some = λ e. (t.one.0, mk t.one.0 ∷ [], (refl, t.one.1));
}

-- one phrase and then another
abbrev pub Then : {A B : Type 0} → (A → List Kind → Type 0) → (A → B → List Kind → Type 0) → B → List Kind → Type 0
Then {A} L M c w = (a : A) × (u : List Kind) × (v : List Kind) × (w ≡ u ++ v) × L a u × M a c v

module _ {A B : Type 0} (r : List Kind → Read A) (q : A → List Kind → Read B) (L : A → List Kind → Type 0) (M : A → B → List Kind → Type 0) (low mid above high : ℕ) (full : Bool) (P : Reads r L low mid full) (Q : (a : A) → Reads (q a) (M a) above high true) (lt : mid < above) where
  abbrev both : List Kind → Read B
  both ts = r ts >>= λ x. q x.0 x.1

  both_opens : (c : B) (w rest : List Kind) → Then L M c w → high < rank rest → low ≤ rank (w ++ rest)
  both_opens c w rest (a, u, v, e, l, m) h =
      let behind : above ≤ rank (v ++ rest) = (Q a).opens c v rest m h in
      let up : mid < rank (v ++ rest) = omega arith in
      subst (λ t. low ≤ rank t) (sym (ap (λ z. z ++ rest) e ∙ append_assoc u v rest)) (P.opens a u (v ++ rest) l up)

  both_plain : (c : B) (w : List Kind) → Then L M c w → NoEnd w
  both_plain c w (a, u, v, e, l, m) = subst NoEnd (sym e) (NoEnd-append u v (P.plain a u l) ((Q a).plain c v m))

  both_sound : (ts : List Kind) (x : B × List Kind) → both ts ≡ Ok x → (p : List Kind) × (ts ≡ p ++ x.1) × Then L M x.0 p
  both_sound ts x h =
      let b = bind_ok (r ts) (λ x. q x.0 x.1) x h in
      let s = P.sound ts b.0 b.1 in
      let t = (Q b.0.0).sound b.0.1 x b.2 in
      (s.0 ++ t.0, s.1 ∙ (ap (λ l. s.0 ++ l) t.1 ∙ sym (append_assoc s.0 t.0 x.1)), (b.0.0, s.0, t.0, refl, s.2, t.2))

  both_reads : (u v : List Kind) (a : A) (x : B × List Kind) → r (u ++ v) ≡ Ok (a, v) → q a v ≡ Ok x → both (u ++ v) ≡ Ok x
  both_reads u v a x first second = ap (λ z. z >>= λ x. q x.0 x.1) first ∙ second

  both_complete : (c : B) (w rest : List Kind) → Then L M c w → high < rank rest → both (w ++ rest) ≡ Ok (c, rest)
  both_complete c w rest (a, u, v, e, l, m) h =
      let behind : above ≤ rank (v ++ rest) = (Q a).opens c v rest m h in
      let up : mid < rank (v ++ rest) = omega arith in
      ap (λ z. both z) (ap (λ z. z ++ rest) e ∙ append_assoc u v rest)
      ∙ both_reads u (v ++ rest) a (c, rest) (P.complete a u (v ++ rest) l up) ((Q a).complete c v rest m h)

  -- the first is read in the same way, whatever stands behind a token further on
  first_keeps : (p s : List Kind) (k : Kind) (v u : List Kind) (a : A) → r (p ++ (s ++ k ∷ v)) ≡ Ok (a, s ++ k ∷ v) → r (p ++ (s ++ k ∷ u)) ≡ Ok (a, s ++ k ∷ u)
  first_keeps p [] k v u a h = P.keeps p k v u a h
  first_keeps p (j ∷ s) k v u a h = P.keeps p j (s ++ k ∷ v) (s ++ k ∷ u) a h

  moved : (p : List Kind) (ts : List Kind) (x : A × List Kind) (s : List Kind) (y : List Kind) → ts ≡ p ++ x.1 → x.1 ≡ s ++ y → r ts ≡ Ok x → r (p ++ (s ++ y)) ≡ Ok (x.0, s ++ y)
  moved p ts x s y e f h = ap r (ap (λ l. p ++ l) (sym f) ∙ sym e) ∙ h ∙ (λ i. Ok (x.0, f i))

  both_keeps : (p : List Kind) (k : Kind) (v u : List Kind) (c : B) → both (p ++ k ∷ v) ≡ Ok (c, k ∷ v) → both (p ++ k ∷ u) ≡ Ok (c, k ∷ u)
  both_keeps p k v u c h =
      let b = bind_ok (r (p ++ k ∷ v)) (λ x. q x.0 x.1) (c, k ∷ v) h in
      let s = P.sound (p ++ k ∷ v) b.0 b.1 in
      let t = (Q b.0.0).sound b.0.1 (c, k ∷ v) b.2 in
      let ends = same_ends p (k ∷ v) (s.0 ++ t.0) (k ∷ v) (s.1 ∙ (ap (λ l. s.0 ++ l) t.1 ∙ sym (append_assoc s.0 t.0 (k ∷ v)))) refl in
      let first = first_keeps s.0 t.0 k v u b.0.0 (moved s.0 (p ++ k ∷ v) b.0 t.0 (k ∷ v) s.1 t.1 b.1) in
      let second = (Q b.0.0).keeps t.0 k v u c (ap (q b.0.0) (sym t.1) ∙ b.2) in
      ap (λ z. both (z ++ k ∷ u)) ends.0
      ∙ (ap both (append_assoc s.0 t.0 (k ∷ u)) ∙ both_reads s.0 (t.0 ++ k ∷ u) b.0.0 (c, k ∷ u) first second)

  second_fails : (p : List Kind) (k : Kind) (v u : List Kind) (x : A × List Kind) → r (p ++ k ∷ v) ≡ Ok x → q x.0 x.1 ≡ Err (suc (length v)) → both (p ++ k ∷ u) ≡ Err (suc (length u))
  second_fails p k v u x g h =
      let s = P.sound (p ++ k ∷ v) x g in
      let t = (Q x.0).stops x.1 (suc (length v)) h in
      let ends = same_ends p (k ∷ v) (s.0 ++ t.before) t.left (s.1 ∙ (ap (λ l. s.0 ++ l) t.split ∙ sym (append_assoc s.0 t.before t.left))) (sym t.count) in
      let split : x.1 ≡ t.before ++ k ∷ v = t.split ∙ ap (λ l. t.before ++ l) (sym ends.1) in
      let first = first_keeps s.0 t.before k v u x.0 (moved s.0 (p ++ k ∷ v) x t.before (k ∷ v) s.1 split g) in
      let second = (Q x.0).fails t.before k v u (ap (q x.0) (sym split) ∙ h) in
      ap (λ z. both (z ++ k ∷ u)) ends.0
      ∙ (ap both (append_assoc s.0 t.before (k ∷ u))
      ∙ (ap (λ z. z >>= λ x. q x.0 x.1) first ∙ second))

  both_fails : (p : List Kind) (k : Kind) (v u : List Kind) → both (p ++ k ∷ v) ≡ Err (suc (length v)) → both (p ++ k ∷ u) ≡ Err (suc (length u))
  both_fails p k v u h = ⊎_elim
      (λ w. ap (λ z. z >>= λ x. q x.0 x.1) (P.fails p k v u w))
      (λ w. second_fails p k v u w.0 w.1 w.2)
      (bind_err (r (p ++ k ∷ v)) (λ x. q x.0 x.1) (suc (length v)) h)

  first_stops : (ts : List Kind) (m : ℕ) → StopsAt L ts m → StopsAt (Then L M) ts m
  first_stops ts m s = record {
    before = s.before;
    left = s.left;
    split = s.split;
    count = s.count;
    begun = ⊎_elim
        (λ w. inl w)
        (λ w. let o = (Q w.0).some refl in inr (o.0, w.1 ++ o.1, (w.0, s.before ++ w.1, o.1, sym (append_assoc s.before w.1 o.1), w.2, o.2)))
        s.begun;
  }

  second_begun : (a : A) (p before : List Kind) → L a p → (before ≡ []) ⊎ Begun (M a) before → Begun (Then L M) (p ++ before)
  second_begun a p before l (inl e) =
      let o = (Q a).some refl in
      (o.0, o.1, (a, p, o.1, ap (λ z. (p ++ z) ++ o.1) e ∙ ap (λ z. z ++ o.1) (append-nil p), l, o.2))
  second_begun a p before l (inr w) = (w.0, w.1, (a, p, before ++ w.1, append_assoc p before w.1, l, w.2))

  second_stops : (ts : List Kind) (m : ℕ) (x : A × List Kind) → r ts ≡ Ok x → StopsAt (M x.0) x.1 m → StopsAt (Then L M) ts m
  second_stops ts m x g t =
      let s = P.sound ts x g in record {
        before = s.0 ++ t.before;
        left = t.left;
        split = s.1 ∙ (ap (λ l. s.0 ++ l) t.split ∙ sym (append_assoc s.0 t.before t.left));
        count = t.count;
        begun = inr (second_begun x.0 s.0 t.before s.2 t.begun);
      }

  both_stops : (ts : List Kind) (m : ℕ) → both ts ≡ Err m → StopsAt (Then L M) ts m
  both_stops ts m h = ⊎_elim
      (λ w. first_stops ts m (P.stops ts m w))
      (λ w. second_stops ts m w.0 w.1 ((Q w.0.0).stops w.0.1 m w.2))
      (bind_err (r ts) (λ x. q x.0 x.1) m h)

  both_some : full ≡ true → (c : B) × (w : List Kind) × Then L M c w
  both_some f = let a = P.some f in let o = (Q a.0).some refl in (o.0, a.1 ++ o.1, (a.0, a.1, o.1, refl, a.2, o.2))

  both_laws : Reads both (Then L M) low high full
  both_laws = record { opens = both_opens; plain = both_plain; sound = both_sound; complete = both_complete; keeps = both_keeps; fails = both_fails; stops = both_stops; some = both_some }

-- one reading and then another, which may depend on what was read
pub seq : {A B : Type 0} {r : List Kind → Read A} {q : A → List Kind → Read B} {L : A → List Kind → Type 0} {M : A → B → List Kind → Type 0} {low mid above high : ℕ} {full : Bool} → Reads r L low mid full → ((a : A) → Reads (q a) (M a) above high true) → mid < above → Reads (λ ts. r ts >>= λ x. q x.0 x.1) (Then L M) low high full
seq {A} {B} {r} {q} {L} {M} {low} {mid} {above} {high} {full} P Q lt = both_laws r q L M low mid above high full P Q lt

-- phrases that begin with a token of this test
abbrev pub Starts : {A : Type 0} → (Kind → Bool) → (A → List Kind → Type 0) → Type 0
Starts {A} f L = (a : A) (p : List Kind) → L a p → (k : Kind) × (v : List Kind) × (p ≡ k ∷ v) × (f k ≡ true)

-- phrases that do not begin with a token of this test, nor does what follows them
abbrev pub Avoids : {A : Type 0} → (Kind → Bool) → (A → List Kind → Type 0) → ℕ → Type 0
Avoids {A} f L high = (a : A) (p rest : List Kind) → L a p → high < rank rest → next f (p ++ rest) ≡ false

-- the test looks at the next token alone
same_next : (f : Kind → Bool) (p : List Kind) (k : Kind) (v u : List Kind) → next f (p ++ k ∷ u) ≡ next f (p ++ k ∷ v)
same_next f [] k v u = refl
same_next f (j ∷ p) k v u = refl

or_some : {X : Type 0} (b c : Bool) → (b ≡ true → X) → (c ≡ true → X) → b || c ≡ true → X
or_some true c x y e = x refl
or_some false c x y e = y e

-- one phrase or another
abbrev pub Or : {A : Type 0} → (A → List Kind → Type 0) → (A → List Kind → Type 0) → A → List Kind → Type 0
Or L M a p = L a p ⊎ M a p

module _ {A : Type 0} (f : Kind → Bool) (r s : List Kind → Read A) (L M : A → List Kind → Type 0) (low high : ℕ) (b c : Bool) (P : Reads r L low high b) (Q : Reads s M low high c) (starts : Starts f L) (avoids : Avoids f M high) where
  abbrev either : List Kind → Read A
  either ts = cond (next f ts) (r ts) (s ts)

  left_taken : (a : A) (p rest : List Kind) → L a p → next f (p ++ rest) ≡ true
  left_taken a p rest l = let w = starts a p l in ap (λ z. next f (z ++ rest)) w.2 ∙ w.3

  either_opens : (a : A) (p rest : List Kind) → Or L M a p → high < rank rest → low ≤ rank (p ++ rest)
  either_opens a p rest (inl l) h = P.opens a p rest l h
  either_opens a p rest (inr m) h = Q.opens a p rest m h

  either_plain : (a : A) (p : List Kind) → Or L M a p → NoEnd p
  either_plain a p (inl l) = P.plain a p l
  either_plain a p (inr m) = Q.plain a p m

  either_sound : (ts : List Kind) (x : A × List Kind) → either ts ≡ Ok x → (p : List Kind) × (ts ≡ p ++ x.1) × Or L M x.0 p
  either_sound ts x h = ⊎_elim
      (λ w. let t = P.sound ts x w.1 in (t.0, t.1, inl t.2))
      (λ w. let t = Q.sound ts x w.1 in (t.0, t.1, inr t.2))
      (chosen (next f ts) (r ts) (s ts) (Ok x) h)

  either_complete : (a : A) (p rest : List Kind) → Or L M a p → high < rank rest → either (p ++ rest) ≡ Ok (a, rest)
  either_complete a p rest (inl l) h = ap (λ z. cond z (r (p ++ rest)) (s (p ++ rest))) (left_taken a p rest l) ∙ P.complete a p rest l h
  either_complete a p rest (inr m) h = ap (λ z. cond z (r (p ++ rest)) (s (p ++ rest))) (avoids a p rest m h) ∙ Q.complete a p rest m h

  either_keeps : (p : List Kind) (k : Kind) (v u : List Kind) (a : A) → either (p ++ k ∷ v) ≡ Ok (a, k ∷ v) → either (p ++ k ∷ u) ≡ Ok (a, k ∷ u)
  either_keeps p k v u a h = ⊎_elim
      (λ w. ap (λ z. cond z (r (p ++ k ∷ u)) (s (p ++ k ∷ u))) (same_next f p k v u ∙ w.0) ∙ P.keeps p k v u a w.1)
      (λ w. ap (λ z. cond z (r (p ++ k ∷ u)) (s (p ++ k ∷ u))) (same_next f p k v u ∙ w.0) ∙ Q.keeps p k v u a w.1)
      (chosen (next f (p ++ k ∷ v)) (r (p ++ k ∷ v)) (s (p ++ k ∷ v)) (Ok (a, k ∷ v)) h)

  either_fails : (p : List Kind) (k : Kind) (v u : List Kind) → either (p ++ k ∷ v) ≡ Err (suc (length v)) → either (p ++ k ∷ u) ≡ Err (suc (length u))
  either_fails p k v u h = ⊎_elim
      (λ w. ap (λ z. cond z (r (p ++ k ∷ u)) (s (p ++ k ∷ u))) (same_next f p k v u ∙ w.0) ∙ P.fails p k v u w.1)
      (λ w. ap (λ z. cond z (r (p ++ k ∷ u)) (s (p ++ k ∷ u))) (same_next f p k v u ∙ w.0) ∙ Q.fails p k v u w.1)
      (chosen (next f (p ++ k ∷ v)) (r (p ++ k ∷ v)) (s (p ++ k ∷ v)) (Err (suc (length v))) h)

  left_stops : (ts : List Kind) (m : ℕ) → StopsAt L ts m → StopsAt (Or L M) ts m
  left_stops ts m t = record { before = t.before; left = t.left; split = t.split; count = t.count; begun = ⊎_elim (λ w. inl w) (λ w. inr (w.0, w.1, inl w.2)) t.begun }

  right_stops : (ts : List Kind) (m : ℕ) → StopsAt M ts m → StopsAt (Or L M) ts m
  right_stops ts m t = record { before = t.before; left = t.left; split = t.split; count = t.count; begun = ⊎_elim (λ w. inl w) (λ w. inr (w.0, w.1, inr w.2)) t.begun }

  either_stops : (ts : List Kind) (m : ℕ) → either ts ≡ Err m → StopsAt (Or L M) ts m
  either_stops ts m h = ⊎_elim
      (λ w. left_stops ts m (P.stops ts m w.1))
      (λ w. right_stops ts m (Q.stops ts m w.1))
      (chosen (next f ts) (r ts) (s ts) (Err m) h)

  either_some : b || c ≡ true → (a : A) × (p : List Kind) × Or L M a p
  either_some e = or_some b c (λ z. let t = P.some z in (t.0, t.1, inl t.2)) (λ z. let t = Q.some z in (t.0, t.1, inr t.2)) e

  either_laws : Reads either (Or L M) low high (b || c)
  either_laws = record { opens = either_opens; plain = either_plain; sound = either_sound; complete = either_complete; keeps = either_keeps; fails = either_fails; stops = either_stops; some = either_some }

-- one reading if the next token passes the test, and another if it does not
pub alt : {A : Type 0} (f : Kind → Bool) {r s : List Kind → Read A} {L M : A → List Kind → Type 0} {low high : ℕ} {b c : Bool} → Reads r L low high b → Reads s M low high c → Starts f L → Avoids f M high → Reads (λ ts. cond (next f ts) (r ts) (s ts)) (Or L M) low high (b || c)
alt {A} f {r} {s} {L} {M} {low} {high} {b} {c} P Q starts avoids = either_laws f r s L M low high b c P Q starts avoids

-- what is read one level further in, and nothing if no level is left
pub inside : {I A : Type 0} (o : Option I) {r : I → List Kind → Read A} {L : A → List Kind → Type 0} {low high : ℕ} → ((i : I) → o ≡ Some i → Reads (r i) L low high true) → (o ≡ None → (a : A) (p : List Kind) → L a p → ⊥) → Reads (λ ts. within o ts (λ i. r i ts)) L low high false
inside None {r} {L} {low} {high} some none = nothing L low high (none refl)
inside (Some i) {r} {L} {low} {high} some none =
    let h = some i refl in
    record { opens = h.opens; plain = h.plain; sound = h.sound; complete = h.complete; keeps = h.keeps; fails = h.fails; stops = h.stops; some = λ e. absurd (let b : ⊥ = cc in b) }

-- any
abbrev pub Always : {A : Type 0} → A → Type 0
Always x = Unit {0}

-- one token and then more
abbrev pub After : {A B : Type 0} → (A → Kind) → (A → Type 0) → (A → B → List Kind → Type 0) → B → List Kind → Type 0
After {A} mk Of M c w = (x : A) × (v : List Kind) × (w ≡ mk x ∷ v) × Of x × M x c v

pub after : {A B : Type 0} {g : Kind → Option A} {mk : A → Kind} {Of : A → Type 0} {low : ℕ} {q : A → List Kind → Read B} {M : A → B → List Kind → Type 0} {above high : ℕ} → IsToken g mk Of low → ((x : A) → Reads (q x) (M x) above high true) → 0 < above → Reads (λ ts. taken g ts >>= λ x. q x.0 x.1) (After mk Of M) low high true
after {A} {B} {g} {mk} {Of} {low} {q} {M} {above} {high} t Q lt = said (After mk Of M) low high (seq (token t) Q lt) (omega arith) (omega arith)
    (λ c w h. (h.0, h.2, h.3 ∙ ap (λ z. z ++ h.2) h.4.0, h.4.1, h.5))
    (λ c w h. (h.0, mk h.0 ∷ [], h.1, h.2, (refl, h.3), h.4))

-- what a tree is made of
abbrev pub Of : {X A : Type 0} → (X → A) → (A → List Kind → Type 0) → A → List Kind → Type 0
Of {X} mk L a p = (x : X) × (a ≡ mk x) × L (mk x) p

-- phrases that begin with a token that does not pass the test
abbrev pub Misses : {A : Type 0} → (Kind → Bool) → (A → List Kind → Type 0) → Type 0
Misses {A} f L = (a : A) (p : List Kind) → L a p → (k : Kind) × (v : List Kind) × (p ≡ k ∷ v) × (f k ≡ false)

pub avoids : {A : Type 0} (f : Kind → Bool) (L : A → List Kind → Type 0) (high : ℕ) → Misses f L → Avoids f L high
avoids f L high h = λ a p rest l lt. let w = h a p l in ap (λ z. next f (z ++ rest)) w.2 ∙ w.3

pub misses_or : {A : Type 0} (f : Kind → Bool) (L M : A → List Kind → Type 0) → Misses f L → Misses f M → Misses f (Or L M)
misses_or f L M h g a p (inl l) = h a p l
misses_or f L M h g a p (inr m) = g a p m

-- what follows does not pass a test of tokens of a low rank
pub passed : (f : Kind → Bool) (high : ℕ) → ((k : Kind) → f k ≡ true → kind_rank k ≤ high) → (rest : List Kind) → high < rank rest → next f rest ≡ false
passed f high ranked [] lt = refl
passed f high ranked (k ∷ ts) lt = no_test (f k) refl
  where
    no_test : (b : Bool) → f k ≡ b → b ≡ false
    no_test true e = absurd (omega (arith, ranked k e))
    no_test false e = refl

pub avoids_nothing : {A : Type 0} (f : Kind → Bool) (c : A) (high : ℕ) → ((k : Kind) → f k ≡ true → kind_rank k ≤ high) → Avoids f (λ a p. (a ≡ c) × (p ≡ [])) high
avoids_nothing f c high ranked = λ a p rest l lt. ap (λ z. next f (z ++ rest)) l.1 ∙ passed f high ranked rest lt
