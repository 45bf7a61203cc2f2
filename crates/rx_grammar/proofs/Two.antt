-- A choice that looks at two tokens.
use Rattle.std.proofs.Common.{◌≡◌, ℕ, suc, ◌<◌, ◌≤◌, Bool, true, false, ◌&&◌, cond, inl, inr, ⊎_elim, Option, Some, None, Ok, Err, List, [], ◌∷◌, ◌++◌, length, refl, sym, ap, ◌∙◌, subst, length-append, arith}
use Rattle.rx_lex.specs.declared.token.Sign.{Sign}
use Rattle.rx_lex.specs.declared.token.Kind.{Kind}
use Rattle.rx_lex.specs.declared.token.Kind.TheVariants.{Mark}
use Rattle.rx_grammar.specs.Steps.{Read, ◌>>=◌, fault_at, next, is_mark, taken_as, where_true, within}
use Rattle.rx_grammar.specs.Reading.{sign_at, next_two}
use Rattle.rx_grammar.proofs.Readings.{rank, NoEnd, StopsAt, Reads, bind_ok, chosen}
use Rattle.rx_grammar.proofs.Combine.{token, Or, Starts}
use Rattle.rx_grammar.proofs.Many.{HasToken}
use Rattle.rx_grammar.proofs.Tokens.{mark, mark_self, sign_ranked, is_mark_is}

and_left : (b c : Bool) → b && c ≡ true → b ≡ true
and_left true c e = refl
and_left false c e = e

and_true : (b c : Bool) → b ≡ true → c ≡ true → b && c ≡ true
and_true b c e f = ap (λ z. z && c) e ∙ f

-- a phrase behind a sign
abbrev pub Behind : {A : Type 0} → Sign → (A → List Kind → Type 0) → A → List Kind → Type 0
Behind s E a p = (u : List Kind) × (p ≡ Mark s ∷ u) × E a u

module _ {A : Type 0} (s t : Sign) (r : List Kind → Read A) (E M : A → List Kind → Type 0) (high : ℕ) (Q : Reads r M 1 high true) (low : high < 11) (some : HasToken M) (starts : Starts (is_mark t) E) (avoids : (a : A) (p rest : List Kind) → M a p → high < rank rest → next_two s t (p ++ rest) ≡ false) where
  -- the test looks at no token behind the one at which reading stops
  same_two : (j : Kind) (p : List Kind) (k : Kind) (v u : List Kind) → next_two s t (j ∷ (p ++ k ∷ u)) ≡ next_two s t (j ∷ (p ++ k ∷ v))
  same_two j [] k v u = refl
  same_two j (i ∷ p) k v u = refl

  module _ (none : (a : A) (p : List Kind) → E a p → ⊥) (closed : (u : List Kind) → r (Mark s ∷ u) ≡ Err (suc (length u))) where
    abbrev shut : List Kind → Read A
    shut ts = cond (next_two s t ts) (fault_at ts) (r ts)

    shut_opens : (a : A) (p rest : List Kind) → Or (Behind s E) M a p → high < rank rest → 1 ≤ rank (p ++ rest)
    shut_opens a p rest (inl l) h = absurd (none a l.0 l.2)
    shut_opens a p rest (inr m) h = Q.opens a p rest m h

    shut_plain : (a : A) (p : List Kind) → Or (Behind s E) M a p → NoEnd p
    shut_plain a p (inl l) = absurd (none a l.0 l.2)
    shut_plain a p (inr m) = Q.plain a p m

    shut_sound : (ts : List Kind) (x : A × List Kind) → shut ts ≡ Ok x → (p : List Kind) × (ts ≡ p ++ x.1) × Or (Behind s E) M x.0 p
    shut_sound ts x h = ⊎_elim
        (λ w. absurd (let e = w.1 in let b : ⊥ = cc in b))
        (λ w. let q = Q.sound ts x w.1 in (q.0, q.1, inr q.2))
        (chosen (next_two s t ts) (fault_at ts) (r ts) (Ok x) h)

    shut_complete : (a : A) (p rest : List Kind) → Or (Behind s E) M a p → high < rank rest → shut (p ++ rest) ≡ Ok (a, rest)
    shut_complete a p rest (inl l) h = absurd (none a l.0 l.2)
    shut_complete a p rest (inr m) h = ap (λ z. cond z (fault_at (p ++ rest)) (r (p ++ rest))) (avoids a p rest m h) ∙ Q.complete a p rest m h

    shut_taken : (p : List Kind) (k : Kind) (v u : List Kind) (a : A) → r (p ++ k ∷ v) ≡ Ok (a, k ∷ v) → next_two s t (p ++ k ∷ v) ≡ false → shut (p ++ k ∷ u) ≡ Ok (a, k ∷ u)
    shut_taken [] k v u a h e = let q = Q.sound (k ∷ v) (a, k ∷ v) h in absurd (omega (arith, ap length q.1, length-append q.0 (k ∷ v), some a q.0 q.2))
    shut_taken (j ∷ p) k v u a h e =
        ap (λ z. cond z (fault_at (j ∷ (p ++ k ∷ u))) (r (j ∷ (p ++ k ∷ u)))) (same_two j p k v u ∙ e) ∙ Q.keeps (j ∷ p) k v u a h

    shut_keeps : (p : List Kind) (k : Kind) (v u : List Kind) (a : A) → shut (p ++ k ∷ v) ≡ Ok (a, k ∷ v) → shut (p ++ k ∷ u) ≡ Ok (a, k ∷ u)
    shut_keeps p k v u a h = ⊎_elim
        (λ w. absurd (let e = w.1 in let b : ⊥ = cc in b))
        (λ w. shut_taken p k v u a w.1 w.0)
        (chosen (next_two s t (p ++ k ∷ v)) (fault_at (p ++ k ∷ v)) (r (p ++ k ∷ v)) (Ok (a, k ∷ v)) h)

    -- at the first token both fail
    first_fails : (k : Kind) (u : List Kind) → r (k ∷ u) ≡ Err (suc (length u)) → shut (k ∷ u) ≡ Err (suc (length u))
    first_fails k u h = by_test (next_two s t (k ∷ u))
      where
        by_test : (b : Bool) → cond b (fault_at (k ∷ u)) (r (k ∷ u)) ≡ Err (suc (length u))
        by_test true = refl
        by_test false = h

    shut_fails : (p : List Kind) (k : Kind) (v u : List Kind) → shut (p ++ k ∷ v) ≡ Err (suc (length v)) → shut (p ++ k ∷ u) ≡ Err (suc (length u))
    shut_fails [] k v u h = ⊎_elim
        (λ w. let is = is_mark_is s k (and_left (is_mark s k) (next (is_mark t) v) w.0) in first_fails k u (ap (λ z. r (z ∷ u)) is ∙ closed u))
        (λ w. first_fails k u (Q.fails [] k v u w.1))
        (chosen (next_two s t (k ∷ v)) (fault_at (k ∷ v)) (r (k ∷ v)) (Err (suc (length v))) h)
    shut_fails (j ∷ p) k v u h = ⊎_elim
        (λ w.
        let e : suc (length (p ++ k ∷ v)) ≡ suc (length v) = let g = w.1 in cc in
        absurd (omega (arith, e, length-append p (k ∷ v))))
        (λ w. ap (λ z. cond z (fault_at (j ∷ (p ++ k ∷ u))) (r (j ∷ (p ++ k ∷ u)))) (same_two j p k v u ∙ w.0) ∙ Q.fails (j ∷ p) k v u w.1)
        (chosen (next_two s t (j ∷ (p ++ k ∷ v))) (fault_at (j ∷ (p ++ k ∷ v))) (r (j ∷ (p ++ k ∷ v))) (Err (suc (length v))) h)

    shut_stops : (ts : List Kind) (m : ℕ) → shut ts ≡ Err m → StopsAt (Or (Behind s E) M) ts m
    shut_stops ts m h = ⊎_elim
        (λ w. let count : length ts ≡ m = let e = w.1 in cc in record { before = []; left = ts; split = refl; count = count; begun = inl refl })
        (λ w. let q = Q.stops ts m w.1 in record { before = q.before; left = q.left; split = q.split; count = q.count; begun = ⊎_elim (λ z. inl z) (λ z. inr (z.0, z.1, inr z.2)) q.begun })
        (chosen (next_two s t ts) (fault_at ts) (r ts) (Err m) h)

    shut_laws : Reads shut (Or (Behind s E) M) 1 high true
    shut_laws = record { opens = shut_opens; plain = shut_plain; sound = shut_sound; complete = shut_complete; keeps = shut_keeps; fails = shut_fails; stops = shut_stops; some = λ e. let q = Q.some refl in (q.0, q.1, inr q.2) }

  module _ (e : List Kind → Read A) (first : ℕ) (P : Reads e E first 0 false) (begun : (a : A) × (q : List Kind) × M a (Mark s ∷ q)) where
    abbrev behind : List Kind → Read A
    behind ts = sign_at s ts >>= λ p. e p.1

    abbrev open_ : List Kind → Read A
    open_ ts = cond (next_two s t ts) (behind ts) (r ts)

    behind_is : (k : Kind) (w : List Kind) → is_mark s k ≡ true → behind (k ∷ w) ≡ e w
    behind_is k w h = ap (λ b. taken_as (where_true b) (k ∷ w) w >>= λ p. e p.1) h

    first_is : (k : Kind) (w : List Kind) → next_two s t (k ∷ w) ≡ true → is_mark s k ≡ true
    first_is k w h = and_left (is_mark s k) (next (is_mark t) w) h

    open_opens : (a : A) (p rest : List Kind) → Or (Behind s E) M a p → high < rank rest → 1 ≤ rank (p ++ rest)
    open_opens a p rest (inl l) h = subst (λ z. 1 ≤ rank (z ++ rest)) (sym l.1) (sign_ranked s)
    open_opens a p rest (inr m) h = Q.opens a p rest m h

    open_plain : (a : A) (p : List Kind) → Or (Behind s E) M a p → NoEnd p
    open_plain a p (inl l) = subst NoEnd (sym l.1) (refl, P.plain a l.0 l.2)
    open_plain a p (inr m) = Q.plain a p m

    behind_sound : (ts : List Kind) (x : A × List Kind) → behind ts ≡ Ok x → (p : List Kind) × (ts ≡ p ++ x.1) × Behind s E x.0 p
    behind_sound ts x h =
        let b = bind_ok (sign_at s ts) (λ p. e p.1) x h in
        let c = (token (mark s)).sound ts b.0 b.1 in
        let d = P.sound b.0.1 x b.2 in
        (Mark s ∷ d.0, c.1 ∙ (ap (λ z. z ++ b.0.1) c.2.0 ∙ ap (λ z. Mark s ∷ z) d.1), (d.0, refl, d.2))

    open_sound : (ts : List Kind) (x : A × List Kind) → open_ ts ≡ Ok x → (p : List Kind) × (ts ≡ p ++ x.1) × Or (Behind s E) M x.0 p
    open_sound ts x h = ⊎_elim
        (λ w. let q = behind_sound ts x w.1 in (q.0, q.1, inl q.2))
        (λ w. let q = Q.sound ts x w.1 in (q.0, q.1, inr q.2))
        (chosen (next_two s t ts) (behind ts) (r ts) (Ok x) h)

    both_next : (a : A) (u rest : List Kind) → E a u → next_two s t (Mark s ∷ (u ++ rest)) ≡ true
    both_next a u rest l =
        let w = starts a u l in
        and_true (is_mark s (Mark s)) (next (is_mark t) (u ++ rest)) (mark_self s) (ap (λ z. next (is_mark t) (z ++ rest)) w.2 ∙ w.3)

    open_complete : (a : A) (p rest : List Kind) → Or (Behind s E) M a p → high < rank rest → open_ (p ++ rest) ≡ Ok (a, rest)
    open_complete a p rest (inl (u, g, l)) h =
        ap (λ z. open_ (z ++ rest)) g
        ∙ (ap (λ z. cond z (behind (Mark s ∷ (u ++ rest))) (r (Mark s ∷ (u ++ rest)))) (both_next a u rest l)
        ∙ (behind_is (Mark s) (u ++ rest) (mark_self s) ∙ P.complete a u rest l (omega arith)))
    open_complete a p rest (inr m) h = ap (λ z. cond z (behind (p ++ rest)) (r (p ++ rest))) (avoids a p rest m h) ∙ Q.complete a p rest m h

    open_keeps : (p : List Kind) (k : Kind) (v u : List Kind) (a : A) → open_ (p ++ k ∷ v) ≡ Ok (a, k ∷ v) → open_ (p ++ k ∷ u) ≡ Ok (a, k ∷ u)
    open_keeps [] k v u a h =
        let q = open_sound (k ∷ v) (a, k ∷ v) h in
        let has : 0 < length q.0 = ⊎_elim (λ l. omega (arith, ap length l.1)) (λ m. some a q.0 m) q.2 in
        absurd (omega (arith, ap length q.1, length-append q.0 (k ∷ v)))
    open_keeps (j ∷ p) k v u a h = ⊎_elim
        (λ w.
        let is = first_is j (p ++ k ∷ v) w.0 in
        ap (λ z. cond z (behind (j ∷ (p ++ k ∷ u))) (r (j ∷ (p ++ k ∷ u)))) (same_two j p k v u ∙ w.0)
        ∙ (behind_is j (p ++ k ∷ u) is ∙ P.keeps p k v u a (sym (behind_is j (p ++ k ∷ v) is) ∙ w.1)))
        (λ w. ap (λ z. cond z (behind (j ∷ (p ++ k ∷ u))) (r (j ∷ (p ++ k ∷ u)))) (same_two j p k v u ∙ w.0) ∙ Q.keeps (j ∷ p) k v u a w.1)
        (chosen (next_two s t (j ∷ (p ++ k ∷ v))) (behind (j ∷ (p ++ k ∷ v))) (r (j ∷ (p ++ k ∷ v))) (Ok (a, k ∷ v)) h)

    -- at the sign itself nothing fails
    no_first_fault : (v : List Kind) → r (Mark s ∷ v) ≡ Err (suc (length v)) → ⊥
    no_first_fault v h =
        let fault = Q.fails [] (Mark s) v (begun.1 ++ []) h in
        let found = Q.complete begun.0 (Mark s ∷ begun.1) [] begun.2 low in
        let both = sym fault ∙ found in
        let b : ⊥ = cc in b

    first_open_fails : (k : Kind) (v u : List Kind) → r (k ∷ v) ≡ Err (suc (length v)) → open_ (k ∷ u) ≡ Err (suc (length u))
    first_open_fails k v u h = by_test (next_two s t (k ∷ u)) refl
      where
        by_test : (b : Bool) → next_two s t (k ∷ u) ≡ b → cond b (behind (k ∷ u)) (r (k ∷ u)) ≡ Err (suc (length u))
        by_test true g = absurd (no_first_fault v (ap (λ z. r (z ∷ v)) (sym (is_mark_is s k (first_is k u g))) ∙ h))
        by_test false g = Q.fails [] k v u h

    open_fails : (p : List Kind) (k : Kind) (v u : List Kind) → open_ (p ++ k ∷ v) ≡ Err (suc (length v)) → open_ (p ++ k ∷ u) ≡ Err (suc (length u))
    open_fails [] k v u h = ⊎_elim
        (λ w.
        let q = P.stops v (suc (length v)) (sym (behind_is k v (first_is k v w.0)) ∙ w.1) in
        absurd (omega (arith, q.count, ap length q.split, length-append q.before q.left)))
        (λ w. first_open_fails k v u w.1)
        (chosen (next_two s t (k ∷ v)) (behind (k ∷ v)) (r (k ∷ v)) (Err (suc (length v))) h)
    open_fails (j ∷ p) k v u h = ⊎_elim
        (λ w.
        let is = first_is j (p ++ k ∷ v) w.0 in
        ap (λ z. cond z (behind (j ∷ (p ++ k ∷ u))) (r (j ∷ (p ++ k ∷ u)))) (same_two j p k v u ∙ w.0)
        ∙ (behind_is j (p ++ k ∷ u) is ∙ P.fails p k v u (sym (behind_is j (p ++ k ∷ v) is) ∙ w.1)))
        (λ w. ap (λ z. cond z (behind (j ∷ (p ++ k ∷ u))) (r (j ∷ (p ++ k ∷ u)))) (same_two j p k v u ∙ w.0) ∙ Q.fails (j ∷ p) k v u w.1)
        (chosen (next_two s t (j ∷ (p ++ k ∷ v))) (behind (j ∷ (p ++ k ∷ v))) (r (j ∷ (p ++ k ∷ v))) (Err (suc (length v))) h)

    behind_stops : (k : Kind) (w : List Kind) (m : ℕ) → is_mark s k ≡ true → e w ≡ Err m → StopsAt (Or (Behind s E) M) (k ∷ w) m
    behind_stops k w m is h =
        let q = P.stops w m h in
        let same = is_mark_is s k is in
        record {
          before = k ∷ q.before;
          left = q.left;
          split = ap (λ z. k ∷ z) q.split;
          count = q.count;
          begun = inr (⊎_elim
              (λ z. (begun.0, begun.1, inr (subst (M begun.0) ((λ i. sym same i ∷ begun.1) ∙ ap (λ y. k ∷ (y ++ begun.1)) (sym z)) begun.2)))
              (λ z. (z.0, z.1, inl (q.before ++ z.1, ap (λ y. y ∷ (q.before ++ z.1)) same, z.2)))
              q.begun);
        }

    open_stops : (ts : List Kind) (m : ℕ) → open_ ts ≡ Err m → StopsAt (Or (Behind s E) M) ts m
    open_stops [] m h =
        let q = Q.stops [] m h in record { before = q.before; left = q.left; split = q.split; count = q.count; begun = ⊎_elim (λ z. inl z) (λ z. inr (z.0, z.1, inr z.2)) q.begun }
    open_stops (k ∷ w) m h = ⊎_elim
        (λ g. let is = first_is k w g.0 in behind_stops k w m is (sym (behind_is k w is) ∙ g.1))
        (λ g. let q = Q.stops (k ∷ w) m g.1 in record { before = q.before; left = q.left; split = q.split; count = q.count; begun = ⊎_elim (λ z. inl z) (λ z. inr (z.0, z.1, inr z.2)) q.begun })
        (chosen (next_two s t (k ∷ w)) (behind (k ∷ w)) (r (k ∷ w)) (Err m) h)

    open_laws : Reads open_ (Or (Behind s E) M) 1 high true
    open_laws = record { opens = open_opens; plain = open_plain; sound = open_sound; complete = open_complete; keeps = open_keeps; fails = open_fails; stops = open_stops; some = λ z. let q = Q.some refl in (q.0, q.1, inr q.2) }

-- a reading behind a sign if two signs stand next, one level further in, and another if they do not
pub two : {I A : Type 0} (o : Option I) (s t : Sign) {e : I → List Kind → Read A} {r : List Kind → Read A} {E M : A → List Kind → Type 0} {high first : ℕ} → Reads r M 1 high true → high < 11 → HasToken M → Starts (is_mark t) E → ((a : A) (p rest : List Kind) → M a p → high < rank rest → next_two s t (p ++ rest) ≡ false) → ((i : I) → o ≡ Some i → Reads (e i) E first 0 false × ((a : A) × (q : List Kind) × M a (Mark s ∷ q))) → (o ≡ None → ((a : A) (p : List Kind) → E a p → ⊥) × ((u : List Kind) → r (Mark s ∷ u) ≡ Err (suc (length u)))) → Reads (λ ts. cond (next_two s t ts) (within o ts (λ i. sign_at s ts >>= λ p. e i p.1)) (r ts)) (Or (Behind s E) M) 1 high true
two None s t {e} {r} {E} {M} {high} {first} Q low some starts avoids at none = shut_laws s t r E M high Q low some starts avoids (none refl).0 (none refl).1
two (Some i) s t {e} {r} {E} {M} {high} {first} Q low some starts avoids at none = open_laws s t r E M high Q low some starts avoids (e i) first (at i refl).0 (at i refl).1
