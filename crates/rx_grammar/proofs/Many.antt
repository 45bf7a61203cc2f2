-- The laws of loops.
use Rattle.std.proofs.Common.{◌≡◌, ℕ, zero, suc, ◌+◌, ◌<◌, ◌≤◌, Bool, true, false, cond, inl, inr, ⊎_elim, Option, Some, None, Ok, Err, List, [], ◌∷◌, ◌++◌, length, refl, sym, ap, ◌∙◌, subst, append-nil, length-append, arith}
use Rattle.rx_lex.specs.declared.token.Kind.{Kind}
use Rattle.rx_grammar.specs.Steps.{Read, ◌>>=◌, next, many, all_of, until_with, until, until_end}
use Rattle.rx_grammar.proofs.Readings.{kind_rank, rank, Reads, said}
use Rattle.rx_grammar.proofs.Combine.{pure, seq, alt, Then, Or, Starts}

-- phrases in a row
abbrev pub Row : {A : Type 0} → (A → List Kind → Type 0) → List A → List Kind → Type 0
Row L [] p = p ≡ []
Row L (a ∷ as') p = (u : List Kind) × (v : List Kind) × (p ≡ u ++ v) × L a u × Row L as' v

-- each phrase has a token
abbrev pub HasToken : {A : Type 0} → (A → List Kind → Type 0) → Type 0
HasToken {A} L = (a : A) (p : List Kind) → L a p → 0 < length p

pub row_length : {A : Type 0} (L : A → List Kind → Type 0) → HasToken L → (xs : List A) (p : List Kind) → Row L xs p → length xs ≤ length p
row_length L some [] p h = omega arith
row_length L some (a ∷ xs) p (u, v, e, l, h) = omega (arith, ap length e, length-append u v, some a u l, row_length L some xs v h)

pub starts_some : {A : Type 0} (f : Kind → Bool) (L : A → List Kind → Type 0) → Starts f L → HasToken L
starts_some f L starts a p l = let w = starts a p l in omega (arith, ap length w.2)

-- a phrase is taken from the front
pub shrinks : {A : Type 0} {r : List Kind → Read A} {L : A → List Kind → Type 0} {low high : ℕ} {full : Bool} → Reads r L low high full → HasToken L → (ts : List Kind) (x : A × List Kind) → r ts ≡ Ok x → length x.1 < length ts
shrinks h some ts x e = let s = h.sound ts x e in omega (arith, ap length s.1, length-append s.0 x.1, some x.0 s.0 s.2)

-- what is read behind a step is the same if it is the same behind each that the step can take
pub bind_same : {A B : Type 0} (r : Read A) (f g : A × List Kind → Read B) → ((x : A × List Kind) → r ≡ Ok x → f x ≡ g x) → (r >>= f) ≡ (r >>= g)
bind_same (Ok x) f g h = h x refl
bind_same (Err e) f g h = refl

module _ {A : Type 0} (f : Kind → Bool) (item : List Kind → Read A) (L : A → List Kind → Type 0) (low first mid high : ℕ) (P : Reads item L first mid true) (starts : Starts f L) (apart : mid < low) (below : low ≤ first) (under : mid ≤ high) (near : low ≤ suc high) (ranked : (k : Kind) → f k ≡ true → kind_rank k ≤ high) where
  abbrev Few : ℕ → List A → List Kind → Type 0
  Few n xs p = (length xs ≤ n) × Row L xs p

  abbrev go_on : ℕ → List Kind → Read (List A)
  go_on n ts = item ts >>= λ x. many f item n x.1 >>= λ y. Ok (x.0 ∷ y.0, y.1)

  at_end : (ts : List Kind) → high < rank ts → next f ts ≡ false
  at_end [] h = refl
  at_end (k ∷ ts) h = no_test (f k) refl
    where
      no_test : (b : Bool) → f k ≡ b → b ≡ false
      no_test true e = absurd (omega (arith, ranked k e))
      no_test false e = refl

  turn_to : (n : ℕ) (xs : List A) (p : List Kind) → Or (Then L (λ a. Then (Few n) (λ ys c q. (c ≡ a ∷ ys) × (q ≡ [])))) (λ c q. (c ≡ []) × (q ≡ [])) xs p → Few (suc n) xs p
  turn_to n xs p (inl (a, u, v, e, l, (ys, s, t, g, few, (made, nil)))) =
      let same : v ≡ s = g ∙ (ap (λ z. s ++ z) nil ∙ append-nil s) in
      subst (λ z. Few (suc n) z p) (sym made) (omega (arith, few.0), (u, v, e, l, subst (Row L ys) (sym same) few.1))
  turn_to n xs p (inr (made, nil)) = subst (λ z. Few (suc n) z p) (sym made) (omega arith, nil)

  turn_back : (n : ℕ) (xs : List A) (p : List Kind) → Few (suc n) xs p → Or (Then L (λ a. Then (Few n) (λ ys c q. (c ≡ a ∷ ys) × (q ≡ [])))) (λ c q. (c ≡ []) × (q ≡ [])) xs p
  turn_back n [] p (le, e) = inr (refl, e)
  turn_back n (a ∷ xs) p (le, (u, v, e, l, h)) = inl (a, u, v, e, l, (xs, v, [], sym (append-nil v), (omega arith, h), (refl, refl)))

  first_turn : (n : ℕ) (xs : List A) (p : List Kind) → Then L (λ a. Then (Few n) (λ ys c q. (c ≡ a ∷ ys) × (q ≡ []))) xs p → (k : Kind) × (v : List Kind) × (p ≡ k ∷ v) × (f k ≡ true)
  first_turn n xs p (a, u, v, e, l, m) = let w = starts a u l in (w.0, w.1 ++ v, e ∙ ap (λ z. z ++ v) w.2, w.3)

  few_reads : (n : ℕ) → Reads (many f item n) (Few n) low high true
  few_reads zero = said (Few zero) low high (pure [] high) (omega arith) (omega arith)
      (λ xs p l. subst (λ z. Few zero z p) (sym l.0) (omega arith, l.1)) none
    where
      none : (xs : List A) (p : List Kind) → Few zero xs p → (xs ≡ []) × (p ≡ [])
      none [] p h = (refl, h.1)
      none (a ∷ xs) p h = absurd (omega (arith, h.0))
  few_reads (suc n) =
      let others = λ (a : A). said (Then (Few n) (λ ys c q. (c ≡ a ∷ ys) × (q ≡ []))) low high (seq (few_reads n) (λ ys. pure (a ∷ ys) high) (omega arith)) (omega arith) (omega arith) (λ c q h. h) (λ c q h. h) in
      let more = said (Then L (λ a. Then (Few n) (λ ys c q. (c ≡ a ∷ ys) × (q ≡ [])))) low high (seq P others apart) below (omega arith) (λ c q h. h) (λ c q h. h) in
      let stop = said (λ c q. (c ≡ []) × (q ≡ [])) low high (pure {A = List A} [] high) near (omega arith) (λ c q h. h) (λ c q h. h) in
      let avoids = λ (c : List A) (q rest : List Kind) (h : (c ≡ []) × (q ≡ [])) (lt : high < rank rest). ap (λ z. next f (z ++ rest)) h.1 ∙ at_end rest lt in
      said (Few (suc n)) low high (alt f more stop (first_turn n) avoids) (omega arith) (omega arith) (turn_to n) (turn_back n)

  less : (ts : List Kind) (x : A × List Kind) → item ts ≡ Ok x → length x.1 < length ts
  less = shrinks P (starts_some f L starts)

  -- more turns than tokens are left make no difference
  enough : (n m : ℕ) (ts : List Kind) → length ts ≤ n → length ts ≤ m → many f item n ts ≡ many f item m ts
  enough zero zero ts hn hm = refl
  enough zero (suc m) [] hn hm = refl
  enough zero (suc m) (t ∷ ts) hn hm = absurd (omega arith)
  enough (suc n) zero [] hn hm = refl
  enough (suc n) zero (t ∷ ts) hn hm = absurd (omega arith)
  enough (suc n) (suc m) ts hn hm =
      ap (λ z. cond (next f ts) z (Ok ([], ts)))
      (bind_same (item ts) (λ x. many f item n x.1 >>= λ y. Ok (x.0 ∷ y.0, y.1)) (λ x. many f item m x.1 >>= λ y. Ok (x.0 ∷ y.0, y.1))
      (λ x e. let fewer = less ts x e in ap (λ z. z >>= λ y. Ok (x.0 ∷ y.0, y.1)) (enough n m x.1 (omega arith) (omega arith))))

  -- one turn
  pub all_turn : (ts : List Kind) → all_of f item ts ≡ cond (next f ts) (item ts >>= λ x. all_of f item x.1 >>= λ y. Ok (x.0 ∷ y.0, y.1)) (Ok ([], ts))
  all_turn [] = refl
  all_turn (t ∷ ts) =
      ap (λ z. cond (f t) z (Ok ([], t ∷ ts)))
      (bind_same (item (t ∷ ts)) (λ x. many f item (length ts) x.1 >>= λ y. Ok (x.0 ∷ y.0, y.1)) (λ x. many f item (length x.1) x.1 >>= λ y. Ok (x.0 ∷ y.0, y.1))
      (λ x e. let fewer = less (t ∷ ts) x e in ap (λ z. z >>= λ y. Ok (x.0 ∷ y.0, y.1)) (enough (length ts) (length x.1) x.1 (omega arith) (omega arith))))

  pub all_laws : Reads (all_of f item) (Row L) low high true
  all_laws = record {
    opens = λ xs p rest h lt. (few_reads (length xs)).opens xs p rest (omega arith, h) lt;
    plain = λ xs p h. (few_reads (length xs)).plain xs p (omega arith, h);
    sound = λ ts x h. let s = (few_reads (length ts)).sound ts x h in (s.0, s.1, s.2.1);
    complete = λ xs p rest h lt.
        let few = row_length L (starts_some f L starts) xs p h in
        (few_reads (length (p ++ rest))).complete xs p rest (omega (arith, length-append p rest), h) lt;
    keeps = λ p k v u xs h.
        let n = length (p ++ k ∷ v) + length (p ++ k ∷ u) in
        enough (length (p ++ k ∷ u)) n (p ++ k ∷ u) (omega arith) (omega arith)
        ∙ (few_reads n).keeps p k v u xs (sym (enough (length (p ++ k ∷ v)) n (p ++ k ∷ v) (omega arith) (omega arith)) ∙ h);
    fails = λ p k v u h.
        let n = length (p ++ k ∷ v) + length (p ++ k ∷ u) in
        enough (length (p ++ k ∷ u)) n (p ++ k ∷ u) (omega arith) (omega arith)
        ∙ (few_reads n).fails p k v u (sym (enough (length (p ++ k ∷ v)) n (p ++ k ∷ v) (omega arith) (omega arith)) ∙ h);
    stops = λ ts m h.
        let s = (few_reads (length ts)).stops ts m h in
        record { before = s.before; left = s.left; split = s.split; count = s.count; begun = ⊎_elim (λ w. inl w) (λ w. inr (w.0, w.1, w.2.1)) s.begun };
    some = λ e. ([], [], refl);
  }

-- all items of a loop: `low` lies above the tokens that go on with an item, and `high` is at least the rank of those that begin one
pub row : {A : Type 0} (f : Kind → Bool) {item : List Kind → Read A} {L : A → List Kind → Type 0} (low high : ℕ) {first mid : ℕ} → Reads item L first mid true → Starts f L → mid < low → low ≤ first → mid ≤ high → low ≤ suc high → ((k : Kind) → f k ≡ true → kind_rank k ≤ high) → Reads (all_of f item) (Row L) low high true
row f {item} {L} low high {first} {mid} P starts apart below under near ranked = all_laws f item L low first mid high P starts apart below under near ranked

-- how a loop turns, and that each turn takes a token
pub record Loop {A : Type 0} (f : Kind → Bool) (item : List Kind → Read A) : Type 0 where
  pub turn : (ts : List Kind) → all_of f item ts ≡ cond (next f ts) (item ts >>= λ x. all_of f item x.1 >>= λ y. Ok (x.0 ∷ y.0, y.1)) (Ok ([], ts))
  pub less : (ts : List Kind) (x : A × List Kind) → item ts ≡ Ok x → length x.1 < length ts

pub loop : {A : Type 0} (f : Kind → Bool) {item : List Kind → Read A} {L : A → List Kind → Type 0} (low high : ℕ) {first mid : ℕ} → Reads item L first mid true → Starts f L → mid < low → low ≤ first → mid ≤ high → low ≤ suc high → ((k : Kind) → f k ≡ true → kind_rank k ≤ high) → Loop f item
loop f {item} {L} low high {first} {mid} P starts apart below under near ranked = record {
  turn = all_turn f item L low first mid high P starts apart below under near ranked;
  less = shrinks P (starts_some f L starts);
}

-- what a step reads: an item, or the end
abbrev pub Step : {A : Type 0} → (A → List Kind → Type 0) → (List Kind → Type 0) → Option A → List Kind → Type 0
Step L E None p = E p
Step L E (Some a) p = L a p

-- phrases in a row up to and with an end
abbrev pub RowTo : {A : Type 0} → (A → List Kind → Type 0) → (List Kind → Type 0) → List A → List Kind → Type 0
RowTo L E [] p = E p
RowTo L E (a ∷ xs) p = (u : List Kind) × (v : List Kind) × (p ≡ u ++ v) × L a u × RowTo L E xs v

pub rowto_length : {A : Type 0} (L : A → List Kind → Type 0) (E : List Kind → Type 0) → HasToken L → (xs : List A) (p : List Kind) → RowTo L E xs p → length xs ≤ length p
rowto_length L E some [] p h = omega arith
rowto_length L E some (a ∷ xs) p (u, v, e, l, h) = omega (arith, ap length e, length-append u v, some a u l, rowto_length L E some xs v h)

module _ {A : Type 0} (step : List Kind → Read (Option A)) (end : List Kind → Read (Unit {0})) (L : A → List Kind → Type 0) (E : List Kind → Type 0) (P : Reads step (Step L E) 1 0 true) (Q : Reads end (λ u p. E p) 1 0 true) (some : HasToken L) where
  abbrev FewTo : ℕ → List A → List Kind → Type 0
  FewTo n xs p = (length xs ≤ n) × RowTo L E xs p

  -- behind a step
  abbrev Behind : ℕ → Option A → List A → List Kind → Type 0
  Behind n None xs q = (xs ≡ []) × (q ≡ [])
  Behind n (Some a) xs q = Then (FewTo n) (λ ys c q. (c ≡ a ∷ ys) × (q ≡ [])) xs q

  behind_reads : (n : ℕ) → Reads (until step end n) (FewTo n) 1 0 true → (o : Option A) → Reads (λ ts. until_with o ts (until step end n)) (Behind n o) 1 0 true
  behind_reads n h None = said (Behind n None) 1 0 (pure [] 0) (omega arith) (omega arith) (λ c q h. h) (λ c q h. h)
  behind_reads n h (Some a) = said (Behind n (Some a)) 1 0 (seq h (λ ys. pure (a ∷ ys) 0) (omega arith)) (omega arith) (omega arith) (λ c q h. h) (λ c q h. h)

  to : (n : ℕ) (xs : List A) (p : List Kind) → Then (Step L E) (Behind n) xs p → FewTo (suc n) xs p
  to n xs p (None, u, v, e, l, (made, nil)) =
      let same : p ≡ u = e ∙ (ap (λ z. u ++ z) nil ∙ append-nil u) in
      subst (λ z. FewTo (suc n) z p) (sym made) (omega arith, subst E (sym same) l)
  to n xs p (Some a, u, v, e, l, (ys, s, t, g, few, (made, nil))) =
      let same : v ≡ s = g ∙ (ap (λ z. s ++ z) nil ∙ append-nil s) in
      subst (λ z. FewTo (suc n) z p) (sym made) (omega (arith, few.0), (u, v, e, l, subst (RowTo L E ys) (sym same) few.1))

  back : (n : ℕ) (xs : List A) (p : List Kind) → FewTo (suc n) xs p → Then (Step L E) (Behind n) xs p
  back n [] p (le, e) = (None, p, [], sym (append-nil p), e, (refl, refl))
  back n (a ∷ xs) p (le, (u, v, e, l, h)) = (Some a, u, v, e, l, (xs, v, [], sym (append-nil v), (omega arith, h), (refl, refl)))

  -- the end alone
  abbrev EndAlone : List A → List Kind → Type 0
  EndAlone = Then {A = Unit {0}} {B = List A} (λ u p. E p) (λ u c q. (c ≡ []) × (q ≡ []))

  end_down : (xs : List A) (p : List Kind) → EndAlone xs p → FewTo zero xs p
  end_down xs p (a, u, v, e, l, (made, nil)) =
      let same : p ≡ u = e ∙ (ap (λ z. u ++ z) nil ∙ append-nil u) in
      subst (λ z. FewTo zero z p) (sym made) (omega arith, subst E (sym same) l)

  end_up : (xs : List A) (p : List Kind) → FewTo zero xs p → EndAlone xs p
  end_up [] p h = (tt, p, [], sym (append-nil p), h.1, (refl, refl))
  end_up (a ∷ xs) p h = absurd (omega (arith, h.0))

  fewto_reads : (n : ℕ) → Reads (until step end n) (FewTo n) 1 0 true
  fewto_reads zero = said (FewTo zero) 1 0 (seq Q (λ u. pure {A = List A} [] 0) (omega arith)) (omega arith) (omega arith) end_down end_up
  fewto_reads (suc n) = said (FewTo (suc n)) 1 0 (seq P (behind_reads n (fewto_reads n)) (omega arith)) (omega arith) (omega arith) (to n) (back n)

  -- an item is taken from the front
  fewer : (ts : List Kind) (a : A) (us : List Kind) → step ts ≡ Ok (Some a, us) → length us < length ts
  fewer ts a us e = let s = P.sound ts (Some a, us) e in omega (arith, ap length s.1, length-append s.0 us, some a s.0 s.2)

  same_behind : (n m : ℕ) (ts : List Kind) → ((us : List Kind) → length us < length ts → until step end n us ≡ until step end m us) → (x : Option A × List Kind) → step ts ≡ Ok x → until_with x.0 x.1 (until step end n) ≡ until_with x.0 x.1 (until step end m)
  same_behind n m ts again (None, us) e = refl
  same_behind n m ts again (Some a, us) e = ap (λ z. z >>= λ y. Ok (a ∷ y.0, y.1)) (again us (fewer ts a us e))

  enough_to : (n m : ℕ) (ts : List Kind) → length ts < n → length ts < m → until step end n ts ≡ until step end m ts
  enough_to zero m ts hn hm = absurd (omega arith)
  enough_to (suc n) zero ts hn hm = absurd (omega arith)
  enough_to (suc n) (suc m) ts hn hm =
      bind_same (step ts) (λ x. until_with x.0 x.1 (until step end n)) (λ x. until_with x.0 x.1 (until step end m))
      (same_behind n m ts (λ us lt. enough_to n m us (omega arith) (omega arith)))

  -- one turn
  pub end_turn : (ts : List Kind) → until_end step end ts ≡ (step ts >>= λ x. until_with x.0 x.1 (until_end step end))
  end_turn ts =
      bind_same (step ts) (λ x. until_with x.0 x.1 (until step end (length ts))) (λ x. until_with x.0 x.1 (until_end step end)) behind
    where
      behind : (x : Option A × List Kind) → step ts ≡ Ok x → until_with x.0 x.1 (until step end (length ts)) ≡ until_with x.0 x.1 (until_end step end)
      behind (None, us) e = refl
      behind (Some a, us) e =
          let lt = fewer ts a us e in
          ap (λ z. z >>= λ y. Ok (a ∷ y.0, y.1)) (enough_to (length ts) (suc (length us)) us (omega arith) (omega arith))

  pub end_laws : Reads (until_end step end) (RowTo L E) 1 0 true
  end_laws = record {
    opens = λ xs p rest h lt. (fewto_reads (length xs)).opens xs p rest (omega arith, h) lt;
    plain = λ xs p h. (fewto_reads (length xs)).plain xs p (omega arith, h);
    sound = λ ts x h. let s = (fewto_reads (suc (length ts))).sound ts x h in (s.0, s.1, s.2.1);
    complete = λ xs p rest h lt.
        let few = rowto_length L E some xs p h in
        (fewto_reads (suc (length (p ++ rest)))).complete xs p rest (omega (arith, length-append p rest), h) lt;
    keeps = λ p k v u xs h.
        let n = suc (length (p ++ k ∷ v) + length (p ++ k ∷ u)) in
        enough_to (suc (length (p ++ k ∷ u))) n (p ++ k ∷ u) (omega arith) (omega arith)
        ∙ (fewto_reads n).keeps p k v u xs (sym (enough_to (suc (length (p ++ k ∷ v))) n (p ++ k ∷ v) (omega arith) (omega arith)) ∙ h);
    fails = λ p k v u h.
        let n = suc (length (p ++ k ∷ v) + length (p ++ k ∷ u)) in
        enough_to (suc (length (p ++ k ∷ u))) n (p ++ k ∷ u) (omega arith) (omega arith)
        ∙ (fewto_reads n).fails p k v u (sym (enough_to (suc (length (p ++ k ∷ v))) n (p ++ k ∷ v) (omega arith) (omega arith)) ∙ h);
    stops = λ ts m h.
        let s = (fewto_reads (suc (length ts))).stops ts m h in
        record { before = s.before; left = s.left; split = s.split; count = s.count; begun = ⊎_elim (λ w. inl w) (λ w. inr (w.0, w.1, w.2.1)) s.begun };
    some = λ e. let q = Q.some refl in ([], q.1, q.2);
  }

-- all items up to and with their end
pub row_to : {A : Type 0} {step : List Kind → Read (Option A)} {end : List Kind → Read (Unit {0})} (L : A → List Kind → Type 0) (E : List Kind → Type 0) → Reads step (Step L E) 1 0 true → Reads end (λ u p. E p) 1 0 true → HasToken L → Reads (until_end step end) (RowTo L E) 1 0 true
row_to {A} {step} {end} L E P Q some = end_laws step end L E P Q some

-- how a loop with an end turns, and that each turn takes a token
pub record EndLoop {A : Type 0} (step : List Kind → Read (Option A)) (end : List Kind → Read (Unit {0})) : Type 0 where
  pub turn : (ts : List Kind) → until_end step end ts ≡ (step ts >>= λ x. until_with x.0 x.1 (until_end step end))
  pub less : (ts : List Kind) (a : A) (us : List Kind) → step ts ≡ Ok (Some a, us) → length us < length ts

pub end_loop : {A : Type 0} {step : List Kind → Read (Option A)} {end : List Kind → Read (Unit {0})} (L : A → List Kind → Type 0) (E : List Kind → Type 0) → Reads step (Step L E) 1 0 true → Reads end (λ u p. E p) 1 0 true → HasToken L → EndLoop step end
end_loop {A} {step} {end} L E P Q some = record { turn = end_turn step end L E P Q some; less = fewer step end L E P Q some }
