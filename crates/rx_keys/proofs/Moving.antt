-- Moves, marks and removals, one child more.
use Rattle.std.proofs.Common.{◌≡◌, ◌≢◌, ℕ, suc, ◌+◌, ◌-◌, ◌<◌, ◌≤◌, max, Bool, true, false, ◌||◌, ◌&&◌, cond, List, [], ◌∷◌, ◌++◌, Option, Some, None, filter, length, get_or, drop, nat_eq, nat_lt, refl, sym, ap, ◌∙◌, arith, append_assoc}
use Rattle.std.specs.Prelude.{not}
use Rattle.std.specs.Option.{option_map_or}
use Rattle.std.specs.List.{list_any, range_with_len}
use Rattle.std.proofs.Math.ListN.{set}
use Rattle.std.proofs.lemmas.List.{append-nil, get_or-set_same, get_or-set_other}
use Rattle.std.proofs.lemmas.Option.{slice_get-get_or}
use Rattle.std.proofs.lemmas.Bool.Decides.{nat_tests}
use Rattle.rx_elem.specs.Elements.{Element, is_present}
use Rattle.rx_elem.specs.Identity.{moves, moves_after, is_reused}
use Rattle.rx_keys.specs.Found.{moves_below, is_gone}
use Rattle.rx_keys.proofs.Counting.{front}
use Rattle.rx_keys.proofs.Matches.{drop-end}

-- one child more
pub moves_below-more : (places : List (Option ℕ)) (k : ℕ) (x : Option ℕ) (all moved after : List Bool) (b : Bool) (behind next : ℕ) → k < length places → x ≡ get_or places k x
    → all ≡ moved ++ moves_below behind (drop k places)
    → b ≡ option_map_or (λ p. nat_lt (p + 1) behind) x false
    → next ≡ option_map_or (λ p. max behind (p + 1)) x behind
    → after ≡ moved ++ b ∷ []
    → all ≡ after ++ moves_below next (drop (k + 1) places)
moves_below-more places k x all moved after b behind next h is so_far one then pushed =
    so_far
    ∙ ap (λ (ps : List (Option ℕ)). moved ++ moves_below behind ps) (front places k x h is)
    ∙ ap (λ (c : Bool). moved ++ (c ∷ moves_below (option_map_or (λ p. max behind (p + 1)) x behind) (drop (k + 1) places))) (sym one)
    ∙ ap (λ (n : ℕ). moved ++ (b ∷ moves_below n (drop (k + 1) places))) (sym then)
    ∙ sym (append_assoc moved (b ∷ []) (moves_below next (drop (k + 1) places)))
    ∙ ap (λ (ms : List Bool). ms ++ moves_below next (drop (k + 1) places)) (sym pushed)

pub moves_below-end : (places : List (Option ℕ)) (k : ℕ) (all moved : List Bool) (behind : ℕ) → length places ≤ k
    → all ≡ moved ++ moves_below behind (drop k places) → moved ≡ all
moves_below-end places k all moved behind h e =
    sym (e ∙ ap (λ (ps : List (Option ℕ)). moved ++ moves_below behind ps) (drop-end places k h) ∙ append-nil moved)

-- a child moved if its old place lies before the greatest earlier one
moves_after-below : (earlier : List ℕ) (behind : ℕ) (places : List (Option ℕ)) → ((q : ℕ) → list_any (nat_lt q) earlier ≡ nat_lt (q + 1) behind)
    → moves_after earlier places ≡ moves_below behind places
moves_after-below earlier behind [] h = refl
moves_after-below earlier behind (None ∷ ps) h = ap (λ ms. false ∷ ms) (moves_after-below earlier behind ps h)
moves_after-below earlier behind (Some p ∷ ps) h =
    rw (h p) (ap (λ ms. nat_lt (p + 1) behind ∷ ms) (moves_after-below (p ∷ earlier) (max behind (p + 1)) ps (λ q.
    ap (λ b. nat_lt q p || b) (h q) ∙ either q p behind)))
  where
    either : (q p n : ℕ) → (nat_lt q p || nat_lt (q + 1) n) ≡ nat_lt (q + 1) (max n (p + 1))
    either q p n = grind (arith, nat_tests)

pub moves-below : (places : List (Option ℕ)) → moves places ≡ moves_below 0 places
moves-below places = moves_after-below [] 0 places (λ q. nothing q)
  where
    nothing : (q : ℕ) → false ≡ nat_lt (q + 1) 0
    nothing q = grind (arith, nat_tests)

-- one mark more
pub more_marks : (places : List (Option ℕ)) (k : ℕ) (x : Option ℕ) (marks after : List Bool) (count : ℕ) → k < length places → x ≡ get_or places k x
    → length marks ≡ count
    → after ≡ option_map_or (λ p. set marks p true) x marks
    → ((p : ℕ) → p < count → (get_or marks p false || is_reused (drop k places) p) ≡ is_reused places p)
    → (p : ℕ) → p < count → (get_or after p false || is_reused (drop (k + 1) places) p) ≡ is_reused places p
more_marks places k x marks after count h is long now so_far p lt =
    ap (λ (ms : List Bool). get_or ms p false || is_reused (drop (k + 1) places) p) now
    ∙ go x
    ∙ ap (λ (ps : List (Option ℕ)). get_or marks p false || is_reused ps p) (sym (front places k x h is))
    ∙ so_far p lt
  where
    rest : Bool
    rest = is_reused (drop (k + 1) places) p

    last : (a b : Bool) → a ≡ true → (a || b) ≡ (get_or marks p false || (true || b))
    last true b e = always (get_or marks p false)
      where
        always : (m : Bool) → true ≡ (m || true)
        always true = refl
        always false = refl
    last false b e = absurd (cc)

    at : (q : ℕ) (b : Bool) → nat_eq p q ≡ b → (get_or (set marks q true) p false || rest) ≡ (get_or marks p false || (b || rest))
    at q true e =
        let same : q ≡ p = grind (arith, nat_tests) in
        let within : p < length marks = omega arith in
        last (get_or (set marks q true) p false) rest (ap (λ i. get_or (set marks i true) p false) same ∙ get_or-set_same marks p true false within)
    at q false e =
        let other : p ≢ q = grind (arith, nat_tests) in
        ap (λ b. b || rest) (get_or-set_other marks q p true false other)

    go : (x : Option ℕ) → (get_or (option_map_or (λ p. set marks p true) x marks) p false || rest) ≡ (get_or marks p false || (option_map_or (nat_eq p) x false || rest))
    go None = refl
    go (Some q) = at q (nat_eq p q) refl

-- the marks at the end
pub all_marks : (places : List (Option ℕ)) (k : ℕ) (marks : List Bool) (p : ℕ) → length places ≤ k
    → (get_or marks p false || is_reused (drop k places) p) ≡ is_reused places p → get_or marks p false ≡ is_reused places p
all_marks places k marks p h e = go (get_or marks p false) refl ∙ ap (λ (ps : List (Option ℕ)). get_or marks p false || is_reused ps p) (sym (drop-end places k h)) ∙ e
  where
    go : (b : Bool) → get_or marks p false ≡ b → get_or marks p false ≡ (get_or marks p false || false)
    go true t = rw t refl
    go false t = rw t refl

-- one old child more
pub gone_places-more : (old : List Element) (places : List (Option ℕ)) (k : ℕ) (x : Element) (all removed after : List ℕ) (b : Bool) → k < length old → x ≡ get_or old k x
    → all ≡ removed ++ filter (is_gone old places) (range_with_len k (length old - k))
    → b ≡ (is_present x && not (is_reused places k))
    → after ≡ cond b (removed ++ k ∷ []) removed
    → all ≡ after ++ filter (is_gone old places) (range_with_len (k + 1) (length old - (k + 1)))
gone_places-more old places k x all removed after b h is so_far one now =
    so_far ∙ ap (λ (n : ℕ). removed ++ filter (is_gone old places) (range_with_len k n)) left ∙ go b one
    ∙ ap (λ (ps : List ℕ). ps ++ filter (is_gone old places) (range_with_len (k + 1) (length old - (k + 1)))) (sym now)
  where
    left : length old - k ≡ suc (length old - (k + 1))
    left = omega arith

    rest : List ℕ
    rest = filter (is_gone old places) (range_with_len (k + 1) (length old - (k + 1)))

    here : is_gone old places k ≡ (is_present x && not (is_reused places k))
    here = ap (λ o. option_map_or is_present o false && not (is_reused places k)) (slice_get-get_or old k x h ∙ ap Some (sym is))

    go : (b : Bool) → b ≡ (is_present x && not (is_reused places k))
        → removed ++ filter (is_gone old places) (range_with_len k (suc (length old - (k + 1)))) ≡ cond b (removed ++ k ∷ []) removed ++ rest
    go true e = rw (here, ← e) (sym (append_assoc removed (k ∷ []) rest))
    go false e = rw (here, ← e) refl

pub gone_places-end : (old : List Element) (places : List (Option ℕ)) (k : ℕ) (all removed : List ℕ) → length old ≤ k
    → all ≡ removed ++ filter (is_gone old places) (range_with_len k (length old - k)) → removed ≡ all
gone_places-end old places k all removed h e =
    let none : length old - k ≡ 0 = omega arith in
    sym (e ∙ ap (λ (n : ℕ). removed ++ filter (is_gone old places) (range_with_len k n)) none ∙ append-nil removed)
