-- What is computed in the order in which declarations are finished.
use Rattle.std.proofs.Common.{◌≡◌, ◌<◌, ◌≤◌, ◌+◌, ◌≢◌, inl, inr, Bool, true, false, List, [], ◌∷◌, ◌++◌, Option, Some, None, refl, sym, ap, subst, ◌∙◌, arith, get_or, set, map, length, length-append, take, drop, add-one}
use Rattle.std.specs.Prelude.{ℕ, zero, suc, nat_eq, filter_map, slice_get, slice_index, unwrap_or, option_map}
use Rattle.std.specs.List.{list_all}
use Rattle.std.proofs.lemmas.List.{get_or-set_same, get_or-set_other}
use Rattle.std.proofs.lemmas.Option.{slice_get-map, slice_get_within}
use Rattle.rx_base.specs.Values.{Name}
use Rattle.rx_ast.specs.Syntax.{Program, Component, Function, components, functions}
use Rattle.rx_rules.specs.Names.{component_number, function_number, component_at}
use Rattle.rx_rules.specs.Bounds.{body_by, body_if}
use Rattle.std.proofs.Math.Seq.{take-suc}
use Rattle.rx_order.specs.Graphs.{Graph, next_of, is_among, finishes}
use Rattle.rx_order.proofs.Finishing.{or-cases, and-cases, same, itself, among-more, next-finished}
use Rattle.rx_mentions.specs.Mentions.{component_mentions, function_mentions}
use Rattle.rx_mentions.specs.Ways.{called_in, placed_in, calls, places}
use Rattle.rx_mentions.specs.Mention.{Mention}
use Rattle.rx_mentions.specs.Mention as mention
use Rattle.rx_mentions.proofs.Among.{IsIn, IsIn-filter_map}
use Rattle.rx_figures.specs.Figures.{figures, no_figures, known_in, AreFigures}
use Rattle.rx_figures.specs.Costs.{function_cost, body_cost, cost_if, AreCosts}
use Rattle.rx_figures.specs.declared.figures.Figures.{Figures}
use Rattle.rx_figures.proofs.Agree.{AgreePlaced, component-agree, AgreeCalled, function-agree}
use Rattle.rx_order.proofs.Rounds.{together}

-- what all numbers of names pass, the number of each name passes
all-in : (q : ℕ → Bool) (h : Name → ℕ) (ns : List Name) (n : Name) → list_all q (map h ns) ≡ true → IsIn n ns → q (h n) ≡ true
all-in q h [] n k i = absurd i
all-in q h (m ∷ ms) n k (inl e) = let all = and-cases (q (h m)) (list_all q (map h ms)) k in ap (λ x. q (h x)) e ∙ all.0
all-in q h (m ∷ ms) n k (inr i) = let all = and-cases (q (h m)) (list_all q (map h ms)) k in all-in q h ms n all.1 i

-- the row of a number of which something stands there
row-of : {X : Type 0} (f : X → List ℕ) (xs : List X) (i : ℕ) (x : X) → slice_get xs i ≡ Some x → next_of (map f xs) i ≡ f x
row-of f xs i x e = ap (λ o. unwrap_or o []) (slice_get-map f xs i ∙ ap (option_map f) e)

-- if nothing stands at a place, the list has ended
ended : {X : Type 0} (xs : List X) (i : ℕ) → slice_get xs i ≡ None → length xs ≤ i
ended [] i e = omega arith
ended (x ∷ xs) zero e = cc
ended (x ∷ xs) (suc i) e = omega (arith, ended xs i e)

past : {A : Type 0} (xs : List A) (i : ℕ) (d : A) → length xs ≤ i → get_or xs i d ≡ d
past [] i d h = refl
past (x ∷ xs) zero d h = absurd (omega (arith, h))
past (x ∷ xs) (suc i) d h = past xs i d (omega (arith, h))

other : (x y : ℕ) → nat_eq x y ≡ false → x ≢ y
other x y h = λ e. let bad : true ≡ false = sym (itself x) ∙ (ap (λ z. nat_eq x z) e ∙ h) in cc

-- one that is among more and is not the one more
was-among : (ns : List ℕ) (x y : ℕ) → is_among (ns ++ y ∷ []) x ≡ true → nat_eq x y ≡ false → is_among ns x ≡ true
was-among ns x y h k =
    elim (or-cases (is_among ns x) (nat_eq x y) (sym (among-more ns y x) ∙ h)) [ inl e ↦ e | inr e ↦ let bad : true ≡ false = sym e ∙ k in cc ]

longer : (ns : List ℕ) (y m : ℕ) → length (ns ++ y ∷ []) ≤ m → length ns + 1 ≤ m
longer ns y m h = omega (arith, simp length-append at h)

-- Components

placed-agree : (p : Program) (table : List Figures) (done : List ℕ) (x : ℕ) (c : Component) (m : ℕ) → AreFigures p table done → length done ≤ m
    → slice_get (components p) x ≡ Some c → list_all (is_among done) (next_of (places p) x) ≡ true → AgreePlaced p (body_by (figures p) m p) (known_in table) (component_mentions c)
placed-agree p table done x c m h l e r n attrs filled i =
    let P : List ℕ → Type 0 = λ row. list_all (is_among done) row ≡ true in
    let row = subst P (row-of (λ d. map (component_number p) (filter_map placed_in (component_mentions d))) (components p) x c e) r in
    let there : IsIn n (filter_map placed_in (component_mentions c)) = IsIn-filter_map placed_in (mention.Element n attrs filled) n (component_mentions c) refl i in
    h (component_number p n) m (all-in (is_among done) (component_number p) (filter_map placed_in (component_mentions c)) n row there) l

-- the figures of one component more, from those that its body places
pub figures-more : (p : Program) (table : List Figures) (done : List ℕ) (x : ℕ) (c : Component) (f : Figures) → AreFigures p table done
    → list_all (is_among done) (next_of (places p) x) ≡ true → slice_get (components p) x ≡ Some c → x < length table
    → f ≡ body_if (figures p) (known_in table) p (Some c) → AreFigures p (set table x f) (done ++ x ∷ [])
unfolding body_by
figures-more p table done x c f h r e b v d zero i l = absurd (omega (arith, longer done x 0 l))
figures-more p table done x c f h r e b v d (suc m) i l = go (nat_eq d x) refl
  where
    enough : length done + 1 ≤ suc m
    enough = longer done x (suc m) l

    go : (t : Bool) → nat_eq d x ≡ t → body_if (figures p) (body_by (figures p) m p) p (component_at p d) ≡ known_in (set table x f) d
    go true q =
        let one : d ≡ x = same d x q in
        let agree = component-agree (figures p) p (body_by (figures p) m p) (known_in table) c (placed-agree p table done x c m h (omega (arith, enough)) e r) in
        let here : body_if (figures p) (body_by (figures p) m p) p (Some c) ≡ body_if (figures p) (known_in table) p (Some c) = ap ((figures p).body c) agree in
        ap (λ y. body_if (figures p) (body_by (figures p) m p) p (component_at p y)) one
        ∙ (ap (λ o. body_if (figures p) (body_by (figures p) m p) p o) e
        ∙ (here ∙ (sym v ∙ (sym (get_or-set_same table x f no_figures b) ∙ ap (λ y. get_or (set table x f) y no_figures) (sym one)))))
    go false q = h d (suc m) (was-among done d x i q) (omega (arith, enough)) ∙ sym (get_or-set_other table x d f no_figures (other d x q))

-- a number without a component
pub figures-none : (p : Program) (table : List Figures) (done : List ℕ) (x : ℕ) → AreFigures p table done
    → slice_get (components p) x ≡ None → length table ≡ length (components p) → AreFigures p table (done ++ x ∷ [])
unfolding body_by
figures-none p table done x h e b d zero i l = absurd (omega (arith, longer done x 0 l))
figures-none p table done x h e b d (suc m) i l = go (nat_eq d x) refl
  where
    go : (t : Bool) → nat_eq d x ≡ t → body_if (figures p) (body_by (figures p) m p) p (component_at p d) ≡ known_in table d
    go true q =
        let one : d ≡ x = same d x q in
        let gone : length table ≤ x = omega (arith, ended (components p) x e, b) in
        ap (λ y. body_if (figures p) (body_by (figures p) m p) p (component_at p y)) one
        ∙ (ap (λ o. body_if (figures p) (body_by (figures p) m p) p o) e ∙ (sym (past table x no_figures gone) ∙ ap (λ y. get_or table y no_figures) (sym one)))
    go false q = h d (suc m) (was-among done d x i q) (omega (arith, longer done x (suc m) l))

-- Functions

called-agree : (p : Program) (costs : List ℕ) (done : List ℕ) (x : ℕ) (f : Function) (m : ℕ) → AreCosts p costs done → length done ≤ m
    → slice_get (functions p) x ≡ Some f → list_all (is_among done) (next_of (calls p) x) ≡ true → AgreeCalled p (function_cost m p) (slice_index costs) (function_mentions f)
called-agree p costs done x f m h l e r n a i =
    let P : List ℕ → Type 0 = λ row. list_all (is_among done) row ≡ true in
    let row = subst P (row-of (λ d. map (function_number p) (filter_map called_in (function_mentions d))) (functions p) x f e) r in
    let there : IsIn n (filter_map called_in (function_mentions f)) = IsIn-filter_map called_in (mention.Call n a) n (function_mentions f) refl i in
    h (function_number p n) m (all-in (is_among done) (function_number p) (filter_map called_in (function_mentions f)) n row there) l

-- the cost of one function more, from those that it calls
pub costs-more : (p : Program) (costs : List ℕ) (done : List ℕ) (x : ℕ) (f : Function) (v : ℕ) → AreCosts p costs done
    → list_all (is_among done) (next_of (calls p) x) ≡ true → slice_get (functions p) x ≡ Some f → x < length costs
    → v ≡ body_cost (slice_index costs) p f → AreCosts p (set costs x v) (done ++ x ∷ [])
unfolding function_cost
costs-more p costs done x f v h r e b w d zero i l = absurd (omega (arith, longer done x 0 l))
costs-more p costs done x f v h r e b w d (suc m) i l = go (nat_eq d x) refl
  where
    enough : length done + 1 ≤ suc m
    enough = longer done x (suc m) l

    go : (t : Bool) → nat_eq d x ≡ t → cost_if (function_cost m p) p (slice_get (functions p) d) ≡ slice_index (set costs x v) d
    go true q =
        let one : d ≡ x = same d x q in
        let agree : body_cost (function_cost m p) p f ≡ body_cost (slice_index costs) p f = function-agree p (function_cost m p) (slice_index costs) f (called-agree p costs done x f m h (omega (arith, enough)) e r) in
        ap (λ y. cost_if (function_cost m p) p (slice_get (functions p) y)) one
        ∙ (ap (λ o. cost_if (function_cost m p) p o) e
        ∙ (agree ∙ (sym w ∙ (sym (get_or-set_same costs x v 0 b) ∙ ap (λ y. get_or (set costs x v) y 0) (sym one)))))
    go false q = h d (suc m) (was-among done d x i q) (omega (arith, enough)) ∙ sym (get_or-set_other costs x d v 0 (other d x q))

-- a number without a function
pub costs-none : (p : Program) (costs : List ℕ) (done : List ℕ) (x : ℕ) → AreCosts p costs done
    → slice_get (functions p) x ≡ None → length costs ≡ length (functions p) → AreCosts p costs (done ++ x ∷ [])
unfolding function_cost
costs-none p costs done x h e b d zero i l = absurd (omega (arith, longer done x 0 l))
costs-none p costs done x h e b d (suc m) i l = go (nat_eq d x) refl
  where
    go : (t : Bool) → nat_eq d x ≡ t → cost_if (function_cost m p) p (slice_get (functions p) d) ≡ slice_index costs d
    go true q =
        let one : d ≡ x = same d x q in
        let gone : length costs ≤ x = omega (arith, ended (functions p) x e, b) in
        ap (λ y. cost_if (function_cost m p) p (slice_get (functions p) y)) one
        ∙ (ap (λ o. cost_if (function_cost m p) p o) e ∙ (sym (past costs x 0 gone) ∙ ap (λ y. get_or costs y 0) (sym one)))
    go false q = h d (suc m) (was-among done d x i q) (omega (arith, longer done x (suc m) l))

none-cost : (n : ℕ) (p : Program) (x : ℕ) → slice_get (functions p) x ≡ None → function_cost n p x ≡ 0
unfolding function_cost
none-cost zero p x e = refl
none-cost (suc n) p x e = ap (λ o. cost_if (function_cost n p) p o) e

cost-each : (p : Program) (costs : List ℕ) (order : List ℕ) → AreCosts p costs order → length costs ≡ length (functions p) → length order ≤ length (functions p)
    → ((x : ℕ) → x < length (functions p) → is_among order x ≡ true) → (x : ℕ) (o : Option Function) → slice_get (functions p) x ≡ o
    → function_cost (length (functions p)) p x ≡ slice_index costs x
cost-each p costs order h b l w x None e = none-cost (length (functions p)) p x e ∙ sym (past costs x 0 (omega (arith, ended (functions p) x e, b)))
cost-each p costs order h b l w x (Some f) e = h x (length (functions p)) (w x (slice_get_within (functions p) x f e)) l

-- the costs of all functions, if all are there
pub costs-all : (p : Program) (costs : List ℕ) (order : List ℕ) → AreCosts p costs order → length costs ≡ length (functions p) → length order ≤ length (functions p)
    → ((x : ℕ) → x < length (functions p) → is_among order x ≡ true) → function_cost (length (functions p)) p ≡ slice_index costs
costs-all p costs order h b l w = together (function_cost (length (functions p)) p) (slice_index costs) (λ x. cost-each p costs order h b l w x (slice_get (functions p) x) refl)

-- what holds of those that are passed holds with the next
pub passed-more : (g : Graph) (P Q : List ℕ → Type 0) (items : List ℕ) (i d : ℕ) → i < length items
    → finishes g (take i items) (drop i items) ≡ true → ((done : List ℕ) → P done → list_all (is_among done) (next_of g (get_or items i d)) ≡ true → Q (done ++ get_or items i d ∷ []))
    → P (take i items) → Q (take (i + 1) items)
passed-more g P Q items i d l h f a =
    let s = next-finished g items i d l h in
    let one : take (i + 1) items ≡ take i items ++ get_or items i d ∷ [] = rw add-one (take-suc items i d l) in
    subst Q (sym one) (f (take i items) a s.0)

-- the others are finished behind those that are passed with the next
pub left-more : (g : Graph) (items : List ℕ) (i x : ℕ) → i < length items → finishes g (take i items) (drop i items) ≡ true
    → finishes g (take (i + 1) items) (drop (i + 1) items) ≡ true
left-more g items i x l h = (next-finished g items i x l h).1
