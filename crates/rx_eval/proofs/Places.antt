-- The elements of a child list and of a `for`, one at a time.
use Rattle.std.specs.Prelude.{◌≡◌, ℕ, zero, suc, ◌+◌, ◌<◌, ◌≤◌, List, [], ◌∷◌, ◌++◌, ℤ, pos, negsuc, length, map, take, get_or, refl}
use Rattle.std.specs.List.{range_with_len}
use Rattle.std.proofs.Common.{sym, ◌∙◌, ap, subst, arith}
use Rattle.std.proofs.lemmas.List.{take_more}
use Rattle.std.proofs.lemmas.List.FromFn.{map-range_with_len_more}
use Rattle.rx_base.specs.Values.{Name}
use Rattle.rx_ast.specs.Syntax.{Slot, Slots, no_slots, slot, slots, slots_of, Program}
use Rattle.rx_ast.specs.Depth.{slot_depth, slots_depth}
use Rattle.rx_elem.specs.Elements.{Element}
use Rattle.rx_meaning.specs.Expressions.{Env}
use Rattle.rx_meaning.specs.Body.{element_of, elements_of, turns}
use Rattle.rx_eval.specs.Loops.{HasShortLoops, HaveShortLoops}

-- a place of a child list is no deeper than the list
pub slot_depth-get_or : (ss : List Slot) (i : ℕ) (d : Slot) → i < length ss → slot_depth (get_or ss i d) ≤ slots_depth (slots_of ss)
slot_depth-get_or [] i d h = absurd (omega arith)
slot_depth-get_or (s ∷ ss) zero d h = omega arith
slot_depth-get_or (s ∷ ss) (suc i) d h = omega (arith, slot_depth-get_or ss i d (omega arith))

-- the plain data of the list of slots is the slots
pub slots_of_slots : (ss : Slots) → slots_of (slots ss) ≡ ss
slots_of_slots no_slots = refl
slots_of_slots (slot s ss) = ap (λ l. slot s l) (slots_of_slots ss)

-- what is known of the loops of a child list is known of each place
pub short-get_or : (ss : List Slot) (i : ℕ) (s : Slot) → i < length ss → s ≡ get_or ss i s → HaveShortLoops (slots_of ss) → HasShortLoops s
short-get_or [] i s lt e h = absurd (omega arith)
short-get_or (x ∷ ss) zero s lt e h = let P : Slot → Type 0 = λ k. HasShortLoops k in subst P (sym e) h.0
short-get_or (x ∷ ss) (suc i) s lt e h = short-get_or ss i s (omega arith) e h.1

elements_of-push : (p : Program) (kids : List Element) (env : Env) (ss : List Slot) (s : Slot) → elements_of p kids env (slots_of (ss ++ s ∷ [])) ≡ elements_of p kids env (slots_of ss) ++ element_of p kids env s ∷ []
elements_of-push p kids env [] s = refl
elements_of-push p kids env (x ∷ ss) s = ap (λ es. element_of p kids env x ∷ es) (elements_of-push p kids env ss s)

-- one more element of a child list
pub elements_more : (p : Program) (kids : List Element) (env : Env) (es more : List Element) (ss : List Slot) (i : ℕ) (s : Slot) (e : Element) → i < length ss → s ≡ get_or ss i s →
    es ≡ elements_of p kids env (slots_of (take i ss)) → e ≡ element_of p kids env s → more ≡ es ++ e ∷ [] → more ≡ elements_of p kids env (slots_of (take (i + 1) ss))
elements_more p kids env es more ss i s e lt is so_far here f =
    f ∙ ap (λ xs. xs ++ e ∷ []) so_far
    ∙ ap (λ x. elements_of p kids env (slots_of (take i ss)) ++ x ∷ []) (here ∙ ap (element_of p kids env) is)
    ∙ sym (elements_of-push p kids env (take i ss) (get_or ss i s))
    ∙ ap (λ xs. elements_of p kids env (slots_of xs)) (sym (take_more ss i s lt))

-- one more item of a `for`
pub items_more : (p : Program) (kids : List Element) (env inner : Env) (x : Name) (v : ℤ) (s : Slot) (es more : List Element) (i : ℕ) (e : Element) →
    es ≡ map (λ k. element_of p kids ((x, pos k) ∷ env) s) (range_with_len 0 i) → e ≡ element_of p kids inner s → inner ≡ (x, v) ∷ env → v ≡ pos i → more ≡ es ++ e ∷ [] →
    more ≡ map (λ k. element_of p kids ((x, pos k) ∷ env) s) (range_with_len 0 (i + 1))
items_more p kids env inner x v s es more i e so_far here bound index f =
    f ∙ ap (λ xs. xs ++ e ∷ []) so_far
    ∙ ap (λ y. map (λ k. element_of p kids ((x, pos k) ∷ env) s) (range_with_len 0 i) ++ y ∷ []) (here ∙ ap (λ n. element_of p kids n s) bound ∙ ap (λ k. element_of p kids ((x, k) ∷ env) s) index)
    ∙ sym (map-range_with_len_more (λ k. element_of p kids ((x, pos k) ∷ env) s) 0 i i (omega arith))

-- a `for` makes no more turns than its limit
pub turns-limit : (b : ℤ) (limit : ℕ) → turns b limit ≤ limit
turns-limit (pos n) limit = omega arith
turns-limit (negsuc n) limit = omega arith
