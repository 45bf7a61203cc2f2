-- Each item of a list is no deeper than the list.
use Rattle.std.proofs.Common.{◌≡◌, ℕ, zero, suc, ◌<◌, ◌≤◌, true, List, [], ◌∷◌, length, get_or, drop, ◌-◌, arith, refl, ap}
use Rattle.std.proofs.Math.Seq.{drop-cons}
use Rattle.rx_ast.specs.Syntax.{Expr, exprs, exprs_of, Slot, Slots, no_slots, slot, slots, slots_of}
use Rattle.rx_ast.specs.Depth.{expr_depth, exprs_depth, links_depth, slot_depth, slots_depth}
use Rattle.rx_mentions.specs.Mentions.{is_filled}
use Rattle.rx_ast.specs.ExprView.{links_of}
use Rattle.rx_ast.specs.declared.expr.Link.{Link}

pub expr_depth-get_or : (es : List Expr) (i : ℕ) (d : Expr) → i < length es → expr_depth (get_or es i d) ≤ exprs_depth (exprs_of es)
expr_depth-get_or [] i d h = omega (arith, h)
expr_depth-get_or (e ∷ es) zero d h = omega arith
expr_depth-get_or (e ∷ es) (suc i) d h = let below : i < length es = omega (arith, h) in omega (arith, expr_depth-get_or es i d below)

pub operand_depth-get_or : (ls : List Link) (i : ℕ) (d : Link) → i < length ls → expr_depth (get_or ls i d).operand ≤ links_depth (links_of ls)
operand_depth-get_or [] i d h = omega (arith, h)
operand_depth-get_or (l ∷ ls) zero d h = omega arith
operand_depth-get_or (l ∷ ls) (suc i) d h = let below : i < length ls = omega (arith, h) in omega (arith, operand_depth-get_or ls i d below)

pub slot_depth-get_or : (ss : List Slot) (i : ℕ) (d : Slot) → i < length ss → slot_depth (get_or ss i d) ≤ slots_depth (slots_of ss)
slot_depth-get_or [] i d h = omega (arith, h)
slot_depth-get_or (s ∷ ss) zero d h = omega arith
slot_depth-get_or (s ∷ ss) (suc i) d h = let below : i < length ss = omega (arith, h) in omega (arith, slot_depth-get_or ss i d below)

-- as many expressions as in the list
pub length_exprs_of : (es : List Expr) → length (exprs (exprs_of es)) ≡ length es
length_exprs_of [] = refl
length_exprs_of (e ∷ es) = ap suc (length_exprs_of es)

-- a list with a child is filled
pub filled-true : (ss : List Slot) → 1 ≤ length ss → true ≡ is_filled (slots_of ss)
filled-true [] h = absurd (omega (arith, h))
filled-true (s ∷ ss) h = refl

-- the plain data of the list of slots is the slots
pub slots_of-slots : (ss : Slots) → slots_of (slots ss) ≡ ss
slots_of-slots no_slots = refl
slots_of-slots (slot s ss) = ap (λ l. slot s l) (slots_of-slots ss)

-- what is left of a list from one place before
pub drop-before : {X : Type 0} (xs : List X) (i : ℕ) (d : X) → 0 < i → i ≤ length xs → drop (i - 1) xs ≡ get_or xs (i - 1) d ∷ drop i xs
drop-before [] i d h k = absurd (omega (arith, h, k))
drop-before (x ∷ xs) zero d h k = absurd (omega (arith, h))
drop-before (x ∷ xs) (suc i) d h k = let e : suc i - 1 ≡ i = omega arith in rw e (go i (omega (arith, k)))
  where
    go : (j : ℕ) → j ≤ length xs → drop j (x ∷ xs) ≡ get_or (x ∷ xs) j d ∷ drop j xs
    go zero l = refl
    go (suc j) l = drop-cons xs j d (omega (arith, l))
