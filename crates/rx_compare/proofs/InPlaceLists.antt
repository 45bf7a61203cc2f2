-- Lists with the same children, place by place, as the code goes through them.
use Rattle.std.proofs.Common.{◌≡◌, ℕ, zero, suc, ◌+◌, ◌<◌, false, List, [], ◌∷◌, length, get_or, take, drop, Option, Some, None, refl, ap, sym, subst, ◌∙◌, arith, add-one}
use Rattle.rx_elem.specs.Trees.{Node, forest, elements_in}
use Rattle.rx_elem.specs.Compare.{Past, pasts}
use Rattle.rx_compare.specs.InPlace.{AreInPlace, stayed}
use Rattle.rx_compare.proofs.InPlace.{pasts_in_place}

-- both lists have as many places
pub in_place-length : (os ns : List (Option Node)) → AreInPlace (forest os) (forest ns) → length os ≡ length ns
in_place-length [] [] h = refl
in_place-length [] (None ∷ ns) h = absurd h
in_place-length [] (Some n ∷ ns) h = absurd h
in_place-length (None ∷ os) [] h = absurd h
in_place-length (None ∷ os) (None ∷ ns) h = ap suc (in_place-length os ns h)
in_place-length (None ∷ os) (Some n ∷ ns) h = absurd h
in_place-length (Some o ∷ os) [] h = absurd h
in_place-length (Some o ∷ os) (None ∷ ns) h = absurd h
in_place-length (Some o ∷ os) (Some n ∷ ns) h = ap suc (in_place-length os ns h.1)

one_more : (os ns : List (Option Node)) (k : ℕ) (o n : Option Node) → k < length os → k < length ns → o ≡ get_or os k o → n ≡ get_or ns k n
    → AreInPlace (forest (take k os)) (forest (take k ns)) → AreInPlace (forest (o ∷ [])) (forest (n ∷ []))
    → AreInPlace (forest (take (suc k) os)) (forest (take (suc k) ns))
one_more [] ns k o n l m e f h g = absurd (omega arith)
one_more (x ∷ os) [] k o n l m e f h g = absurd (omega arith)
one_more (x ∷ os) (y ∷ ns) zero o n l m e f h g =
    subst (λ a. AreInPlace (forest (a ∷ [])) (forest (y ∷ []))) e (subst (λ b. AreInPlace (forest (o ∷ [])) (forest (b ∷ []))) f g)
one_more (None ∷ os) (None ∷ ns) (suc k) o n l m e f h g = one_more os ns k o n (omega arith) (omega arith) e f h g
one_more (None ∷ os) (Some y ∷ ns) (suc k) o n l m e f h g = absurd h
one_more (Some x ∷ os) (None ∷ ns) (suc k) o n l m e f h g = absurd h
one_more (Some x ∷ os) (Some y ∷ ns) (suc k) o n l m e f h g = (h.0, one_more os ns k o n (omega arith) (omega arith) e f h.1 g)

-- one place more
pub in_place-more : (os ns : List (Option Node)) (k : ℕ) (o n : Option Node) → k < length os → k < length ns → o ≡ get_or os k o → n ≡ get_or ns k n
    → AreInPlace (forest (take k os)) (forest (take k ns)) → AreInPlace (forest (o ∷ [])) (forest (n ∷ []))
    → AreInPlace (forest (take (k + 1) os)) (forest (take (k + 1) ns))
in_place-more os ns k o n l m e f h g =
    subst (λ j. AreInPlace (forest (take j os)) (forest (take j ns))) (sym (add-one k)) (one_more os ns k o n l m e f h g)

-- the past of a child that stands where this one stood
abbrev pub stays : Option Node → Past
stays o = record { old = o; moved = false }

stayed-front : (os : List (Option Node)) (k : ℕ) (x : Option Node) → k < length os → x ≡ get_or os k x → drop k (stayed (forest os)) ≡ stays x ∷ drop (suc k) (stayed (forest os))
stayed-front [] k x l e = absurd (omega arith)
stayed-front (None ∷ os) zero x l e = λ i. stays (sym e i) ∷ stayed (forest os)
stayed-front (Some n ∷ os) zero x l e = λ i. stays (sym e i) ∷ stayed (forest os)
stayed-front (None ∷ os) (suc k) x l e = stayed-front os k x (omega arith) e
stayed-front (Some n ∷ os) (suc k) x l e = stayed-front os k x (omega arith) e

-- the next past is the old node at the place
pub in_place-front : (os ns : List (Option Node)) (k : ℕ) (x : Option Node) → AreInPlace (forest os) (forest ns) → k < length os → x ≡ get_or os k x
    → drop k (pasts (forest os) (elements_in (forest ns))) ≡ stays x ∷ drop (k + 1) (pasts (forest os) (elements_in (forest ns)))
in_place-front os ns k x h l e =
    ap (drop k) same
    ∙ stayed-front os k x l e
    ∙ ap (λ j. stays x ∷ drop j (stayed (forest os))) (sym (add-one k))
    ∙ ap (λ ps. stays x ∷ drop (k + 1) ps) (sym same)
  where
    same : pasts (forest os) (elements_in (forest ns)) ≡ stayed (forest os)
    same = pasts_in_place (forest os) (forest ns) h
