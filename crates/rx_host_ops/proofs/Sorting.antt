-- Attributes in the order of their names, and what becomes of each.
use Rattle.std.proofs.Common.{◌≡◌, ℕ, zero, suc, ◌+◌, ◌-◌, ◌<◌, ◌≤◌, true, false, not, Ordering, is_le, nat_cmp, List, [], ◌∷◌, ◌++◌, length, get_or, take, drop, map, is_none, refl, sym, ap, ◌∙◌, subst, arith, add-one, append_assoc}
use Rattle.std.proofs.lemmas.List.{take-map, drop-map}
use Rattle.std.specs.Borrow.{Bor}
use Rattle.std.specs.Cmp.Lexicographic.{slice_cmp}
use Rattle.std.specs.List.{filter, flat_map, insert}
use Rattle.std.specs.Ordering.{match_ordering}
use Rattle.std.specs.declared.cmp.Ordering.TheVariants.{Less, Equal, Greater}
use Rattle.rx_elem.specs.declared.attr.Attr.{Attr}
use Rattle.rx_forest.specs.declared.op.HostOp.{HostOp}
use Rattle.rx_forest.specs.declared.op.HostOp.TheVariants as op
use Rattle.rx_forest.specs.Hosts.{by_name, with_attr}
use Rattle.rx_forest.specs.HostOps.{attr_named, attr_ops, has_attr}
use Rattle.rx_host_ops.specs.Attrs.{seen, sets, unsets}
use Rattle.rx_host_ops.proofs.Lists.{front, flat_map-filter}

-- one more from the front
take-one : {A : Type 0} (xs : List A) (k : ℕ) (x : A) → k < length xs → x ≡ get_or xs k x → take (suc k) xs ≡ take k xs ++ x ∷ []
take-one [] k x h e = absurd (omega arith)
take-one (y ∷ xs) zero x h e = ap (λ a. a ∷ []) (sym e)
take-one (y ∷ xs) (suc k) x h e = ap (λ ys. y ∷ ys) (take-one xs k x (omega arith) e)

take-more : {A : Type 0} (xs : List A) (k : ℕ) (x : A) → k < length xs → x ≡ get_or xs k x → take (k + 1) xs ≡ take k xs ++ x ∷ []
take-more xs k x h e = rw add-one (take-one xs k x h e)

-- an attribute goes before another whose name isn't less
goes_before : (a b : Attr) (bs : List Attr) → is_le (slice_cmp nat_cmp a.name b.name) ≡ true → with_attr a (b ∷ bs) ≡ a ∷ b ∷ bs
goes_before a b bs h = go (slice_cmp nat_cmp a.name b.name) h
  where
    go : (o : Ordering) → is_le o ≡ true → match_ordering o (a ∷ b ∷ bs) (a ∷ b ∷ bs) (b ∷ with_attr a bs) ≡ a ∷ b ∷ bs
    go Less h = refl
    go Equal h = refl
    go Greater h = absurd (cc)

-- it goes behind one whose name is less
goes_behind : (a b : Attr) (bs : List Attr) → is_le (slice_cmp nat_cmp a.name b.name) ≡ false → with_attr a (b ∷ bs) ≡ b ∷ with_attr a bs
goes_behind a b bs h = go (slice_cmp nat_cmp a.name b.name) h
  where
    go : (o : Ordering) → is_le o ≡ false → match_ordering o (a ∷ b ∷ bs) (a ∷ b ∷ bs) (b ∷ with_attr a bs) ≡ b ∷ with_attr a bs
    go Less h = absurd (cc)
    go Equal h = absurd (cc)
    go Greater h = refl

-- the place before the first whose name isn't less
pub put-here : (rs : List (Bor Attr)) (k : ℕ) (r : Bor Attr) (a : Attr) → k < length rs → r ≡ get_or rs k r → is_le (slice_cmp nat_cmp a.name r.now.name) ≡ true
    → with_attr a (seen rs) ≡ seen (take k rs) ++ with_attr a (seen (drop k rs)) → insert (seen rs) k a ≡ with_attr a (seen rs)
put-here rs k r a h e le i =
    ap (λ xs. xs ++ a ∷ drop k (seen rs)) (take-map (λ (r : Bor Attr). r.now) k rs)
    ∙ ap (λ xs. seen (take k rs) ++ a ∷ xs) (drop-map (λ (r : Bor Attr). r.now) k rs ∙ ap seen (front rs k r h e))
    ∙ ap (λ xs. seen (take k rs) ++ xs) (sym (ap (λ xs. with_attr a (seen xs)) (front rs k r h e) ∙ goes_before a r.now (seen (drop (k + 1) rs)) le))
    ∙ sym i

-- a place further on
pub put-behind : (rs : List (Bor Attr)) (k : ℕ) (r : Bor Attr) (a : Attr) → k < length rs → r ≡ get_or rs k r → is_le (slice_cmp nat_cmp a.name r.now.name) ≡ false
    → with_attr a (seen rs) ≡ seen (take k rs) ++ with_attr a (seen (drop k rs)) → with_attr a (seen rs) ≡ seen (take (k + 1) rs) ++ with_attr a (seen (drop (k + 1) rs))
put-behind rs k r a h e le i =
    i
    ∙ ap (λ xs. seen (take k rs) ++ xs) (ap (λ xs. with_attr a (seen xs)) (front rs k r h e) ∙ goes_behind a r.now (seen (drop (k + 1) rs)) le)
    ∙ sym (ap (λ xs. xs ++ with_attr a (seen (drop (k + 1) rs))) (ap seen (take-more rs k r h e) ∙ seen-push (take k rs)) ∙ append_assoc (seen (take k rs)) (r.now ∷ []) (with_attr a (seen (drop (k + 1) rs))))
  where
    seen-push : (xs : List (Bor Attr)) → seen (xs ++ r ∷ []) ≡ seen xs ++ r.now ∷ []
    seen-push [] = refl
    seen-push (x ∷ xs) = ap (λ ys. x.now ∷ ys) (seen-push xs)

seen-append : (xs ys : List (Bor Attr)) → seen (xs ++ ys) ≡ seen xs ++ seen ys
seen-append [] ys = refl
seen-append (x ∷ xs) ys = ap (λ zs. x.now ∷ zs) (seen-append xs ys)

seen-insert : (rs : List (Bor Attr)) (k : ℕ) (r : Bor Attr) → seen (insert rs k r) ≡ insert (seen rs) k r.now
seen-insert rs k r =
    seen-append (take k rs) (r ∷ drop k rs)
    ∙ ap (λ xs. xs ++ r.now ∷ seen (drop k rs)) (sym (take-map (λ (r : Bor Attr). r.now) k rs))
    ∙ ap (λ xs. take k (seen rs) ++ r.now ∷ xs) (sym (drop-map (λ (r : Bor Attr). r.now) k rs))

-- what is left from the place before begins with the element there
pub front-before : {A : Type 0} (xs : List A) (p : ℕ) (x : A) → 0 < p → p ≤ length xs → x ≡ get_or xs (p - 1) x → drop (p - 1) xs ≡ x ∷ drop p xs
front-before xs p x low high e =
    let back : p - 1 + 1 ≡ p = omega arith in
    front xs (p - 1) x (omega arith) e ∙ ap (λ k. x ∷ drop k xs) back

-- one attribute more is in order
pub sorted-more : (attrs : List Attr) (p : ℕ) (a : Attr) (r : Bor Attr) (k : ℕ) (sorted read after : List (Bor Attr)) → 0 < p → p ≤ length attrs → a ≡ get_or attrs (p - 1) a → r.now ≡ a
    → read ≡ sorted → insert (seen read) k a ≡ with_attr a (seen read) → after ≡ insert sorted k r → seen sorted ≡ by_name (drop p attrs) → seen after ≡ by_name (drop (p - 1) attrs)
sorted-more attrs p a r k sorted read after low high e f same put g i =
    ap seen g ∙ seen-insert sorted k r ∙ ap (insert (seen sorted) k) f
    ∙ subst (λ xs. insert (seen xs) k a ≡ with_attr a (seen xs)) same put
    ∙ ap (with_attr a) i
    ∙ sym (ap by_name (front-before attrs p a low high e))

-- those that go and those that are set are all changes
pub attr_ops-all : (n : ℕ) (old new o1 n1 o2 n2 : List Attr) (before mid all : List HostOp) → o1 ≡ old → n1 ≡ new → o2 ≡ old → n2 ≡ new
    → mid ≡ before ++ flat_map (unsets n n1) o1 → all ≡ mid ++ flat_map (sets n o2) n2 → all ≡ before ++ attr_ops n old new
attr_ops-all n old new o1 n1 o2 n2 before mid all e1 f1 e2 f2 g h =
    h
    ∙ ap (λ xs. xs ++ flat_map (sets n o2) n2) g
    ∙ append_assoc before (flat_map (unsets n n1) o1) (flat_map (sets n o2) n2)
    ∙ ap (λ xs. before ++ (xs ++ flat_map (sets n o2) n2)) (ap (λ y. flat_map (unsets n y) o1) f1 ∙ ap (flat_map (unsets n new)) e1 ∙ flat_map-filter (λ a. is_none (attr_named new a.name)) (λ a. op.UnsetAttr n a.name) old)
    ∙ ap (λ xs. before ++ (unset ++ xs)) (ap (λ y. flat_map (sets n y) n2) e2 ∙ ap (flat_map (sets n old)) f2 ∙ flat_map-filter (λ a. not (has_attr old a)) (λ a. op.SetAttr n a.name a.value) new)
  where
    unset : List HostOp
    unset = map (λ a. op.UnsetAttr n a.name) (filter (λ a. is_none (attr_named new a.name)) old)
