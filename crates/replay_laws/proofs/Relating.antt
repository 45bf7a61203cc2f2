-- A tree that grows out of an old one and has its numbers was rendered against it.
use Rattle.std.specs.Prelude.{◌≡◌, ℕ, suc, ◌≤◌, Bool, true, false, List, [], ◌∷◌, Option, Some, None, map, length, filter, nat_eq, option_and_then, option_to_list, refl, if◌then◌else◌}
use Rattle.std.specs.List.{zip}
use Rattle.std.proofs.Common.{arith, sym, ap, subst, ◌∙◌}
use Rattle.std.proofs.lemmas.Bool.Decides.{Decides-eqb}
use Rattle.std.proofs.lemmas.List.Elements.{filter-append}
use Rattle.rx_elem.specs.Elements.{Element}
use Rattle.rx_elem.specs.Identity.{old_places, moves, moves_after}
use Rattle.rx_elem.specs.Trees.{Mark, of_instance, of_host, of_boundary, of_catcher, plain, Node, node, Forest, none, vacant, child, host_number, is_host, elements_in, children_if, fallback_if}
use Rattle.rx_elem.specs.Compare.{Past, pasts, old_nodes, node_at}
use Rattle.host_laws.specs.Commits.{front, front_in, front_if, WasHost, WasNone, FairGone, RenderedHost, first_past, rest_pasts, Rendered, Rendered_in, HasNumber, AreNumbered, AreNumbered_in}
use Rattle.replay_laws.proofs.Counts.{is_number, one_if, times, times_in, times_if}
use Rattle.replay_laws.proofs.Growing.{first, rest, MarkGrows, Grows, Grows_in}
use Rattle.replay_laws.proofs.Losing.{gone_times, lost, lost_in, gone_there}

-- The old nodes of pasts

abbrev olds : List Past → List (Option Node)
olds ps = map (λ p. p.old) ps

first_olds : (ps : List Past) → first (olds ps) ≡ (first_past ps).old
first_olds [] = refl
first_olds (p ∷ ps) = refl

rest_olds : (ps : List Past) → rest (olds ps) ≡ olds (rest_pasts ps)
rest_olds [] = refl
rest_olds (p ∷ ps) = refl

length-moves_after : (earlier : List ℕ) (places : List (Option ℕ)) → length (moves_after earlier places) ≡ length places
length-moves_after earlier [] = refl
length-moves_after earlier (None ∷ ps) = ap suc (length-moves_after earlier ps)
length-moves_after earlier (Some p ∷ ps) = ap suc (length-moves_after (p ∷ earlier) ps)

olds_zip : (os : Forest) (ps : List (Option ℕ)) (bs : List Bool) → length bs ≡ length ps
    → olds (map (λ x. let p : Past = record { old = x.0; moved = x.1 } in p) (zip (map (option_and_then (node_at os)) ps) bs)) ≡ map (option_and_then (node_at os)) ps
olds_zip os [] bs h = refl
olds_zip os (p ∷ ps) [] h = absurd (omega arith)
olds_zip os (p ∷ ps) (b ∷ bs) h = ap (λ xs. option_and_then (node_at os) p ∷ xs) (olds_zip os ps bs (omega arith))

olds_of : (os : Forest) (es : List Element) → olds (pasts os es) ≡ old_nodes os es
olds_of os es = olds_zip os (old_places (elements_in os) es) (moves (old_places (elements_in os) es)) (length-moves_after [] (old_places (elements_in os) es))

-- What is gone

abbrev NoneStays : (ℕ → Bool) → (ℕ → ℕ) → Type 0
NoneStays k count = (n : ℕ) → 1 ≤ count n → k n ≡ false

own_number : (k : ℕ → Bool) (o : Option ℕ) → NoneStays k (λ n. one_if (is_number n o)) → filter k (option_to_list o) ≡ []
own_number k None h = refl
own_number k (Some n) h =
    let self : nat_eq n n ≡ true = (Decides-eqb n n).1 refl in
    let own : one_if (nat_eq n n) ≡ 1 = ap one_if self in
    let none_here : k n ≡ false = h n (omega arith) in
    rw none_here refl

mutual
  front_none : (k : ℕ → Bool) (x : Node) → NoneStays k (λ n. times n x) → filter k (front x) ≡ []
  front_none k (node e m ns fs) h =
      filter-append k (if is_host m then option_to_list (host_number m) else front_in ns) (front_in fs)
      ∙ rw (
        go (is_host m) (own_number k (host_number m) (λ n l. h n (omega arith))) (fronts_none k ns (λ n l. h n (omega arith))),
        fronts_none k fs (λ n l. h n (omega arith)),
      ) refl
    where
      go : (b : Bool) → filter k (option_to_list (host_number m)) ≡ [] → filter k (front_in ns) ≡ []
          → filter k (if b then option_to_list (host_number m) else front_in ns) ≡ []
      go true x y = x
      go false x y = y

  fronts_none : (k : ℕ → Bool) (ns : Forest) → NoneStays k (λ n. times_in n ns) → filter k (front_in ns) ≡ []
  fronts_none k none h = refl
  fronts_none k (vacant ns) h = fronts_none k ns h
  fronts_none k (child x ns) h =
      filter-append k (front x) (front_in ns) ∙ rw (front_none k x (λ n l. h n (omega arith)), fronts_none k ns (λ n l. h n (omega arith))) refl

front_if_none : (k : ℕ → Bool) (o : Option Node) → NoneStays k (λ n. times_if n o) → filter k (front_if o) ≡ []
front_if_none k None h = refl
front_if_none k (Some x) h = front_none k x h

fair_gone : (k : ℕ → Bool) (os : Forest) (es : List Element) → NoneStays k (λ n. gone_times n (old_places (elements_in os) es) 0 os) → FairGone k os es
fair_gone k os es h p free =
    front_if_none k (node_at os p) (λ n l. h n (omega (arith, gone_there n (old_places (elements_in os) es) p p 0 os (omega arith) free)))

-- Hosts

was_none : (e : Element) (o : Option Node) (next : ℕ) (number : Option ℕ) → MarkGrows next e number o false → WasNone o
was_none e None next number g = tt
was_none e (Some o) next number g = g

module _ (next : ℕ) (k w : ℕ → Bool) (late : (n : ℕ) → next ≤ n → w n ≡ false) where
  was_host : (e : Element) (n : ℕ) (o : Option Node) → MarkGrows next e (Some n) o true → k n ≡ true → WasHost k w n o
  was_host e n None g there = late n (g n refl)
  was_host e n (Some o) g there = let same : g.2 ≡ n = cc in (g.0, g.4 ∙ ap Some same, there)

  host_rendered : (e : Element) (m : Mark) (o : Option Node) → HasNumber e m → MarkGrows next e (host_number m) o (is_host m)
      → ((n : ℕ) → 1 ≤ one_if (is_number n (host_number m)) → k n ≡ true) → RenderedHost k w (host_number m) o (is_host m)
  host_rendered e (of_host None) o num g there = absurd num
  host_rendered e (of_host (Some n)) o num g there =
      let self : nat_eq n n ≡ true = (Decides-eqb n n).1 refl in
      let own : one_if (nat_eq n n) ≡ 1 = ap one_if self in
      (n, refl, was_host e n o g (there n (omega arith)))
  host_rendered e (of_instance i) o num g there = was_none e o next None g
  host_rendered e (of_boundary s) o num g there = was_none e o next None g
  host_rendered e (of_catcher z) o num g there = was_none e o next None g
  host_rendered e plain o num g there = was_none e o next None g

  mutual
    pub rendered_from : (p : Past) (x : Node) → Grows next p.old x → AreNumbered x → ((n : ℕ) → 1 ≤ times n x → k n ≡ true)
        → NoneStays k (λ n. lost n p.old x) → Rendered k w p x
    rendered_from p (node e m ns fs) g num there gone = (
      host_rendered e m p.old num.0 g.0 (λ n l. there n (omega arith)),
      fair_gone k (children_if p.old) (elements_in ns) (λ n l. gone n (omega arith)),
      fair_gone k (fallback_if p.old) (elements_in fs) (λ n l. gone n (omega arith)),
      renders_from (pasts (children_if p.old) (elements_in ns)) ns (subst (λ os. Grows_in next os ns) (sym (olds_of (children_if p.old) (elements_in ns))) g.1) num.1
          (λ n l. there n (omega arith))
          (subst (λ os. NoneStays k (λ n. lost_in n os ns)) (sym (olds_of (children_if p.old) (elements_in ns))) (λ n l. gone n (omega arith))),
      renders_from (pasts (fallback_if p.old) (elements_in fs)) fs (subst (λ os. Grows_in next os fs) (sym (olds_of (fallback_if p.old) (elements_in fs))) g.2) num.2
          (λ n l. there n (omega arith))
          (subst (λ os. NoneStays k (λ n. lost_in n os fs)) (sym (olds_of (fallback_if p.old) (elements_in fs))) (λ n l. gone n (omega arith))),
    )

    renders_from : (ps : List Past) (ns : Forest) → Grows_in next (olds ps) ns → AreNumbered_in ns → ((n : ℕ) → 1 ≤ times_in n ns → k n ≡ true)
        → NoneStays k (λ n. lost_in n (olds ps) ns) → Rendered_in k w ps ns
    renders_from ps none g num there gone = tt
    renders_from ps (vacant ns) g num there gone =
        renders_from (rest_pasts ps) ns (subst (λ os. Grows_in next os ns) (rest_olds ps) g) num there (subst (λ os. NoneStays k (λ n. lost_in n os ns)) (rest_olds ps) gone)
    renders_from ps (child x ns) g num there gone = (
      rendered_from (first_past ps) x (subst (λ o. Grows next o x) (first_olds ps) g.0) num.0 (λ n l. there n (omega arith))
          (subst (λ o. NoneStays k (λ n. lost n o x)) (first_olds ps) (λ n l. gone n (omega arith))),
      renders_from (rest_pasts ps) ns (subst (λ os. Grows_in next os ns) (rest_olds ps) g.1) num.1 (λ n l. there n (omega arith))
          (subst (λ os. NoneStays k (λ n. lost_in n os ns)) (rest_olds ps) (λ n l. gone n (omega arith))),
    )
