-- Lists of children of which some may be left out: no more are kept than there are, and none is left out of as many.
use Rattle.std.proofs.Common.{◌≡◌, ℕ, suc, ◌≤◌, List, [], ◌∷◌, Option, Some, None, length, refl, sym, ap, ◌∙◌, arith}
use Rattle.rx_elem.specs.Elements.{Element}
use Rattle.rx_elem.specs.Identity.{old_places}
use Rattle.rx_elem.specs.Trees.{Forest, elements_in}
use Rattle.rx_elem.specs.Compare.{Past, pasts}
use Rattle.rx_pruned.specs.Pruned.{PrunedIn, gap, left, no_more, pair, same}
use Rattle.prune_laws.proofs.Reused.{pasts_after}

-- there are as many pasts as places
many_pasts : (os : Forest) (earlier : List ℕ) (places : List (Option ℕ)) → length (pasts_after os earlier places) ≡ length places
many_pasts os earlier [] = refl
many_pasts os earlier (None ∷ places) = ap suc (many_pasts os earlier places)
many_pasts os earlier (Some p ∷ places) = ap suc (many_pasts os (p ∷ earlier) places)

-- lists of the same elements give as many pasts
pub as_many_pasts : (os ps : Forest) (es : List Element) → elements_in ps ≡ elements_in os → length (pasts ps es) ≡ length (pasts os es)
as_many_pasts os ps es alike =
    many_pasts ps [] (old_places (elements_in ps) es)
    ∙ ap (λ l. length (old_places l es)) alike
    ∙ sym (many_pasts os [] (old_places (elements_in os) es))

-- no more are kept than there are
no_more_kept : {d : _} {ps qs : List Past} {ns ms : Forest} → PrunedIn d ps ns qs ms → length qs ≤ length ps
no_more_kept no_more = omega arith
no_more_kept (gap more) = let rest = no_more_kept more in omega arith
no_more_kept (same more) = let rest = no_more_kept more in omega arith
no_more_kept (pair one more) = let rest = no_more_kept more in omega arith
no_more_kept (left still more) = let rest = no_more_kept more in omega arith

-- one that is left out of a list is missing in it
pub is_missing : {d : _} {ps qs : List Past} {ns ms : Forest} → PrunedIn d ps ns qs ms → length qs ≡ suc (length ps) → ⊥
is_missing more as_many = let rest = no_more_kept more in absurd (omega arith)
