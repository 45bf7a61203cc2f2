-- What fits has no more places than the plans have room for.
use Rattle.std.specs.Prelude.{◌≡◌, ℕ, suc, ◌+◌, ◌≤◌, Bool, true, false, not, cond, List, [], ◌∷◌, ◌++◌, map, Option, Some, None}
use Rattle.std.proofs.Common.{arith, ap}
use Rattle.std.proofs.lemmas.List.{append-nil, append_assoc}
use Rattle.rx_ast.specs.Syntax.{Program}
use Rattle.rx_rules.specs.Bounds.{component_levels}
use Rattle.rx_elem.specs.Elements.{Element, key_of}
use Rattle.rx_elem.specs.Elements as elements
use Rattle.rx_elem.specs.Identity.{Identity, identity_after, identities_after}
use Rattle.rx_elem.specs.Trees.{Node, Forest, forest, children_if, is_caught}
use Rattle.rx_elem.specs.Spots.{at_root}
use Rattle.rx_meaning.specs.Fresh.{empty, made, waits, throws}
use Rattle.rx_meaning.specs.Cursor.{Open, around, trying, falling, guarding, Frame, Cursor, at_place, at_end, ended, is_null}
use Rattle.render_laws.proofs.Plans.{Alts, Plan, alts_size}
use Rattle.render_laws.proofs.Coming.{Has, here, there, Comes}
use Rattle.render_laws.proofs.Fitting.{allowed, Used, plans_of, FitsOld}
use Rattle.render_laws.proofs.Room.{forest_count, cost, plans_size, all_cost, there_size, fits_count, in_count, spots_count, spots_in_count}
use Rattle.render_laws.proofs.RootLaws.{root_alts}
use Rattle.room_laws.specs.Places.{nodes_in, to_begin, open_places, places_around, places_in}
use Rattle.room_laws.proofs.Fitted.{element_if, DoneFits, Coming, element_at, sides, KeptFits, FramesFit, CursorFits}

has_room : {p f : Plan} {a : Alts} → Has p f a → 1 ≤ alts_size a
has_room here = omega arith
has_room (there h) = omega (arith, has_room h)

-- where an element comes from, there is room for its node
comes_room : (n : ℕ) (p : Program) (a : Alts) (e : Element) → Comes n p a e → cond (is_null e) 0 1 ≤ alts_size a
comes_room n p a elements.null h = omega arith
comes_room n p a (elements.text t) h = has_room h.2
comes_room n p a (elements.host name k attrs es) h = has_room h.2
comes_room n p a (elements.comp c k ps es) h = has_room h.4
comes_room n p a (elements.list marked es) h = has_room h.2
comes_room n p a (elements.boundary k e es) h = has_room h.3
comes_room n p a (elements.catcher k e es) h = has_room h.3
comes_room n p a (elements.provider c k x es) h = has_room h.2

-- the elements of a list that are to come
abbrev coming_elements : List (Element × Option Node) → List Element
coming_elements [] = []
coming_elements (x ∷ xs) = x.0 ∷ coming_elements xs

coming_room : (n : ℕ) (p : Program) (ps : List Plan) (us : List (List Identity)) (before : List Element) (xs : List (Element × Option Node)) → Coming n p ps us before xs
    → to_begin xs ≤ cost ps us (identities_after before (coming_elements xs))
coming_room n p ps us before [] h = omega arith
coming_room n p ps us before (x ∷ xs) h =
    omega (arith, comes_room n p (allowed ps us (identity_after before (key_of x.0))) x.0 h.0, coming_room n p ps us (before ++ x.0 ∷ []) xs h.2)

old_room : (a : Alts) (o : Option Node) (ns : Forest) → FitsOld a o → forest_count (forest (o ∷ [])) ≤ alts_size a
old_room a None ns h = omega arith
old_room a (Some n) ns h = omega (arith, fits_count a n h)

one_more : (o : Option Node) (done : List (Option Node)) → forest_count (forest (o ∷ done)) ≡ forest_count (forest (o ∷ [])) + forest_count (forest done)
one_more None done = omega arith
one_more (Some n) done = omega arith

done_room : (ps : List Plan) (us : List (List Identity)) (before : List Element) (done : List (Option Node)) (es : List Element) → DoneFits ps us before done
    → forest_count (forest done) + cost ps us (identities_after (before ++ map element_if done) es) ≤ cost ps us (identities_after before (map element_if done ++ es))
done_room ps us before [] es h = let e = ap (λ l. cost ps us (identities_after l es)) (append-nil before) in omega (arith, e)
done_room ps us before (o ∷ done) es h =
    let e = ap (λ l. cost ps us (identities_after l es)) (append_assoc before (element_if o ∷ []) (map element_if done)) in
    omega (
      arith,
      e,
      one_more o done,
      old_room (allowed ps us (identity_after before (key_of (element_if o)))) o (forest done) h.0,
      done_room ps us (before ++ element_if o ∷ []) done es h.1,
    )

-- a list has room for what is done, for all that is offered to the place that it has come to, and for what is to begin
list_room : (n : ℕ) (p : Program) (ps : List Plan) (us : List (List Identity)) (done : List (Option Node)) (e : Element) (xs : List (Element × Option Node)) → Used ps us
    → DoneFits ps us [] done → Coming n p ps us (map element_if done ++ e ∷ []) xs
    → forest_count (forest done) + (alts_size (allowed ps us (identity_after (map element_if done) (key_of e))) + to_begin xs) ≤ plans_size ps
list_room n p ps us done e xs u d c =
    omega (
      arith,
      all_cost ps us u (map element_if done ++ e ∷ coming_elements xs),
      done_room ps us [] done (e ∷ coming_elements xs) d,
      coming_room n p ps us (map element_if done ++ e ∷ []) xs c,
    )

end_room : (ps : List Plan) (us : List (List Identity)) (done : List (Option Node)) → Used ps us → DoneFits ps us [] done → forest_count (forest done) ≤ plans_size ps
end_room ps us done u d = omega (arith, all_cost ps us u (map element_if done ++ []), done_room ps us [] done [] d)

-- an open node has room for itself, what it keeps and its list
open_room : (o : Open) (b : Alts) → KeptFits b o → open_places o + plans_size (sides o b) ≤ alts_size b
open_room (around e m) b k = by_test (is_caught m)
  where
    by_test : (q : Bool) → 1 + plans_size (plans_of (not q) b) ≤ alts_size b
    by_test true = omega (arith, there_size b k)
    by_test false = omega (arith, there_size b k)
open_room (trying e old f) b k = omega (arith, there_size b k)
open_room (guarding e f) b k = omega (arith, there_size b k)
open_room (falling e old a) b k =
    omega (arith, there_size b k.0, in_count (plans_of true b) (children_if old) k.1, spots_in_count at_root (children_if old))

frames_room : (n : ℕ) (p : Program) (fs : List Frame) (a : Alts) (e : Element) (m : ℕ) → FramesFit n p fs a e → m ≤ alts_size a
    → m + places_around fs ≤ alts_size (root_alts component_levels p)
frames_room n p [] a e m h l = omega (arith, ap alts_size h)
frames_room n p (f ∷ fs) a e m h l =
    let room = list_room n p (sides f.node h.0) h.1 f.done e f.rest h.2 h.3 h.5 in
    let own = open_room f.node h.0 h.6 in
    let more : m + (open_places f.node + (nodes_in (forest f.done) + to_begin f.rest)) ≤ alts_size h.0 =
    omega (arith, room, own, ap alts_size h.4, spots_in_count at_root (forest f.done)) in
    omega (arith, frames_room (suc n) p fs h.0 (element_at f.node) (m + (open_places f.node + (nodes_in (forest f.done) + to_begin f.rest))) h.8 more)

-- what fits has no more places than the root has room for
pub cursor_room : (p : Program) (c : Cursor) → CursorFits p c → places_in c ≤ alts_size (root_alts component_levels p)
cursor_room p (at_place n fs cs e old) h =
    let one : to_begin ((e, old) ∷ []) ≤ alts_size h.0 = omega (arith, comes_room n p h.0 e h.1) in
    omega (arith, frames_room n p fs h.0 e (to_begin ((e, old) ∷ [])) h.3 one)
cursor_room p (at_end n fs o done) h =
    let all = end_room (sides o h.0) h.1 done h.2 h.3 in
    let own : open_places o + nodes_in (forest done) ≤ alts_size h.0 = omega (arith, open_room o h.0 h.4, all, spots_in_count at_root (forest done)) in
    omega (arith, frames_room n p fs h.0 (element_at o) (open_places o + nodes_in (forest done)) h.5 own)
cursor_room p (ended empty) h = omega arith
cursor_room p (ended (made n)) h = omega (arith, fits_count (root_alts component_levels p) n h, spots_count at_root n)
cursor_room p (ended (waits a)) h = omega arith
cursor_room p (ended (throws x)) h = omega arith
