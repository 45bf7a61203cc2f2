-- What stands in the places of a render in progress fits the plans of the program.
use Rattle.std.specs.Prelude.{◌≡◌, ℕ, suc, true, false, not, List, [], ◌∷◌, ◌++◌, map, Option, Some, None, option_and_then, position, refl}
use Rattle.std.specs.List.{zip}
use Rattle.std.proofs.Common.{ap, sym, subst}
use Rattle.std.proofs.lemmas.List.{append-nil, append_assoc}
use Rattle.rx_ast.specs.Syntax.{Program}
use Rattle.rx_rules.specs.Bounds.{component_levels}
use Rattle.rx_elem.specs.Elements.{Element, key_of, gathered}
use Rattle.rx_elem.specs.Elements as elements
use Rattle.rx_elem.specs.Identity.{Identity, identity_after, identities_after, identities, identified, is_same_child}
use Rattle.rx_elem.specs.Trees.{Node, Forest, forest, children_if, elements_in, element_of, is_caught}
use Rattle.rx_elem.specs.Compare.{node_at}
use Rattle.rx_meaning.specs.Fresh.{Part, Place, empty, made, waits, throws}
use Rattle.rx_meaning.specs.Touched.{children_with_old}
use Rattle.rx_meaning.specs.Cursor.{Open, around, trying, falling, guarding, Frame, Cursor, at_place, at_end, ended}
use Rattle.render_laws.proofs.Plans.{Alts, Plan}
use Rattle.render_laws.proofs.Coming.{IsFew, Comes, AllCome, comes_within}
use Rattle.render_laws.proofs.Fitting.{piece, allowed, Used, plans_of, IsThere, Fits, FitsEach, FitsIn, FitsOld, old_sub, old_fits}
use Rattle.render_laws.proofs.FitLists.{HasPlan, replaced, replaced_used, replaced_sub, replaced_offers, own_ids, own_few, own_covered, AllSuit, AllCovered, all_suit}
use Rattle.render_laws.proofs.RootLaws.{root_alts}
use Rattle.rx_elem.proofs.Identities.{child_of}

-- the element of a place that is done
abbrev pub element_if : Option Node → Element
element_if None = elements.null
element_if (Some n) = element_of n

-- the places of a list that are done fit what is offered to them, behind these elements
abbrev pub DoneFits : List Plan → List (List Identity) → List Element → List (Option Node) → Type 0
DoneFits ps us before [] = Unit {0}
DoneFits ps us before (o ∷ done) =
    FitsOld (allowed ps us (identity_after before (key_of (element_if o)))) o × DoneFits ps us (before ++ element_if o ∷ []) done

-- the elements of a list that are still to begin come from what is offered to them, and their old nodes fit it
abbrev pub Coming : ℕ → Program → List Plan → List (List Identity) → List Element → List (Element × Option Node) → Type 0
Coming n p ps us before [] = Unit {0}
Coming n p ps us before (x ∷ xs) =
    Comes n p (allowed ps us (identity_after before (key_of x.0))) x.0
    × FitsOld (allowed ps us (identity_after before (key_of x.0))) x.1
    × Coming n p ps us (before ++ x.0 ∷ []) xs

-- so do all elements of a list that is to be rendered
abbrev pub PartComes : ℕ → Program → List Plan → Part → Type 0
PartComes n p ps q = (us : List (List Identity)) × Used ps us × Coming n p ps us [] (children_with_old q)

-- the element of an open node
abbrev pub element_at : Open → Element
element_at (around e m) = e
element_at (trying e old f) = e
element_at (falling e old a) = e
element_at (guarding e f) = e

-- the plans of the list of an open node: those of its fallback, if it falls or has caught a value
abbrev pub sides : Open → Alts → List Plan
sides (around e m) b = plans_of (not (is_caught m)) b
sides (trying e old f) b = plans_of true b
sides (falling e old a) b = plans_of false b
sides (guarding e f) b = plans_of true b

-- what an open node keeps fits
abbrev pub KeptFits : Alts → Open → Type 0
KeptFits b (around e m) = IsThere b
KeptFits b (trying e old f) = IsThere b
KeptFits b (falling e old a) = IsThere b × FitsIn (plans_of true b) (children_if old)
KeptFits b (guarding e f) = IsThere b

-- so does what it keeps once it opens its fallback, and the fallback comes from its plans
abbrev pub FallFits : ℕ → Program → Alts → Open → Type 0
FallFits n p b (around e m) = Unit {0}
FallFits n p b (trying e old f) = FitsIn (plans_of true b) (children_if old) × PartComes n p (plans_of false b) f
FallFits n p b (falling e old a) = Unit {0}
FallFits n p b (guarding e f) = PartComes n p (plans_of false b) f

-- to a place of this element within these open nodes these alternatives are offered
abbrev pub FramesFit : ℕ → Program → List Frame → Alts → Element → Type 0
FramesFit n p [] a e = a ≡ root_alts component_levels p
FramesFit n p (f ∷ fs) a e =
    (b : Alts) × (us : List (List Identity)) × Used (sides f.node b) us × DoneFits (sides f.node b) us [] f.done
    × (a ≡ allowed (sides f.node b) us (identity_after (map element_if f.done) (key_of e)))
    × Coming n p (sides f.node b) us (map element_if f.done ++ e ∷ []) f.rest
    × KeptFits b f.node × FallFits n p b f.node × FramesFit (suc n) p fs b (element_at f.node)

-- a list of an open node that has come so far fits
abbrev pub ListFits : ℕ → Program → List Frame → Open → List (Option Node) → List (Element × Option Node) → Type 0
ListFits n p fs o done xs =
    (b : Alts) × (us : List (List Identity)) × Used (sides o b) us × DoneFits (sides o b) us [] done
    × Coming n p (sides o b) us (map element_if done) xs
    × KeptFits b o × FallFits n p b o × FramesFit (suc n) p fs b (element_at o)

-- a list that is done fits
abbrev pub EndFits : ℕ → Program → List Frame → Open → List (Option Node) → Type 0
EndFits n p fs o done =
    (b : Alts) × (us : List (List Identity)) × Used (sides o b) us × DoneFits (sides o b) us [] done × KeptFits b o × FramesFit n p fs b (element_at o)

abbrev pub PlaceFits : Program → Place → Type 0
PlaceFits p empty = Unit {0}
PlaceFits p (made n) = Fits (root_alts component_levels p) n
PlaceFits p (waits a) = Unit {0}
PlaceFits p (throws x) = Unit {0}

-- what a render in progress has fits
abbrev pub CursorFits : Program → Cursor → Type 0
CursorFits p (at_place n fs cs e old) = (a : Alts) × Comes n p a e × FitsOld a old × FramesFit n p fs a e
CursorFits p (at_end n fs o done) = EndFits n p fs o done
CursorFits p (ended x) = PlaceFits p x

-- One place more is done

pub map_more : (done : List (Option Node)) (o : Option Node) → map element_if (done ++ o ∷ []) ≡ map element_if done ++ element_if o ∷ []
map_more [] o = refl
map_more (d ∷ done) o = ap (λ es. element_if d ∷ es) (map_more done o)

pub done_more : (ps : List Plan) (us : List (List Identity)) (before : List Element) (done : List (Option Node)) (o : Option Node) → DoneFits ps us before done
    → FitsOld (allowed ps us (identity_after (before ++ map element_if done) (key_of (element_if o)))) o → DoneFits ps us before (done ++ o ∷ [])
done_more ps us before [] o h k =
    (subst (λ es. FitsOld (allowed ps us (identity_after es (key_of (element_if o)))) o) (append-nil before) k, tt)
done_more ps us before (d ∷ done) o h k = (
  h.0,
  done_more ps us (before ++ element_if d ∷ []) done o h.1
      (subst (λ es. FitsOld (allowed ps us (identity_after es (key_of (element_if o)))) o) (sym (append_assoc before (element_if d ∷ []) (map element_if done))) k),
)

-- the places that are done fit as a list
pub done_each : (ps : List Plan) (us : List (List Identity)) (before : List Element) (done : List (Option Node)) → DoneFits ps us before done
    → FitsEach ps us (identities_after before (elements_in (forest done))) (forest done)
done_each ps us before [] h = tt
done_each ps us before (None ∷ done) h = done_each ps us (before ++ elements.null ∷ []) done h.1
done_each ps us before (Some n ∷ done) h = (h.0, done_each ps us (before ++ element_of n ∷ []) done h.1)

-- A list that is to be rendered

module _ (n : ℕ) (p : Program) (ps : List Plan) (q : Plan) (h : HasPlan q ps) (old : Forest) (fits : FitsIn ps old) (v : List Identity) where
  each_comes : (before es : List Element) → AllSuit n p q v (identities_after before es) es → AllCovered q v (identities_after before es)
      → Coming n p ps (replaced h v fits.0) before
      (zip es (map (option_and_then (node_at old)) (map (λ c. position (is_same_child c) (identified (elements_in old))) (map child_of (zip (identities_after before es) es)))))
  each_comes before [] s c = tt
  each_comes before (e ∷ es) s c =
      let i = identity_after before (key_of e) in (
        comes_within n p (piece q v i) (allowed ps (replaced h v fits.0) i) (replaced_offers h v fits.0 fits.1 i) e s.0,
        old_sub (allowed ps fits.0 i) (allowed ps (replaced h v fits.0) i) (replaced_sub h v fits.0 i c.0)
            (option_and_then (node_at old) (position (is_same_child (record { identity = i; element = e })) (identified (elements_in old))))
            (old_fits ps fits.0 old fits.2 (record { identity = i; element = e })),
        each_comes (before ++ e ∷ []) es s.1 c.1,
      )

-- the children of a list come from its plans, against old ones that fit
pub list_comes : (n : ℕ) (p : Program) (ps : List Plan) (q : Plan) → HasPlan q ps → (part : Part) → IsFew q (gathered part.elements) → AllCome n p q (gathered part.elements)
    → FitsIn ps part.old → PartComes n p ps part
list_comes n p ps q h part few come fits =
    let es = part.elements in
    let v = own_ids q (identities es) in (
      replaced h v fits.0,
      replaced_used h v fits.0 (own_few q es few) fits.1,
      each_comes n p ps q h part.old fits v [] es (all_suit n p q es come) (own_covered q (identities es)),
    )
