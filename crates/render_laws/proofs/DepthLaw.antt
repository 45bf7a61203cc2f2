-- No place of a render is met at the depth limit, so what a render gives doesn't depend on it.
use Rattle.std.specs.Prelude.{◌≡◌, ℕ, zero, suc, ◌≤◌, Bool, true, false, List, [], ◌∷◌, Option, nat_le, refl}
use Rattle.std.specs.List.{zip}
use Rattle.std.proofs.Common.{arith, sym, ◌∙◌}
use Rattle.std.proofs.lemmas.Bool.Decides.{nat_tests}
use Rattle.rx_ast.specs.Syntax.{Program}
use Rattle.rx_rules.specs.Bounds.{depth_bound}
use Rattle.rx_elem.specs.Elements.{Element, Elements, listed, gathered}
use Rattle.rx_elem.specs.Elements as elements
use Rattle.rx_elem.specs.Trees.{Node}
use Rattle.rx_elem.specs.Compare.{old_nodes}
use Rattle.rx_meaning.specs.Fresh.{Sight, Contexts, Renders, empty, rendered, render_all, render_part, Part, Shape, absent, waiting, throwing, one_list, two_lists, guarded, shape_of, place_of, depth_limit, default_contexts, root_element, fresh}
use Rattle.rx_meaning.specs.Levels.{body_depth, element_depth, elements_depth, Fits, PartFits}
use Rattle.rx_meaning.proofs.Depths.{ShapeFits, shape_fits}

-- two ways to render agree on each element that is no deeper
abbrev Agree : ℕ → Program → Renders → Renders → Type 0
Agree n p f g = (e : Element) (old : Option Node) → Fits n p e → f e old ≡ g e old

all_agree : (n : ℕ) (p : Program) (f g : Renders) → Agree n p f g → (es : List Element) (olds : List (Option Node))
    → elements_depth (body_depth n p) (gathered es) ≤ n → render_all f (zip es olds) ≡ render_all g (zip es olds)
all_agree n p f g h [] olds b = refl
all_agree n p f g h (e ∷ es) [] b = refl
all_agree n p f g h (e ∷ es) (o ∷ olds) b =
    let first : f e o ≡ g e o = h e o (omega arith) in
    let rest : render_all f (zip es olds) ≡ render_all g (zip es olds) = all_agree n p f g h es olds (omega arith) in
    rw (first, rest) refl

part_agrees : (n : ℕ) (p : Program) (f g : Contexts → Renders) → ((cs : Contexts) → Agree n p (f cs) (g cs)) → (t : Part) → PartFits n p t
    → render_part f t ≡ render_part g t
part_agrees n p f g h t b = all_agree n p (f t.contexts) (g t.contexts) (h t.contexts) t.elements (old_nodes t.old t.elements) b

shape_agrees : (n : ℕ) (p : Program) (f g : Contexts → Renders) → ((cs : Contexts) → Agree n p (f cs) (g cs))
    → (e : Element) (old : Option Node) (shape : Shape) → ShapeFits n p shape → place_of f e old shape ≡ place_of g e old shape
shape_agrees n p f g h e old absent b = refl
shape_agrees n p f g h e old (waiting r v) b = refl
shape_agrees n p f g h e old (throwing x) b = refl
shape_agrees n p f g h e old (one_list m t) b = let same = part_agrees n p f g h t b in rw same refl
shape_agrees n p f g h e old (two_lists t u) b =
    let same = part_agrees n p f g h t b.0 in
    let other = part_agrees n p f g h u b.1 in
    rw (same, other) refl
shape_agrees n p f g h e old (guarded t u) b =
    let same = part_agrees n p f g h t b.0 in
    let other = part_agrees n p f g h u b.1 in
    rw (same, other) refl

nothing_is_deeper : (s : Sight) (cs : Contexts) (m n : ℕ) (e : Element) (old : Option Node) → element_depth (body_depth zero s.program) e ≤ 0
    → rendered m s cs e old ≡ rendered n s cs e old
unfolding rendered
nothing_is_deeper s cs m n elements.null old b = empty_at m ∙ sym (empty_at n)
  where
    empty_at : (k : ℕ) → rendered k s cs elements.null old ≡ empty
    empty_at zero = refl
    empty_at (suc k) = refl
nothing_is_deeper s cs m n (elements.text t) old b = absurd (omega arith)
nothing_is_deeper s cs m n (elements.host name k attrs es) old b = absurd (omega arith)
nothing_is_deeper s cs m n (elements.comp c k ps es) old b = absurd (omega arith)
nothing_is_deeper s cs m n (elements.list marked es) old b = absurd (omega arith)
nothing_is_deeper s cs m n (elements.boundary k f es) old b = absurd (omega arith)
nothing_is_deeper s cs m n (elements.catcher k f es) old b = absurd (omega arith)
nothing_is_deeper s cs m n (elements.provider c k x es) old b = absurd (omega arith)

-- any two limits that are at least an element's depth give the same
pub limits_agree : (d m n : ℕ) (s : Sight) → d ≤ m → d ≤ n → (cs : Contexts) → Agree d s.program (rendered m s cs) (rendered n s cs)
unfolding rendered
limits_agree zero m n s h k cs e old b = nothing_is_deeper s cs m n e old b
limits_agree (suc d) zero n s h k cs e old b = absurd (omega arith)
limits_agree (suc d) (suc m) zero s h k cs e old b = absurd (omega arith)
limits_agree (suc d) (suc m) (suc n) s h k cs e old b =
    shape_agrees d s.program (rendered m s) (rendered n s) (limits_agree d m n s (omega arith) (omega arith)) e old (shape_of s cs e old) (shape_fits d s cs e old b)

-- any two limits at which the places of a list fit give the same of it
pub part_limits_agree : (s : Sight) (t : Part) (m n : ℕ) → PartFits m s.program t → PartFits n s.program t → render_part (rendered m s) t ≡ render_part (rendered n s) t
part_limits_agree s t m n a b = go (nat_le m n) refl
  where
    go : (x : Bool) → nat_le m n ≡ x → render_part (rendered m s) t ≡ render_part (rendered n s) t
    go true e = let l : m ≤ n = grind (arith, nat_tests) in part_agrees m s.program (rendered m s) (rendered n s) (limits_agree m m n s (omega arith) l) t a
    go false e = let l : n ≤ m = grind (arith, nat_tests) in part_agrees n s.program (rendered m s) (rendered n s) (limits_agree n m n s l (omega arith)) t b

-- What the root gives doesn't depend on the depth limit: with any greater limit it is the same.
pub limit_is_no_matter : (s : Sight) → depth_bound s.program ≤ depth_limit → (n : ℕ) → depth_limit ≤ n → (old : Option Node)
    → rendered n s (default_contexts s.program) (root_element s.program) old ≡ fresh s old
unfolding fresh depth_bound
limit_is_no_matter s b n h old =
    limits_agree depth_limit n depth_limit s h (omega arith) (default_contexts s.program) (root_element s.program) old (omega arith)
