-- A render in progress has no more places than the bound on nodes.
use Rattle.std.specs.Prelude.{◌≡◌, ◌⊎◌, ℕ, zero, suc, ◌≤◌, [], Option, Some, None, refl}
use Rattle.std.proofs.Common.{arith, inl, inr, sym, subst, ◌∙◌, ap}
use Rattle.rx_ast.specs.Syntax.{Program}
use Rattle.rx_rules.specs.Names.{component_at, component_number, root_name}
use Rattle.rx_rules.specs.Bounds.{node_bound, component_levels}
use Rattle.rx_rules.specs.Versions.{node_limit}
use Rattle.rx_rules.specs.Keys.{KeysApart}
use Rattle.rx_elem.specs.Trees.{Node}
use Rattle.rx_meaning.specs.Fresh.{Sight, Contexts, Part, Shape, absent, two_lists, shape_of, empty, made, root_element, IsTree, none_yet, given}
use Rattle.rx_meaning.specs.Cursor.{Cursor, at_place, at_end, ended, begin, unit, start}
use Rattle.render_laws.proofs.FitRender.{IsPlain}
use Rattle.render_laws.proofs.RootLaws.{root_alts, root_size, bound_is_own, tree_fits}
use Rattle.render_laws.proofs.Declared.{plain_or_empty, empty_gives, root_counts}
use Rattle.render_laws.proofs.Fitting.{FitsOld}
use Rattle.room_laws.specs.Reached.{IsReached, starts, by_unit, past_subtree, past_attempt}
use Rattle.room_laws.specs.Places.{places_in}
use Rattle.room_laws.proofs.Fitted.{CursorFits}
use Rattle.room_laws.proofs.Steps.{start_fits, unit_fits, arrive_fits, attempt_fits}
use Rattle.room_laws.proofs.Counts.{cursor_room}

-- whatever a render comes to fits
reached_fits : (p : Program) (tree : Option Node) (c : Cursor) → IsPlain p → FitsOld (root_alts component_levels p) tree → IsReached p tree c → CursorFits p c
reached_fits p tree c plain fits (starts s same) =
    subst (λ q. IsPlain q → FitsOld (root_alts component_levels q) tree → CursorFits q c) same (λ a f. start_fits s a tree f) plain fits
reached_fits p tree c plain fits (by_unit s d same level r) =
    subst (λ q. IsPlain q → CursorFits q d → CursorFits q c) same (λ a h. unit_fits s a d level h) plain (reached_fits p tree d plain fits r)
reached_fits p tree c plain fits (past_subtree n fs cs e x same r) =
    let h = reached_fits p tree _ plain fits r in
    arrive_fits p n fs h.0 e (Some x) same h.2 h.3
reached_fits p tree c plain fits (past_attempt s n fs cs e o q f a same shape r) =
    subst (λ r. IsPlain r → CursorFits r (at_place (suc n) fs cs e o) → CursorFits r c) same (λ b h. attempt_fits s b n fs cs e o q f a shape h) plain (reached_fits p tree _ plain fits r)

fits_within : (p : Program) (tree : Option Node) (c : Cursor) → IsPlain p → node_bound p ≤ node_limit p → IsTree p tree → IsReached p tree c → places_in c ≤ node_bound p
fits_within p tree c plain small t r =
    omega (arith, cursor_room p c (reached_fits p tree c plain (tree_fits p tree plain t) r), root_size component_levels p, bound_is_own p small)

-- If no component is declared

-- a render then stands at the root's place, or it has ended with nothing
abbrev IsBare : Program → Cursor → Type 0
IsBare p (at_place n fs cs e old) = (fs ≡ []) × (e ≡ root_element p) × (old ≡ None)
IsBare p (at_end n fs o done) = ⊥
IsBare p (ended x) = x ≡ empty

root_absent : (s : Sight) → component_at s.program (component_number s.program root_name) ≡ None → (cs : Contexts) (old : Option Node) → shape_of s cs (root_element s.program) old ≡ absent
root_absent s h cs old = rw h refl

bare_start : (s : Sight) (p : Program) → s.program ≡ p → IsBare p (start s None)
unfolding start
bare_start s p same = (refl, ap root_element same, refl)

bare_begins : (s : Sight) (n : ℕ) (cs : Contexts) (old : Option Node) (shape : Shape) → shape ≡ absent → IsBare s.program (begin n [] (root_element s.program) old shape)
bare_begins s n cs old shape h = rw h refl

bare_unit : (s : Sight) → component_at s.program (component_number s.program root_name) ≡ None → (c : Cursor) → IsBare s.program c → IsBare s.program (unit s c)
unfolding unit
bare_unit s none (at_place zero fs cs e old) h = rw h.0 refl
bare_unit s none (at_place (suc n) fs cs e old) h =
    subst (λ gs. IsBare s.program (begin n gs e old (shape_of s cs e old))) (sym h.0)
    (subst (λ x. IsBare s.program (begin n [] x old (shape_of s cs x old))) (sym h.1)
    (bare_begins s n cs old (shape_of s cs (root_element s.program) old) (root_absent s none cs old)))
bare_unit s none (at_end n fs o done) h = absurd h
bare_unit s none (ended x) h = h

not_two : (q f : Part) → absent ≡ two_lists q f → ⊥
not_two q f h = cc

not_there : (x : Node) → Some x ≡ None → ⊥
not_there x h = cc

module _ (p : Program) (none : (c : ℕ) → component_at p c ≡ None) where
  no_root : (s : Sight) → s.program ≡ p → component_at s.program (component_number s.program root_name) ≡ None
  no_root s same = subst (λ q. component_at q (component_number q root_name) ≡ None) (sym same) (none (component_number p root_name))

  reached_bare : (c : Cursor) → IsReached p None c → IsBare p c
  reached_bare c (starts s same) = bare_start s p same
  reached_bare c (by_unit s d same level r) =
      subst (λ q. IsBare q d → IsBare q c) same (bare_unit s (no_root s same) d) (reached_bare d r)
  reached_bare c (past_subtree n fs cs e x same r) = absurd (not_there x (reached_bare _ r).2)
  reached_bare c (past_attempt s n fs cs e o q f a same shape r) =
      let is : e ≡ root_element s.program = (reached_bare _ r).1 ∙ ap root_element (sym same) in
      absurd (not_two q f (sym (root_absent s (no_root s same) cs o) ∙ (ap (λ x. shape_of s cs x o) (sym is) ∙ shape)))

  bare_within : (c : Cursor) → IsBare p c → places_in c ≤ node_bound p
  bare_within (at_place n fs cs e old) h = rw (h.0, h.1) (omega (arith, root_counts p))
  bare_within (at_end n fs o done) h = absurd h
  bare_within (ended x) h = rw h (omega arith)

  no_tree : (tree : Option Node) → IsTree p tree → tree ≡ None
  no_tree tree none_yet = refl
  no_tree tree (given s old n next same t g) =
      absurd (not_made n (sym (empty_gives s (subst (λ q. (c : ℕ) → component_at q c ≡ None) (sym same) none) old) ∙ g))
    where
      not_made : (n : Node) → empty ≡ made n → ⊥
      not_made n h = cc

-- A render in progress over a tree of the program has no more places than the bound.
pub reached_within : (p : Program) (tree : Option Node) (c : Cursor) → KeysApart p → node_bound p ≤ node_limit p → IsTree p tree → IsReached p tree c → places_in c ≤ node_bound p
reached_within p tree c apart small t r = go (plain_or_empty p apart)
  where
    go : IsPlain p ⊎ ((c : ℕ) → component_at p c ≡ None) → places_in c ≤ node_bound p
    go (inl plain) = fits_within p tree c plain small t r
    go (inr none) = bare_within p none c (reached_bare p none c (subst (λ x. IsReached p x c) (no_tree p none tree t) r))
