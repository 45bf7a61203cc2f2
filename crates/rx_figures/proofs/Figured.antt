-- What the figures of a body say of its nodes and levels.
use Rattle.std.proofs.Common.{◌≡◌, ◌+◌, ◌*◌, refl, ◌∙◌, arith, zero-add}
use Rattle.std.specs.Prelude.{ℕ}
use Rattle.rx_ast.specs.Syntax.{Program}
use Rattle.rx_rules.specs.Names.{component_number, root_name}
use Rattle.rx_rules.specs.Bounds.{body_by, component_levels, Size, nodes, levels, held, node_bound, depth_bound}
use Rattle.rx_figures.specs.Costs.{held_sum}
use Rattle.rx_figures.specs.Figures.{figures}
use Rattle.rx_figures.specs.declared.figures.Figures.{Figures}
use Rattle.rx_figures.proofs.HeldCounts.{held-sum, held-sum_right, held-max, held-product, held-product_right}
use Rattle.rx_figures.proofs.Along.{Along, body-along}

-- Nodes

abbrev IsNodes : Figures → Size → Type 0
IsNodes f s = (f.own ≡ held s.own) × (f.given ≡ held s.given)

regroup : (a b : ℕ) → held (1 + (a + b)) ≡ held (1 + a + b)
regroup a b = omega arith

component-own : (co cg ko : ℕ) → held (1 + held (held co + held (held cg * held ko))) ≡ held (1 + co + cg * ko)
component-own co cg ko = rw held-product (held-sum_right 1 _ ∙ go)
  where
    go : held (1 + (held co + held (cg * ko))) ≡ held (1 + co + cg * ko)
    go = omega arith

are-nodes : (q : Program) → Along (figures q) nodes IsNodes
are-nodes q = record {
  at_nothing = (refl, refl);
  at_text = (refl, refl);
  at_children = (refl, refl);
  at_repeated = λ n a b h. (rw (h.0, held-product_right) (held-sum_right 1 (n * b.own)), rw (h.1, held-product_right, zero-add) refl);
  at_choice = λ a a' b b' h l. (rw (h.0, l.0) (held-sum b.own b'.own), rw (h.1, l.1) (held-sum b.given b'.given));
  at_around = λ a b h. (rw h.0 (held-sum_right 1 b.own), rw zero-add h.1);
  at_boundary = λ a a' b b' h l.
      (rw (h.0, l.0, held-sum) (held-sum_right 1 (b.own + b'.own)), rw (h.1, l.1, zero-add) (held-sum b.given b'.given));
  at_catcher = λ a a' b b' h l.
      (rw (h.0, l.0, held-sum) (held-sum_right 1 (b.own + b'.own)), rw (h.1, l.1, zero-add) (held-sum b.given b'.given));
  at_component = λ a a' b b' h l.
      (rw (h.0, h.1, l.0) (component-own b.own b.given b'.own), rw (h.1, l.1) (held-product b.given b'.given));
  at_body = λ c a b h. h;
  at_beside = λ a a' b b' h l. (rw (h.0, l.0) (held-sum b.own b'.own), rw (h.1, l.1) (held-sum b.given b'.given));
}

-- the node bound from the figures of the root
pub bound-figured : (p : Program)
    → held_sum 1 (body_by (figures p) component_levels p (component_number p root_name)).own ≡ node_bound p
unfolding node_bound
bound-figured p =
    let h = body-along (figures p) nodes IsNodes (are-nodes p) component_levels p (component_number p root_name) in
    rw h.0 (held-sum_right 1 _)

-- Levels

abbrev IsLevels : Figures → ℕ → Type 0
IsLevels f d = f.levels ≡ held d

are-levels : (q : Program) → Along (figures q) levels IsLevels
are-levels q = record {
  at_nothing = refl;
  at_text = refl;
  at_children = refl;
  at_repeated = λ n a b h. rw h (held-sum_right 1 b);
  at_choice = λ a a' b b' h l. rw (h, l) (held-max b b');
  at_around = λ a b h. rw h (held-sum_right 1 b);
  at_boundary = λ a a' b b' h l. rw (h, l, held-max) (held-sum_right 1 _);
  at_catcher = λ a a' b b' h l. rw (h, l, held-max) (held-sum_right 1 _);
  at_component = λ a a' b b' h l. rw (h, l, held-sum) (held-sum_right 1 (b + b'));
  at_body = λ c a b h. h;
  at_beside = λ a a' b b' h l. rw (h, l) (held-max b b');
}

-- the depth bound from the figures of the root
pub depth-figured : (p : Program)
    → held_sum 1 (body_by (figures p) component_levels p (component_number p root_name)).levels ≡ depth_bound p
unfolding depth_bound
depth-figured p =
    let h = body-along (figures p) levels IsLevels (are-levels p) component_levels p (component_number p root_name) in
    rw h (held-sum_right 1 _)
