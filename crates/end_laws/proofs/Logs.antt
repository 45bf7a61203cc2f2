-- The effects that a comparison destroys and creates: those of the comparison of the trimmed trees.
use Rattle.std.specs.Prelude.{◌≡◌, Bool, true, false, List, [], ◌∷◌, map, flat_map, Option, Some, None, if◌then◌else◌}
use Rattle.std.proofs.Common.{refl, ap, ◌∙◌}
use Rattle.rx_elem.specs.Trees.{Node, node, is_shown}
use Rattle.rx_elem.specs.Spots.{Around, Spot, spots, spots_in}
use Rattle.rx_elem.specs.Compare.{Gone, Compared, compared, AllCompared, no_comparisons, comparison}
use Rattle.rx_effect.specs.declared.log.LogLine.{LogLine}
use Rattle.rx_effect.specs.EffectLog.{Phase, layout, passive, destroyed_at, around_old, destroyed_in, destroyed_by_hiding, own_destroyed, own_created, destroyed, destroyed_all, created, created_all, layout_log, passive_of}
use Rattle.end_laws.specs.Trimmed.{trimmed, trimmed_if}
use Rattle.end_laws.proofs.Read.{trimmed_spot, spots_same, spots_in_same, mark_same}
use Rattle.end_laws.proofs.Compared.{trimmed_gone, trimmed_compared, trimmed_all}

-- What is gone

at_spots : (phase : Phase) (l : List Spot) → flat_map (destroyed_at phase) (map trimmed_spot l) ≡ flat_map (destroyed_at phase) l
at_spots phase [] = refl
at_spots phase (s ∷ l) = rw (mark_same s.at, at_spots phase l) refl

gone_one : (phase : Phase) (g : Gone) → destroyed_in phase (trimmed_gone g) ≡ destroyed_in phase g
gone_one phase g =
    ap (flat_map (destroyed_at phase)) (spots_same (around_old g.was_visible) g.node) ∙ at_spots phase (spots (around_old g.was_visible) g.node)

gone_list : (phase : Phase) (gs : List Gone) → flat_map (destroyed_in phase) (map trimmed_gone gs) ≡ flat_map (destroyed_in phase) gs
gone_list phase [] = refl
gone_list phase (g ∷ gs) = rw (gone_one phase g, gone_list phase gs) refl

-- What is hidden

if_shown : (b : Bool) (xs ys : List LogLine) → xs ≡ ys → (if b then xs else []) ≡ (if b then ys else [])
if_shown true xs ys e = e
if_shown false xs ys e = refl

hiding_same : (phase : Phase) (visible : Bool) (old : Option Node) → destroyed_by_hiding phase visible (trimmed_if old) ≡ destroyed_by_hiding phase visible old
hiding_same passive visible old = refl
hiding_same layout visible None = refl
hiding_same layout visible (Some (node e m ns fs)) =
    if_shown (is_shown m) _ _
    (ap (flat_map (destroyed_at layout)) (spots_in_same (around_old visible) ns) ∙ at_spots layout (spots_in (around_old visible) ns))

-- What a node destroys and creates of its own

own_destroyed_same : (phase : Phase) (old : Option Node) (new : Node) (visible displaced : Bool) (around : Around)
    → own_destroyed phase (record { old = trimmed_if old; new = trimmed new; was_visible = visible; around = around; displaced = displaced })
    ≡ own_destroyed phase (record { old = old; new = new; was_visible = visible; around = around; displaced = displaced })
own_destroyed_same phase None (node e m ns fs) visible displaced around = refl
own_destroyed_same phase (Some (node d l os ps)) (node e m ns fs) visible displaced around = refl

own_created_same : (phase : Phase) (old : Option Node) (new : Node) (visible displaced : Bool) (around : Around)
    → own_created phase (record { old = trimmed_if old; new = trimmed new; was_visible = visible; around = around; displaced = displaced })
    ≡ own_created phase (record { old = old; new = new; was_visible = visible; around = around; displaced = displaced })
own_created_same phase None (node e m ns fs) visible displaced around = refl
own_created_same phase (Some (node d l os ps)) (node e m ns fs) visible displaced around = refl

-- What all destroy and create

mutual
  pub destroyed_same : (phase : Phase) (c : Compared) → destroyed phase (trimmed_compared c) ≡ destroyed phase c
  destroyed_same phase (compared c gone ns fs) =
      rw (
        own_destroyed_same phase c.old c.new c.was_visible c.displaced c.around,
        gone_list phase gone,
        mark_same c.new,
        hiding_same phase c.was_visible c.old,
        destroyed_all_same phase ns,
        destroyed_all_same phase fs,
      ) refl

  destroyed_all_same : (phase : Phase) (cs : AllCompared) → destroyed_all phase (trimmed_all cs) ≡ destroyed_all phase cs
  destroyed_all_same phase no_comparisons = refl
  destroyed_all_same phase (comparison c cs) = rw (destroyed_same phase c, destroyed_all_same phase cs) refl

mutual
  pub created_same : (phase : Phase) (c : Compared) → created phase (trimmed_compared c) ≡ created phase c
  created_same phase (compared c gone ns fs) =
      rw (own_created_same phase c.old c.new c.was_visible c.displaced c.around, mark_same c.new, created_all_same phase ns, created_all_same phase fs)
      refl

  created_all_same : (phase : Phase) (cs : AllCompared) → created_all phase (trimmed_all cs) ≡ created_all phase cs
  created_all_same phase no_comparisons = refl
  created_all_same phase (comparison c cs) = rw (created_same phase c, created_all_same phase cs) refl

pub layout_same : (c : Compared) → layout_log (trimmed_compared c) ≡ layout_log c
layout_same c = rw (destroyed_same layout c, created_same layout c) refl

pub passive_same : (c : Compared) → passive_of (trimmed_compared c) ≡ passive_of c
passive_same c = rw (destroyed_same passive c, created_same passive c) refl
