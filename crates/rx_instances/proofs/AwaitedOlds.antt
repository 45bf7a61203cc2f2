-- What the visible fibers of a list of current ones wait for is what the visible nodes wait for, for which it stands.
use Rattle.std.proofs.Common.{◌≡◌, ℕ, suc, Bool, true, false, not, ◌&&◌, ◌||◌, Option, Some, None, refl, sym, ap, ◌∙◌}
use Rattle.rx_base.specs.Awaits.{awaits_where, has}
use Rattle.rx_base.specs.AwaitsLaws.{awaits_agree}
use Rattle.rx_elem.specs.Trees.{Forest, Node, awaits_in, child, is_hidden, none, vacant}
use Rattle.rx_lists.specs.Shapes.{Shape, fiber}
use Rattle.rx_fiber.specs.Fibers.{Fiber}
use Rattle.rx_fiber.specs.OldLists.{begins_fallback, is_fallback}
use Rattle.rx_fiber.specs.Reading.{has_node, AreFor, IsFor, IsTreeOf, alone, beside, gap, next, no_more, whole}
use Rattle.rx_fiber.proofs.OldLists.{list_begins, no_fallback, not_hidden}
use Rattle.rx_spots.specs.Waits.{all_awaited, waits_from, waits_in}
use Rattle.rx_spots.proofs.Waiting.{all_awaited-none, all_awaited-some, none-where}
use Rattle.rx_instances.specs.AwaitedFibers.{stage_awaits, waits_list}

-- a node that shows its children has no fallback
shown_parts : (own hidden inside later : Bool) → hidden ≡ false → ((own || inside) || later) ≡ (((own || (not hidden && inside)) || false) || later)
shown_parts true hidden inside later e = refl
shown_parts false true inside later e = absurd (cc e)
shown_parts false false true later e = refl
shown_parts false false false later e = refl

-- one without children has its fallback in their place,
alone_parts : (own hidden inside fallback later : Bool) → inside ≡ false → ((own || fallback) || later) ≡ (((own || (not hidden && inside)) || fallback) || later)
alone_parts true hidden inside fallback later e = refl
alone_parts false true inside fallback later e = refl
alone_parts false false true fallback later e = absurd (cc e)
alone_parts false false false fallback later e = refl

-- and one that keeps some has its fallback beside it
beside_parts : (own hidden inside fallback later : Bool) → hidden ≡ true → ((own || false) || (fallback || later)) ≡ (((own || (not hidden && inside)) || fallback) || later)
beside_parts true hidden inside fallback later e = refl
beside_parts false true inside true later e = refl
beside_parts false true inside false later e = refl
beside_parts false false inside fallback later e = absurd (cc e)

-- if a list has no node, nothing of it waits
gone_waits : (r : ℕ) (ns : Forest) → has_node ns ≡ false → waits_in ns r ≡ false
gone_waits r none e = refl
gone_waits r (vacant ns) e = gone_waits r ns e
gone_waits r (child x ns) e = cc

-- The fibers of a list wait exactly if its nodes do.
mutual
  list_waits : (r n : ℕ) (ns : Forest) (s : Shape Fiber) → AreFor n ns s → waits_list s r ≡ waits_in ns r
  list_waits r n _ _ no_more = refl
  list_waits r n (vacant ns) s (gap are) = list_waits r (suc n) ns s are
  list_waits r n (child x ns) s (next {rest = rest} is are) =
      node_waits r n x s rest ns is (no_fallback (suc n) rest (list_begins (suc n) ns rest are)) (list_waits r (suc n) ns rest are)

  node_waits : (r n : ℕ) (x : Node) (s rest : Shape Fiber) (ns : Forest) → IsFor n x s rest → begins_fallback rest ≡ false → waits_list rest r ≡ waits_in ns r
      → waits_list s r ≡ (waits_from x r || waits_in ns r)
  node_waits r n _ _ rest more (whole {v = v} {m = m} {ns = ns} {ks = ks} is shown are) last later =
      (λ i. (has (stage_awaits (is.stage i)) r || (not (last i) && list_waits r 0 ns ks are i)) || later i)
      ∙ shown_parts (has (awaits_in m) r) (is_hidden m) (waits_in ns r) (waits_in more r) (not_hidden m shown)
  node_waits r n _ _ rest more (alone {v = v} {m = m} {ns = ns} {fs = fs} {ks = ks} is hidden gone are) last later =
      (λ i. (has (stage_awaits (is.stage i)) r || (not (last i) && list_waits r 0 fs ks are i)) || later i)
      ∙ alone_parts (has (awaits_in m) r) (is_hidden m) (waits_in ns r) (waits_in fs r) (waits_in more r) (gone_waits r ns gone)
  node_waits r n _ _ rest more (beside {v = v} {w = w} {m = m} {ns = ns} {fs = fs} {ks = ks} {ws = ws} is hidden some are f d) last later =
      (λ i. (has (stage_awaits (is.stage i)) r || (not (is_fallback (f i)) && waits_list ks r))
      || ((has (stage_awaits (f i)) r || (not (last i) && list_waits r 0 fs ws d i)) || later i))
      ∙ beside_parts (has (awaits_in m) r) (is_hidden m) (waits_in ns r) (waits_in fs r) (waits_in more r) hidden

or_false : (b : Bool) → (b || false) ≡ b
or_false true = refl
or_false false = refl

-- So do those of the current tree.
pub tree_waits : (y : Option Node) (c : Shape Fiber) → IsTreeOf y c → awaits_where (waits_list c) ≡ all_awaited y
tree_waits None c is = awaits_agree (waits_list c) (λ r. false) (λ r lt. list_waits r 0 (vacant none) c is) ∙ sym none-where ∙ all_awaited-none
tree_waits (Some x) c is = awaits_agree (waits_list c) (waits_from x) (λ r lt. list_waits r 0 (child x none) c is ∙ or_false (waits_from x r)) ∙ all_awaited-some x
