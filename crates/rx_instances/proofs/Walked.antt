-- A walk down a tree along a path, and the instances on its way.
use Rattle.std.proofs.Common.{◌≡◌, ◌+◌, ◌<◌, ◌≤◌, ℕ, suc, nat_lt, Bool, true, false, [], ◌∷◌, ◌++◌, Option, Some, None, length, get_or, take, drop, slice_get, refl, sym, ap, ◌∙◌, append_assoc, arith, rules}
use Rattle.std.specs.Prelude.{◌||◌, option_map, option_and_then}
use Rattle.std.proofs.lemmas.Bool.Decides.{nat_tests}
use Rattle.std.proofs.lemmas.List.{drop_more, get_or-take, length-take-le, take-append-drop, take-take, take_all, take_more}
use Rattle.std.proofs.lemmas.Option.{none-some}
use Rattle.rx_base.specs.Values.{Name}
use Rattle.rx_ast.specs.Syntax.{Program}
use Rattle.rx_step.specs.Steps.{Path}
use Rattle.rx_elem.specs.Spots.{Mounted}
use Rattle.rx_elem.specs.Trees.{Node, children_of, mark_of}
use Rattle.commit_laws.specs.HiddenWaits.{IfNumbered}
use Rattle.rx_meaning.specs.Settled.{HasOwnNumbers, number_of}
use Rattle.rx_model.specs.State.{instance_found}
use Rattle.rx_ways.specs.Walk.{hinted}
use Rattle.rx_ways.specs.Ways.{Ways, is_way}
use Rattle.rx_instances.specs.Nearest.{Told, found_as, named, nearest_if, nearest_in, node_at, node_from, told}
use Rattle.rx_instances.proofs.Led.{all_led, led, led_from, led_told, told_number}

-- a number is less than another one, or not
by_order : {P : Type 0} (k w : ℕ) → (k < w → P) → (w ≤ k → P) → P
by_order {P} k w below above = go (nat_lt k w) refl
  where
    go : (b : Bool) → nat_lt k w ≡ b → P
    go true e = below (grind (arith, nat_tests))
    go false e = above (grind (arith, nat_tests))

-- what is known or holds stays so, if what holds stays
or_stays : (known old new : Bool) → (old ≡ true → new ≡ true) → known || old ≡ true → known || new ≡ true
or_stays true old new stays e = refl
or_stays false old new stays e = stays e

-- this node is put on the ways unless it is known to be on one, and those that were on them before stay
pub record Puts (n : Node) (known old new : Ways) : Type 0 where
  pub here : (m : ℕ) → number_of (mark_of n) ≡ Some m → hinted known new m ≡ true
  pub others : (m : ℕ) → is_way old m ≡ true → is_way new m ≡ true

-- So many parts of a path were walked, to this node: whatever follows leads on from it, and each instance that so many parts or fewer lead to is on the ways or known to be on one, beside those from before.
pub record Walked (p : Program) (tree : Option Node) (path : Path) (w : ℕ) (n : Node) (known old new : Ways) : Type 0 where
  pub leads : (more : Path) → node_at p tree (take w path ++ more) ≡ node_from p n more
  pub way : (k : ℕ) (f : Told) → k < w → led p tree (take (suc k) path) ≡ Some f → hinted known new f.number ≡ true
  pub grows : (m : ℕ) → is_way old m ≡ true → is_way new m ≡ true

put_told : (n : Node) (known old new : Ways) (f : Told) → Puts n known old new → told n ≡ Some f → hinted known new f.number ≡ true
put_told n known old new f puts is = puts.here f.number (told_number n f is)

module _ (p : Program) (tree : Option Node) where
  -- the first part leads to a node
  first_leads : (path rest : Path) (part : Name × ℕ) (n : Node) → path ≡ part ∷ rest → Some n ≡ slice_get (named p part.0 (nearest_if tree)) part.1
      → (more : Path) → node_at p tree (take 1 path ++ more) ≡ node_from p n more
  first_leads path rest part n is at more =
      ap (λ (q : Path). node_at p tree (take 1 q ++ more)) is
      ∙ ap (option_and_then (λ (x : Node). node_from p x more)) (sym at)

  pub walked_first : (path rest : Path) (part : Name × ℕ) (n : Node) (known old new : Ways) → path ≡ part ∷ rest → Some n ≡ slice_get (named p part.0 (nearest_if tree)) part.1
      → Puts n known old new → Walked p tree path 1 n known old new
  walked_first path rest part n known old new is at puts = record {
    leads = first_leads path rest part n is at;
    way = λ k f lt e. put_told n known old new f puts (sym (here k lt) ∙ e);
    grows = puts.others;
  }
    where
      one : (k : ℕ) → k < 1 → k ≡ 0
      one k lt = omega arith

      here : (k : ℕ) → k < 1 → led p tree (take (suc k) path) ≡ told n
      here k lt =
          ap (λ j. led p tree (take (suc j) path)) (one k lt)
          ∙ ap (λ (q : Path). led p tree (take 1 q)) is
          ∙ ap (option_and_then (λ (x : Node). led_from p x [])) (sym at)

  -- the first part leads nowhere, and so does each path that begins with it
  pub none_first : (path rest : Path) (part : Name × ℕ) → path ≡ part ∷ rest → None ≡ slice_get (named p part.0 (nearest_if tree)) part.1
      → led p tree path ≡ None
  none_first path rest part is at = ap (led p tree) is ∙ ap (option_and_then (λ (x : Node). led_from p x rest)) (sym at)

  pub none_prefix : (path rest : Path) (part : Name × ℕ) (k : ℕ) (f : Told) → path ≡ part ∷ rest → None ≡ slice_get (named p part.0 (nearest_if tree)) part.1
      → led p tree (take (suc k) path) ≡ Some f → ⊥
  none_prefix path rest part k f is at e =
      none-some f (sym (none_first (take (suc k) path) (take k rest) part (ap (take (suc k)) is) at) ∙ e)

  -- a further part leads to a node
  part_leads : (path : Path) (w : ℕ) (n x : Node) (part : Name × ℕ) → ((more : Path) → node_at p tree (take w path ++ more) ≡ node_from p n more)
      → w < length path → part ≡ get_or path w part → Some x ≡ slice_get (named p part.0 (nearest_in (children_of n))) part.1
      → (more : Path) → node_at p tree (take (w + 1) path ++ more) ≡ node_from p x more
  part_leads path w n x part leads lt is at more =
      ap (λ (q : Path). node_at p tree (q ++ more)) (take_more path w part lt ∙ ap (λ (q : Name × ℕ). take w path ++ q ∷ []) (sym is))
      ∙ ap (node_at p tree) (append_assoc (take w path) (part ∷ []) more)
      ∙ leads (part ∷ more)
      ∙ ap (option_and_then (λ (y : Node). node_from p y more)) (sym at)

  pub walked_more : (path : Path) (w : ℕ) (n x : Node) (part : Name × ℕ) (known old now new : Ways) → Walked p tree path w n known old now
      → w < length path → part ≡ get_or path w part → Some x ≡ slice_get (named p part.0 (nearest_in (children_of n))) part.1
      → Puts x known now new → Walked p tree path (w + 1) x known old new
  walked_more path w n x part known old now new walked lt is at puts = record {
    leads = part_leads path w n x part walked.leads lt is at;
    way = λ k f below e.
        by_order k w
        (λ before. or_stays (is_way known f.number) (is_way now f.number) (is_way new f.number) (puts.others f.number) (walked.way k f before e))
        (λ after. put_told x known now new f puts (sym (here k (omega (arith, below, after))) ∙ e));
    grows = λ m e. puts.others m (walked.grows m e);
  }
    where
      none_more : (q : Path) → q ++ [] ≡ q
      none_more q = search rules

      here : (k : ℕ) → suc k ≡ w + 1 → led p tree (take (suc k) path) ≡ told x
      here k same =
          ap (λ j. led p tree (take j path)) same
          ∙ led_told p tree (take (w + 1) path)
          ∙ ap (option_and_then told) (ap (node_at p tree) (sym (none_more (take (w + 1) path))) ∙ part_leads path w n x part walked.leads lt is at [])

  -- a further part leads nowhere, and so does the path
  none_after : (path : Path) (w : ℕ) (n : Node) (part : Name × ℕ) → ((more : Path) → node_at p tree (take w path ++ more) ≡ node_from p n more)
      → w < length path → part ≡ get_or path w part → None ≡ slice_get (named p part.0 (nearest_in (children_of n))) part.1
      → led p tree path ≡ None
  none_after path w n part leads lt is at =
      led_told p tree path
      ∙ ap (option_and_then told)
      (ap (node_at p tree) (sym (take-append-drop w path))
      ∙ leads (drop w path)
      ∙ ap (node_from p n) (drop_more path w part lt ∙ ap (λ (q : Name × ℕ). q ∷ drop (w + 1) path) (sym is))
      ∙ ap (option_and_then (λ (y : Node). node_from p y (drop (w + 1) path))) (sym at))

  pub walked_nowhere : (path : Path) (w : ℕ) (n : Node) (part : Name × ℕ) (known old new : Ways) → Walked p tree path w n known old new
      → w < length path → part ≡ get_or path w part → None ≡ slice_get (named p part.0 (nearest_in (children_of n))) part.1
      → led p tree path ≡ None
  walked_nowhere path w n part known old new walked lt is at = none_after path w n part walked.leads lt is at

  -- what the first parts of such a path lead to was put or is known
  pub nowhere_way : (path : Path) (w : ℕ) (n : Node) (part : Name × ℕ) (known old new : Ways) → Walked p tree path w n known old new
      → w < length path → part ≡ get_or path w part → None ≡ slice_get (named p part.0 (nearest_in (children_of n))) part.1
      → (k : ℕ) (f : Told) → k < length path → led p tree (take (suc k) path) ≡ Some f → hinted known new f.number ≡ true
  nowhere_way path w n part known old new walked lt is at k f below e =
      by_order k w
      (λ before. walked.way k f before e)
      (λ after. absurd (none-some f (sym (stops after) ∙ e)))
    where
      stops : w ≤ k → led p tree (take (suc k) path) ≡ None
      stops after =
          let long : w < length (take (suc k) path) = omega (arith, length-take-le (suc k) path (omega (arith, below)), after) in
          let same : take w (take (suc k) path) ≡ take w path = take-take w (suc k) path (omega (arith, after)) in
          none_after (take (suc k) path) w n part
          (λ more. ap (λ (q : Path). node_at p tree (q ++ more)) same ∙ walked.leads more)
          long (is ∙ sym (get_or-take (suc k) path w part (omega (arith, after)))) at

  -- the whole path was walked
  pub walked_whole : (path : Path) (w : ℕ) (n : Node) (known old new : Ways) → Walked p tree path w n known old new → length path ≤ w → node_at p tree path ≡ Some n
  walked_whole path w n known old new walked all =
      ap (node_at p tree) (sym (none_more (take w path) ∙ take_all w path all)) ∙ walked.leads []
    where
      none_more : (q : Path) → q ++ [] ≡ q
      none_more q = search rules

-- what a path leads to is told of the node that the walk leads to
pub is_led : (p : Program) (tree : Option Node) (next : ℕ) → IfNumbered tree → HasOwnNumbers next tree → (path : Path) (m : Mounted)
    → instance_found p tree path ≡ Some m → led p tree path ≡ Some (found_as m)
is_led p tree next numbered own path m e = sym (all_led p tree next numbered own path) ∙ ap (option_map found_as) e
