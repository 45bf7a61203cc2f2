-- A forest stands for one list of hosts in tree order.
use Rattle.std.specs.Prelude.{◌≡◌, ℕ, Bool, List, [], Option, refl}
use Rattle.std.proofs.Common.{sym, ◌∙◌, ap, subst}
use Rattle.rx_elem.specs.declared.attr.AttrValue.{AttrValue}
use Rattle.rx_elem.specs.Spots.{container}
use Rattle.rx_forest.specs.Hosts.{Host, Content, tag, letters}
use Rattle.rx_forest.specs.Forests as forests
use Rattle.rx_forest.specs.Forests.{HostForest, Held, held_of, body_of, forest_of}
use Rattle.rx_lines.specs.Lines.{Line, host_lines}
use Rattle.rx_report.specs.TreeOrder.{IsByName, AreInTreeOrder}
use Rattle.rx_report.proofs.ByName.{same_by_name}
use Rattle.rx_report.specs.Walks.{Walk, walked, step}
use Rattle.rx_report.proofs.Walks.{walk_of}

-- contents that are one body are the same
pub same_content : (c d : Content) → IsByName c → IsByName d → body_of c ≡ body_of d → c ≡ d
same_content (tag m xs) (tag n ys) l m' e =
    let name : m ≡ n = cc in
    let values : forests.value_named xs ≡ forests.value_named ys = cc in
    let attrs : xs ≡ ys = same_by_name xs ys l m' (λ x. ap (λ (f : List ℕ → Option AttrValue). f x) values) in cc
same_content (tag m xs) (letters t) l m' e = absurd (cc)
same_content (letters s) (tag n ys) l m' e = absurd (cc)
same_content (letters s) (letters t) l m' e = cc

same_host : (n p : ℕ) (g h : Host) → g.number ≡ n → h.number ≡ n → g.parent ≡ p → h.parent ≡ p → IsByName g.content → IsByName h.content → held_of g ≡ held_of h → g ≡ h
same_host n p g h num num' par par' l m e =
    let content : g.content ≡ h.content = same_content g.content h.content l m (ap (λ (x : Held). x.body) e) in
    let hidden : g.hidden ≡ h.hidden = ap (λ (x : Held). x.hidden) e in
    ap (λ (k : ℕ). record { number = k; parent = g.parent; hidden = g.hidden; content = g.content }) (num ∙ sym num')
    ∙ ap (λ (k : ℕ). record { number = h.number; parent = k; hidden = g.hidden; content = g.content }) (par ∙ sym par')
    ∙ ap (λ (b : Bool). record { number = h.number; parent = h.parent; hidden = b; content = g.content }) hidden
    ∙ ap (λ (c : Content). record { number = h.number; parent = h.parent; hidden = h.hidden; content = c }) content

same_walk : (f : HostForest) (p level : ℕ) (ns : List ℕ) (gs hs : List Host) (ks ls : List Line) → Walk f p level ns gs ks → Walk f p level ns hs ls → gs ≡ hs
same_walk f _ _ _ _ _ _ _ walked walked = refl
same_walk f p level _ _ _ _ _ (step {n = n} {ns = ns} {below = b} {later = l} {deeper = d} {others = o} g num par held name first second)
    (step {below = b'} {later = l'} {deeper = d'} {others = o'} h num' par' held' name' first' second') =
    let host : g ≡ h = same_host n p g h num num' par par' name name' (cc) in
    let below : b ≡ b' = same_walk f n _ (f.children n) b b' d d' first first' in
    let later : l ≡ l' = same_walk f p level ns l l' o o' second second' in cc

pub one_list : (gs hs : List Host) → AreInTreeOrder gs → AreInTreeOrder hs → forest_of gs ≡ forest_of hs → gs ≡ hs
one_list gs hs g h e =
    same_walk (forest_of gs) container 1 ((forest_of gs).children container) gs hs (host_lines [] gs) (host_lines [] hs) (walk_of gs g)
    (subst (λ (f : HostForest). Walk f container 1 (f.children container) hs (host_lines [] hs)) (sym e) (walk_of hs h))
