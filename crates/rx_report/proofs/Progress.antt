-- How far a walk has come in the list of hosts that its forest stands for.
use Rattle.std.specs.Prelude.{◌≡◌, ℕ, ◌+◌, ◌<◌, ◌^◌, List, [], ◌∷◌, ◌++◌, Option, Some, None, flat_map, codes, length, refl}
use Rattle.std.specs.List.{AllByRecursion}
use Rattle.std.proofs.Common.{sym, ◌∙◌, ap, subst, arith, append_assoc, append-nil, length-append}
use Rattle.rx_base.specs.Values.{Text}
use Rattle.rx_elem.specs.Spots.{container}
use Rattle.rx_forest.specs.Hosts.{Host}
use Rattle.rx_forest.specs.Forests.{HostForest, held_of, forest_of}
use Rattle.rx_host.specs.Kept.{first_of}
use Rattle.rx_lines.specs.Lines.{Line, Options, tree_host, host_lines, tree_lines, line_bytes, report_bytes}
use Rattle.rx_report.specs.TreeOrder.{IsByName, AreInTreeOrder}
use Rattle.rx_report.specs.Walks.{Walk, walked, step, Behind, outermost, inside, ToGo, over, comes}
use Rattle.rx_report.proofs.Walks.{walk_of}

-- a number is one of 64 bits
abbrev pub IsSmall : Host → Type 0
IsSmall h = h.number < 2 ^ 64

-- What is listed by now and what is left, with these hosts above the next one: so many hosts are listed, and their lines are written behind an old text.
pub record Progress (f : HostForest) (o : Options) (all : List Host) (old text : Text) (above : List ℕ) (next : Option ℕ) (count : ℕ) : Type 0 where
  pub listed : List Host
  pub left : List Host
  pub lines : List Line
  pub left_lines : List Line
  pub hosts : all ≡ listed ++ left
  pub all_lines : host_lines [] all ≡ lines ++ left_lines
  pub written : text ≡ old ++ report_bytes o lines
  pub to_go : ToGo f above next left left_lines
  pub counted : length listed ≡ count
  pub small : AllByRecursion IsSmall listed

-- Before the first host

starts : (f : HostForest) (ns : List ℕ) (hs : List Host) (ls : List Line) → f.children container ≡ ns → Walk f container 1 ns hs ls → ToGo f [] (first_of ns) hs ls
starts f _ _ _ e walked = over
starts f _ _ _ e (step {ns = ns} g num par held name first second) = comes g num held name first (outermost [] ns e second)

nothing_written : (o : Options) (old : Text) → old ≡ old ++ report_bytes o []
unfolding report_bytes
nothing_written o old = sym (append-nil old)

pub begins : (f : HostForest) (o : Options) (all : List Host) (old : Text) (next : Option ℕ) → AreInTreeOrder all → f ≡ forest_of all → next ≡ first_of (f.children container)
    → Progress f o all old old [] next 0
begins f o all old next t is first =
    let walk : Walk f container 1 (f.children container) all (host_lines [] all) =
    subst (λ (g : HostForest). Walk g container 1 (g.children container) all (host_lines [] all)) (sym is) (walk_of all t) in
    record {
      listed = [];
      left = all;
      lines = [];
      left_lines = host_lines [] all;
      hosts = refl;
      all_lines = refl;
      written = nothing_written o old;
      to_go = subst (λ (n : Option ℕ). ToGo f [] n all (host_lines [] all)) (sym first) (starts f (f.children container) all (host_lines [] all) refl walk);
      counted = refl;
      small = tt;
    }

-- The next host

-- the host that comes next, with its line
pub record Turn (f : HostForest) (above : List ℕ) (n : ℕ) (left : List Host) (lines : List Line) : Type 0 where
  pub host : Host
  pub others : List Host
  pub other_lines : List Line
  pub hosts_are : left ≡ host ∷ others
  pub lines_are : lines ≡ tree_host (length above + 1) host ∷ other_lines
  pub number : host.number ≡ n
  pub held : f.held n ≡ Some (held_of host)
  pub by_name : IsByName host.content

level_is : (f : HostForest) (above : List ℕ) (level n : ℕ) (left : List Host) (lines : List Line) → Behind f above level n left lines → level ≡ length above + 1
level_is f _ _ n _ _ (outermost before after e walk) = omega arith
level_is f _ _ n _ _ (inside {p = p} {level = level} {above = above} {outer = outer} {last = last} before after e walk behind) =
    let rest : level ≡ length above + 1 = level_is f above level p outer last behind in omega arith

pub turn : (f : HostForest) (above : List ℕ) (n : ℕ) (left : List Host) (lines : List Line) → ToGo f above (Some n) left lines → Turn f above n left lines
turn f above n _ _ (comes {level = level} {below = b} {later = l} {deeper = d} {others = o} g num held name first behind) =
    record {
      host = g;
      others = b ++ l;
      other_lines = d ++ o;
      hosts_are = refl;
      lines_are = ap (λ (k : ℕ). tree_host k g ∷ (d ++ o)) (level_is f above level n l o behind);
      number = num;
      held = held;
      by_name = name;
    }

pub one_more : (xs : List Host) (x : Host) → AllByRecursion IsSmall xs → IsSmall x → AllByRecursion IsSmall (xs ++ x ∷ [])
one_more [] x a h = (h, tt)
one_more (y ∷ xs) x a h = (a.0, one_more xs x a.1 h)

line_more : (o : Options) (ls : List Line) (l : Line) → report_bytes o ls ++ line_bytes o l ≡ report_bytes o (ls ++ l ∷ [])
unfolding report_bytes
line_more o [] l = sym (append-nil (line_bytes o l))
line_more o (k ∷ ls) l = append_assoc (line_bytes o k) (flat_map (line_bytes o) ls) (line_bytes o l) ∙ ap (λ (t : Text). line_bytes o k ++ t) (line_more o ls l)

pub goes_on : (f : HostForest) (o : Options) (all : List Host) (old text more : Text) (above after : List ℕ) (n : ℕ) (next : Option ℕ) (count : ℕ)
    → (p : Progress f o all old text above (Some n) count) → (t : Turn f above n p.left p.left_lines) → n < 2 ^ 64
    → more ≡ text ++ line_bytes o (tree_host (length above + 1) t.host) → ToGo f after next t.others t.other_lines → Progress f o all old more after next (count + 1)
goes_on f o all old text more above after n next count p t fits wrote to_go =
    let l : Line = tree_host (length above + 1) t.host in
    record {
      listed = p.listed ++ t.host ∷ [];
      left = t.others;
      lines = p.lines ++ l ∷ [];
      left_lines = t.other_lines;
      hosts = p.hosts ∙ ap (λ (hs : List Host). p.listed ++ hs) t.hosts_are ∙ sym (append_assoc p.listed (t.host ∷ []) t.others);
      all_lines = p.all_lines ∙ ap (λ (ls : List Line). p.lines ++ ls) t.lines_are ∙ sym (append_assoc p.lines (l ∷ []) t.other_lines);
      written = wrote ∙ ap (λ (x : Text). x ++ line_bytes o l) p.written ∙ append_assoc old (report_bytes o p.lines) (line_bytes o l) ∙ ap (λ (x : Text). old ++ x) (line_more o p.lines l);
      to_go = to_go;
      counted = length-append p.listed (t.host ∷ []) ∙ ap (λ (k : ℕ). k + 1) p.counted;
      small = one_more p.listed t.host p.small (subst (λ (k : ℕ). k < 2 ^ 64) (sym t.number) fits);
    }

-- Behind the last host

none_left : (f : HostForest) (above : List ℕ) (left : List Host) (lines : List Line) → ToGo f above None left lines → lines ≡ []
none_left f _ _ _ over = refl

pub ends : (f : HostForest) (o : Options) (all : List Host) (old text : Text) (above : List ℕ) (count : ℕ) → Progress f o all old text above None count
    → text ≡ old ++ report_bytes o (host_lines [] all)
ends f o all old text above count p =
    let none : p.left_lines ≡ [] = none_left f above p.left p.left_lines p.to_go in
    let same : p.lines ≡ host_lines [] all = sym (append-nil p.lines) ∙ ap (λ (ls : List Line). p.lines ++ ls) (sym none) ∙ sym p.all_lines in
    p.written ∙ ap (λ (ls : List Line). old ++ report_bytes o ls) same

-- the head and the lines of hosts behind a text
pub tree_text : (o : Options) (old : Text) (hs : List Host) → (old ++ codes "tree\n") ++ report_bytes o (host_lines [] hs) ≡ old ++ report_bytes o (tree_lines hs)
unfolding report_bytes
tree_text o old hs = append_assoc old (codes "tree\n") (flat_map (line_bytes o) (host_lines [] hs))
