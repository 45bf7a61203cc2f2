-- What the laws of the machine ask of a program that is accepted.
use Rattle.std.proofs.Common.{◌≡◌, ◌≤◌, true, false, [], Option, Some, None, refl, sym, arith, length}
use Rattle.std.specs.Prelude.{is_some, nat_eq, filter}
use Rattle.std.specs.Option.{option_map_or}
use Rattle.rx_ast.specs.Syntax.{Program, Component}
use Rattle.rx_rules.specs.Names.{component_named, component_names, component_number, root_name}
use Rattle.rx_rules.specs.Bounds.{component_levels, root_waits, root_throws, depth_bound}
use Rattle.rx_check.specs.Checks.{root_waits_for, root_throws_for}
use Rattle.rx_figures.specs.Figures.{nesting_levels}
use Rattle.rx_check.specs.Accepted.{IsAccepted}
use Rattle.rx_mentions.specs.declared.count.Count.TheVariants as count
use Rattle.rx_check.specs.Runnable.{IsRunnable}
use Rattle.rx_check.proofs.Apart.{accepted-apart}
use Rattle.rx_check.proofs.Declared.{accepted-declared}
use Rattle.rx_check.proofs.Accepting.{not-over}
use Rattle.rx_check.proofs.Limited.{few-components}
use Rattle.rx_figures.proofs.Alone.{none-waits, none-throws}

-- a root without parameters is there
root-is_some : (o : Option Component) → option_map_or (λ (c : Component). nat_eq (length c.parameters) 0) o false ≡ true → is_some o ≡ true
root-is_some None h = cc
root-is_some (Some c) h = refl

-- the levels that are asked of are the greatest
levels-few : (p : Program) → IsAccepted p → nesting_levels p ≡ component_levels
levels-few p a = omega (arith, few-components p a)

-- the root never waits
accepted-ready : (p : Program) → IsAccepted p → root_waits (λ c. true) p ≡ false
unfolding root_waits
accepted-ready p a =
    let there = root-is_some (component_named p root_name) a.rooted in
    let none : filter (root_waits_for p) (component_names p) ≡ [] = rw there at a.no_outside_use in
    let same = levels-few p a in
    none-waits p component_levels (component_number p root_name) (rw (sym same) none)

-- and never throws
accepted-caught : (p : Program) → IsAccepted p → root_throws (λ c. true) p ≡ false
unfolding root_throws
accepted-caught p a =
    let there = root-is_some (component_named p root_name) a.rooted in
    let none : filter (root_throws_for p) (component_names p) ≡ [] = rw there at a.no_outside_throw in
    let same = levels-few p a in
    none-throws p component_levels (component_number p root_name) (rw (sym same) none)

-- no tree is too deep
accepted-shallow : (p : Program) → IsAccepted p → depth_bound p ≤ 256
accepted-shallow p a = not-over 256 (depth_bound p) (a.within_counts count.Depth)

-- the machine can run a program that is accepted
pub accepted-runnable : (p : Program) → IsAccepted p → IsRunnable p
accepted-runnable p a = record {
  rooted = a.rooted;
  ready = accepted-ready p a;
  caught = accepted-caught p a;
  shallow = accepted-shallow p a;
  small = a.within_nodes;
  keys_apart = accepted-apart p a;
  reads_declared = accepted-declared p a;
}
