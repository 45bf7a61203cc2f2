-- If a program has a context, each context that a component reads is one of its own.
use Rattle.std.specs.List.{position_or_len}
use Rattle.std.specs.Prelude.{List, [], bytes_eq, length, map, nat_lt, refl, ◌<◌, ◌∷◌, ◌≡◌}
use Rattle.std.proofs.Common.{arith}
use Rattle.std.proofs.lemmas.Bool.Decides.{nat_tests}
use Rattle.rx_ast.specs.Syntax.{Context, Program, Statement, constant, context, contexts, effect, reducer, state, throw_if, transition, use_resource}
use Rattle.rx_base.specs.Values.{Name}
use Rattle.rx_rules.specs.Names.{context_number, place_among}
use Rattle.rx_rules.specs.Reads.{AllDeclared, IsDeclared, ReadsDeclared}
use Rattle.commit_laws.proofs.Naming.{place_within}

names_long : (cs : List Context) → length (map (λ c. c.name) cs) ≡ length cs
names_long [] = refl
names_long (c ∷ cs) = omega (arith, names_long cs)

context_within : (p : Program) (name : Name) → 0 < length (contexts p) → context_number p name < length (contexts p)
context_within p name some =
    let same = names_long (contexts p) in
    let h : place_among (map (λ c. c.name) (contexts p)) name < length (map (λ c. c.name) (contexts p)) =
    place_within (map (λ c. c.name) (contexts p)) name (omega arith)
    (position_or_len (bytes_eq name) (map (λ c. c.name) (contexts p)))
    (nat_lt (position_or_len (bytes_eq name) (map (λ c. c.name) (contexts p))) (length (map (λ c. c.name) (contexts p)))) refl in
    omega arith

one_declared : (p : Program) → 0 < length (contexts p) → (s : Statement) → IsDeclared p s
one_declared p some (state x setter e) = tt
one_declared p some (reducer x setter f e) = tt
one_declared p some (transition x starter) = tt
one_declared p some (context x c) = let lt = context_within p c some in grind (arith, nat_tests)
one_declared p some (use_resource x r) = tt
one_declared p some (constant x e) = tt
one_declared p some (effect layout label es) = tt
one_declared p some (throw_if e) = tt

all_declared : (p : Program) → 0 < length (contexts p) → (ss : List Statement) → AllDeclared p ss
all_declared p some [] = tt
all_declared p some (s ∷ ss) = (one_declared p some s, all_declared p some ss)

pub reads_declared : (p : Program) → 0 < length (contexts p) → ReadsDeclared p
reads_declared p some c d there = all_declared p some d.statements
