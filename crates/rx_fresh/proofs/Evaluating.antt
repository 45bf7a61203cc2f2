-- What an evaluation gave, its body gives again.
use Rattle.std.specs.Prelude.{◌≡◌, ◌+◌, ℕ, ℤ, List, [], Option, Some, None, false, option_map, slice_index_or}
use Rattle.std.proofs.Common.{refl, sym, ap, subst, arith}
use Rattle.rx_ast.specs.Syntax.{Component, Program}
use Rattle.rx_rules.specs.Names.{component_at}
use Rattle.rx_elem.specs.declared.effect.VersionRead.{VersionRead}
use Rattle.rx_meaning.specs.Body.{Body, body_of, ready, throw, wait}
use Rattle.rx_meaning.specs.Fresh.{Contexts}
use Rattle.rx_meaning.specs.Settled.{read_anew}
use Rattle.commit_laws.proofs.BodyLaw.{Agrees, body_agrees}
use Rattle.rx_fresh.specs.Evaluated.{Evaluation, Gives, IsEvaluated, childless, given_by}

-- a version that no resource had
abbrev another : List ℕ → ℕ → ℕ
another versions r = slice_index_or versions r 0 + 1

-- where no resource was read, other contexts agree if they have the values that were read
agrees : (e : Evaluation) (cs now : Contexts) (vs versions : List ℕ) (rs resources : List (Option ℤ)) → read_anew now e.reads ≡ false
    → Agrees (childless e.props e.hooks cs vs rs) now (another vs) versions resources e.reads []
agrees e cs now vs versions rs resources same =
    record {
      contexts_agree = same;
      versions_agree = refl;
      resources_agree = λ r x there is. absurd (let no : ⊥ = omega (arith, is) in no);
    }

-- what a body gave that read no resource is right for the program
pub evaluated : (p : Program) (e : Evaluation) (cs : Contexts) (vs : List ℕ) (rs : List (Option ℤ)) → e.versions ≡ []
    → Gives p e.component (childless e.props e.hooks cs vs rs) (given_by e) → IsEvaluated p e
evaluated p e cs vs rs none gives now versions resources same = by_component (component_at p e.component) gives
  where
    by_component : (o : Option Component) → option_map (λ d. body_of p d (childless e.props e.hooks cs vs rs)) o ≡ Some (given_by e)
        → option_map (λ d. body_of p d (childless e.props e.hooks now versions resources)) o ≡ Some (given_by e)
    by_component None h = absurd (cc h)
    by_component (Some d) h =
        ap Some (body_agrees p (childless e.props e.hooks cs vs rs) now (another vs) versions resources d e.elements e.effects e.initials e.reads e.versions
        (subst (λ x. Agrees (childless e.props e.hooks cs vs rs) now (another vs) versions resources e.reads x) (sym none) (agrees e cs now vs versions rs resources same))
        (let b : body_of p d (childless e.props e.hooks cs vs rs) ≡ given_by e = cc in b))

-- the versions that a body read, if it is ready
abbrev pub versions_in : Body → List VersionRead
versions_in (wait r v) = []
versions_in (throw x) = []
versions_in (ready es effects initials reads versions) = versions
