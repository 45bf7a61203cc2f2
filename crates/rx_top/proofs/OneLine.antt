-- A generated run has one line for each number of rounds.
use Rattle.std.proofs.Common.{◌≡◌, ℕ, List, sym, ap, subst, ◌∙◌}
use Rattle.rx_ast.specs.Syntax.{Program}
use Rattle.rx_step.specs.declared.step.Step.{Step}
use Rattle.rx_accept.specs.Judgements.{Judgement, IsJudged, accepted}
use Rattle.rx_model.specs.State.{opening}
use Rattle.rx_model.specs.Stretch.{Stretch}
use Rattle.rx_model.specs.Turns.{OfRender, AnyRender}
use Rattle.rx_model.specs.Machine.{RunTo}
use Rattle.rx_model.proofs.AskingLess.{any-run}
use Rattle.run_laws.specs.Unsliced.{AreUnsliced, UnslicedLaw}
use Rattle.rx_gen.specs.Meant.{generated_input, generated_program, generated_steps}
use Rattle.rx_root.specs.Paying.{Pays}
use Rattle.rx_top.specs.Outcome.{IsSummary, summary_of}

-- what is known of inputs, of the generated one, and of runs
pub record OneLaws (rounds : ℕ) : Type 0 where
  pub one : (input : List ℕ) (j k : Judgement) → IsJudged input j → IsJudged input k → j ≡ k
  pub judged : IsJudged (generated_input rounds) (accepted generated_program (generated_steps rounds))
  pub unsliced : AreUnsliced (generated_steps rounds)
  pub alike : (p : Program) → UnslicedLaw AnyRender AnyRender p

-- a run of what the generated input is accepted with is one of the generated program and its steps
its_run : (Asked : OfRender) (n : ℕ) → OneLaws n → (p : Program) (steps : List Step) (r : Stretch) → IsJudged (generated_input n) (accepted p steps) → RunTo Asked p opening steps r
    → RunTo AnyRender generated_program opening (generated_steps n) r
its_run Asked n laws p steps r judged runs =
    let same : accepted p steps ≡ accepted generated_program (generated_steps n) = laws.one (generated_input n) (accepted p steps) (accepted generated_program (generated_steps n)) judged laws.judged in
    let program : p ≡ generated_program = cc in
    let script : steps ≡ generated_steps n = cc in
    subst (λ (q : Program). RunTo AnyRender q opening (generated_steps n) r) program
    (subst (λ (xs : List Step). RunTo AnyRender p opening xs r) script (any-run Asked p opening steps r runs))

pub summary-one : (n : ℕ) → OneLaws n → (text other : List ℕ) (bodies more : ℕ) → IsSummary n text bodies → IsSummary n other more → text ≡ other
summary-one n laws text other bodies more a b =
    let alike = laws.alike generated_program opening (generated_steps n) laws.unsliced a.whole b.whole (its_run Pays n laws a.program a.steps a.whole a.generated a.runs)
    (its_run Pays n laws b.program b.steps b.whole b.generated b.runs) in
    a.text_is ∙ (ap (summary_of n) alike.after ∙ sym b.text_is)
