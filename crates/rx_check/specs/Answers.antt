-- What a check answers.
use Rattle.std.specs.Prelude.{◌≡◌, ◌⊎◌, Option, Some, None, Result, MatchResult}
use Rattle.rx_check.specs.declared.refusal.Refusal.{Refusal}
use Rattle.rx_check.specs.declared.refusal.Refusal.TheVariants as refusal

-- it passes exactly if nothing is refused, and else tells what is refused, or that no memory is left
abbrev pub Answers : {A : Type 0} → Option Refusal → Result A Refusal → Type 0
Answers refused result = MatchResult result (λ _. refused ≡ None) (λ r. (r ≡ refusal.OutOfMemory) ⊎ (refused ≡ Some r))
