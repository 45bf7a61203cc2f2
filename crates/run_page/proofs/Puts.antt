-- What is put behind what, if all of it succeeds.
use Rattle.std.proofs.Common.{◌≡◌, ◌∙◌, ◌++◌, ap, append_assoc}
use Rattle.std.specs.Prelude.{Result, Ok, Err, OnOk}
use Rattle.rx_base.specs.Values.{Text}

-- what follows if a call succeeds
pub on-ok : {T E : Type 0} (r : Result T E) (P Q : Type 0) → (P → Q) → OnOk r P → OnOk r Q
on-ok (Ok _) P Q f p = f p
on-ok (Err _) P Q f p = tt

-- one text more behind those that were put
pub put-more : (start a b xs y : Text) → a ≡ start ++ xs → b ≡ a ++ y → b ≡ start ++ (xs ++ y)
put-more start a b xs y is_a is_b = is_b ∙ ap (λ (t : Text). t ++ y) is_a ∙ append_assoc start xs y

-- the same, behind nothing
pub put-first : (start a y : Text) → start ≡ y → a ≡ start → a ≡ y
put-first start a y e is = is ∙ e
