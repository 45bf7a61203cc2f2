-- What is put behind something well nested, if that succeeds.
use Rattle.std.proofs.Common.{◌≡◌, ◌++◌, sym, subst}
use Rattle.std.specs.Prelude.{Result, Ok, Err, OnOk, is_ok, if◌then◌else◌}
use Rattle.rx_base.specs.Values.{Text}
use Rattle.rx_page.specs.declared.tag.Tag.{Tag}
use Rattle.rx_page.specs.declared.tag.AttributeName.{AttributeName}
use Rattle.rx_page.specs.Escaping.{escaped}
use Rattle.rx_page.specs.Elements.{AreAttributes, IsNested, attribute, element, one_more, with_text, with_element, with_meta, joined, meta}

-- one attribute more
pub attribute-put : {T E : Type 0} (r : Result T E) (old new piece : Text) (name : AttributeName) (value : Text)
    → new ≡ (if is_ok r then old ++ piece else old) → piece ≡ attribute name value → OnOk r (AreAttributes old → AreAttributes new)
attribute-put (Ok _) old new piece name value is piece_is = λ before. subst (λ t. AreAttributes t) (sym is) (subst (λ t. AreAttributes (old ++ t)) (sym piece_is) (one_more old name value before))
attribute-put (Err _) old new piece name value is piece_is = tt

-- a text
pub text-put : {T E : Type 0} (r : Result T E) (old new piece text : Text)
    → new ≡ (if is_ok r then old ++ piece else old) → piece ≡ escaped text → OnOk r (IsNested old → IsNested new)
text-put (Ok _) old new piece text is piece_is = λ before. subst (λ t. IsNested t) (sym is) (subst (λ t. IsNested (old ++ t)) (sym piece_is) (with_text old text before))
text-put (Err _) old new piece text is piece_is = tt

-- an element
pub element-put : {T E : Type 0} (r : Result T E) (old new piece : Text) (tag : Tag) (attributes content : Text)
    → new ≡ (if is_ok r then old ++ piece else old) → piece ≡ element tag attributes content
    → OnOk r (IsNested old → AreAttributes attributes → IsNested content → IsNested new)
element-put (Ok _) old new piece tag attributes content is piece_is = λ before are inside.
    subst (λ t. IsNested t) (sym is) (subst (λ t. IsNested (old ++ t)) (sym piece_is) (with_element old tag attributes content before are inside))
element-put (Err _) old new piece tag attributes content is piece_is = tt

-- a tag without content
pub meta-put : {T E : Type 0} (r : Result T E) (old new piece attributes : Text)
    → new ≡ (if is_ok r then old ++ piece else old) → piece ≡ meta attributes
    → OnOk r (IsNested old → AreAttributes attributes → IsNested new)
meta-put (Ok _) old new piece attributes is piece_is = λ before are.
    subst (λ t. IsNested t) (sym is) (subst (λ t. IsNested (old ++ t)) (sym piece_is) (with_meta old attributes before are))
meta-put (Err _) old new piece attributes is piece_is = tt

-- another piece
pub piece-put : {T E : Type 0} (r : Result T E) (old new piece : Text)
    → new ≡ (if is_ok r then old ++ piece else old) → OnOk r (IsNested old → IsNested piece → IsNested new)
piece-put (Ok _) old new piece is = λ before more. subst (λ t. IsNested t) (sym is) (joined old piece before more)
piece-put (Err _) old new piece is = tt

-- what follows if a call succeeds
pub on-ok : {T E : Type 0} (r : Result T E) (P Q : Type 0) → (P → Q) → OnOk r P → OnOk r Q
on-ok (Ok _) P Q f p = f p
on-ok (Err _) P Q f p = tt
