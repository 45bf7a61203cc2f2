-- How a text is told, if all of it succeeds.
use Rattle.std.proofs.Common.{◌≡◌, ◌∙◌, ℕ, [], ◌++◌, ap}
use Rattle.std.specs.Prelude.{codes, decimal}
use Rattle.rx_base.specs.Values.{Text}
use Rattle.rx_page.specs.declared.tag.Tag.TheVariants as tag
use Rattle.rx_page.specs.declared.tag.AttributeName.TheVariants as name
use Rattle.rx_page.specs.Escaping.{escaped}
use Rattle.rx_page.specs.Elements.{attribute, element}
use Rattle.rx_page.specs.Changes.{PutsChanges, piece_html}
use Rattle.std.specs.Prelude.{flat_map}
use Rattle.run_page.specs.Told.{Told, as_before, as_pieces, PutsChanged, PutsTold, changed_pane, kind_pane, same_pane, step_link}

-- what is put first is all
pub put-alone : (none all x : Text) → none ≡ [] → all ≡ none ++ x → all ≡ x
put-alone none all x e is = is ∙ ap (λ (t : Text). t ++ x) e

-- a link to a step
pub link-put : (step : ℕ) (words none content no_href href old new : Text)
    → words ≡ codes "step " ++ decimal step → none ≡ [] → content ≡ none ++ escaped words → no_href ≡ []
    → href ≡ no_href ++ attribute name.Href (codes "#step-" ++ decimal step) → new ≡ old ++ element tag.Link href content → new ≡ old ++ step_link step
link-put step words none content no_href href old new is_words is_none is_content is_no_href is_href is =
    let all : content ≡ escaped (codes "step " ++ decimal step) = put-alone none content (escaped words) is_none is_content ∙ ap (λ (t : Text). escaped t) is_words in
    let leads : href ≡ attribute name.Href (codes "#step-" ++ decimal step) = put-alone no_href href (attribute name.Href (codes "#step-" ++ decimal step)) is_no_href is_href in
    is ∙ ap (λ (t : Text). old ++ element tag.Link t content) leads ∙ ap (λ (t : Text). old ++ element tag.Link (attribute name.Href (codes "#step-" ++ decimal step)) t) all

-- the pane of what is as it was told
pub same-put : (kind caption : Text) (step : ℕ) (none one two three no_content no_attribute content old new : Text)
    → none ≡ [] → one ≡ none ++ escaped (codes "As after ") → two ≡ one ++ step_link step → three ≡ two ++ escaped (codes ".")
    → no_content ≡ [] → no_attribute ≡ [] → content ≡ no_content ++ element tag.Paragraph no_attribute three
    → new ≡ old ++ kind_pane kind caption content → new ≡ old ++ same_pane kind caption step
same-put kind caption step none one two three no_content no_attribute content old new is_none is_one is_two is_three is_no_content is_no_attribute is_content is =
    let first : one ≡ escaped (codes "As after ") = put-alone none one (escaped (codes "As after ")) is_none is_one in
    let sentence : three ≡ escaped (codes "As after ") ++ step_link step ++ escaped (codes ".") =
    is_three ∙ ap (λ (t : Text). t ++ escaped (codes ".")) (is_two ∙ ap (λ (t : Text). t ++ step_link step) first) in
    let all : content ≡ element tag.Paragraph [] (escaped (codes "As after ") ++ step_link step ++ escaped (codes ".")) =
    put-alone no_content content (element tag.Paragraph no_attribute three) is_no_content is_content
    ∙ ap (λ (t : Text). element tag.Paragraph t three) is_no_attribute ∙ ap (λ (t : Text). element tag.Paragraph [] t) sentence in
    is ∙ ap (λ (t : Text). old ++ kind_pane kind caption t) all

-- the pane of what may have changed
pub changed-put : (kind caption before after none pieces no_content no_attribute content old new : Text)
    → none ≡ [] → PutsChanges before after none pieces → no_content ≡ [] → no_attribute ≡ [] → content ≡ no_content ++ element tag.Preformatted no_attribute pieces
    → new ≡ old ++ kind_pane kind caption content → PutsChanged kind caption before after old new
changed-put kind caption before after none pieces no_content no_attribute content old new is_none puts is_no_content is_no_attribute is_content is =
    let inside : pieces ≡ flat_map piece_html puts.pieces = put-alone none pieces (flat_map piece_html puts.pieces) is_none puts.is in
    let all : content ≡ element tag.Preformatted [] (flat_map piece_html puts.pieces) =
    put-alone no_content content (element tag.Preformatted no_attribute pieces) is_no_content is_content
    ∙ ap (λ (t : Text). element tag.Preformatted t pieces) is_no_attribute ∙ ap (λ (t : Text). element tag.Preformatted [] t) inside in
    record { pieces = puts.pieces; compares = puts.compares; is = is ∙ ap (λ (t : Text). old ++ kind_pane kind caption t) all }

-- what is the same is told as such
pub told-same : (kind caption : Text) (number : ℕ) (text : Text) (old : Told) (html_old html_new : Text)
    → text ≡ old.text → html_new ≡ html_old ++ same_pane kind caption old.step → PutsTold kind caption number text old old html_old html_new
told-same kind caption number text old html_old html_new same is = record { pane = same_pane kind caption old.step; tells = as_before text same; is = is }

-- what may have changed is told by pieces
pub told-changed : (kind caption : Text) (number : ℕ) (text : Text) (old : Told) (html_old html_new : Text)
    → PutsChanged kind caption old.text text html_old html_new → PutsTold kind caption number text old (record { text = text; step = number }) html_old html_new
told-changed kind caption number text old html_old html_new puts = record { pane = changed_pane kind caption puts.pieces; tells = as_pieces text puts.pieces puts.compares; is = puts.is }
