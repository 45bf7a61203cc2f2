-- A step is added to a book, if all of it succeeds.
use Rattle.std.proofs.Common.{◌≡◌, ◌∙◌, ℕ, [], ◌++◌, ap, append_assoc, sym, subst, refl, ◌+◌}
use Rattle.std.specs.Prelude.{codes, decimal}
use Rattle.rx_base.specs.Values.{Text}
use Rattle.rx_page.specs.declared.tag.Tag.TheVariants as tag
use Rattle.rx_page.specs.declared.tag.AttributeName.TheVariants as name
use Rattle.rx_page.specs.Escaping.{escaped}
use Rattle.rx_page.specs.Elements.{attribute, element}
use Rattle.run_page.specs.Views.{View}
use Rattle.run_page.specs.Facts.{table}
use Rattle.run_page.specs.Marks.{marks, marks_from, yield_mark}
use Rattle.run_page.specs.Sections.{content, lines_pane, section}
use Rattle.run_page.specs.Told.{Told, PutsTold, nothing_told}
use Rattle.run_page.specs.Books.{Book, Adds, AreTold, none, link}
use Rattle.run_page.proofs.Telling.{put-alone}

pub empty-told : (links sections : Text) (tree hooks : Told) → links ≡ [] → sections ≡ [] → tree ≡ nothing_told → hooks ≡ nothing_told
    → AreTold [] (record { links = links; sections = sections; count = 0; tree = tree; hooks = hooks })
empty-told links sections tree hooks no_links no_sections no_tree no_hooks =
    subst (λ (t : Text). AreTold [] (record { links = t; sections = sections; count = 0; tree = tree; hooks = hooks })) (sym no_links)
    (subst (λ (t : Text). AreTold [] (record { links = []; sections = t; count = 0; tree = tree; hooks = hooks })) (sym no_sections)
    (subst (λ (t : Told). AreTold [] (record { links = []; sections = []; count = 0; tree = t; hooks = hooks })) (sym no_tree)
    (subst (λ (t : Told). AreTold [] (record { links = []; sections = []; count = 0; tree = nothing_told; hooks = t })) (sym no_hooks) none)))

pub step-added : (v : View) (old : Book) (links sections : Text) (tree hooks : Told) (empty lines facts tree_html hooks_html tree_text hooks_text title : Text)
    → empty ≡ [] → lines ≡ empty ++ lines_pane v → facts ≡ lines ++ table v.facts → tree_text ≡ v.tree → hooks_text ≡ v.hooks → title ≡ v.title
    → PutsTold (codes "tree") (codes "Tree of hosts") old.count tree_text old.tree tree facts tree_html
    → PutsTold (codes "hooks") (codes "Hooks") old.count hooks_text old.hooks hooks tree_html hooks_html
    → links ≡ old.links ++ link old.count v → sections ≡ old.sections ++ section old.count title hooks_html
    → Adds v old (record { links = links; sections = sections; count = old.count + 1; tree = tree; hooks = hooks })
step-added v old links sections tree hooks empty lines facts tree_html hooks_html tree_text hooks_text title is_empty is_lines is_facts is_tree is_hooks is_title tells_tree tells_hooks is_links is_sections =
    let first = subst (λ (t : Text). PutsTold (codes "tree") (codes "Tree of hosts") old.count t old.tree tree facts tree_html) is_tree tells_tree in
    let second = subst (λ (t : Text). PutsTold (codes "hooks") (codes "Hooks") old.count t old.hooks hooks tree_html hooks_html) is_hooks tells_hooks in
    let front : facts ≡ lines_pane v ++ table v.facts = is_facts ∙ ap (λ (t : Text). t ++ table v.facts) (put-alone empty lines (lines_pane v) is_empty is_lines) in
    let all : hooks_html ≡ content v first.pane second.pane =
    second.is ∙ ap (λ (t : Text). t ++ second.pane) (first.is ∙ ap (λ (t : Text). t ++ first.pane) front) in
    record {
      tree_pane = first.pane;
      hooks_pane = second.pane;
      tree = first.tells;
      hooks = second.tells;
      links = is_links;
      sections = is_sections ∙ ap (λ (t : Text). old.sections ++ section old.count t hooks_html) is_title ∙ ap (λ (t : Text). old.sections ++ section old.count v.title t) all;
      count = refl;
    }

-- the place of a step on the timeline
pub place-put : (number : ℕ) (v : View) (title text no_words words no_href href no_item one two three no_attribute old new : Text)
    → title ≡ v.title → text ≡ v.lines → no_words ≡ [] → words ≡ no_words ++ element tag.Code [] (escaped title) → no_href ≡ []
    → href ≡ no_href ++ attribute name.Href (codes "#step-" ++ decimal number) → no_item ≡ [] → one ≡ no_item ++ element tag.Link href words
    → two ≡ one ++ marks_from [] text → three ≡ two ++ yield_mark v.yields → no_attribute ≡ [] → new ≡ old ++ element tag.Item no_attribute three
    → new ≡ old ++ link number v
place-put number v title text no_words words no_href href no_item one two three no_attribute old new is_title is_text is_no_words is_words is_no_href is_href is_no_item is_one is_two is_three is_no_attribute is =
    let code : words ≡ element tag.Code [] (escaped v.title) =
    put-alone no_words words (element tag.Code [] (escaped title)) is_no_words is_words ∙ ap (λ (t : Text). element tag.Code [] (escaped t)) is_title in
    let leads : href ≡ attribute name.Href (codes "#step-" ++ decimal number) = put-alone no_href href (attribute name.Href (codes "#step-" ++ decimal number)) is_no_href is_href in
    let here : Text = element tag.Link (attribute name.Href (codes "#step-" ++ decimal number)) (element tag.Code [] (escaped v.title)) in
    let first : one ≡ here =
    put-alone no_item one (element tag.Link href words) is_no_item is_one ∙ ap (λ (t : Text). element tag.Link t words) leads
    ∙ ap (λ (t : Text). element tag.Link (attribute name.Href (codes "#step-" ++ decimal number)) t) code in
    let second : two ≡ here ++ marks_from [] v.lines = is_two ∙ ap (λ (t : Text). t ++ marks_from [] text) first ∙ ap (λ (t : Text). here ++ marks_from [] t) is_text in
    let all : three ≡ here ++ marks v =
    is_three ∙ ap (λ (t : Text). t ++ yield_mark v.yields) second ∙ append_assoc here (marks_from [] v.lines) (yield_mark v.yields) in
    is ∙ ap (λ (t : Text). old ++ element tag.Item t three) is_no_attribute ∙ ap (λ (t : Text). old ++ element tag.Item [] t) all
