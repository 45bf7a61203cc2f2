use Rattle.std.proofs.Common.{◌≡◌, ◌++◌}
use Rattle.std.specs.Prelude.{codes}
use Rattle.rx_base.specs.Values.{Text}
use Rattle.rx_page.specs.declared.tag.Tag.TheVariants as tag
use Rattle.rx_page.specs.declared.tag.AttributeName.TheVariants as name
use Rattle.rx_page.specs.Escaping.{escaped}
use Rattle.rx_page.specs.Elements.{attribute, element}
use Rattle.run_page.specs.Frames.{body, columns, details, words}
use Rattle.run_page.specs.declared.frame.TheConstants.{INTRODUCTION, KEYS, SCRIPT}
use Rattle.run_page.proofs.Puts.{on-ok, put-more}
use Rattle.run_page.proofs.frame.put_body.Goals as goal

pub returns : goal.returns
returns c =
    let start : Text = c.args.html.now in
    let links : Text = c.args.book.now.links in
    let sections : Text = c.args.book.now.sections in
    let one : Text = words tag.TopHeading (codes "A run, step by step") in
    let two : Text = words tag.Paragraph INTRODUCTION.now in
    let three : Text = element tag.Paragraph (attribute name.Class (codes "keys")) (escaped KEYS.now) in
    let four : Text = details c.args.input.now in
    let five : Text = columns links sections in
    let six : Text = words tag.Script SCRIPT.now in
    on-ok c.put_words-3.result (c.put_words-3.new.html ≡ c.put_columns.new.html ++ six) (c.put_words-3.new.html ≡ start ++ body c.args.input.now links sections)
    (λ is_six.
    put-more start c.put_columns.new.html c.put_words-3.new.html (one ++ two ++ three ++ four ++ five) six
    (put-more start c.put_input.new.html c.put_columns.new.html (one ++ two ++ three ++ four) five
    (put-more start c.put_words_with.new.html c.put_input.new.html (one ++ two ++ three) four
    (put-more start c.put_words-2.new.html c.put_words_with.new.html (one ++ two) three
    (put-more start c.put_words.new.html c.put_words-2.new.html one two c.in_ok-put_words.ensures c.in_ok-put_words-2.ensures) c.in_ok-put_words_with.ensures) c.in_ok-put_input.ensures) c.in_ok-put_columns.ensures) is_six)
    c.put_words-3.ensures
