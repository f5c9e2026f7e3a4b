use Rattle.std.proofs.Common.{string_bytes}
use Rattle.man_page.specs.View.{title_of}
use Rattle.man_page.proofs.Parts.{title_written}
use Rattle.man_page.proofs.page.push_title_line.Goals as goal

pub returns : goal.returns
returns g c =
    title_written (title_of c.args.title.now) (string_bytes c.args.page.now) (string_bytes c.push_str.new.self) (string_bytes c.push_title_word.new.page) (string_bytes c.push_title_word-2.new.page) (string_bytes c.push_title_word-3.new.page) (string_bytes c.push_title_word-4.new.page) (string_bytes c.push_title_word-5.new.page) (string_bytes c.push_str-2.new.self) c.push_str-2.result c.in_ok-push_str.ensures.bytes c.in_ok-push_title_word.ensures c.in_ok-push_title_word-2.ensures c.in_ok-push_title_word-3.ensures c.in_ok-push_title_word-4.ensures c.in_ok-push_title_word-5.ensures c.push_str-2.ensures.bytes
