-- Texts, each with its blocks.
use Rattle.std.specs.Prelude.{◌≡◌, ℕ, List, [], ◌∷◌, ◌++◌, codes}
use Rattle.std.proofs.Common.{refl}
use Rattle.page_model.specs.Content.{BlockSaid, words, literal, link, paragraph, code, bullets}
use Rattle.description_texts.specs.Texts.{kind_of, text_blocks}
use Rattle.description_texts.specs.TextsInside.{line_pieces, shown_line}

abbrev IsRead : List ℕ → List BlockSaid → Type 0
IsRead text blocks = text_blocks text ≡ blocks

-- Fences: what they hold, where they end, and what begins none.
pub fences :
    -- lines between two fences, whatever they are
    IsRead (codes "```sh\n- a\n    `b`\n\n```") (code ((codes "- a") ∷ (codes "    `b`") ∷ [] ∷ []) ∷ [])
    -- a fence has at least as many backquotes, and the next line that begins with three ends it
    × IsRead (codes "````\na\n```\nb") (code ((codes "a") ∷ []) ∷ paragraph ((words (codes "b") ∷ []) ∷ []) ∷ [])
    -- without an end it goes up to the last line; a tab at the front of a line is a blank
    × IsRead (codes "```\n  a\n\t\tb") (code ((codes "  a") ∷ (codes "  b") ∷ []) ∷ [])
    -- one without lines is nothing, and one with an empty line is code
    × IsRead (codes "```\n```\n```\n\n```") (code ([] ∷ []) ∷ [])
    -- a line with another backquote begins none, nor does one that begins with a blank
    × IsRead (codes "```a`\n\n ```\nb") (paragraph ((words (codes "```a`") ∷ []) ∷ []) ∷ paragraph ((words (codes "``` b") ∷ []) ∷ []) ∷ [])
    -- it ends a paragraph
    × IsRead (codes "a\n```\nb\n```\nc") (paragraph ((words (codes "a") ∷ []) ∷ []) ∷ code ((codes "b") ∷ []) ∷ paragraph ((words (codes "c") ∷ []) ∷ []) ∷ [])
    -- a line that begins with three backquotes ends one, even if it begins none
    × IsRead (codes "```\na\n```b`\nc") (code ((codes "a") ∷ []) ∷ paragraph ((words (codes "c") ∷ []) ∷ []) ∷ [])
unfolding text_blocks kind_of line_pieces shown_line
fences = (refl, refl, refl, refl, refl, refl, refl)

-- Code.
pub codes_read :
    -- without four blanks, and with the blank lines between
    IsRead (codes "    a\n \n      b\n\n") (code ((codes "a") ∷ [] ∷ (codes "  b") ∷ []) ∷ [])
    -- four tabs, or three blanks and a tab
    × IsRead (codes "\t\t\t\ta\n   \tb") (code ((codes "a") ∷ (codes "b") ∷ []) ∷ [])
    -- blank lines after it do not belong to it
    × IsRead (codes "    a\n\n\nb") (code ((codes "a") ∷ []) ∷ paragraph ((words (codes "b") ∷ []) ∷ []) ∷ [])
    -- it ends a paragraph, and is ended by one
    × IsRead (codes "a\n    b\nc") (paragraph ((words (codes "a") ∷ []) ∷ []) ∷ code ((codes "b") ∷ []) ∷ paragraph ((words (codes "c") ∷ []) ∷ []) ∷ [])
    -- it begins neither a fence nor an item
    × IsRead (codes "    ```\n    - a") (code ((codes "```") ∷ (codes "- a") ∷ []) ∷ [])
    -- three blanks are too few
    × IsRead (codes "   a") (paragraph ((words (codes "a") ∷ []) ∷ []) ∷ [])
unfolding text_blocks kind_of line_pieces shown_line
codes_read = (refl, refl, refl, refl, refl, refl)

-- Lists.
pub lists :
    -- an item
    IsRead (codes "- a") (bullets (((words (codes "a") ∷ []) ∷ []) ∷ []) ∷ [])
    -- items, blank lines between them or not
    × IsRead (codes "- a\n- b\n\n \n- c") (bullets (((words (codes "a") ∷ []) ∷ []) ∷ ((words (codes "b") ∷ []) ∷ []) ∷ ((words (codes "c") ∷ []) ∷ []) ∷ []) ∷ [])
    -- the lines directly below an item belong to it, without blanks at their front
    × IsRead (codes "- a\n  b\nc") (bullets (((words (codes "a b c") ∷ []) ∷ []) ∷ []) ∷ [])
    -- but no line after a blank one
    × IsRead (codes "- a\n\nb") (bullets (((words (codes "a") ∷ []) ∷ []) ∷ []) ∷ paragraph ((words (codes "b") ∷ []) ∷ []) ∷ [])
    -- but neither code nor a fence
    × IsRead (codes "- a\n    b\n- c\n```\nd\n```") (bullets (((words (codes "a") ∷ []) ∷ []) ∷ []) ∷ code ((codes "b") ∷ []) ∷ bullets (((words (codes "c") ∷ []) ∷ []) ∷ []) ∷ code ((codes "d") ∷ []) ∷ [])
    -- up to three blanks before it, any white space after it
    × IsRead (codes "   - a\n - \t b") (bullets (((words (codes "a") ∷ []) ∷ []) ∷ ((words (codes "b") ∷ []) ∷ []) ∷ []) ∷ [])
    -- not an item: without a blank, with a tab, or with nothing after it
    × IsRead (codes "-a\n\n-\ta\n\n- \t") (paragraph ((words (codes "-a") ∷ []) ∷ []) ∷ paragraph ((words (codes "- a") ∷ []) ∷ []) ∷ paragraph ((words (codes "-") ∷ []) ∷ []) ∷ [])
    -- a fence between two items, even an empty one, separates two lists
    × IsRead (codes "- a\n```\n```\n- b") (bullets (((words (codes "a") ∷ []) ∷ []) ∷ []) ∷ bullets (((words (codes "b") ∷ []) ∷ []) ∷ []) ∷ [])
    -- an item ends a paragraph
    × IsRead (codes "a\n- b") (paragraph ((words (codes "a") ∷ []) ∷ []) ∷ bullets (((words (codes "b") ∷ []) ∷ []) ∷ []) ∷ [])
    -- a literal does not go over the end of a line
    × IsRead (codes "- `a\n  b` c") (bullets (((words (codes "`a b` c") ∷ []) ∷ []) ∷ []) ∷ [])
unfolding text_blocks kind_of line_pieces shown_line
lists = (refl, refl, refl, refl, refl, refl, refl, refl, refl, refl)

-- Paragraphs.
pub paragraphs :
    -- nothing
    IsRead [] []
    -- blank lines are nothing
    × IsRead (codes " \n\t\n\n") []
    -- lines are joined by a blank
    × IsRead (codes "a\nb\nc") (paragraph ((words (codes "a b c") ∷ []) ∷ []) ∷ [])
    -- a blank line separates two
    × IsRead (codes "a\n \nb") (paragraph ((words (codes "a") ∷ []) ∷ []) ∷ paragraph ((words (codes "b") ∷ []) ∷ []) ∷ [])
    -- a further line that begins with a blank or a tab begins on a new line
    × IsRead (codes "a\n b\n\tc\nd") (paragraph ((words (codes "a") ∷ []) ∷ (words (codes "b") ∷ []) ∷ (words (codes "c d") ∷ []) ∷ []) ∷ [])
    -- but not the first
    × IsRead (codes "  a\nb") (paragraph ((words (codes "a b") ∷ []) ∷ []) ∷ [])
    -- white space is one blank, and none at the ends or beside a line break
    × IsRead (codes " \ta \t b \n   c\t") (paragraph ((words (codes "a b") ∷ []) ∷ (words (codes "c") ∷ []) ∷ []) ∷ [])
    -- letters of all kinds stay
    × IsRead (codes "a*_\\" ++ (195 ∷ 169 ∷ 194 ∷ 160 ∷ 226 ∷ 128 ∷ 168 ∷ [])) (paragraph ((words (codes "a*_\\" ++ (195 ∷ 169 ∷ 194 ∷ 160 ∷ 226 ∷ 128 ∷ 168 ∷ [])) ∷ []) ∷ []) ∷ [])
unfolding text_blocks kind_of line_pieces shown_line
paragraphs = (refl, refl, refl, refl, refl, refl, refl, refl)

-- Literals.
pub literals :
    -- alone, and in a text
    IsRead (codes "`a`\n\nx `a` y") (paragraph ((literal (codes "a") ∷ []) ∷ []) ∷ paragraph ((words (codes "x ") ∷ literal (codes "a") ∷ words (codes " y") ∷ []) ∷ []) ∷ [])
    -- two, with a blank between
    × IsRead (codes "`a` `b`") (paragraph ((literal (codes "a") ∷ words (codes " ") ∷ literal (codes "b") ∷ []) ∷ []) ∷ [])
    -- backquotes that stand beside one another are text
    × IsRead (codes "``a`` `b``c` ```") (paragraph ((words (codes "``a`` ") ∷ literal (codes "b``c") ∷ words (codes " ```") ∷ []) ∷ []) ∷ [])
    -- the next backquote that stands alone closes, whatever is between
    × IsRead (codes "`a``b` c``") (paragraph ((literal (codes "a``b") ∷ words (codes " c``") ∷ []) ∷ []) ∷ [])
    -- one that nothing closes is text
    × IsRead (codes "x `a` `b") (paragraph ((words (codes "x ") ∷ literal (codes "a") ∷ words (codes " `b") ∷ []) ∷ []) ∷ [])
    -- of blanks alone it is text
    × IsRead (codes "x ` ` `  \t` y") (paragraph ((words (codes "x ` ` ` ` y") ∷ []) ∷ []) ∷ [])
    -- a literal next to such one
    × IsRead (codes "` `a` b`") (paragraph ((words (codes "` `a") ∷ literal (codes " b") ∷ []) ∷ []) ∷ [])
    -- white space in one is one blank
    × IsRead (codes "`a \t b`") (paragraph ((literal (codes "a b") ∷ []) ∷ []) ∷ [])
    -- at the ends of one it stays beside a letter
    × IsRead (codes "x` a `y") (paragraph ((words (codes "x") ∷ literal (codes " a ") ∷ words (codes "y") ∷ []) ∷ []) ∷ [])
    -- but not beside that of the text
    × IsRead (codes "x ` a ` y") (paragraph ((words (codes "x ") ∷ literal (codes "a") ∷ words (codes " y") ∷ []) ∷ []) ∷ [])
    -- nor at the ends of a line, nor beside a line break
    × IsRead (codes "` a ` b\n`  c `\n ` d `") (paragraph ((literal (codes "a") ∷ words (codes " b ") ∷ literal (codes "c") ∷ []) ∷ (literal (codes "d") ∷ []) ∷ []) ∷ [])
    -- words that are neighbours are one, over lines too
    × IsRead (codes "a\n`b`\nc\nd") (paragraph ((words (codes "a ") ∷ literal (codes "b") ∷ words (codes " c d") ∷ []) ∷ []) ∷ [])
    -- a line break between two
    × IsRead (codes "`a`\n `b`") (paragraph ((literal (codes "a") ∷ []) ∷ (literal (codes "b") ∷ []) ∷ []) ∷ [])
    -- alone at the front and the end of a line
    × IsRead (codes "`\n`") (paragraph ((words (codes "` `") ∷ []) ∷ []) ∷ [])
unfolding text_blocks kind_of line_pieces shown_line
literals = (refl, refl, refl, refl, refl, refl, refl, refl, refl, refl, refl, refl, refl, refl)

-- Links.
pub addresses :
    -- a link, and one with more letters
    IsRead (codes "<http://a> x <https://b.c/d?e=f&g#h~>") (paragraph ((link (codes "http://a") ∷ words (codes " x ") ∷ link (codes "https://b.c/d?e=f&g#h~") ∷ []) ∷ []) ∷ [])
    -- without an address after the slashes it is not a link
    × IsRead (codes "<http://><https://>") (paragraph ((words (codes "<http://><https://>") ∷ []) ∷ []) ∷ [])
    -- of another kind it is not a link
    × IsRead (codes "<ftp://a> <HTTP://a> <a@b.c>") (paragraph ((words (codes "<ftp://a> <HTTP://a> <a@b.c>") ∷ []) ∷ []) ∷ [])
    -- with a blank, a letter beyond ASCII or no end it is not a link
    × IsRead (codes "<http://a b> <http://" ++ ((195 ∷ 169 ∷ []) ++ codes "> <http://a")) (paragraph ((words (codes "<http://a b> <http://" ++ ((195 ∷ 169 ∷ []) ++ codes "> <http://a")) ∷ []) ∷ []) ∷ [])
    -- one in another's text
    × IsRead (codes "<http://a<http://b>>") (paragraph ((words (codes "<http://a") ∷ link (codes "http://b") ∷ words (codes ">") ∷ []) ∷ []) ∷ [])
    -- two that are neighbours
    × IsRead (codes "<http://a><http://b>") (paragraph ((link (codes "http://a") ∷ link (codes "http://b") ∷ []) ∷ []) ∷ [])
    -- in a literal it is not a link
    × IsRead (codes "`<http://a>` <http://b`c`>") (paragraph ((literal (codes "<http://a>") ∷ words (codes " <http://b") ∷ literal (codes "c") ∷ words (codes ">") ∷ []) ∷ []) ∷ [])
    -- beside a literal, whose blank stays
    × IsRead (codes "`a `<http://b>") (paragraph ((literal (codes "a ") ∷ link (codes "http://b") ∷ []) ∷ []) ∷ [])
    -- in an item
    × IsRead (codes "- <http://a>\n  `b`") (bullets (((link (codes "http://a") ∷ words (codes " ") ∷ literal (codes "b") ∷ []) ∷ []) ∷ []) ∷ [])
unfolding text_blocks kind_of line_pieces shown_line
addresses = (refl, refl, refl, refl, refl, refl, refl, refl, refl)
